use Rattle.std.proofs.Common.{◌≡◌, ℕ, suc, ◌+◌, ◌-◌, ◌<◌, false, List, get_or, sym, ap, ◌∙◌, arith}
use Rattle.std.proofs.lemmas.Bool.{leb-false}
use Rattle.commands.specs.Commands.{commands_of}
use Rattle.sweep.specs.Falling.{sent, place_at, fallen}
use Rattle.sweep.proofs.Idle.{idle_sent}
use Rattle.selector.proofs.falling.fall_over.Goals as goal
use Rattle.selector.proofs.falling.fall_over.Goals.{then-is_entered, else-is_entered}

pub loop-v-preserved : goal.loop-v-preserved
loop-v-preserved g c =
    let tree = c.loop-v.invariant.tree in
    let rules = c.loop-v.invariant.rules in
    let rows = g.T.Tree.rows c.args.tree.now in
    let cs = commands_of c.args.rules.now in
    let v = c.loop-v.v in
    let hi = c.args.hi in
    let ws = c.loop-v.work in
    let up : v + 1 ≡ suc v = omega arith in
    let k : hi - v ≡ suc (hi - (v + 1)) = omega arith in
    let on : c.if-is_entered.work ≡ sent (place_at rows v) cs 0 false ws = elim c.if-is_entered.branch [
      | then-is_entered w ↦
          w.work-is ∙ w.send.ensures.words
          ∙ ap (λ t. sent (place_at (g.T.Tree.rows t) v) (commands_of c.loop-v.fall.sendings.rules.now) 0 false ws) tree
          ∙ ap (λ (r : List ℕ). sent (place_at rows v) (commands_of r) 0 false ws) rules
      | else-is_entered w ↦
          let low : get_or ws v 0 < 1099511627776 = leb-false 1099511627776 (get_or ws v 0) (sym c.is_entered.ensures ∙ w.if-is_entered.false) in
          w.work-is ∙ sym (idle_sent (place_at rows v) cs 0 ws low)
    ] in record {
      words =
          ap (λ (xs : List ℕ). fallen rows cs (v + 1) (hi - (v + 1)) xs) on
          ∙ ap (λ (x : ℕ). fallen rows cs x (hi - (v + 1)) (sent (place_at rows v) cs 0 false ws)) up
          ∙ sym (ap (λ (n : ℕ). fallen rows cs v n ws) k)
          ∙ c.loop-v.invariant.words;
      tree = elim c.if-is_entered.branch [
        | then-is_entered w ↦ let e = w.fall-is in let s = w.send.ensures.same in cc
        | else-is_entered w ↦ let e = w.fall-is in cc
      ];
      rules = elim c.if-is_entered.branch [
        | then-is_entered w ↦ let e = w.fall-is in let s = w.send.ensures.same in cc
        | else-is_entered w ↦ let e = w.fall-is in cc
      ];
    }
