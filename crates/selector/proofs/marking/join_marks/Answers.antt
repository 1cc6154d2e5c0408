use Rattle.std.proofs.Common.{◌≡◌, ℕ, ◌+◌, ◌-◌, ◌<◌, false, List, get_or, take, drop, sym, refl, ap, ◌∙◌, arith}
use Rattle.std.proofs.lemmas.List.{get_or-take, get_or-drop}
use Rattle.tally.specs.Monoid.{marks_of, Laws}
use Rattle.commands.specs.Commands.{commands_of}
use Rattle.sweep.specs.Falling.{marking}
use Rattle.tallying.specs.Nodes.{marked_nodes}
use Rattle.tallying.proofs.Marks.{marks_next, unmarked_next}
use Rattle.selector.proofs.marking.join_marks.Goals as goal
use Rattle.selector.proofs.marking.join_marks.Goals.{then-is_marked, else-is_marked}

pub loop-i-preserved : goal.loop-i-preserved
loop-i-preserved g c =
    let k = g.K.Tally in
    let m = g.met.K.Tally in
    let laws : Laws k.empty k.join = record { assoc = m.assoc; left = m.left; right = m.right } in
    let i = c.loop-i.i in
    let lo = c.args.lo in
    let n = c.args.hi - lo in
    let ws = c.args.work.now in
    let cs = commands_of c.args.rules.now in
    let below : i < n = grind (arith, c.loop-i-test.true) in
    let word : get_or (take n (drop lo ws)) i 0 ≡ get_or ws (lo + i) 0 = get_or-take n (drop lo ws) i 0 below ∙ get_or-drop lo ws i 0 in
    let mark : c.is_marked.result ≡ marking (get_or ws (lo + i) 0) cs 0 false =
    c.is_marked.ensures.marked
    ∙ ap (λ (w : ℕ). marking w (commands_of c.loop-i.marks.rules.now) 0 false) word
    ∙ ap (λ (r : List ℕ). marking (get_or ws (lo + i) 0) (commands_of r) 0 false) c.loop-i.invariant.rules in record {
      sum = elim c.if-is_marked.branch [
        | then-is_marked w ↦
            ap k.value w.sum-is ∙ w.joined-sum.ensures ∙ ap (λ x. k.join x (k.value w.marked.result)) c.loop-i.invariant.sum
            ∙ ap (k.join (marks_of k.empty k.mark k.join (marked_nodes cs ws lo i))) w.marked.ensures
            ∙ marks_next laws k.mark cs ws lo i (lo + i) refl (sym mark ∙ w.if-is_marked.true)
        | else-is_marked w ↦
            ap k.value w.sum-is ∙ c.loop-i.invariant.sum
            ∙ ap (marks_of k.empty k.mark k.join) (unmarked_next cs ws lo i (lo + i) refl (sym mark ∙ w.if-is_marked.false))
      ];
      rules = let e = c.is_marked.ensures.same in let r = c.loop-i.invariant.rules in cc;
    }
