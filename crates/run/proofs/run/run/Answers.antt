use Rattle.std.proofs.Common.{◌≡◌, ℕ, ◌+◌, ◌<◌, min, List, length, take, drop, sym, ap, ◌∙◌, subst, arith, length-take}
use Rattle.std.proofs.lemmas.List.{drop-set-lt, drop-drop}
use Rattle.selector.specs.Steps.{state_of, fresh}
use Rattle.history.specs.History.{Turn, Ran}
use Rattle.history.proofs.Turns.{ran_more}
use Rattle.history.proofs.Laws.{lawful, means}
use Rattle.history.specs.Views.{turns_by}
use Rattle.history.proofs.Seen.{turns_more, turns_all}
use Rattle.run.proofs.run.run.Goals as goal

pub loop-i-preserved : goal.loop-i-preserved
loop-i-preserved g c =
    let k = g.S.Kinds in
    let rows = g.T.Tree.rows c.args.tree.now in
    let i = c.loop-i.i in
    let cs = c.args.calls.now in
    let gs = c.loop-i.answers in
    let a = c.carry_out.ensures in
    let count = length-take c.min-n.result cs in
    let hm : i < c.min-n.result = omega (arith, c.min-n.ensures, c.loop-i-test.true, count) in
    let hc : i < length cs = omega (arith, c.min-n.ensures) in
    let hg : i < length gs = omega (arith, c.min-n.ensures, c.loop-i.auto.answers) in (
      λ n. subst (λ (ts : List (Turn (k.Value n))). Ran (k.empty n) (k.mark n) (k.join n) rows fresh c.args.work.now ts (state_of c.carry_out.new.selector) c.carry_out.new.work)
          (sym (turns_more n (k.value n) i c.min-n.result cs gs _ c.carry_out.result hm hc hg))
          (ran_more (k.empty n) (k.mark n) (k.join n) rows (turns_by n (k.value n) (take i cs) (take i gs)) _ fresh c.args.work.now (state_of c.loop-i.selector) c.loop-i.work _ _ (c.loop-i.invariant.0 n) (a.answer n) (a.state n) (a.words n)),
      drop-set-lt (i + 1) gs i c.carry_out.result (omega arith) ∙ sym (drop-drop 1 i gs) ∙ ap (drop 1) c.loop-i.invariant.1 ∙ drop-drop 1 i c.args.answers.now,
    )

pub returns : goal.returns
returns g c =
    let k = g.S.Kinds in
    let m = g.met.S.Kinds in
    let rows = g.T.Tree.rows c.args.tree.now in
    let cs = c.args.calls.now in
    let gs = c.loop-i.answers in
    let count = length-take c.min-n.result cs in
    let at : c.loop-i.i ≡ c.min-n.result = omega (arith, count) in
    let e : c.loop-i.i ≡ min (length cs) (length gs) = omega (arith, at, c.min-n.ensures, c.loop-i.auto.answers) in
    let ran : (n : ℕ) → Ran (k.empty n) (k.mark n) (k.join n) rows fresh c.args.work.now (turns_by n (k.value n) cs gs) (state_of c.loop-i.selector) c.loop-i.work =
    λ n. subst (λ (ts : List (Turn (k.Value n))). Ran (k.empty n) (k.mark n) (k.join n) rows fresh c.args.work.now ts (state_of c.loop-i.selector) c.loop-i.work) (turns_all n (k.value n) c.loop-i.i cs gs e) (c.loop-i.invariant.0 n) in
    record {
      number = c.min-n.ensures;
      law = λ fit n. lawful (m.laws n) (k.mark n) rows (g.T.Tree.lawful c.args.tree.now) (turns_by n (k.value n) cs gs) c.args.work.now (state_of c.loop-i.selector) c.loop-i.work fit (ran n);
      means = λ fit n. means (m.laws n) (k.mark n) rows (g.T.Tree.lawful c.args.tree.now) (turns_by n (k.value n) cs gs) c.args.work.now (state_of c.loop-i.selector) c.loop-i.work fit (ran n);
      exact = (state_of c.loop-i.selector, ran);
      rest = ap (λ (j : ℕ). drop j gs) (sym at) ∙ c.loop-i.invariant.1 ∙ ap (λ (j : ℕ). drop j c.args.answers.now) at;
    }
