use Rattle.std.proofs.Common.{◌≡◌, ℕ, take, drop}
use Rattle.selector.specs.Steps.{state_of, fresh}
use Rattle.history.specs.History.{Ran}
use Rattle.history.specs.Views.{turns_by}
use Rattle.run.proofs.run.run.Given as goal

abbrev pub invariant-loop-i : goal.invariant-loop-i
invariant-loop-i g l =
    let k = g.S.Kinds in
    ((i : ℕ) → Ran (k.empty i) (k.mark i) (k.join i) (g.T.Tree.rows l.tree) fresh l.initial.work (turns_by i (k.value i) (take l.i l.calls) (take l.i l.answers)) (state_of l.selector) l.work)
    × (drop l.i l.answers ≡ drop l.i l.initial.answers)
