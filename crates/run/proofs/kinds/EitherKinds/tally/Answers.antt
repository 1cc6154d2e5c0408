use Rattle.std.proofs.Common.{◌-◌, length, rules}
use Rattle.rows.specs.Rows.{count_of as count}
use Rattle.selector.specs.Calls.{tally}
use Rattle.selector.specs.Steps.{state_of, refusal, told_nodes}
use Rattle.history.proofs.Picks.{left_ok, right_ok}
use Rattle.run.proofs.kinds.EitherKinds.tally.Goals as goal

pub returns-in_ok-tally : goal.returns-in_ok-tally
returns-in_ok-tally g c =
    let a = g.A.Tally in
    let b = g.B.Kinds in
    left_ok a.value a.empty b.value b.empty a.mark b.mark a.join b.join c.args.kind c.in_ok-tally.field-0
    (refusal (state_of c.args.selector.now) (count (g.T.Tree.rows c.args.tree.now)) (length c.args.work.now) (tally c.args.lo c.args.hi))
    (told_nodes (state_of c.args.selector.now) c.args.work.now c.args.lo c.args.hi) (search rules) c.in_ok-tally.ensures

pub returns-in_ok-tally-2 : goal.returns-in_ok-tally-2
returns-in_ok-tally-2 g c =
    let a = g.A.Tally in
    let b = g.B.Kinds in
    right_ok a.value a.empty b.value b.empty a.mark b.mark a.join b.join c.args.kind (c.args.kind - 1) c.in_ok-tally-2.field-0
    (refusal (state_of c.args.selector.now) (count (g.T.Tree.rows c.args.tree.now)) (length c.args.work.now) (tally c.args.lo c.args.hi))
    (told_nodes (state_of c.args.selector.now) c.args.work.now c.args.lo c.args.hi) (search rules) c.in_ok-tally-2.ensures
