use Rattle.std.proofs.Common.{◌≡◌, ◌+◌, ◌-◌, [], sym, ap, ◌∙◌, arith}
use Rattle.translation.specs.Table.{sends}
use Rattle.translation.specs.Written.{rules_codes}
use Rattle.translation.proofs.States.{sends_before}
use Rattle.translate.proofs.Sizes.{outside_few}
use Rattle.translate.proofs.Writing.{puts_none, puts_as, puts_more}
use Rattle.translate.proofs.moves.put_states.Goals as goal

pub overflow_step-state : goal.overflow_step-state
overflow_step-state c = let few = outside_few c.args.query.now in omega arith

pub put_state-requires : goal.put_state-requires
put_state-requires c =
    let q = c.args.query.now.table in
    let b = sends_before [] [] q c.loop-state.state q.outside_count (omega arith) c.loop-state.invariant.0 in
    let g = b.1 in
    let m = c.loop-state.invariant.1.adds.many in
    record { within = omega arith; room = omega (arith, c.requires, c.loop-state.invariant.1.long) }

pub loop-state-preserved : goal.loop-state-preserved
loop-state-preserved c =
    let q = c.args.query.now.table in
    let b = sends_before [] [] q c.loop-state.state q.outside_count (omega arith) c.loop-state.invariant.0 in
    (omega arith, puts_as (sym b.0) (puts_more c.loop-state.invariant.1 c.put_state.ensures))
