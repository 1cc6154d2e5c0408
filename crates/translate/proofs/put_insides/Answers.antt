use Rattle.std.proofs.Common.{sym, arith}
use Rattle.translate.specs.Outcome.{text_in}
use Rattle.translation.proofs.Codes.{states_none}
use Rattle.translation.proofs.States.{insides_more, insides_room}
use Rattle.translate.proofs.Writing.{puts_none, puts_as, puts_more}
use Rattle.translate.proofs.put_insides.Goals as goal

pub loop-step-init : goal.loop-step-init
loop-step-init c = puts_as (sym states_none) (puts_none c.args.out.now)

pub put_inside-requires : goal.put_inside-requires
put_inside-requires c =
    let q = c.args.rows.now.query.now in
    let g = insides_room c.args.rows.now.names.now (text_in q) q.table q.table.inside_count c.loop-step.step (omega arith) in
    let m = c.loop-step.invariant.adds.many in
    record { within = omega arith; room = omega (arith, c.requires, c.loop-step.invariant.long) }

pub loop-step-preserved : goal.loop-step-preserved
loop-step-preserved c =
    let q = c.args.rows.now.query.now in
    puts_as (sym (insides_more c.args.rows.now.names.now (text_in q) q.table c.loop-step.step)) (puts_more c.loop-step.invariant c.put_inside.ensures)
