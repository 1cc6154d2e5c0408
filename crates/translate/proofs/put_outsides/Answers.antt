use Rattle.std.proofs.Common.{◌≡◌, ◌-◌, sym, ap, ◌∙◌, arith}
use Rattle.translation.specs.Table.{outsides}
use Rattle.translation.specs.Written.{states_code}
use Rattle.translate.specs.Outcome.{text_in}
use Rattle.translate.proofs.Writing.{puts_none, puts_as, puts_more}
use Rattle.translation.proofs.Codes.{states_none}
use Rattle.translation.proofs.States.{outsides_before}
use Rattle.translate.proofs.put_outsides.Goals as goal

pub loop-step-init : goal.loop-step-init
loop-step-init c =
    let q = c.args.rows.now.query.now in
    let k = q.table.outside_count in
    let z : 0 ≡ k - k = omega arith in
    (omega arith, puts_as (sym states_none ∙ ap (λ n. states_code (outsides c.args.rows.now.names.now (text_in q) q.table k n)) z) (puts_none c.args.out.now))

pub put_outside-requires : goal.put_outside-requires
put_outside-requires c =
    let q = c.args.rows.now.query.now in
    let b = outsides_before c.args.rows.now.names.now (text_in q) q.table c.loop-step.step q.table.outside_count (omega arith) c.loop-step.invariant.0 in
    let g = b.1 in
    let m = c.loop-step.invariant.1.adds.many in
    record { within = omega arith; room = omega (arith, c.requires, c.loop-step.invariant.1.long) }

pub loop-step-preserved : goal.loop-step-preserved
loop-step-preserved c =
    let q = c.args.rows.now.query.now in
    let b = outsides_before c.args.rows.now.names.now (text_in q) q.table c.loop-step.step q.table.outside_count (omega arith) c.loop-step.invariant.0 in
    (omega arith, puts_as (sym b.0) (puts_more c.loop-step.invariant.1 c.put_outside.ensures))
