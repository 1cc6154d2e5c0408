use Rattle.std.proofs.Common.{length, sym, ap, arith, length-append}
use Rattle.translation.specs.Table.{bracket_says}
use Rattle.translation.specs.Written.{code, both_code}
use Rattle.translation.proofs.Parts.{step_code}
use Rattle.translate.specs.Outcome.{text_in}
use Rattle.translate.specs.Writing.{test_of}
use Rattle.translate.proofs.Writing.{puts_as, puts_more}
use Rattle.translate.proofs.steps.put_step.Goals as goal

pub put_bracket-requires-clause-room : goal.put_bracket-requires-clause-room
put_bracket-requires-clause-room c =
    let q = c.args.rows.now.query.now in
    let l = ap length (step_code c.args.rows.now.names.now (text_in q) q.table c.args.step) in
    let m = length-append (code (test_of c.args.rows.now c.args.step.test)) (both_code (bracket_says q.table c.args.step.bracket)) in
    omega (arith, c.requires.room)

pub put_test-requires-clause-room : goal.put_test-requires-clause-room
put_test-requires-clause-room c =
    let q = c.args.rows.now.query.now in
    let l = ap length (step_code c.args.rows.now.names.now (text_in q) q.table c.args.step) in
    let m = length-append (code (test_of c.args.rows.now c.args.step.test)) (both_code (bracket_says q.table c.args.step.bracket)) in
    omega (arith, c.requires.room, c.put_bracket.ensures.adds.many, c.put_bracket.ensures.long)

pub returns : goal.returns
returns c =
    let q = c.args.rows.now.query.now in
    puts_as (sym (step_code c.args.rows.now.names.now (text_in q) q.table c.args.step)) (puts_more c.put_bracket.ensures c.put_test.ensures)
