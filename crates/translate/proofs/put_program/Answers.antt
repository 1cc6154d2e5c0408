use Rattle.std.proofs.Common.{sym, arith}
use Rattle.translate.specs.Outcome.{text_in}
use Rattle.translation.proofs.States.{program_code}
use Rattle.translate.proofs.Sizes.{sizes}
use Rattle.translate.proofs.Writing.{puts_as, puts_more}
use Rattle.translate.proofs.put_program.Goals as goal

pub put_states-requires : goal.put_states-requires
put_states-requires c =
    let s = sizes c.args.rows.now.names.now c.args.rows.now.query.now in
    omega (arith, c.requires, c.put.ensures.adds.many, c.put.ensures.long)

pub put_outsides-requires : goal.put_outsides-requires
put_outsides-requires c =
    let s = sizes c.args.rows.now.names.now c.args.rows.now.query.now in
    omega (arith, c.requires, c.put.ensures.adds.many, c.put.ensures.long, c.put_states.ensures.adds.many, c.put_states.ensures.long)

pub put-requires-2 : goal.put-requires-2
put-requires-2 c =
    let s = sizes c.args.rows.now.names.now c.args.rows.now.query.now in
    omega (arith, c.requires, c.put.ensures.adds.many, c.put.ensures.long, c.put_states.ensures.adds.many, c.put_states.ensures.long, c.put_outsides.ensures.adds.many, c.put_outsides.ensures.long)

pub put-requires-3 : goal.put-requires-3
put-requires-3 c =
    let s = sizes c.args.rows.now.names.now c.args.rows.now.query.now in
    omega (arith, c.requires, c.put.ensures.adds.many, c.put.ensures.long, c.put_states.ensures.adds.many, c.put_states.ensures.long, c.put_outsides.ensures.adds.many, c.put_outsides.ensures.long, c.put-2.ensures.adds.many, c.put-2.ensures.long)

pub put_insides-requires : goal.put_insides-requires
put_insides-requires c =
    let s = sizes c.args.rows.now.names.now c.args.rows.now.query.now in
    omega (arith, c.requires, c.put.ensures.adds.many, c.put.ensures.long, c.put_states.ensures.adds.many, c.put_states.ensures.long, c.put_outsides.ensures.adds.many, c.put_outsides.ensures.long, c.put-2.ensures.adds.many, c.put-2.ensures.long, c.put-3.ensures.adds.many, c.put-3.ensures.long)

pub returns : goal.returns
returns c =
    let q = c.args.rows.now.query.now in
    puts_as (sym (program_code c.args.rows.now.names.now (text_in q) q.table))
    (puts_more (puts_more (puts_more (puts_more (puts_more c.put.ensures c.put_states.ensures) c.put_outsides.ensures) c.put-2.ensures) c.put-3.ensures) c.put_insides.ensures)
