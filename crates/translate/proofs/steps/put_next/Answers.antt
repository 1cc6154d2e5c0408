use Rattle.std.proofs.Common.{arith}
use Rattle.translation.proofs.Parts.{next_is, next_long, next_good}
use Rattle.translate.proofs.Writing.{puts_as, puts_more}
use Rattle.translate.proofs.steps.put_next.Goals as goal

pub put_asks-requires : goal.put_asks-requires
put_asks-requires c =
    let l = next_long c.args.query.now.table c.args.next c.in-Some.index c.in-Some.is in
    let r = c.requires.room in
    let m = c.put.ensures.adds.many in
    record { within = next_good c.args.query.now.table c.args.next c.in-Some.index c.in-Some.is c.requires.good; room = omega (arith, c.put.ensures.long) }

pub returns-in-Some : goal.returns-in-Some
returns-in-Some c =
    puts_as (next_is c.args.query.now.table c.args.next c.in-Some.index c.in-Some.is) (puts_more c.put.ensures c.put_asks.ensures)
