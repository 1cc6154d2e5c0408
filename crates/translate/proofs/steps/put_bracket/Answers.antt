use Rattle.std.proofs.Common.{arith}
use Rattle.translation.proofs.Parts.{bracket_is, bracket_long, bracket_good}
use Rattle.translate.proofs.Writing.{puts_as, puts_more}
use Rattle.translate.proofs.steps.put_bracket.Goals as goal

pub returns-in-Some : goal.returns-in-Some
returns-in-Some c =
    puts_as (bracket_is c.args.query.now.table c.args.bracket c.in-Some.index c.in-Some.is) (puts_more c.put.ensures c.put_predicate.ensures)
