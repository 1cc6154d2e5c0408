use Rattle.std.proofs.Common.{sym, ap}
use Rattle.query.specs.Shown.{axis_of}
use Rattle.translation.specs.Written.{keeping_code}
use Rattle.translate.proofs.Writing.{puts_as, puts_more}
use Rattle.translate.proofs.moves.put_keeping.Goals as goal

pub returns-in-Descendant : goal.returns-in-Descendant
returns-in-Descendant c =
    puts_as (sym (ap (λ a. keeping_code (axis_of a) c.args.everywhere c.args.state) c.in-Descendant.is))
    (puts_more (puts_more c.put.ensures c.put_down.ensures) c.put-in-Descendant.ensures)
