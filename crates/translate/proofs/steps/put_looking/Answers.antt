use Rattle.std.proofs.Common.{sym, ap}
use Rattle.query.specs.Shown.{axis_of}
use Rattle.translation.specs.Written.{looking_code}
use Rattle.translate.proofs.Writing.{puts_as, puts_more}
use Rattle.translate.proofs.steps.put_looking.Goals as goal

pub returns-in-Descendant : goal.returns-in-Descendant
returns-in-Descendant c =
    puts_as (sym (ap (λ a. looking_code (axis_of a) c.args.state) c.in-Descendant.is))
    (puts_more (puts_more c.put.ensures c.put_onward-in-Descendant.ensures) c.put-in-Descendant.ensures)
