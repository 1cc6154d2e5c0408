use Rattle.std.proofs.Common.{◌∙◌, rules, tests}
use Rattle.std.proofs.lemmas.Iterator.Consumers.{YieldsList-from_first, fold_from_yields_List}
use Rattle.commands.specs.Commands.{commands_of}
use Rattle.commands.specs.Asked.{with_command, nothing}
use Rattle.commands.proofs.Asks.{asked_fold}
use Rattle.program.specs.Commands.{left}
use Rattle.program.proofs.deciding.asked.Goals as goal

pub returns : goal.returns
returns c =
    fold_from_yields_List _ (λ a d. with_command d a) nothing c.fold.result c.fold.ensures.ran
    (YieldsList-from_first (λ x. x) left (commands_of c.args.program.now) c.new.ensures.all) (λ a x b q k. search (rules, tests))
    ∙ asked_fold (commands_of c.args.program.now) nothing
