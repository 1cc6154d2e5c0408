use Rattle.commands.proofs.Spells.{commands_short, widths_short}
use Rattle.program.proofs.decode.Commands.new.Goals as goal

pub returns-clause-few : goal.returns-clause-few
returns-clause-few c = commands_short c.args.bytes.now

pub returns-clause-short : goal.returns-clause-short
returns-clause-short c = widths_short c.args.bytes.now
