-- The commands that an iterator over a program's bytes still gives.
use Rattle.std.specs.Prelude.{List}
use Rattle.commands.specs.declared.command.Command.{Command}
use Rattle.commands.specs.Commands.{commands_of}
use Rattle.program.specs.declared.decode.Commands.{Commands}

abbrev pub left : Commands → List Command
left s = commands_of s.bytes.now
