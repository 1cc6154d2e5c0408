use Rattle.std.proofs.Common.{◌≡◌, ◌+◌, ◌≤◌, length}
use Rattle.commands.specs.Commands.{commands_of}
use Rattle.commands.specs.Decoded.{widths}
use Rattle.commands.specs.Checked.{defined, closed, summed}
use Rattle.program.specs.Commands.{left}
use Rattle.program.proofs.check.survey.Given as goal

abbrev pub invariant-loop-command : goal.invariant-loop-command
invariant-loop-command l =
    record {
      width : l.width + widths (left l.command-iterator) ≡ widths (commands_of l.program);
      deciding : l.deciding + summed defined (left l.command-iterator) ≡ summed defined (commands_of l.program);
      sending : l.sending + summed closed (left l.command-iterator) ≡ summed closed (commands_of l.program);
      short : l.width + widths (left l.command-iterator) ≤ length l.program;
      few_deciding : l.deciding + length (left l.command-iterator) ≤ length l.program;
      few_sending : l.sending + length (left l.command-iterator) ≤ length l.program;
    }
