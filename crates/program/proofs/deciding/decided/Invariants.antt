use Rattle.std.proofs.Common.{◌≡◌, ◌+◌, ◌≤◌, length}
use Rattle.commands.specs.Commands.{commands_of}
use Rattle.commands.specs.Deciding.{decide}
use Rattle.program.specs.Commands.{left}
use Rattle.program.proofs.deciding.decided.Given as goal

abbrev pub invariant-loop-command : goal.invariant-loop-command
invariant-loop-command l =
    (l.state + length (left l.command-iterator) ≤ length l.program)
    × (decide l.node (left l.command-iterator) l.stack.0 l.word l.state ≡ decide l.node (commands_of l.program) 0 0 0)
