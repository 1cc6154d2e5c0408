use Rattle.std.proofs.Common.{◌≡◌, ◌+◌, ◌≤◌, false, length}
use Rattle.commands.specs.Commands.{commands_of}
use Rattle.program.specs.Commands.{left}
use Rattle.sweep.specs.Falling.{marking}
use Rattle.selector.proofs.marking.marked.Given as goal

abbrev pub invariant-loop-command : goal.invariant-loop-command
invariant-loop-command l =
    (l.state + length (left l.command-iterator) ≤ length l.rules)
    × (marking l.word (left l.command-iterator) l.state l.active ≡ marking l.word (commands_of l.rules) 0 false)
