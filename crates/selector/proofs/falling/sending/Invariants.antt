use Rattle.std.proofs.Common.{◌≡◌, ◌+◌, ◌≤◌, false, length}
use Rattle.commands.specs.Commands.{commands_of}
use Rattle.program.specs.Commands.{left}
use Rattle.sweep.specs.Sending.{sending, nothing_sent}
use Rattle.selector.proofs.falling.sending.Given as goal

abbrev pub invariant-loop-command : goal.invariant-loop-command
invariant-loop-command l =
    (l.state + length (left l.command-iterator) ≤ length l.rules)
    × (sending l.word (left l.command-iterator) l.state l.active l.sent ≡ sending l.word (commands_of l.rules) 0 false nothing_sent)
