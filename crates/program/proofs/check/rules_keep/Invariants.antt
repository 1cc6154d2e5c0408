use Rattle.std.proofs.Common.{◌≡◌, ◌+◌, ◌≤◌, false, length}
use Rattle.commands.specs.Commands.{commands_of}
use Rattle.commands.specs.Checked.{rules_keep}
use Rattle.program.specs.Commands.{left}
use Rattle.program.proofs.check.rules_keep.Given as goal

abbrev pub invariant-loop-command : goal.invariant-loop-command
invariant-loop-command l =
    (l.at.state + length (left l.commands) ≤ length l.rules)
    × (rules_keep l.counts (left l.commands) l.at ≡ rules_keep l.counts (commands_of l.rules) (record { state = 0; inside = false }))

abbrev pub decreases-loop-command : goal.decreases-loop-command
decreases-loop-command l = length (left l.commands)
