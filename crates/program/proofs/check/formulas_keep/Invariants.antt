use Rattle.std.proofs.Common.{◌≡◌, ◌+◌, ◌≤◌, length}
use Rattle.commands.specs.Commands.{commands_of}
use Rattle.commands.specs.Checked.{formulas_keep}
use Rattle.program.specs.Commands.{left}
use Rattle.program.proofs.check.formulas_keep.Given as goal

abbrev pub invariant-loop-command : goal.invariant-loop-command
invariant-loop-command l =
    (l.at.state + length (left l.command-iterator) ≤ length l.program)
    × (formulas_keep l.states (left l.command-iterator) l.at ≡ formulas_keep l.states (commands_of l.program) (record { depth = 0; state = 0 }))
