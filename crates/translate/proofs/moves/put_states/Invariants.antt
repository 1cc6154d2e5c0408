use Rattle.std.proofs.Common.{◌+◌, ◌-◌, ◌≤◌}
use Rattle.translation.specs.Table.{sends}
use Rattle.translation.specs.Written.{rules_codes}
use Rattle.translate.specs.Writing.{Puts}
use Rattle.translate.proofs.moves.put_states.Given as goal

abbrev pub invariant-loop-state : goal.invariant-loop-state
invariant-loop-state l =
    (l.state ≤ l.query.table.outside_count + 1)
    × Puts l.initial.out l.out (rules_codes (sends l.query.table l.state (l.query.table.outside_count + 1 - l.state)))
