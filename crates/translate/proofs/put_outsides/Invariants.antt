use Rattle.std.proofs.Common.{◌-◌, ◌≤◌}
use Rattle.translation.specs.Table.{outsides}
use Rattle.translation.specs.Written.{states_code}
use Rattle.translate.specs.Outcome.{text_in}
use Rattle.translate.specs.Writing.{Puts}
use Rattle.translate.proofs.put_outsides.Given as goal

abbrev pub invariant-loop-step : goal.invariant-loop-step
invariant-loop-step l =
    (l.step ≤ l.rows.query.now.table.outside_count)
    × Puts l.initial.out l.out (states_code (outsides l.rows.names.now (text_in l.rows.query.now) l.rows.query.now.table l.step (l.rows.query.now.table.outside_count - l.step)))
