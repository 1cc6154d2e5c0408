use Rattle.translation.specs.Table.{insides}
use Rattle.translation.specs.Written.{states_code}
use Rattle.translate.specs.Outcome.{text_in}
use Rattle.translate.specs.Writing.{Puts}
use Rattle.translate.proofs.put_insides.Given as goal

abbrev pub invariant-loop-step : goal.invariant-loop-step
invariant-loop-step l = Puts l.initial.out l.out (states_code (insides l.rows.names.now (text_in l.rows.query.now) l.rows.query.now.table 0 l.step))
