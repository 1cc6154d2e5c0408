-- How far a phase has come.
use Rattle.std.specs.Prelude.{ℕ}
use Rattle.selector.specs.declared.phase.Phase.{Phase}
use Rattle.selector.specs.declared.phase.Phase.TheVariants.{Empty, Rising, Falling, Settled}

abbrev pub place : Phase → ℕ
place Empty = 0
place (Rising left) = left
place (Falling next) = next
place Settled = 0
