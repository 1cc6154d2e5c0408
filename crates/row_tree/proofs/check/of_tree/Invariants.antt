use Rattle.std.proofs.Common.{ℕ, ◌<◌}
use Rattle.stored.specs.Fits.{Fits}
use Rattle.row_tree.proofs.check.of_tree.Given as goal

abbrev pub invariant-loop-v : goal.invariant-loop-v
invariant-loop-v l = (j : ℕ) → 0 < j → j < l.v → Fits l.rows j
