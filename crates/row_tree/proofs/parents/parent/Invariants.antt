use Rattle.std.proofs.Common.{◌<◌}
use Rattle.stored.specs.Fits.{Ended}
use Rattle.row_tree.proofs.parents.parent.Given as goal

abbrev pub invariant-loop-q : goal.invariant-loop-q
invariant-loop-q l = (l.q < l.v) × Ended l.rows l.q l.v

abbrev pub decreases-loop-q : goal.decreases-loop-q
decreases-loop-q l = l.q
