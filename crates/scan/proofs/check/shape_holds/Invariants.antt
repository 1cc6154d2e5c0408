use Rattle.std.proofs.Common.{◌≡◌, ◌≤◌, drop}
use Rattle.shape.specs.Bits.{bits_of}
use Rattle.shape.specs.Walk.{walk, walk_all}
use Rattle.scan.proofs.check.shape_holds.Given as goal

abbrev pub invariant-loop-p : goal.invariant-loop-p
invariant-loop-p l = (walk l.depth l.deepest (drop l.p (bits_of l.bits)) l.left ≡ walk_all (bits_of l.bits) l.labels) × (l.depth ≤ l.p)
