use Rattle.std.proofs.Common.{◌≡◌, ◌*◌, drop, pos, ◌+ℤ◌, neg_ℤ, ◌≤ℤ◌}
use Rattle.excess.specs.Excess.{total_bits}
use Rattle.shape.specs.Bits.{bits_of}
use Rattle.shape.specs.Stretch.{low}
use Rattle.scan.proofs.measure.measure_bytes.Given as goal

abbrev pub invariant-loop-b : goal.invariant-loop-b
invariant-loop-b l =
    (l.excess +ℤ total_bits (bits_of (drop l.b-index l.bytes)) ≡ total_bits (bits_of l.bytes))
    × (low l.excess l.least (bits_of (drop l.b-index l.bytes)) ≡ low (pos 0) (pos 1) (bits_of l.bytes))
    × (l.excess ≤ℤ pos (8 * l.b-index)) × (neg_ℤ (pos (8 * l.b-index)) ≤ℤ l.excess)
