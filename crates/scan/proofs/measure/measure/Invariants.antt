use Rattle.std.proofs.Common.{◌≡◌, ◌-◌, pos, ◌+ℤ◌, neg_ℤ, ◌≤ℤ◌}
use Rattle.excess.specs.Excess.{total_bits}
use Rattle.shape.specs.Bits.{bits_of}
use Rattle.shape.specs.Stretch.{stretch, low}
use Rattle.scan.proofs.measure.measure.Given as goal

abbrev pub invariant-loop-p : goal.invariant-loop-p
invariant-loop-p l =
    (l.excess +ℤ total_bits (stretch (bits_of l.bits) l.p l.to) ≡ total_bits (stretch (bits_of l.bits) l.from l.to))
    × (low l.excess l.least (stretch (bits_of l.bits) l.p l.to) ≡ low (pos 0) (pos 1) (stretch (bits_of l.bits) l.from l.to))
    × (l.excess ≤ℤ pos (l.p - l.from)) × (neg_ℤ (pos (l.p - l.from)) ≤ℤ l.excess)
