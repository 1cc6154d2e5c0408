use Rattle.std.proofs.Common.{◌≡◌, ◌+◌, ◌≤◌, drop}
use Rattle.shape.specs.Bits.{bits_of, close}
use Rattle.parens.proofs.search.close_in_bits.Given as goal

abbrev pub invariant-loop-p : goal.invariant-loop-p
invariant-loop-p l = (l.from + close l.initial.excess (drop l.from (bits_of l.bits)) ≡ l.p + close l.excess (drop l.p (bits_of l.bits))) × (l.excess ≤ l.p)
