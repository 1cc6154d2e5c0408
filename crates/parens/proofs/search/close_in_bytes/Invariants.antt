use Rattle.std.proofs.Common.{◌≡◌, ◌+◌, ◌*◌, ◌≤◌, drop}
use Rattle.shape.specs.Bits.{bits_of, close}
use Rattle.parens.proofs.search.close_in_bytes.Given as goal

abbrev pub invariant-loop-i : goal.invariant-loop-i
invariant-loop-i l = (8 * l.from + close l.initial.excess (drop (8 * l.from) (bits_of l.bits)) ≡ 8 * (l.from + l.i) + close l.excess (drop (8 * (l.from + l.i)) (bits_of l.bits))) × (l.excess ≤ 8 * (l.from + l.i))
