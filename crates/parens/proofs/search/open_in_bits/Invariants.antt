use Rattle.std.proofs.Common.{◌≡◌, ◌+◌, drop}
use Rattle.shape.specs.Bits.{bits_of, select}
use Rattle.parens.proofs.search.open_in_bits.Given as goal

abbrev pub invariant-loop-p : goal.invariant-loop-p
invariant-loop-p l = l.from + select l.initial.left (drop l.from (bits_of l.bits)) ≡ l.p + select l.left (drop l.p (bits_of l.bits))
