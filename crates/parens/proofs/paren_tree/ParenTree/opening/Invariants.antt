use Rattle.std.proofs.Common.{◌≡◌, ◌+◌, ◌*◌, drop}
use Rattle.shape.specs.Bits.{bits_of, select}
use Rattle.parens.proofs.paren_tree.ParenTree.opening.Given as goal

abbrev pub invariant-loop-i : goal.invariant-loop-i
invariant-loop-i l = 8 * (l.from + l.i) + select l.left (drop (8 * (l.from + l.i)) (bits_of l.self.bits.now)) ≡ select l.v (bits_of l.self.bits.now)
