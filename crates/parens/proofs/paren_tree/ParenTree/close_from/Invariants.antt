use Rattle.std.proofs.Common.{◌≡◌, ◌+◌, ◌*◌, ◌≤◌, min, length, drop}
use Rattle.shape.specs.Bits.{bits_of, close}
use Rattle.parens.proofs.paren_tree.ParenTree.close_from.Given as goal

-- the search has come to the start of block j, or to the end
abbrev pub invariant-loop-j : goal.invariant-loop-j
invariant-loop-j l =
    (l.from + close 0 (drop l.from (bits_of l.self.bits.now)) ≡ 8 * min (length l.self.bits.now) (32 * l.j) + close l.excess (drop (8 * min (length l.self.bits.now) (32 * l.j)) (bits_of l.self.bits.now)))
    × (l.excess ≤ 8 * min (length l.self.bits.now) (32 * l.j))
