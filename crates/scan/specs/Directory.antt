-- The directory of parentheses, by blocks of 256.
use Rattle.std.specs.Prelude.{ℕ, ◌+◌, ◌-◌, ◌*◌, ◌/◌, min, Bool, List, map, take, drop}
use Rattle.std.specs.List.{range_with_len}
use Rattle.excess.specs.Excess.{least_bits}
use Rattle.shape.specs.Bits.{openings}
use Rattle.scan.specs.declared.block.Block.{Block}

-- block j of the first m bits: the last block may be short
abbrev pub part_of_block : List Bool → ℕ → ℕ → List Bool
part_of_block bs m j = take (min 256 (m - 256 * j)) (drop (256 * j) bs)

abbrev pub block_at : List Bool → ℕ → ℕ → Block
block_at bs m j = record { before = openings (take (256 * j) bs); least = least_bits (part_of_block bs m j) }

-- as many blocks as m parentheses have
abbrev pub blocks : ℕ → ℕ
blocks m = (m + 255) / 256

-- the bytes that the parentheses of n nodes take
abbrev pub bytes : ℕ → ℕ
bytes n = (n + 3) / 4

abbrev pub directory_of : List Bool → ℕ → List Block
directory_of bs m = map (block_at bs m) (range_with_len 0 (blocks m))
