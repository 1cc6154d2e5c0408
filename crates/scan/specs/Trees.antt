-- The buffers of a parenthesis tree.
use Rattle.std.specs.Prelude.{◌≡◌, ℕ, ◌+◌, ◌-◌, ◌*◌, ◌/◌, List, [], length}
use Rattle.rows.specs.Rows.{Row, Lawful}
use Rattle.shape.specs.Bits.{bits_of}
use Rattle.shape.specs.Shape.{closing, parens_onto, rows_from, labels_of}
use Rattle.scan.specs.Directory.{bytes, directory_of}
use Rattle.scan.specs.declared.block.Block.{Block}

-- the rows that bytes of parentheses and labels show
abbrev pub rows_of : List ℕ → List ℕ → List Row
rows_of bytes labels = rows_from 0 (bits_of bytes) labels

-- the buffers are those of a tree of n nodes: lawful rows, whose parentheses come first in the bytes, before spare closings
pub record OfTree (bytes labels : List ℕ) (directory : List Block) (n : ℕ) : Type 0 where
  pub lawful : Lawful (rows_of bytes labels)
  pub count : length (rows_of bytes labels) ≡ n
  pub each_label : length labels ≡ n
  pub each_byte : length bytes ≡ (n + 3) / 4
  pub shape : bits_of bytes ≡ parens_onto 0 (rows_of bytes labels) (closing (8 * length bytes - 2 * n) [])
  pub blocks : directory ≡ directory_of (bits_of bytes) (2 * n)

-- the buffers of lawful rows are of a tree, and show these rows
abbrev pub RowsShown : Type 0
RowsShown = (rs : List Row) (bits labels : List ℕ) (directory : List Block) (n s : ℕ) → Lawful rs → length rs ≡ n → length bits ≡ bytes n →
    bits_of bits ≡ parens_onto 0 rs (closing s []) → labels ≡ labels_of rs → directory ≡ directory_of (bits_of bits) (2 * n) →
    (rows_of bits labels ≡ rs) × OfTree bits labels directory n
