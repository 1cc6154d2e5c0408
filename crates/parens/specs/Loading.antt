-- When buffers are loaded, and what they then show.
use Rattle.std.specs.Prelude.{◌≡◌, ℕ, ◌-◌, ◌*◌, ◌≤◌, List, [], ◌++◌, length, take, Ok, Err, Result}
use Rattle.rows.specs.Rows.{Row, Lawful, count_of}
use Rattle.tree.specs.declared.fault.Fault.{Fault}
use Rattle.tree.specs.declared.fault.Fault.TheVariants.{Memory, NoTree, NoNode}
use Rattle.shape.specs.Bits.{bits_of}
use Rattle.shape.specs.Shape.{closing, parens, labels_of}
use Rattle.shape.specs.Packing.{packed}
use Rattle.scan.specs.Directory.{blocks, bytes, directory_of}
use Rattle.scan.specs.Trees.{rows_of, OfTree}
use Rattle.scan.specs.declared.block.Block.{Block}

-- the buffers are long enough for n nodes
abbrev pub Enough : List ℕ → List ℕ → List Block → ℕ → Type 0
Enough bits labels directory n = (bytes n ≤ length bits) × (n ≤ length labels) × (blocks (2 * n) ≤ length directory)

-- what stands at their front is a tree of n nodes
abbrev pub Fronts : List ℕ → List ℕ → List Block → ℕ → Type 0
Fronts bits labels directory n = OfTree (take (bytes n) bits) (take n labels) (take (blocks (2 * n)) directory) n

-- the answer to loading them: too short first, then no tree
abbrev pub Loads : List ℕ → List ℕ → List Block → ℕ → Result (Unit {0}) Fault → Type 0
Loads bits labels directory n (Ok _) = Enough bits labels directory n × Fronts bits labels directory n
Loads bits labels directory n (Err Memory) = Enough bits labels directory n → ⊥
Loads bits labels directory n (Err NoTree) = Enough bits labels directory n × (Fronts bits labels directory n → ⊥)
Loads bits labels directory n (Err NoNode) = ⊥

-- the rows that the fronts of the buffers show
abbrev pub shown : List ℕ → List ℕ → ℕ → List Row
shown bits labels n = rows_of (take (bytes n) bits) (take n labels)

-- the fronts of the buffers are those of the tree with the rows rs: its parentheses before spare bits that are 0, its labels and its directory
pub record Holds (rs : List Row) (bits labels : List ℕ) (directory : List Block) (n : ℕ) : Type 0 where
  pub count : count_of rs ≡ n
  pub nested : bits_of (take (bytes n) bits) ≡ parens rs ++ closing (8 * bytes n - 2 * n) []
  pub labelled : take n labels ≡ labels_of rs
  pub indexed : take (blocks (2 * n)) directory ≡ directory_of (parens rs) (2 * n)

-- buffers that hold a tree load, and show its rows
abbrev pub HeldLoads : Type 0
HeldLoads = (rs : List Row) (bits labels : List ℕ) (directory : List Block) (n : ℕ) → Lawful rs → Holds rs bits labels directory n →
    Loads bits labels directory n (Ok tt) × (shown bits labels n ≡ rs)

-- buffers that load hold the tree that they show
abbrev pub LoadedHeld : Type 0
LoadedHeld = (bits labels : List ℕ) (directory : List Block) (n : ℕ) → Loads bits labels directory n (Ok tt) →
    Lawful (shown bits labels n) × Holds (shown bits labels n) bits labels directory n

-- every lawful list of rows has buffers that hold its tree
abbrev pub TreesHeld : Type 0
TreesHeld = (rs : List Row) → Lawful rs →
    Holds rs (packed (bytes (count_of rs)) (parens rs)) (labels_of rs) (directory_of (parens rs) (2 * count_of rs)) (count_of rs)
