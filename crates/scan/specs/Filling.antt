-- What filling a directory answers and leaves.
use Rattle.std.specs.Prelude.{ℕ, ◌*◌, Bool, cond, ◌||◌, List, ◌++◌, length, take, drop, Ok, Err, Result, nat_lt}
use Rattle.shape.specs.Bits.{bits_of}
use Rattle.scan.specs.Directory.{blocks, bytes, directory_of}
use Rattle.scan.specs.declared.block.Block.{Block}
use Rattle.tree.specs.declared.fault.Fault.{Fault}
use Rattle.tree.specs.declared.fault.Fault.TheVariants.{Memory, NoTree}

-- the bytes or the directory are too short for n nodes
abbrev pub short : List ℕ → ℕ → List Block → Bool
short bits n directory = nat_lt (length bits) (bytes n) || nat_lt (length directory) (blocks (2 * n))

-- too short memory is refused first, then a count that no tree has
abbrev pub fill_answer : List ℕ → ℕ → List Block → Result (Unit {0}) Fault
fill_answer bits n directory = cond (short bits n directory) (Err Memory) (cond (nat_lt 8192 n) (Err NoTree) (Ok tt))

-- a refusal leaves the buffer; else it has the directory, and after it what was there
abbrev pub filled : List ℕ → ℕ → List Block → List Block
filled bits n directory = cond (short bits n directory || nat_lt 8192 n) directory (directory_of (bits_of (take (bytes n) bits)) (2 * n) ++ drop (blocks (2 * n)) directory)
