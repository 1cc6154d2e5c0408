-- What making a tree of a feed file answers and leaves.
use Rattle.std.specs.Prelude.{ℕ, Bool, List, length, take, Ok, Err, Result}
use Rattle.scan.specs.Directory.{bytes}
use Rattle.scan.specs.declared.block.Block.{Block}
use Rattle.parens.specs.Trees.{rows_of}
use Rattle.parens.specs.Loading.{Enough, Fronts}
use Rattle.growth.specs.declared.fault.Fault.{Fault}
use Rattle.growth.specs.Steps.{begin_check, begun}
use Rattle.feedfile.specs.declared.command.FileFault.{FileFault}
use Rattle.feedfile.specs.declared.command.FileFault.TheVariants.{Refused}
use Rattle.feedfile.specs.Files.{Grown}
use Rattle.feedfile.specs.Reading.{Told, read_file, answer_of, bits_left, directory_left}

-- the reading of a file from a new feed
abbrev pub read_new : List ℕ → List Bool → List ℕ → List (List ℕ) → Told
read_new file bits labels ss = read_file file (begun bits labels) ss

-- the answer, with d blocks of directory lent: the place after SEAL, or the fault; memory too small for the root is refused at place 0
abbrev pub from_start : Result (Unit {0}) Fault → Result ℕ FileFault → Result ℕ FileFault
from_start (Ok x) a = a
from_start (Err e) a = Err (Refused e 0)

abbrev pub tree_answer : List ℕ → List Bool → List ℕ → List (List ℕ) → ℕ → Result ℕ FileFault
tree_answer file bits labels ss d = from_start (begin_check bits labels) (answer_of (read_new file bits labels ss) d)

-- what is left where the root has its memory, and else
abbrev pub left : {A : Type 0} → Result (Unit {0}) Fault → A → A → A
left (Ok x) new old = new
left (Err e) new old = old

-- the parentheses, the labels, the name store and the directory left
abbrev pub bits_after : List ℕ → List Bool → List ℕ → List (List ℕ) → ℕ → List Bool
bits_after file bits labels ss d = left (begin_check bits labels) (bits_left (answer_of (read_new file bits labels ss) d) (read_new file bits labels ss).feed) bits

abbrev pub labels_after : List ℕ → List Bool → List ℕ → List (List ℕ) → List ℕ
labels_after file bits labels ss = left (begin_check bits labels) (read_new file bits labels ss).feed.labels labels

abbrev pub store_after : List ℕ → List Bool → List ℕ → List (List ℕ) → List (List ℕ)
store_after file bits labels ss = left (begin_check bits labels) (read_new file bits labels ss).store ss

-- over the bytes that are left of the parentheses
abbrev pub directory_after : List ℕ → List Bool → List ℕ → List (List ℕ) → List ℕ → List Block → List Block
directory_after file bits labels ss new directory =
    left (begin_check bits labels) (directory_left (answer_of (read_new file bits labels ss) (length directory)) (read_new file bits labels ss).feed new directory) directory

-- buffers hold the tree of a file up to the place e, after its SEAL: n nodes, which are exactly those fed, and k names in the store
pub record Leaves (file : List ℕ) (e n k : ℕ) (bits labels : List ℕ) (store : List (List ℕ)) (directory : List Block) : Type 0 where
  pub long : Enough bits labels directory n
  pub tree : Fronts bits labels directory n
  pub grown : Grown file e (rows_of (take (bytes n) bits) (take n labels)) k store
