-- The number of each refusal of a tree.
use Rattle.std.specs.Prelude.{ℕ}
use Rattle.tree.specs.declared.fault.Fault.{Fault}
use Rattle.tree.specs.declared.fault.Fault.TheVariants.{Memory, NoTree, NoNode}

abbrev pub code_of : Fault → ℕ
code_of Memory = 11
code_of NoTree = 14
code_of NoNode = 15
