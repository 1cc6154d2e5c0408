-- The states that formulas ask of a node's first child and next sibling, and a node as far as they see it.
use Rattle.std.specs.Prelude.{◌^◌, ◌<◌, List, [], ◌∷◌, bit_and}
use Rattle.words.specs.Bit.{with_bit}
use Rattle.commands.specs.declared.node.Node.{Node}
use Rattle.commands.specs.declared.node.Asked.{Asked}
use Rattle.commands.specs.declared.command.Atom.{Atom}
use Rattle.commands.specs.declared.command.Atom.TheVariants.{Kind as OfKind, Label, True, First, Next, Here}
use Rattle.commands.specs.declared.command.Command.{Command}
use Rattle.commands.specs.declared.command.Command.TheVariants.{Value, And, Or, Not, Define, When, Make, Done, End}

-- with what the atom asks
abbrev pub with_atom : Atom → Asked → Asked
with_atom (OfKind k) a = a
with_atom (Label c) a = a
with_atom True a = a
with_atom (First p) a = record { first = with_bit a.first p; next = a.next }
with_atom (Next p) a = record { first = a.first; next = with_bit a.next p }
with_atom (Here p) a = a

abbrev pub with_command : Command → Asked → Asked
with_command (Value x) a = with_atom x a
with_command And a = a
with_command Or a = a
with_command Not a = a
with_command Define a = a
with_command (When q) a = a
with_command (Make m) a = a
with_command Done a = a
with_command End a = a

-- with what the commands ask
abbrev pub asked : List Command → Asked → Asked
asked [] a = a
asked (c ∷ cs) a = asked cs (with_command c a)

abbrev pub nothing : Asked
nothing = record { first = 0; next = 0 }

-- the node without what is not asked
abbrev pub seen : Asked → Node → Node
seen a n = record { label = n.label; first = bit_and n.first a.first; next = bit_and n.next a.next }

-- words have 64 bits
pub record Fits (n : Node) : Type 0 where
  pub first : n.first < 2 ^ 64
  pub next : n.next < 2 ^ 64
