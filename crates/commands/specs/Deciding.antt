-- The word of a node, command after command.
use Rattle.std.specs.Prelude.{ℕ, ◌+◌, Bool, true, List, [], ◌∷◌, ◌==◌, nat_le}
use Rattle.words.specs.Bit.{bit, put_bit}
use Rattle.commands.specs.declared.node.Node.{Node}
use Rattle.commands.specs.declared.command.Kind.TheVariants.{Root, Text, Element}
use Rattle.commands.specs.declared.command.Atom.{Atom}
use Rattle.commands.specs.declared.command.Atom.TheVariants.{Kind as OfKind, Label, True, First, Next, Here}
use Rattle.commands.specs.declared.command.Command.{Command}
use Rattle.commands.specs.declared.command.Command.TheVariants.{Value, And, Or, Not, Define, When, Make, Done, End}
use Rattle.commands.specs.Stack.{push, top, both, either, neither}

-- what the atom says, with the lower states in the word w
abbrev pub holds_at : Atom → Node → ℕ → Bool
holds_at (OfKind Root) n w = n.label == 0
holds_at (OfKind Text) n w = n.label == 1
holds_at (OfKind Element) n w = nat_le 2 n.label
holds_at (Label c) n w = n.label == c
holds_at True n w = true
holds_at (First p) n w = bit n.first p
holds_at (Next p) n w = bit n.next p
holds_at (Here p) n w = bit w p

-- the stack, the word so far and the state that is defined next
abbrev pub decide : Node → List Command → ℕ → ℕ → ℕ → ℕ
decide n [] s w p = w
decide n (Value a ∷ cs) s w p = decide n cs (push s (holds_at a n w)) w p
decide n (And ∷ cs) s w p = decide n cs (both s) w p
decide n (Or ∷ cs) s w p = decide n cs (either s) w p
decide n (Not ∷ cs) s w p = decide n cs (neither s) w p
decide n (Define ∷ cs) s w p = decide n cs 0 (put_bit w p (top s)) (p + 1)
decide n (When q ∷ cs) s w p = w
decide n (Make m ∷ cs) s w p = w
decide n (Done ∷ cs) s w p = w
decide n (End ∷ cs) s w p = w
