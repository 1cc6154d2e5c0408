-- The bytes of a program.
use Rattle.std.specs.Prelude.{ℕ, ◌/◌, ◌%◌, List, [], ◌∷◌, ◌++◌}
use Rattle.automata.specs.Program.{Formula, Rule, Program}
use Rattle.automata.specs.Program as program
use Rattle.commands.specs.declared.command.Kind.{Kind}
use Rattle.commands.specs.declared.command.Kind.TheVariants.{Root, Text, Element}
use Rattle.commands.specs.declared.command.Atom.{Atom}
use Rattle.commands.specs.declared.command.Atom.TheVariants.{Kind as OfKind, Label, True, First, Next, Here}
use Rattle.commands.specs.declared.command.Move.{Move}
use Rattle.commands.specs.declared.command.Move.TheVariants.{Down, On, Stay, Mark}
use Rattle.commands.specs.declared.command.Command.{Command}
use Rattle.commands.specs.declared.command.Command.TheVariants.{Value, And, Or, Not, Define, When, Make, Done, End}

-- the bytes of a command
abbrev pub kind_bytes : Kind → List ℕ
kind_bytes Root = 0x10 ∷ 0 ∷ []
kind_bytes Text = 0x10 ∷ 1 ∷ []
kind_bytes Element = 0x10 ∷ 2 ∷ []

abbrev pub atom_bytes : Atom → List ℕ
atom_bytes (OfKind k) = kind_bytes k
atom_bytes (Label c) = 0x11 ∷ c / 256 ∷ c % 256 ∷ []
atom_bytes True = 0x12 ∷ []
atom_bytes (First p) = 0x13 ∷ p ∷ []
atom_bytes (Next p) = 0x14 ∷ p ∷ []
atom_bytes (Here p) = 0x15 ∷ p ∷ []

abbrev pub move_bytes : Move → List ℕ
move_bytes (Down q) = 0x21 ∷ q ∷ []
move_bytes (On q) = 0x22 ∷ q ∷ []
move_bytes (Stay q) = 0x23 ∷ q ∷ []
move_bytes Mark = 0x24 ∷ []

abbrev pub command_bytes : Command → List ℕ
command_bytes (Value a) = atom_bytes a
command_bytes And = 0x18 ∷ []
command_bytes Or = 0x19 ∷ []
command_bytes Not = 0x1a ∷ []
command_bytes Define = 0x1f ∷ []
command_bytes (When p) = 0x20 ∷ p ∷ []
command_bytes (Make m) = move_bytes m
command_bytes Done = 0x2f ∷ []
command_bytes End = 0xff ∷ []

abbrev pub bytes_of : List Command → List ℕ
bytes_of [] = []
bytes_of (c ∷ cs) = command_bytes c ++ bytes_of cs

-- the commands of a formula, before others
abbrev pub kind_from : program.Kind → Kind
kind_from program.root = Root
kind_from program.text = Text
kind_from program.element = Element

abbrev pub postfix : Formula → List Command → List Command
postfix (program.kind k) cs = Value (OfKind (kind_from k)) ∷ cs
postfix (program.label_is c) cs = Value (Label c) ∷ cs
postfix program.true cs = Value True ∷ cs
postfix (program.first p) cs = Value (First p) ∷ cs
postfix (program.next p) cs = Value (Next p) ∷ cs
postfix (program.here p) cs = Value (Here p) ∷ cs
postfix (program.and f g) cs = postfix f (postfix g (And ∷ cs))
postfix (program.or f g) cs = postfix f (postfix g (Or ∷ cs))
postfix (program.not f) cs = postfix f (Not ∷ cs)

abbrev pub deciding_commands : List Formula → List Command → List Command
deciding_commands [] cs = cs
deciding_commands (f ∷ fs) cs = postfix f (Define ∷ deciding_commands fs cs)

-- the commands of rules, before others
abbrev pub move_from : program.Move → Move
move_from (program.down q) = Down q
move_from (program.on q) = On q
move_from (program.stay q) = Stay q
move_from program.mark = Mark

abbrev pub move_commands : List program.Move → List Command → List Command
move_commands [] cs = cs
move_commands (m ∷ ms) cs = Make (move_from m) ∷ move_commands ms cs

abbrev pub rule_commands : List Rule → List Command → List Command
rule_commands [] cs = cs
rule_commands (r ∷ rs) cs = When r.when ∷ move_commands r.moves (rule_commands rs cs)

abbrev pub sending_commands : List (List Rule) → List Command
sending_commands [] = End ∷ []
sending_commands (rs ∷ ss) = rule_commands rs (Done ∷ sending_commands ss)

abbrev pub program_commands : Program → List Command
program_commands P = deciding_commands P.deciding (sending_commands P.sending)

unfoldable pub encoded : Program → List ℕ
encoded P = bytes_of (program_commands P)
