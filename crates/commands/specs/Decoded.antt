-- The program that bytes mean.
use Rattle.std.specs.Prelude.{ℕ, ◌+◌, cond, ◌&&◌, List, [], ◌∷◌, length, Some, None, Option, ◌==◌, nat_le, nat_lt}
use Rattle.automata.specs.Program.{Formula, Rule, Program}
use Rattle.automata.specs.Program as program
use Rattle.commands.specs.declared.command.Kind.{Kind}
use Rattle.commands.specs.declared.command.Kind.TheVariants.{Root, Text, Element}
use Rattle.commands.specs.declared.command.Atom.{Atom}
use Rattle.commands.specs.declared.command.Atom.TheVariants.{Kind as OfKind, Label, True, First, Next, Here}
use Rattle.commands.specs.declared.command.Move.{Move}
use Rattle.commands.specs.declared.command.Move.TheVariants.{Down, On, Stay, Mark}
use Rattle.commands.specs.declared.command.Command.{Command}
use Rattle.commands.specs.declared.command.Command.TheVariants.{Value, And, Or, Not, Define, When, Make, Done, End}
use Rattle.commands.specs.Commands.{commands_of}

abbrev pub kind_of : Kind → program.Kind
kind_of Root = program.root
kind_of Text = program.text
kind_of Element = program.element

abbrev pub formula : Atom → Formula
formula (OfKind k) = program.kind (kind_of k)
formula (Label c) = program.label_is c
formula True = program.true
formula (First p) = program.first p
formula (Next p) = program.next p
formula (Here p) = program.here p

abbrev pub move : Move → program.Move
move (Down q) = program.down q
move (On q) = program.on q
move (Stay q) = program.stay q
move Mark = program.mark

abbrev pub mapped : {A B : Type 0} → (A → B) → Option A → Option B
mapped f None = None
mapped f (Some x) = Some (f x)

-- The deciding states, and the commands after them: a stack of formulas, the latest first, at most 32.
abbrev pub deciding : List Command → List Formula → Option (List Formula × List Command)
deciding [] st = None
deciding (Value a ∷ cs) st = cond (nat_lt (length st) 32) (deciding cs (formula a ∷ st)) None
deciding (And ∷ cs) [] = None
deciding (And ∷ cs) (g ∷ []) = None
deciding (And ∷ cs) (g ∷ (f ∷ st)) = deciding cs (program.and f g ∷ st)
deciding (Or ∷ cs) [] = None
deciding (Or ∷ cs) (g ∷ []) = None
deciding (Or ∷ cs) (g ∷ (f ∷ st)) = deciding cs (program.or f g ∷ st)
deciding (Not ∷ cs) [] = None
deciding (Not ∷ cs) (f ∷ st) = deciding cs (program.not f ∷ st)
deciding (Define ∷ cs) [] = None
deciding (Define ∷ cs) (f ∷ []) = mapped (λ d. (f ∷ d.0, d.1)) (deciding cs [])
deciding (Define ∷ cs) (g ∷ (f ∷ st)) = None
deciding (When p ∷ cs) [] = Some ([], When p ∷ cs)
deciding (When p ∷ cs) (f ∷ st) = None
deciding (Make m ∷ cs) st = None
deciding (Done ∷ cs) [] = Some ([], Done ∷ cs)
deciding (Done ∷ cs) (f ∷ st) = None
deciding (End ∷ cs) st = None

-- The sending states: at the opening of a state, and below a WHEN. Below a WHEN come the moves of its rule, the state's other rules and the other states.
abbrev mutual
  pub states : List Command → Option (List (List Rule))
  states [] = None
  states (Value a ∷ cs) = None
  states (And ∷ cs) = None
  states (Or ∷ cs) = None
  states (Not ∷ cs) = None
  states (Define ∷ cs) = None
  states (When p ∷ cs) = mapped (λ r. (record { when = p; moves = r.0 } ∷ r.1) ∷ r.2) (below cs)
  states (Make m ∷ cs) = None
  states (Done ∷ cs) = mapped (λ ss. [] ∷ ss) (states cs)
  states (End ∷ []) = Some []
  states (End ∷ (c ∷ cs)) = None

  pub below : List Command → Option (List program.Move × List Rule × List (List Rule))
  below [] = None
  below (Value a ∷ cs) = None
  below (And ∷ cs) = None
  below (Or ∷ cs) = None
  below (Not ∷ cs) = None
  below (Define ∷ cs) = None
  below (When p ∷ cs) = mapped (λ r. ([], record { when = p; moves = r.0 } ∷ r.1, r.2)) (below cs)
  below (Make m ∷ cs) = mapped (λ r. (move m ∷ r.0, r.1, r.2)) (below cs)
  below (Done ∷ cs) = mapped (λ ss. ([], [], ss)) (states cs)
  below (End ∷ cs) = None

abbrev pub with_sending : Option (List Formula × List Command) → Option Program
with_sending None = None
with_sending (Some d) = mapped (λ ss. record { deciding = d.0; sending = ss }) (states d.1)

abbrev pub program_of : List Command → Option Program
program_of cs = with_sending (deciding cs [])

-- how many bytes the commands take
abbrev pub atom_width : Atom → ℕ
atom_width (OfKind k) = 2
atom_width (Label c) = 3
atom_width True = 1
atom_width (First p) = 2
atom_width (Next p) = 2
atom_width (Here p) = 2

abbrev pub move_width : Move → ℕ
move_width (Down q) = 2
move_width (On q) = 2
move_width (Stay q) = 2
move_width Mark = 1

abbrev pub width : Command → ℕ
width (Value a) = atom_width a
width And = 1
width Or = 1
width Not = 1
width Define = 1
width (When p) = 2
width (Make m) = move_width m
width Done = 1
width End = 1

abbrev pub widths : List Command → ℕ
widths [] = 0
widths (c ∷ cs) = width c + widths cs

-- at most 2,048 bytes, all of them commands
unfoldable pub decoded : List ℕ → Option Program
decoded bs = let cs = commands_of bs in cond (nat_le (length bs) 2048 && widths cs == length bs) (program_of cs) None
