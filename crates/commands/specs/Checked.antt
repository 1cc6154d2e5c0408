-- The rules for programs, command by command.
use Rattle.std.specs.Prelude.{◌≡◌, ℕ, ◌+◌, ◌-◌, Bool, true, false, cond, not, ◌&&◌, List, [], ◌∷◌, length, Some, None, Option, ◌==◌, nat_le, nat_lt}
use Rattle.automata.specs.Program.{Program, Proper}
use Rattle.commands.specs.declared.command.Atom.{Atom}
use Rattle.commands.specs.declared.command.Atom.TheVariants.{Kind as OfKind, Label, True, First, Next, Here}
use Rattle.commands.specs.declared.command.Move.{Move}
use Rattle.commands.specs.declared.command.Move.TheVariants.{Down, On, Stay, Mark}
use Rattle.commands.specs.declared.command.Command.{Command}
use Rattle.commands.specs.declared.command.Command.TheVariants.{Value, And, Or, Not, Define, When, Make, Done, End}
use Rattle.commands.specs.declared.counts.Counts.{Counts}
use Rattle.commands.specs.declared.counts.Formulas.{Formulas}
use Rattle.commands.specs.declared.counts.Rules.{Rules}
use Rattle.commands.specs.Commands.{commands_of}
use Rattle.commands.specs.Decoded.{widths, decoded}
use Rattle.commands.specs.Rules.{after_deciding}

-- how many states a command defines
abbrev pub defined : Command → ℕ
defined (Value a) = 0
defined And = 0
defined Or = 0
defined Not = 0
defined Define = 1
defined (When p) = 0
defined (Make m) = 0
defined Done = 0
defined End = 0

abbrev pub closed : Command → ℕ
closed (Value a) = 0
closed And = 0
closed Or = 0
closed Not = 0
closed Define = 0
closed (When p) = 0
closed (Make m) = 0
closed Done = 1
closed End = 0

abbrev pub summed : (Command → ℕ) → List Command → ℕ
summed f [] = 0
summed f (c ∷ cs) = f c + summed f cs

abbrev pub counts : List Command → Counts
counts cs = record { deciding = summed defined cs; sending = summed closed cs }

-- the states, where all bytes are commands
abbrev pub surveyed : List ℕ → Option Counts
surveyed bs = let cs = commands_of bs in cond (widths cs == length bs) (Some (counts cs)) None

-- of n deciding states the atom names one, and of its own node one below p
abbrev pub names : Atom → ℕ → ℕ → Bool
names (OfKind k) n p = true
names (Label c) n p = true
names True n p = true
names (First q) n p = nat_lt q n
names (Next q) n p = nat_lt q n
names (Here q) n p = nat_lt q p

abbrev pub opens : Command → Bool
opens (Value a) = false
opens And = false
opens Or = false
opens Not = false
opens Define = false
opens (When p) = true
opens (Make m) = false
opens Done = true
opens End = false

abbrev pub if_so : {A : Type 0} → Bool → A → Option A
if_so b x = cond b (Some x) None

abbrev pub formula_step : Command → ℕ → Formulas → Option Formulas
formula_step (Value a) n s = if_so (nat_lt s.depth 32 && names a n s.state) (record { depth = s.depth + 1; state = s.state })
formula_step And n s = if_so (nat_le 2 s.depth) (record { depth = s.depth - 1; state = s.state })
formula_step Or n s = if_so (nat_le 2 s.depth) (record { depth = s.depth - 1; state = s.state })
formula_step Not n s = if_so (nat_le 1 s.depth) s
formula_step Define n s = if_so (s.depth == 1) (record { depth = 0; state = s.state + 1 })
formula_step (When p) n s = None
formula_step (Make m) n s = None
formula_step Done n s = None
formula_step End n s = None

abbrev pub thence : {A : Type 0} → Option A → (A → Bool) → Bool
thence None f = false
thence (Some x) f = f x

-- the commands define n states and then open a sending state
abbrev pub formulas_keep : ℕ → List Command → Formulas → Bool
formulas_keep n [] s = false
formulas_keep n (c ∷ cs) s = cond (opens c) (s.depth == 0 && s.state == n) (thence (formula_step c n s) (formulas_keep n cs))

-- of m sending states the move of state j names one, and if it stays, one above j
abbrev pub goes : Move → ℕ → ℕ → Bool
goes (Down q) m j = nat_lt q m
goes (On q) m j = nat_lt q m
goes (Stay q) m j = nat_lt j q && nat_lt q m
goes Mark m j = true

abbrev pub is_end : Command → Bool
is_end (Value a) = false
is_end And = false
is_end Or = false
is_end Not = false
is_end Define = false
is_end (When p) = false
is_end (Make m) = false
is_end Done = false
is_end End = true

abbrev pub rule_step : Command → Counts → Rules → Option Rules
rule_step (Value a) n s = None
rule_step And n s = None
rule_step Or n s = None
rule_step Not n s = None
rule_step Define n s = None
rule_step (When p) n s = if_so (nat_lt p n.deciding) (record { state = s.state; inside = true })
rule_step (Make m) n s = if_so (s.inside && goes m n.sending s.state) s
rule_step Done n s = Some (record { state = s.state + 1; inside = false })
rule_step End n s = None

abbrev pub is_empty : List Command → Bool
is_empty [] = true
is_empty (c ∷ cs) = false

-- the commands are of the n sending states and END
abbrev pub rules_keep : Counts → List Command → Rules → Bool
rules_keep n [] s = false
rules_keep n (c ∷ cs) s = cond (is_end c) (not s.inside && is_empty cs) (thence (rule_step c n s) (rules_keep n cs))

abbrev pub few_states : Counts → Bool
few_states n = (nat_le 1 n.deciding && nat_le n.deciding 40) && (nat_le 1 n.sending && nat_le n.sending 24)

abbrev pub all_keep : Counts → List Command → Bool
all_keep n cs =
    few_states n && (formulas_keep n.deciding cs (record { depth = 0; state = 0 }) && rules_keep n (after_deciding cs) (record { state = 0; inside = false }))

-- whether bytes are a program that keeps the rules
abbrev pub accepted : List ℕ → Bool
accepted bs = nat_le (length bs) 2048 && thence (surveyed bs) (λ n. all_keep n (commands_of bs))

-- bytes that mean a program that keeps the rules
abbrev pub Loadable : List ℕ → Type 0
Loadable bs = (P : Program) × (decoded bs ≡ Some P) × Proper P
