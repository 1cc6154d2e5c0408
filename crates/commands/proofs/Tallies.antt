-- States and bytes of what is read.
use Rattle.std.proofs.Common.{◌≡◌, ℕ, suc, ◌+◌, List, length, refl, arith}
use Rattle.automata.specs.Program.{Formula, Rule, Program, total, bytes, formula_bytes}
use Rattle.automata.specs.Program as program
use Rattle.commands.specs.declared.command.Atom.{Atom}
use Rattle.commands.specs.declared.command.Atom.TheVariants.{Kind as OfKind, Label, True, First, Next, Here}
use Rattle.commands.specs.declared.command.Move.{Move}
use Rattle.commands.specs.declared.command.Move.TheVariants.{Down, On, Stay, Mark}
use Rattle.commands.specs.declared.command.Command.{Command}
use Rattle.commands.specs.Decoded.{formula, move, atom_width, move_width, widths}
use Rattle.commands.specs.Checked.{defined, closed, summed}
use Rattle.commands.proofs.Grammar.{Opens, Defines, Sends, Below}
use Rattle.commands.proofs.Grammar as reads

-- formulas
pub defined_count : {cs rest : List Command} {st fs : List Formula} → Defines cs st fs rest → summed defined cs ≡ length fs + summed defined rest
defined_count (reads.value l d) = omega (arith, defined_count d)
defined_count (reads.and d) = omega (arith, defined_count d)
defined_count (reads.or d) = omega (arith, defined_count d)
defined_count (reads.not d) = omega (arith, defined_count d)
defined_count (reads.define d) = omega (arith, defined_count d)
defined_count (reads.stop o) = omega arith

pub closed_same : {cs rest : List Command} {st fs : List Formula} → Defines cs st fs rest → summed closed cs ≡ summed closed rest
closed_same (reads.value l d) = omega (arith, closed_same d)
closed_same (reads.and d) = omega (arith, closed_same d)
closed_same (reads.or d) = omega (arith, closed_same d)
closed_same (reads.not d) = omega (arith, closed_same d)
closed_same (reads.define d) = omega (arith, closed_same d)
closed_same (reads.stop o) = refl

atom_bytes : (a : Atom) → atom_width a ≡ formula_bytes (formula a)
atom_bytes (OfKind k) = refl
atom_bytes (Label c) = refl
atom_bytes True = refl
atom_bytes (First p) = refl
atom_bytes (Next p) = refl
atom_bytes (Here p) = refl

pub formulas_width : {cs rest : List Command} {st fs : List Formula} → Defines cs st fs rest → widths cs + total formula_bytes st ≡ total (λ f. suc (formula_bytes f)) fs + widths rest
formulas_width (reads.value {a = a} l d) = omega (arith, formulas_width d, atom_bytes a)
formulas_width (reads.and d) = omega (arith, formulas_width d)
formulas_width (reads.or d) = omega (arith, formulas_width d)
formulas_width (reads.not d) = omega (arith, formulas_width d)
formulas_width (reads.define d) = omega (arith, formulas_width d)
formulas_width (reads.stop o) = omega arith

-- rules
abbrev rule_bytes : Rule → ℕ
rule_bytes r = 2 + total program.move_bytes r.moves

abbrev state_bytes : List Rule → ℕ
state_bytes rs = suc (total rule_bytes rs)

made_bytes : (m : Move) → move_width m ≡ program.move_bytes (move m)
made_bytes (Down q) = refl
made_bytes (On q) = refl
made_bytes (Stay q) = refl
made_bytes Mark = refl

mutual
  pub sends_defined : {cs : List Command} {ss : List (List Rule)} → Sends cs ss → summed defined cs ≡ 0
  sends_defined (reads.opened d) = omega (arith, below_defined d)
  sends_defined (reads.idle s) = omega (arith, sends_defined s)
  sends_defined reads.ended = refl

  below_defined : {cs : List Command} {ms : List program.Move} {rs : List Rule} {ss : List (List Rule)} → Below cs ms rs ss → summed defined cs ≡ 0
  below_defined (reads.again d) = omega (arith, below_defined d)
  below_defined (reads.made d) = omega (arith, below_defined d)
  below_defined (reads.done s) = omega (arith, sends_defined s)

mutual
  pub sends_closed : {cs : List Command} {ss : List (List Rule)} → Sends cs ss → summed closed cs ≡ length ss
  sends_closed (reads.opened d) = omega (arith, below_closed d)
  sends_closed (reads.idle s) = omega (arith, sends_closed s)
  sends_closed reads.ended = refl

  below_closed : {cs : List Command} {ms : List program.Move} {rs : List Rule} {ss : List (List Rule)} → Below cs ms rs ss → summed closed cs ≡ suc (length ss)
  below_closed (reads.again d) = omega (arith, below_closed d)
  below_closed (reads.made d) = omega (arith, below_closed d)
  below_closed (reads.done s) = omega (arith, sends_closed s)

mutual
  pub sends_width : {cs : List Command} {ss : List (List Rule)} → Sends cs ss → widths cs ≡ suc (total state_bytes ss)
  sends_width (reads.opened d) = omega (arith, below_width d)
  sends_width (reads.idle s) = omega (arith, sends_width s)
  sends_width reads.ended = refl

  below_width : {cs : List Command} {ms : List program.Move} {rs : List Rule} {ss : List (List Rule)} → Below cs ms rs ss
      → widths cs ≡ total program.move_bytes ms + (total rule_bytes rs + suc (suc (total state_bytes ss)))
  below_width (reads.again d) = omega (arith, below_width d)
  below_width (reads.made {m = m} d) = omega (arith, below_width d, made_bytes m)
  below_width (reads.done s) = omega (arith, sends_width s)
