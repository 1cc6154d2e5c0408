-- A step that was taken.
use Rattle.std.proofs.Common.{◌≡◌, ℕ, ◌+◌, ◌≤◌, Bool, true, false, not, ◌&&◌, eqb, List, ◌∷◌, Some, None, Option, sym, refl, ap, arith}
use Rattle.std.proofs.lemmas.Bool.{cond-true, cond-false}
use Rattle.commands.specs.declared.command.Command.{Command}
use Rattle.commands.specs.declared.command.Command.TheVariants.{Value, And, Or, Not, Define, When, Make, Done, End}
use Rattle.commands.specs.declared.counts.Counts.{Counts}
use Rattle.commands.specs.declared.counts.Formulas.{Formulas}
use Rattle.commands.specs.declared.counts.Rules.{Rules}
use Rattle.commands.specs.Checked.{if_so, thence, opens, formula_step, formulas_keep, is_end, is_empty, rule_step, rules_keep}

pub none_some : {A X : Type 0} (y : A) → ◌≡◌ {A = Option A} None (Some y) → X
none_some y e = let z : ◌≡◌ {A = ℕ} 0 1 = cc in absurd (omega arith)

pub so_value : {A : Type 0} (b : Bool) (x y : A) → if_so b x ≡ Some y → (b ≡ true) × (x ≡ y)
so_value true x y e = (refl, cc)
so_value false x y e = none_some y e
