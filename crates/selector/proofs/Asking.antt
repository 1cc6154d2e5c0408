-- A node that is asked for only where states are to enter it.
use Rattle.std.proofs.Common.{◌≡◌, ℕ, Bool, true, false, not, eqb, List, Some, None, Option, sym, refl, ap, ◌∙◌}
use Rattle.std.proofs.lemmas.Bool.{eqb-true}
use Rattle.std.specs.Option.{is_some, IfSome, option_flatten}
use Rattle.sweep.specs.Sending.{entered_all}
use Rattle.sweep.proofs.Sends.{enters_none}

not_false : (b : Bool) → false ≡ not b → b ≡ true
not_false true e = refl
not_false false e = e

no_states : (m : ℕ) → false ≡ not (eqb m 0) → m ≡ 0
no_states m e = eqb-true m 0 (not_false (eqb m 0) e)

pub enters_asked : (m : ℕ) (o : Option ℕ) (r : Option (Option ℕ)) (ws : List ℕ) (Q : Option ℕ → Type 0) → is_some r ≡ not (eqb m 0) → IfSome r Q → ((x : Option ℕ) → Q x → x ≡ o)
    → entered_all m (option_flatten r) ws ≡ entered_all m o ws
enters_asked m o (Some x) ws Q v q so = ap (λ (y : Option ℕ). entered_all m y ws) (so x q)
enters_asked m o None ws Q v q so = sym (ap (λ (n : ℕ). entered_all n o ws) (no_states m v) ∙ enters_none o ws)
