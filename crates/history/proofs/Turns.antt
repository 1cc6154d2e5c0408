-- One turn more of a run.
use Rattle.std.proofs.Common.{◌≡◌, ℕ, List, [], ◌∷◌, ◌++◌, Some, None, Option, refl, ap, ◌∙◌}
use Rattle.selector.specs.declared.fault.Fault.{Fault}
use Rattle.selector.specs.Steps.{State, state_after, words_after, granted_or}
use Rattle.rows.specs.Rows.{Row}
use Rattle.history.specs.History.{Turn, reply, Ran}

module _ {V : Type 0} (empty : V) (mark : ℕ → V) (join : V → V → V) (rows : List Row) where
  pub ran_more : (ts : List (Turn V)) (t : Turn V) (s : State) (ws : List ℕ) (s' : State) (ws' : List ℕ) (s'' : State) (ws'' : List ℕ) → Ran empty mark join rows s ws ts s' ws' →
      t.answer ≡ reply empty mark join rows s' ws' t.call → s'' ≡ state_after rows s' ws' t.call → ws'' ≡ words_after rows s' ws' t.call → Ran empty mark join rows s ws (ts ++ (t ∷ [])) s'' ws''
  ran_more [] t s ws s' ws' s'' ws'' r a b c =
      let es = r.0 in
      let ew = r.1 in (
        a ∙ ap (λ (x : State). reply empty mark join rows x ws' t.call) es ∙ ap (λ (x : List ℕ). reply empty mark join rows s x t.call) ew,
        (
          b ∙ ap (λ (x : State). state_after rows x ws' t.call) es ∙ ap (λ (x : List ℕ). state_after rows s x t.call) ew,
          c ∙ ap (λ (x : State). words_after rows x ws' t.call) es ∙ ap (λ (x : List ℕ). words_after rows s x t.call) ew,
        ),
      )
  ran_more (u ∷ us) t s ws s' ws' s'' ws'' r a b c =
      (r.0, ran_more us t (state_after rows s ws u.call) (words_after rows s ws u.call) s' ws' s'' ws'' r.1 a b c)

pub granted_same : {X : Type 0} (o : Option Fault) (x : X) → x ≡ granted_or o x x
granted_same (Some f) x = refl
granted_same None x = refl
