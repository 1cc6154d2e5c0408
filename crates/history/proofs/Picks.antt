-- A tally of the first kind, and of a later one.
use Rattle.std.proofs.Common.{◌≡◌, ℕ, zero, suc, List, Ok, Option, Result, subst, arith}
use Rattle.tally.specs.Monoid.{marks_of}
use Rattle.selector.specs.declared.fault.Fault.{Fault}
use Rattle.selector.specs.Steps.{outcome}
use Rattle.either.specs.declared.Either.TheVariants.{Left, Right}
use Rattle.history.specs.Pick.{Pick, picked}
use Rattle.history.specs.Cases.{either_value}

module _ {X Y A : Type 0} {B : ℕ → Type 0} (f : X → A) (ea : A) (g : (i : ℕ) → Y → B i) (eb : (i : ℕ) → B i)
    (ma : ℕ → A) (mb : (i : ℕ) → ℕ → B i) (ja : A → A → A) (jb : (i : ℕ) → B i → B i → B i) where
  pub left_ok : (n : ℕ) (x : X) (o : Option Fault) (vs : List ℕ) → n ≡ 0 → ◌≡◌ {A = Result A Fault} (Ok (f x)) (outcome o (marks_of ea ma ja vs)) →
      ◌≡◌ {A = Result (Pick A B n) Fault} (Ok (either_value f ea g eb n (Left x))) (outcome o (marks_of (picked (λ V. V) ea eb n) (picked (λ V. ℕ → V) ma mb n) (picked (λ V. V → V → V) ja jb n) vs))
  left_ok zero x o vs e h = h
  left_ok (suc n) x o vs e h = absurd (omega arith)

  pub right_ok : (n m : ℕ) (y : Y) (o : Option Fault) (vs : List ℕ) → n ≡ suc m → ◌≡◌ {A = Result (B m) Fault} (Ok (g m y)) (outcome o (marks_of (eb m) (mb m) (jb m) vs)) →
      ◌≡◌ {A = Result (Pick A B n) Fault} (Ok (either_value f ea g eb n (Right y))) (outcome o (marks_of (picked (λ V. V) ea eb n) (picked (λ V. ℕ → V) ma mb n) (picked (λ V. V → V → V) ja jb n) vs))
  right_ok zero m y o vs e h = absurd (omega arith)
  right_ok (suc i) m y o vs e h =
      let q : m ≡ i = omega arith in
      subst (λ (j : ℕ). ◌≡◌ {A = Result (B j) Fault} (Ok (g j y)) (outcome o (marks_of (eb j) (mb j) (jb j) vs))) q h
