-- A name has one label, the one looked up.
use Rattle.std.proofs.Common.{◌≡◌, ℕ, ◌<◌, ◌↔◌, List, sym, ◌∙◌, subst, inl, inr, arith}
use native.Mathlib.Decide.{dec_lt}
use Rattle.names.specs.Store.{Labels, HoldsAt, label_of}
use Rattle.names.proofs.Labels.{lookup as labels}
use Rattle.selection.specs.Selects.{Store}

-- the first slot that holds a name is one
first_same : (names : Store) (w : List ℕ) (i j : ℕ) → HoldsAt names w i → HoldsAt names w j
    → ((k : ℕ) → k < i → HoldsAt names w k → ⊥) → ((k : ℕ) → k < j → HoldsAt names w k → ⊥) → i ≡ j
first_same names w i j hi hj li lj = pick (dec_lt i j) (dec_lt j i)
  where
    pick : Dec (i < j) → Dec (j < i) → i ≡ j
    pick (yes h) d = absurd (lj i h hi)
    pick (no h) (yes g) = absurd (li j g hj)
    pick (no h) (no g) = omega arith

one_label : (names : Store) (w : List ℕ) (c d : ℕ) → Labels names w c → Labels names w d → c ≡ d
one_label names w c d (inl a) (inl b) =
    let e = first_same names w a.0 b.0 a.1 b.1 a.2 b.2 in
    let p = a.3 in
    let q = b.3 in
    omega arith
one_label names w c d (inl a) (inr b) = absurd (b.0 a.0 a.1)
one_label names w c d (inr a) (inl b) = absurd (a.0 b.0 b.1)
one_label names w c d (inr a) (inr b) = a.1 ∙ sym b.1

pub labels_are : (names : Store) (w : List ℕ) (c : ℕ) → (c ≡ label_of names w) ↔ Labels names w c
labels_are names w c = (λ e. subst (Labels names w) (sym e) (labels names w), λ l. one_label names w c (label_of names w) l (labels names w))
