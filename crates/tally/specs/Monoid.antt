-- Joins of values, and the join of the marks of a list of nodes.
use Rattle.std.specs.Prelude.{◌≡◌, ℕ, List, [], ◌∷◌}

-- the join, from the left, of the marks of a list of nodes
abbrev pub marks_of : {V : Type 0} → V → (ℕ → V) → (V → V → V) → List ℕ → V
marks_of empty mark join [] = empty
marks_of empty mark join (v ∷ vs) = join (mark v) (marks_of empty mark join vs)

-- an associative join with a neutral value
pub record Laws {V : Type 0} (empty : V) (join : V → V → V) : Type 0 where
  pub assoc : (x y z : V) → join (join x y) z ≡ join x (join y z)
  pub left : (x : V) → join empty x ≡ x
  pub right : (x : V) → join x empty ≡ x
