-- Queries. A path is built from its first step on, as `or` and `and` are; grouping is not kept.
use Rattle.std.specs.Prelude.{ℕ, ◌+◌, Bool, List, [], ◌∷◌}

pub data Axis : Type 0 where
  self : Axis
  child : Axis
  descendant : Axis
  following_sibling : Axis

pub data NodeTest : Type 0 where
  element : NodeTest
  name : List ℕ → NodeTest
  text : NodeTest
  node : NodeTest

mutual
  -- `first r`: r is true with a leading slash
  pub data Path : Type 0 where
    first : Bool → Axis → NodeTest → Filter → Path
    more : Path → Axis → NodeTest → Filter → Path

  pub data Filter : Type 0 where
    plain : Filter
    holds : Pred → Filter

  pub data Pred : Type 0 where
    some : Path → Pred
    not : Pred → Pred
    and : Pred → Pred → Pred
    or : Pred → Pred → Pred

-- the steps of a path outside its brackets
abbrev pub own : Path → ℕ
own (first r w t f) = 1
own (more p w t f) = own p + 1

-- the steps inside the brackets
abbrev mutual
  pub in_path : Path → ℕ
  in_path (first r w t f) = in_filter f
  in_path (more p w t f) = in_path p + in_filter f

  pub in_filter : Filter → ℕ
  in_filter plain = 0
  in_filter (holds p) = in_pred p

  pub in_pred : Pred → ℕ
  in_pred (some p) = own p + in_path p
  in_pred (not p) = in_pred p
  in_pred (and p q) = in_pred p + in_pred q
  in_pred (or p q) = in_pred p + in_pred q

abbrev pub axis_word : Axis → List ℕ
axis_word self = 115 ∷ 101 ∷ 108 ∷ 102 ∷ []
axis_word child = 99 ∷ 104 ∷ 105 ∷ 108 ∷ 100 ∷ []
axis_word descendant = 100 ∷ 101 ∷ 115 ∷ 99 ∷ 101 ∷ 110 ∷ 100 ∷ 97 ∷ 110 ∷ 116 ∷ []
axis_word following_sibling = 102 ∷ 111 ∷ 108 ∷ 108 ∷ 111 ∷ 119 ∷ 105 ∷ 110 ∷ 103 ∷ 45 ∷ 115 ∷ 105 ∷ 98 ∷ 108 ∷ 105 ∷ 110 ∷ 103 ∷ []

abbrev pub text_word : List ℕ
text_word = 116 ∷ 101 ∷ 120 ∷ 116 ∷ []

abbrev pub node_word : List ℕ
node_word = 110 ∷ 111 ∷ 100 ∷ 101 ∷ []

abbrev pub not_word : List ℕ
not_word = 110 ∷ 111 ∷ 116 ∷ []

abbrev pub or_word : List ℕ
or_word = 111 ∷ 114 ∷ []

abbrev pub and_word : List ℕ
and_word = 97 ∷ 110 ∷ 100 ∷ []
