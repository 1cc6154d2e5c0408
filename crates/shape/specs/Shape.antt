-- A tree's rows as parentheses, and back.
use Rattle.std.specs.Prelude.{ℕ, zero, suc, ◌-◌, Bool, true, false, List, [], ◌∷◌, map}
use Rattle.rows.specs.Rows.{Row}

-- n closings, then t
abbrev pub closing : ℕ → List Bool → List Bool
closing zero t = t
closing (suc n) t = false ∷ closing n t

-- the parentheses of rows, then t, where k nodes are open: a node closes before the next that is not deeper
abbrev pub parens_onto : ℕ → List Row → List Bool → List Bool
parens_onto k [] t = closing k t
parens_onto k (r ∷ rs) t = closing (k - r.depth) (true ∷ parens_onto (suc r.depth) rs t)

-- the parentheses of a tree
abbrev pub parens : List Row → List Bool
parens rs = parens_onto 0 rs []

abbrev pub labels_of : List Row → List ℕ
labels_of rs = map (λ (r : Row). r.label) rs

-- the rows of parentheses with the labels ls, where k nodes are open
abbrev pub rows_from : ℕ → List Bool → List ℕ → List Row
rows_from k [] ls = []
rows_from k (true ∷ bs) [] = []
rows_from k (true ∷ bs) (l ∷ ls) = (record { depth = k; label = l }) ∷ rows_from (suc k) bs ls
rows_from k (false ∷ bs) ls = rows_from (k - 1) bs ls
