-- The subtree of a node as a tree of its own: numbered from 0, with label 0 at its root.
use Rattle.std.specs.Prelude.{◌≡◌, ℕ, ◌+◌, ◌-◌, ◌<◌, cond, List, [], ◌∷◌, drop, nat_lt}
use Rattle.rows.specs.Rows.{Row, row, lone, count_of, depth_of, label_of, Lawful}
use Rattle.rows.specs.Answers.{size_of}

-- a row d levels higher
abbrev pub raised : ℕ → Row → Row
raised d r = row (r.depth - d) r.label

-- the leading rows deeper than d, each d levels higher
abbrev pub below : ℕ → List Row → List Row
below d [] = []
below d (r ∷ rs) = cond (nat_lt d r.depth) (raised d r ∷ below d rs) []

-- the rows of the excerpt, from its node's row on; a root alone where there is no such row
abbrev pub excerpt_here : List Row → List Row
excerpt_here [] = lone
excerpt_here (r ∷ rs) = row 0 0 ∷ below r.depth rs

-- the rows of the excerpt at node v
abbrev pub excerpt_of : List Row → ℕ → List Row
excerpt_of rows v = excerpt_here (drop v rows)

-- the excerpt at v has the nodes of v's subtree: node k is node v + k, as many levels higher as v is deep, and v has label 0
pub record ShowsSubtree (rows : List Row) (v : ℕ) : Type 0 where
  pub count : count_of (excerpt_of rows v) ≡ size_of rows v
  pub root : label_of (excerpt_of rows v) 0 ≡ 0
  pub depth : (k : ℕ) → k < size_of rows v → depth_of (excerpt_of rows v) k + depth_of rows v ≡ depth_of rows (v + k)
  pub label : (k : ℕ) → 0 < k → k < size_of rows v → label_of (excerpt_of rows v) k ≡ label_of rows (v + k)

abbrev pub Excerpts : Type 0
Excerpts = (rows : List Row) (v : ℕ) → Lawful rows → Lawful (excerpt_of rows v) × (v < count_of rows → ShowsSubtree rows v)
