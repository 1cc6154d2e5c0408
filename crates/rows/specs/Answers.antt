-- The answers to the questions that every kind of tree is asked, as functions of its rows. `label_of` and `count_of` are in Rows.
use Rattle.std.specs.Prelude.{ℕ, suc, ◌+◌, cond, List, [], ◌∷◌, drop, Some, None, Option, ◌==◌, nat_lt}
use Rattle.rows.specs.Rows.{Row}

-- how many leading rows are deeper than d
abbrev pub run : ℕ → List Row → ℕ
run d [] = 0
run d (r ∷ rs) = cond (nat_lt d r.depth) (suc (run d rs)) 0

-- of the rows from a node on, whose number is v: its size, first child and next sibling
abbrev pub size_here : List Row → ℕ
size_here [] = 0
size_here (r ∷ rs) = suc (run r.depth rs)

-- the row numbered v is the first child of a node of depth d if it is one deeper
abbrev pub first_from : ℕ → ℕ → List Row → Option ℕ
first_from v d [] = None
first_from v d (r ∷ rs) = cond (r.depth == suc d) (Some v) None

abbrev pub first_here : ℕ → List Row → Option ℕ
first_here v [] = None
first_here v (r ∷ rs) = first_from (v + 1) r.depth rs

-- the first row from number v on that is not deeper than d, if it has depth d
abbrev pub next_from : ℕ → ℕ → List Row → Option ℕ
next_from v d [] = None
next_from v d (r ∷ rs) = cond (nat_lt d r.depth) (next_from (v + 1) d rs) (cond (r.depth == d) (Some v) None)

abbrev pub next_here : ℕ → List Row → Option ℕ
next_here v [] = None
next_here v (r ∷ rs) = next_from (v + 1) r.depth rs

-- the answers for node v; for a number that is no node they are none, none and 0
abbrev pub first_of : List Row → ℕ → Option ℕ
first_of rows v = first_here v (drop v rows)

abbrev pub next_of : List Row → ℕ → Option ℕ
next_of rows v = next_here v (drop v rows)

abbrev pub size_of : List Row → ℕ
    → ℕ
size_of rows v = size_here (drop v rows)
