-- What is printed of the nodes that a query selects.
use Rattle.std.specs.Prelude.{ℕ, Bool, cond, List, [], ◌∷◌, ◌++◌, length, take, codes, decimal, flat_map, nat_lt}
use Rattle.tally.specs.Values.{Extent}
use Rattle.tally.specs.Values.Extent.{nowhere, across}

-- the end of a line
abbrev pub newline : List ℕ
newline = 10 ∷ []

-- `nodes N` and `selected N`
abbrev pub counts_text : ℕ → ℕ → List ℕ
counts_text nodes selected = codes "nodes " ++ (decimal nodes ++ ((10 ∷ codes "selected ") ++ (decimal selected ++ newline)))

-- `from A to B`, the first node and the last
abbrev pub ends_text : Extent → List ℕ
ends_text nowhere = codes "from - to -" ++ newline
ends_text (across a b) = codes "from " ++ (decimal a ++ (codes " to " ++ (decimal b ++ newline)))

-- a line for each number
abbrev pub numbers_text : List ℕ → List ℕ
numbers_text vs = flat_map (λ v. decimal v ++ newline) vs

abbrev pub last_text : Bool → List ℕ
last_text more = cond more (codes "more" ++ (10 ∷ codes "end" ++ newline)) (codes "end" ++ newline)

abbrev pub report_text : ℕ → ℕ → Extent → List ℕ → Bool → List ℕ
report_text nodes selected ends numbers more = ((counts_text nodes selected ++ ends_text ends) ++ numbers_text numbers) ++ last_text more

-- the last of a node and those after it
abbrev pub last_of : ℕ → List ℕ → ℕ
last_of v [] = v
last_of v (w ∷ ws) = last_of w ws

abbrev pub ends_of : List ℕ → Extent
ends_of [] = nowhere
ends_of (v ∷ vs) = across v (last_of v vs)

-- what is printed of a tree of so many nodes and the nodes that a query selects in it, in order: how many of either, the
-- first and the last, the first twelve, and whether there are more
abbrev pub printed : ℕ → List ℕ → List ℕ
printed nodes vs = report_text nodes (length vs) (ends_of vs) (take 12 vs) (nat_lt 12 (length vs))
