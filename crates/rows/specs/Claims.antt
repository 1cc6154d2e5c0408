-- What is proved of rows: the test decides what is lawful, and the answers are the nodes so related.
use Rattle.std.specs.Prelude.{◌≡◌, ℕ, ◌+◌, ◌<◌, ◌≤◌, ◌⊎◌, ◌↔◌, List, Some, None, Option}
use Rattle.rows.specs.Rows.{Row, count_of, Lawful, Descendant, FirstChild, NextSibling}
use Rattle.rows.specs.Lawful.{IsLawful}
use Rattle.rows.specs.Answers.{first_of, next_of, size_of}

abbrev pub LawfulDecided : Type 0
LawfulDecided = (rows : List Row) → IsLawful rows ↔ Lawful rows

-- an answer for a node: the node that is so related to it, or that there is none
abbrev pub Answers : Option ℕ → (ℕ → Type 0) → Type 0
Answers None R = (w : ℕ) → ¬ R w
Answers (Some w) R = R w

-- first child and next sibling are the nodes so related, or there is none; v and its descendants are the numbers from v to v + size - 1
abbrev pub Questions : Type 0
Questions =
    (rows : List Row) (v : ℕ) → v < count_of rows
    → Answers (first_of rows v) (FirstChild rows v)
    × Answers (next_of rows v) (NextSibling rows v)
    × ((w : ℕ) → ((w ≡ v) ⊎ Descendant rows v w) ↔ ((v ≤ w) × (w < v + size_of rows v)))
