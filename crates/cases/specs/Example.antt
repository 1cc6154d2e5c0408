-- The worked cases: texts of queries, and the nodes that they select in an example tree.
-- The tree is card(step(warn(#)) step(step(warn)) warn), where # is a text.
use Rattle.std.specs.Prelude.{◌≡◌, ℕ, ◌-◌, ◌↔◌, List, [], ◌∷◌, length, codes}
use Rattle.rows.specs.Rows.{Row, row, Lawful}
use Rattle.grammar.specs.Syntax.{Path}
use Rattle.grammar.specs.Machine.{outcome, accepted}
use Rattle.automata.specs.Program.{Some, Every}
use Rattle.names.specs.Names.{padded}
use Rattle.selection.specs.Selects.{Store, Selects}
use Rattle.tally.specs.Monoid.{marks_of}
use Rattle.tally.specs.Values.{cap, add}
use Rattle.tallying.specs.Nodes.{Lists}

abbrev pub example_rows : List Row
example_rows = row 0 0 ∷ row 1 2 ∷ row 2 3 ∷ row 3 4 ∷ row 4 1 ∷ row 2 3 ∷ row 3 3 ∷ row 4 4 ∷ row 2 4 ∷ []

-- the labels 2, 3 and 4
abbrev pub example_names : Store
example_names = padded (codes "card") ∷ padded (codes "step") ∷ padded (codes "warn") ∷ []

-- a text with the nodes that its query selects, and a span, from lo to hi - 1, with those of the span
pub record Case : Type 0 where
  pub text : List ℕ
  pub nodes : List ℕ
  pub lo : ℕ
  pub hi : ℕ
  pub told : List ℕ

-- over the whole tree
abbrev pub case : List ℕ → List ℕ → Case
case t ns = record { text = t; nodes = ns; lo = 0; hi = 9; told = ns }

abbrev pub cases : List Case
cases =
    case (codes "//step//warn") (3 ∷ 7 ∷ [])
    ∷ case (codes "/card/warn") (8 ∷ [])
    ∷ case (codes "//step[step]") (5 ∷ [])
    ∷ case (codes "//warn[not(text())]") (7 ∷ 8 ∷ [])
    ∷ case (codes "//step/following-sibling::warn") (8 ∷ [])
    ∷ case (codes "//step[warn or step]") (2 ∷ 5 ∷ 6 ∷ [])
    ∷ case (codes "//*") (1 ∷ 2 ∷ 3 ∷ 5 ∷ 6 ∷ 7 ∷ 8 ∷ [])
    ∷ case (codes "//node()") (1 ∷ 2 ∷ 3 ∷ 4 ∷ 5 ∷ 6 ∷ 7 ∷ 8 ∷ [])
    ∷ case (codes "/self::node()") (0 ∷ [])
    ∷ case (codes "//warn[/text()]") (3 ∷ [])
    ∷ case (codes "/warn") []
    ∷ record { text = codes "//step//warn"; nodes = 3 ∷ 7 ∷ []; lo = 4; hi = 9; told = 7 ∷ [] }
    ∷ []

-- The text is read as a query, the query selects the nodes listed and no others, those of the span are told in order, and
-- their count is as large.
abbrev pub Works : Case → Type 0
Works c =
    (q : Path) × (outcome c.text ≡ accepted q) × ((v : ℕ) → Selects example_names q example_rows v ↔ Some (λ x. x ≡ v) c.nodes)
    × Lists (Selects example_names q example_rows) c.lo (c.hi - c.lo) c.told × (marks_of (cap 0) (λ _. cap 1) add c.told ≡ cap (length c.told))

pub record Worked : Type 0 where
  pub lawful : Lawful example_rows
  pub work : Every Works cases
