-- What a query selects in a tree, with a store that names the labels.
use Rattle.std.specs.Prelude.{◌≡◌, ℕ, ◌≤◌, ◌⊎◌, List}
use Rattle.rows.specs.Rows.{Row, label_of, Descendant, Child, FollowingSibling}
use Rattle.grammar.specs.Syntax.{Axis, self, child, descendant, following_sibling, NodeTest, element, name, text, node, Path, first, more, Filter, plain, holds, Pred, some, not, and, or}
use Rattle.names.specs.Store.{Labels}

-- a name store: its slots, of 32 bytes each
abbrev pub Store : Type 0
Store = List (List ℕ)

-- y is on the axis from x
abbrev pub On : Axis → List Row → ℕ → ℕ → Type 0
On self rows x y = x ≡ y
On child rows x y = Child rows x y
On descendant rows x y = Descendant rows x y
On following_sibling rows x y = FollowingSibling rows x y

-- y passes the node test: an element, an element whose label is that of the name, a text, or any node
abbrev pub Passes : Store → NodeTest → List Row → ℕ → Type 0
Passes names element rows y = 2 ≤ label_of rows y
Passes names (name w) rows y = (2 ≤ label_of rows y) × Labels names w (label_of rows y)
Passes names text rows y = label_of rows y ≡ 1
Passes names node rows y = Unit {0}

abbrev mutual
  -- From x the path reaches y: each step goes from a context node to a node on its axis that passes its test and bracket.
  -- A leading slash changes nothing: the path starts at x.
  pub Reaches : Store → Path → List Row → ℕ → ℕ → Type 0
  Reaches names (first s a t f) rows x y = On a rows x y × Passes names t rows y × Filtered names f rows y
  Reaches names (more p a t f) rows x y = (z : ℕ) × Reaches names p rows x z × (On a rows z y × Passes names t rows y × Filtered names f rows y)

  -- y passes the bracket, if there is one
  pub Filtered : Store → Filter → List Row → ℕ → Type 0
  Filtered names plain rows y = Unit {0}
  Filtered names (holds p) rows y = Holds names p rows y

  -- the predicate holds at x: a path does if it reaches some node from there
  pub Holds : Store → Pred → List Row → ℕ → Type 0
  Holds names (some p) rows x = (y : ℕ) × Reaches names p rows x y
  Holds names (not p) rows x = ¬ Holds names p rows x
  Holds names (and p q) rows x = Holds names p rows x × Holds names q rows x
  Holds names (or p q) rows x = Holds names p rows x ⊎ Holds names q rows x

-- the query selects what its last step reaches when its first starts at the root
abbrev pub Selects : Store → Path → List Row → ℕ → Type 0
Selects names q rows y = Reaches names q rows 0 y
