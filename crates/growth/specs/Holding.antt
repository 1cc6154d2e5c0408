-- What a feed holds: the rows of the nodes fed so far, and in the name store distinct names.
use Rattle.std.specs.Prelude.{◌≡◌, ℕ, suc, ◌+◌, ◌-◌, ◌*◌, ◌<◌, ◌≤◌, Bool, true, List, [], ◌∷◌, length, take, ◌≢◌, slice_index_or}
use Rattle.rows.specs.Rows.{Row}
use Rattle.rows.specs.Lawful.{IsLawful, reach}
use Rattle.shape.specs.Shape.{closing, labels_of}
use Rattle.names.specs.Names.{is_name}
use Rattle.growth.specs.Steps.{Fed}

-- the parentheses of rows up to where d nodes are open, from where k are
abbrev pub until : ℕ → List Row → ℕ → List Bool
until k [] d = closing (k - d) []
until k (r ∷ rs) d = closing (k - r.depth) (true ∷ until (suc r.depth) rs d)

-- the deepest row that may follow a row and the rows after it
abbrev pub deepest_from : Row → List Row → ℕ
deepest_from p [] = reach p
deepest_from p (r ∷ rs) = deepest_from r rs

abbrev pub deepest : List Row → ℕ
deepest [] = 0
deepest (r ∷ rs) = deepest_from r rs

-- a feed holds rows: they are of a tree, their parentheses are written but for the closings of the open nodes, and their labels stand
pub record Holds (rs : List Row) (f : Fed) : Type 0 where
  pub lawful : IsLawful rs
  pub count : f.nodes ≡ length rs
  pub root_open : 1 ≤ f.due
  pub may_follow : f.due ≤ deepest rs
  pub parentheses : take f.written f.bits ≡ until 0 rs f.due
  pub each_label : take f.nodes f.labels ≡ labels_of rs
  pub paired : f.written + f.due ≡ 2 * f.nodes
  pub few_names : f.names ≤ 512

-- the first k slots of a store hold names, each another
pub record Names (k : ℕ) (store : List (List ℕ)) : Type 0 where
  pub stand : k ≤ length store
  pub named : (i : ℕ) → i < k → is_name (slice_index_or store i []) ≡ true
  pub apart : (i j : ℕ) → i < j → j < k → slice_index_or store i [] ≢ slice_index_or store j []
