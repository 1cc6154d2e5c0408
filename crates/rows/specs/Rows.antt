-- A tree as its rows: a depth and a label for each node, in document order. A node is a place in the list.
use Rattle.std.specs.Prelude.{◌≡◌, ℕ, suc, ◌<◌, ◌≤◌, List, [], ◌∷◌, length, slice_index_or}

pub record Row : Type 0 where
  pub depth : ℕ
  pub label : ℕ

abbrev pub row : ℕ → ℕ → Row
row d c = record { depth = d; label = c }

-- what stands where there is no node
abbrev pub nobody : Row
nobody = row 0 65535

abbrev pub count_of : List Row → ℕ
count_of rows = length rows

abbrev pub depth_of : List Row → ℕ → ℕ
depth_of rows v = (slice_index_or rows v nobody).depth

abbrev pub label_of : List Row → ℕ → ℕ
label_of rows v = (slice_index_or rows v nobody).label

-- What makes rows those of a tree: label 0 is the root, 1 a text, 2 to 513 are elements.
pub record Lawful (rows : List Row) : Type 0 where
  pub some : 0 < count_of rows
  pub few : count_of rows ≤ 8192
  pub root_depth : depth_of rows 0 ≡ 0
  pub root_label : label_of rows 0 ≡ 0
  pub other_depth : (v : ℕ) → 0 < v → v < count_of rows → 0 < depth_of rows v
  pub other_label : (v : ℕ) → 0 < v → v < count_of rows → (1 ≤ label_of rows v) × (label_of rows v ≤ 513)
  pub steps : (v : ℕ) → suc v < count_of rows → depth_of rows (suc v) ≤ suc (depth_of rows v)
  pub texts : (v : ℕ) → suc v < count_of rows → label_of rows v ≡ 1 → depth_of rows (suc v) ≤ depth_of rows v

-- w stands in v's subtree and is not v: every node after v as far as w is deeper than v
abbrev pub Descendant : List Row → ℕ → ℕ → Type 0
Descendant rows v w = (v < w) × (w < count_of rows) × ((u : ℕ) → v < u → u ≤ w → depth_of rows v < depth_of rows u)

abbrev pub Child : List Row → ℕ → ℕ → Type 0
Child rows v w = Descendant rows v w × (depth_of rows w ≡ suc (depth_of rows v))

-- w is a later child of v's parent
abbrev pub FollowingSibling : List Row → ℕ → ℕ → Type 0
FollowingSibling rows v w = (p : ℕ) × Child rows p v × Child rows p w × (v < w)

-- w, the next node, is one deeper than v
abbrev pub FirstChild : List Row → ℕ → ℕ → Type 0
FirstChild rows v w = (w ≡ suc v) × (w < count_of rows) × (depth_of rows w ≡ suc (depth_of rows v))

-- w is the first later node of v's depth, and no node between is shallower
abbrev pub NextSibling : List Row → ℕ → ℕ → Type 0
NextSibling rows v w =
    (v < w) × (w < count_of rows) × (depth_of rows w ≡ depth_of rows v) × ((u : ℕ) → v < u → u < w → depth_of rows v < depth_of rows u)

-- a root alone
abbrev pub lone : List Row
lone = row 0 0 ∷ []
