-- Stored rows and the rows that they stand for.
use Rattle.std.specs.Prelude.{◌≡◌, ℕ, zero, suc, ◌-◌, ◌<◌, ◌≤◌, cond, List, [], ◌∷◌, map, length, ◌==◌, nat_lt, slice_index, slice_index_or}
use Rattle.std.specs.List.{range_with_len}
use Rattle.rows.specs.Rows.{Row, row, count_of, depth_of, label_of, Child}
use Rattle.rows.specs.Lawful.{IsLawful}
use Rattle.rows.specs.Answers.{size_of}
use Rattle.stored.specs.declared.row.StoredRow.{StoredRow}

abbrev pub stored : ℕ → ℕ → ℕ → StoredRow
stored c d s = record { label = c; distance = d; size = s }

-- what stands where there is no stored row
abbrev pub blank : StoredRow
blank = stored 0 0 0

-- the stored row of node v
abbrev pub at : List StoredRow → ℕ → StoredRow
at es v = slice_index_or es v blank

-- how far before node v the nearest node is that is less deep than d; v where there is none
abbrev pub back : ℕ → List Row → ℕ → ℕ
back d rows zero = 0
back d rows (suc v) = cond (nat_lt (depth_of rows v) d) 1 (suc (back d rows v))

-- how far back a node's parent is
abbrev pub distance_of : List Row → ℕ → ℕ
distance_of rows v = back (depth_of rows v) rows v

abbrev pub stored_at : List Row → ℕ → StoredRow
stored_at rows v = stored (label_of rows v) (distance_of rows v) (size_of rows v)

-- the stored rows of a tree
abbrev pub stored_of : List Row → List StoredRow
stored_of rows = map (stored_at rows) (range_with_len 0 (count_of rows))

-- the depth of a stored row, where ds has the depths before it, the nearest first
abbrev pub depth_at : List ℕ → StoredRow → ℕ
depth_at ds e = cond (e.distance == 0) 0 (suc (slice_index ds (e.distance - 1)))

abbrev pub rows_from : List ℕ → List StoredRow → List Row
rows_from ds [] = []
rows_from ds (e ∷ es) = row (depth_at ds e) e.label ∷ rows_from (depth_at ds e ∷ ds) es

-- the rows that stored rows stand for
abbrev pub rows_of : List StoredRow → List Row
rows_of es = rows_from [] es

-- stored rows are those of a tree: the rows that they stand for are lawful, and they are the stored rows of these
pub record OfTree (es : List StoredRow) : Type 0 where
  pub lawful : IsLawful (rows_of es)
  pub same : stored_of (rows_of es) ≡ es

-- a stored row for each node, with its label, the distance to its parent's number (0 at the root) and its size
pub record Stores (rows : List Row) (es : List StoredRow) : Type 0 where
  pub each : length es ≡ count_of rows
  pub label : (v : ℕ) → v < count_of rows → (at es v).label ≡ label_of rows v
  pub root : (at es 0).distance ≡ 0
  pub parent : (v : ℕ) → 0 < v → v < count_of rows → ((at es v).distance ≤ v) × Child rows (v - (at es v).distance) v
  pub size : (v : ℕ) → v < count_of rows → (at es v).size ≡ size_of rows v
