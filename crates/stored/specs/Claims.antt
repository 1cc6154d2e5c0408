-- What is proved of stored rows.
use Rattle.std.specs.Prelude.{◌≡◌, ◌↔◌, List}
use Rattle.rows.specs.Rows.{Row, Lawful}
use Rattle.stored.specs.declared.row.StoredRow.{StoredRow}
use Rattle.stored.specs.Stored.{rows_of, stored_of, OfTree, Stores}
use Rattle.stored.specs.Fits.{Fitting}

-- the stored rows of a tree are those that have each node's label, distance and size, and stand for its rows
pub record Kept (rows : List Row) : Type 0 where
  pub exactly : (es : List StoredRow) → Stores rows es ↔ (es ≡ stored_of rows)
  pub back : rows_of (stored_of rows) ≡ rows
  pub loads : OfTree (stored_of rows)

abbrev pub RowsKept : Type 0
RowsKept = (rows : List Row) → Lawful rows → Kept rows

-- stored rows are of a tree exactly when they store some lawful rows, and then those that they stand for
abbrev pub TreesKnown : Type 0
TreesKnown =
    (es : List StoredRow)
    → (OfTree es → Lawful (rows_of es) × Stores (rows_of es) es)
    × ((rows : List Row) → Lawful rows → Stores rows es → OfTree es × (rows_of es ≡ rows))

-- one pass that finds the root and that each row fits decides it
abbrev pub PassDecides : Type 0
PassDecides = (es : List StoredRow) → Fitting es ↔ OfTree es
