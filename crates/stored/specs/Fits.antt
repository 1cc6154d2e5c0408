-- What one pass over stored rows tests.
use Rattle.std.specs.Prelude.{◌≡◌, ℕ, ◌+◌, ◌-◌, ◌<◌, ◌≤◌, List, length}
use Rattle.stored.specs.declared.row.StoredRow.{StoredRow}
use Rattle.stored.specs.Stored.{at}

-- the subtrees that begin between p and v have ended at v
abbrev pub Ended : List StoredRow → ℕ → ℕ → Type 0
Ended es p v = (j : ℕ) → p < j → j < v → j + (at es j).size ≤ v

-- v's parent, by v's distance
abbrev pub parent_of : List StoredRow → ℕ → ℕ
parent_of es v = v - (at es v).distance

-- row v fits to those before it: a text or an element, below a node that is no text, whose subtree it stays within
pub record Fits (es : List StoredRow) (v : ℕ) : Type 0 where
  pub low_label : 1 ≤ (at es v).label
  pub high_label : (at es v).label ≤ 513
  pub some : 1 ≤ (at es v).size
  pub back : 1 ≤ (at es v).distance
  pub before : (at es v).distance ≤ v
  pub no_text : (at es (parent_of es v)).label ≡ 1 → ⊥
  pub within : v + (at es v).size ≤ parent_of es v + (at es (parent_of es v)).size
  pub ended : Ended es (parent_of es v) v

-- the root, and a row for each other node that fits
pub record Fitting (es : List StoredRow) : Type 0 where
  pub some : 0 < length es
  pub few : length es ≤ 8192
  pub root_label : (at es 0).label ≡ 0
  pub root_distance : (at es 0).distance ≡ 0
  pub root_size : (at es 0).size ≡ length es
  pub fits : (v : ℕ) → 0 < v → v < length es → Fits es v
