-- When stored rows are loaded.
use Rattle.std.specs.Prelude.{◌≡◌, List, Ok, Err, Result}
use Rattle.tree.specs.declared.fault.Fault.{Fault}
use Rattle.tree.specs.declared.fault.Fault.TheVariants.{NoTree}
use Rattle.stored.specs.declared.row.StoredRow.{StoredRow}
use Rattle.stored.specs.Stored.{OfTree}

-- granted exactly where they are those of a tree
abbrev pub Loads : List StoredRow → Result (Unit {0}) Fault → Type 0
Loads es (Ok u) = OfTree es
Loads es (Err f) = (f ≡ NoTree) × (OfTree es → ⊥)
