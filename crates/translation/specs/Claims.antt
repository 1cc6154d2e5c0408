-- What is proved of tables.
use Rattle.std.specs.Prelude.{◌≡◌, ℕ, List}
use Rattle.grammar.specs.Syntax.{Path}
use Rattle.query.specs.declared.table.Table.{Table}
use Rattle.query.specs.Shown.{Shows}
use Rattle.selection.specs.Selects.{Store}
use Rattle.selection.specs.Limits.{Limited}
use Rattle.selection.specs.Translate.{translate}
use Rattle.translation.specs.Table.{program_of, Good}
use Rattle.translation.specs.Translation.{Translation}

-- The rows of a table that shows a query within the limits say the query's program.
abbrev pub SaysProgram : Type 0
SaysProgram =
    (names : Store) (bs : List ℕ) (q : Table) (p : Path) → Shows bs q p → Limited p
    → Good bs q × (program_of names bs q ≡ translate names p)

-- Every query within the limits has a translation.
abbrev pub SomeTranslation : Type 0
SomeTranslation = (names : Store) (p : Path) → Limited p → (bs : List ℕ) × Translation names p bs
