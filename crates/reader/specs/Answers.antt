-- The answer to a text: the query that it is read as, or the code and place of a refusal.
use Rattle.std.specs.Prelude.{◌≡◌, ℕ, List, Ok, Err, Result}
use Rattle.grammar.specs.Machine.{outcome, accepted, refused}
use Rattle.query.specs.declared.fault.Fault.{Fault}
use Rattle.query.specs.declared.parsed.Query.{Query}
use Rattle.grammar.specs.Syntax.{Path}
use Rattle.query.specs.declared.table.Table.{Table}
use Rattle.query.specs.Shown.{Shows}
use Rattle.query.specs.Faults.{code_of, place_of}
use Rattle.query.specs.Queries.{text_of, query_of}

abbrev pub Answers : List ℕ → Result Query Fault → Type 0
Answers bs (Ok q) = (text_of q ≡ bs) × (outcome bs ≡ accepted (query_of q))
Answers bs (Err f) = outcome bs ≡ refused (code_of f) (place_of f)

-- the table of the query that a text is read as
abbrev pub Parsed : List ℕ → Result Table Fault → Type 0
Parsed bs (Ok t) = (x : Path) × Shows bs t x × (outcome bs ≡ accepted x)
Parsed bs (Err f) = outcome bs ≡ refused (code_of f) (place_of f)
