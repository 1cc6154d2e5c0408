-- What is proved of the programs of queries.
use Rattle.std.specs.Prelude.{◌≡◌, ℕ, ◌↔◌, List}
use Rattle.rows.specs.Rows.{Row, Lawful}
use Rattle.grammar.specs.Syntax.{Path}
use Rattle.grammar.specs.Machine.{outcome, accepted}
use Rattle.automata.specs.Program.{Program, Decisions, Right, Marked, Marks, Proper}
use Rattle.selection.specs.Selects.{Store, Selects}
use Rattle.selection.specs.Limits.{Limited}
use Rattle.selection.specs.Translate.{translate}

-- the program marks, in every tree, exactly the nodes that the query selects there
abbrev pub Means : Store → Path → Program → Type 0
Means names q P = (rows : List Row) → Lawful rows → (v : ℕ) → Marks P rows v ↔ Selects names q rows v

-- Where the deciding states of a query's program hold as their formulas say, the program marks exactly the nodes that the query selects.
abbrev pub MarksSelected : Type 0
MarksSelected =
    (names : Store) (q : Path) (rows : List Row) → Lawful rows → (D : Decisions) → Right (translate names q).deciding D rows
    → (v : ℕ) → Marked (translate names q) D rows v ↔ Selects names q rows v

-- The program of a query marks exactly the nodes that the query selects.
abbrev pub Translates : Type 0
Translates = (names : Store) (q : Path) → Means names q (translate names q)

-- An accepted query keeps the limits.
abbrev pub AcceptedLimited : Type 0
AcceptedLimited = (bs : List ℕ) (q : Path) → outcome bs ≡ accepted q → Limited q

-- A query that keeps the limits has a translation that keeps the rules for programs.
abbrev pub TranslationsFit : Type 0
TranslationsFit = (names : Store) (q : Path) → Limited q → Proper (translate names q)
