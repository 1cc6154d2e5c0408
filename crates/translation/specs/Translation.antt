-- What a translation of a query is.
use Rattle.std.specs.Prelude.{ℕ, List}
use Rattle.grammar.specs.Syntax.{Path}
use Rattle.automata.specs.Program.{Program}
use Rattle.commands.specs.Denotes.{Denotes}
use Rattle.selection.specs.Selects.{Store}
use Rattle.selection.specs.Claims.{Means}

-- The bytes are of a program that keeps the rules and that marks, in every tree, exactly the nodes that the query selects there.
abbrev pub Translation : Store → Path → List ℕ → Type 0
Translation names q bs = (P : Program) × Denotes bs P × Means names q P
