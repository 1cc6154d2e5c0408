-- The text of a query and what it is read as.
use Rattle.std.specs.Prelude.{ℕ, List, take}
use Rattle.grammar.specs.Syntax.{Path}
use Rattle.query.specs.Reads.{path_in}
use Rattle.query.specs.declared.parsed.Query.{Query}

abbrev pub text_of : Query → List ℕ
text_of q = take q.len q.text

abbrev pub query_of : Query → Path
query_of q = path_in (take q.len q.text)
