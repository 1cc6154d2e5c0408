-- The query that a text is read as.
use Rattle.std.specs.Prelude.{ℕ, Bool, true, false, List}
use Rattle.grammar.specs.Syntax.{Path, first, child, element, plain}
use Rattle.grammar.specs.Machine.{Outcome, accepted, refused, outcome}

abbrev pub accepts : Outcome → Bool
accepts (accepted p) = true
accepts (refused k a) = false

-- the path of an accepted text; of a refused one, any
abbrev pub path_of : Outcome → Path
path_of (accepted p) = p
path_of (refused k a) = first false child element plain

unfoldable pub accepts_text : List ℕ → Bool
accepts_text bs = accepts (outcome bs)

unfoldable pub path_in : List ℕ → Path
path_in bs = path_of (outcome bs)
