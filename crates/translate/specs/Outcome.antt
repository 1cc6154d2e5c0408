-- What translating does: from a buffer `out` to `end`.
use Rattle.std.specs.Prelude.{◌≡◌, ℕ, ◌<◌, ◌≤◌, List, length, take, drop, Ok, Err, Result}
use Rattle.grammar.specs.Syntax.{Path}
use Rattle.query.specs.declared.parsed.Query.{Query}
use Rattle.query.specs.Reads.{path_in}
use Rattle.selection.specs.Selects.{Store}
use Rattle.translation.specs.Translation.{Translation}
use Rattle.translate.specs.declared.fault.Fault.{Fault}
use Rattle.translate.specs.declared.fault.Fault.TheVariants.{Memory}

-- the text of a query, and its path
abbrev pub text_in : Query → List ℕ
text_in q = take q.len q.text

abbrev pub path : Query → Path
path q = path_in (text_in q)

-- n bytes are a translation, and those after them are as before
pub record Granted (names : Store) (q : Query) (out end : List ℕ) (n : ℕ) : Type 0 where
  pub few : n ≤ 2048
  pub translation : Translation names (path q) (take n end)
  pub rest : drop n end ≡ drop n out

-- Refused, the buffer is too small and as before.
abbrev pub Translated : Store → Query → List ℕ → List ℕ → Result ℕ Fault → Type 0
Translated names q out end (Ok n) = (2048 ≤ length out) × Granted names q out end n
Translated names q out end (Err f) = (length out < 2048) × (end ≡ out) × (f ≡ Memory)
