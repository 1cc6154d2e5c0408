-- The answer to a query: the length of its spelling, or a refusal; and what the lent memory has then.
use Rattle.std.specs.Prelude.{◌≡◌, ℕ, ◌<◌, List, ◌++◌, length, drop, Ok, Err, Result, codes}
use Rattle.grammar.specs.Syntax.{Path}
use Rattle.grammar.specs.Spelling.{spell}
use Rattle.spelling.specs.declared.parts.Fault.{Fault}
use Rattle.spelling.specs.declared.parts.Fault.TheVariants.{Memory}

abbrev pub code_of : Fault → ℕ
code_of Memory = 11

-- what tells of a refusal
abbrev pub line_of : Fault → List ℕ
line_of Memory = codes "the memory is too small"

abbrev pub Written : Path → ℕ → List ℕ → List ℕ → Type 0
Written p n o m = (n ≡ length (spell p)) × (m ≡ spell p ++ drop n o)

abbrev pub Spelt : Path → Result ℕ Fault → List ℕ → List ℕ → Type 0
Spelt p (Ok n) o m = Written p n o m
Spelt p (Err f) o m = (length o < 512) × (f ≡ Memory) × (m ≡ o)
