-- The number and the place of each refusal of a query text.
use Rattle.std.specs.Prelude.{ℕ, List, ◌++◌, codes}
use Rattle.std.specs.Fmt.{decimal}
use Rattle.query.specs.declared.fault.Fault.{Fault}
use Rattle.query.specs.declared.fault.Fault.TheVariants.{Long, NoToken, LongName, Syntax, Deep, Many}

abbrev pub code_of : Fault → ℕ
code_of Long = 1
code_of (NoToken p) = 2
code_of (LongName p) = 3
code_of (Syntax p) = 4
code_of (Deep p) = 5
code_of (Many p) = 6

abbrev pub place_of : Fault → ℕ
place_of Long = 512
place_of (NoToken p) = p
place_of (LongName p) = p
place_of (Syntax p) = p
place_of (Deep p) = p
place_of (Many p) = p

-- the line that tells of a refusal
abbrev pub line_of : Fault → List ℕ
line_of f = codes "refused " ++ decimal (code_of f) ++ codes " at " ++ decimal (place_of f)
