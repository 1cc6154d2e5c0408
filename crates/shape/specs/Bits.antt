-- Parentheses as bits: true opens a node, false closes one.
use Rattle.std.specs.Prelude.{ℕ, zero, suc, ◌+◌, Bool, true, false, List, [], ◌∷◌, ◌++◌, drop}
use Rattle.excess.specs.Excess.{bits}

-- the bits of bytes, high bits first
abbrev pub bits_of : List ℕ → List Bool
bits_of [] = []
bits_of (b ∷ bs) = bits 8 b ++ bits_of bs

-- how many open
abbrev pub openings : List Bool → ℕ
openings [] = 0
openings (true ∷ bs) = suc (openings bs)
openings (false ∷ bs) = openings bs

-- of a byte
unfoldable pub openings_of : ℕ → ℕ
openings_of b = openings (bits 8 b)

-- the place of the opening that has v openings before it; the length where there is none
abbrev pub select : ℕ → List Bool → ℕ
select v [] = 0
select zero (true ∷ bs) = 0
select (suc v) (true ∷ bs) = suc (select v bs)
select v (false ∷ bs) = suc (select v bs)

-- the place of the closing that brings the excess e below 0; the length where there is none
abbrev pub close : ℕ → List Bool → ℕ
close e [] = 0
close e (true ∷ bs) = suc (close (suc e) bs)
close zero (false ∷ bs) = 0
close (suc e) (false ∷ bs) = suc (close e bs)

-- the same from the place p on
abbrev pub next_opening : List Bool → ℕ → ℕ → ℕ
next_opening bs p v = p + select v (drop p bs)

abbrev pub next_closing : List Bool → ℕ → ℕ → ℕ
next_closing bs p e = p + close e (drop p bs)
