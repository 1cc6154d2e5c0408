-- What the bytes written so far and the tokens to come make.
use Rattle.std.specs.Prelude.{◌≡◌, ℕ, ◌+◌, ◌≤◌, Bool, true, false, List, [], ◌∷◌, ◌++◌, length, take}
use Rattle.grammar.specs.Tokens.{Token, symbol, word}
use Rattle.grammar.specs.Spelling.{glyph}
use Rattle.spelling.specs.declared.writer.Writer.{Writer}

-- the tokens, after a word or not
abbrev pub gapped : Bool → List Token → List ℕ
gapped b [] = []
gapped b (symbol s ∷ ts) = glyph s ++ gapped false ts
gapped true (word w ∷ ts) = 32 ∷ (w ++ gapped true ts)
gapped false (word w ∷ ts) = w ++ gapped true ts

abbrev pub total : Writer → List Token → List ℕ
total v us = take v.len v.bytes ++ gapped v.word us

-- what f puts before the tokens to come has been written, where there is room
abbrev pub Emits : (List Token → List Token) → Writer → Writer → Type 0
Emits f v w = (us : List Token) → length (total v (f us)) ≤ 512 → total v (f us) ≡ total w us

-- the bytes bs have been written, where there is room
abbrev pub Puts : List ℕ → Writer → Writer → Type 0
Puts bs v w = (v.len + length bs ≤ 512 → (w.len ≡ v.len + length bs) × (take w.len w.bytes ≡ take v.len v.bytes ++ bs)) × (w.word ≡ v.word)

abbrev pub gap_of : Bool → List ℕ
gap_of true = 32 ∷ []
gap_of false = []
