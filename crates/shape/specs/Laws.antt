-- How the parentheses of a tree show its rows.
use Rattle.std.specs.Prelude.{◌≡◌, ℕ, ◌+◌, ◌-◌, ◌*◌, ◌<◌, ◌≤◌, Bool, false, cond, List, [], ◌∷◌, ◌++◌, length, take, Some, None, slice_index, slice_index_or}
use Rattle.rows.specs.Rows.{Row, row, Lawful, count_of, depth_of}
use Rattle.rows.specs.Answers.{size_of, first_of, next_of}
use Rattle.shape.specs.Bits.{bits_of, openings}
use Rattle.shape.specs.Shape.{parens, closing, rows_from, labels_of}
use Rattle.shape.specs.Packing.{packed}
use Rattle.shape.specs.Matching.{Matches}

-- rows come back from their parentheses and labels, whatever the spare closings
abbrev pub RowsBack : Type 0
RowsBack = (rs : List Row) (s : ℕ) → Lawful rs → rows_from 0 (parens rs ++ closing s []) (labels_of rs) ≡ rs

-- n nodes have 2 n parentheses
abbrev pub TwoEach : Type 0
TwoEach = (rs : List Row) → Lawful rs → length (parens rs) ≡ 2 * count_of rs

-- where node v opens and closes: before its opening v nodes have opened and all but those above it have closed
abbrev pub opening_place : List Row → ℕ → ℕ
opening_place rs v = 2 * v - depth_of rs v

abbrev pub closing_place : List Row → ℕ → ℕ
closing_place rs v = opening_place rs v + (2 * size_of rs v - 1)

-- there stand the opening with v openings before it, and the closing that matches it
abbrev pub ParensPlaced : Type 0
ParensPlaced = (rs : List Row) (v : ℕ) → Lawful rs → v < count_of rs →
    (openings (take (opening_place rs v) (parens rs)) ≡ v) × Matches (parens rs) (opening_place rs v) (closing_place rs v)

-- the parenthesis after its opening opens its first child, that after its closing its next sibling
abbrev pub RelationsShown : Type 0
RelationsShown = (rs : List Row) (v : ℕ) → Lawful rs → v < count_of rs →
    (cond (slice_index_or (parens rs) (opening_place rs v + 1) false) (Some (v + 1)) None ≡ first_of rs v)
    × (cond (slice_index_or (parens rs) (closing_place rs v + 1) false) (Some (v + size_of rs v)) None ≡ next_of rs v)

-- bits that were packed come back from the bytes, with spare closings after them
abbrev pub BitsPacked : Type 0
BitsPacked = (n : ℕ) (bs : List Bool) → length bs ≤ 8 * n → (bits_of (packed n bs) ≡ bs ++ closing (8 * n - length bs) []) × ((i : ℕ) → slice_index (packed n bs) i < 256)

-- an example with labels 2 to 4 and a text: 2(3(4(text)) 3(3(4)) 4) below the root
abbrev pub example : List Row
example = row 0 0 ∷ row 1 2 ∷ row 2 3 ∷ row 3 4 ∷ row 4 1 ∷ row 2 3 ∷ row 3 3 ∷ row 4 4 ∷ row 2 4 ∷ []

-- it has the bytes F8h E2h 00h
abbrev pub ExamplePacked : Type 0
ExamplePacked = Lawful example × (packed 3 (parens example) ≡ 248 ∷ 226 ∷ 0 ∷ [])
