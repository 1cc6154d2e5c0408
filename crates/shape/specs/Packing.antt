-- Bits as bytes, high bits first.
use Rattle.std.specs.Prelude.{ℕ, zero, suc, ◌+◌, ◌*◌, Bool, true, false, List, [], ◌∷◌, drop, slice_index_or}

abbrev pub digit : Bool → ℕ
digit true = 1
digit false = 0

-- the byte of the first eight bits, with 0 for those that are missing
abbrev pub byte_of : List Bool → ℕ
byte_of bs = 128 * digit (slice_index_or bs 0 false) + 64 * digit (slice_index_or bs 1 false) + 32 * digit (slice_index_or bs 2 false) + 16 * digit (slice_index_or bs 3 false)
    + 8 * digit (slice_index_or bs 4 false) + 4 * digit (slice_index_or bs 5 false) + 2 * digit (slice_index_or bs 6 false) + digit (slice_index_or bs 7 false)

-- n bytes of bits, the spare ones 0
abbrev pub packed : ℕ → List Bool → List ℕ
packed zero bs = []
packed (suc n) bs = byte_of bs ∷ packed n (drop 8 bs)
