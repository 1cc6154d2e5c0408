-- Excess of parentheses: openings minus closings.
use Rattle.std.specs.Prelude.{ℕ, zero, suc, ◌/◌, ◌%◌, ◌^◌, Bool, true, false, List, [], ◌∷◌, ℤ, pos, negsuc, ◌+ℤ◌, ◌==◌}
use Rattle.std.specs.Int.{int_min}

-- the low n bits of a number, high bits first
abbrev pub bits : ℕ → ℕ → List Bool
bits zero b = []
bits (suc n) b = (b / 2 ^ n % 2 == 1) ∷ bits n b

-- 1 for an opening, -1 for a closing
abbrev pub step : Bool → ℤ
step true = pos 1
step false = negsuc 0

abbrev pub total_bits : List Bool → ℤ
total_bits [] = pos 0
total_bits (b ∷ bs) = step b +ℤ total_bits bs

-- the least over the prefixes of one bit or more
abbrev pub least_bits : List Bool → ℤ
least_bits [] = pos 0
least_bits (b ∷ bs) = step b +ℤ int_min (pos 0) (least_bits bs)

unfoldable pub total_of : ℕ → ℤ
total_of b = total_bits (bits 8 b)

unfoldable pub least_of : ℕ → ℤ
least_of b = least_bits (bits 8 b)
