-- The excess over a stretch of parentheses.
use Rattle.std.specs.Prelude.{ℕ, ◌-◌, Bool, List, [], ◌∷◌, take, drop, ℤ, ◌+ℤ◌}
use Rattle.std.specs.Int.{int_min}
use Rattle.excess.specs.Excess.{step}

-- the bits from the place p up to the place q
abbrev pub stretch : List Bool → ℕ → ℕ → List Bool
stretch bs p q = take (q - p) (drop p bs)

-- the least of l and of each excess on the way, from the excess e
abbrev pub low : ℤ → ℤ → List Bool → ℤ
low e l [] = l
low e l (b ∷ bs) = low (e +ℤ step b) (int_min l (e +ℤ step b)) bs
