-- Parentheses that match.
use Rattle.std.specs.Prelude.{◌≡◌, ℕ, ◌+◌, ◌<◌, ◌≤◌, Bool, true, false, List, length, pos, ◌≤ℤ◌, slice_index_or}
use Rattle.excess.specs.Excess.{total_bits}
use Rattle.shape.specs.Stretch.{stretch}

-- the parenthesis at the place p opens, that at q closes, and q is the first place after which as many have closed as opened since p
pub record Matches (bs : List Bool) (p q : ℕ) : Type 0 where
  pub order : p < q
  pub within : q < length bs
  pub opens : slice_index_or bs p false ≡ true
  pub closes : slice_index_or bs q true ≡ false
  pub level : total_bits (stretch bs p (q + 1)) ≡ pos 0
  pub inside : (k : ℕ) → p < k → k ≤ q → pos 1 ≤ℤ total_bits (stretch bs p k)
