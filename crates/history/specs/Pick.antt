-- Families that begin with one more.
use Rattle.std.specs.Prelude.{ℕ, zero, suc}

abbrev pub Pick : Type 0 → (ℕ → Type 0) → ℕ → Type 0
Pick A B zero = A
Pick A B (suc i) = B i

-- one more in front, of what a family has for each of its types: a value, a function to it, a join
abbrev pub picked : {A : Type 0} {B : ℕ → Type 0} (F : Type 0 → Type 0) → F A → ((i : ℕ) → F (B i)) → (i : ℕ) → F (Pick A B i)
picked F a b zero = a
picked F a b (suc i) = b i
