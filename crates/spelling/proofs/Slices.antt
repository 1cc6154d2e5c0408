-- A part of a part of a list.
use Rattle.std.proofs.Common.{◌≡◌, ℕ, zero, suc, ◌+◌, ◌≤◌, List, [], ◌∷◌, length, take, drop, refl, ap, arith}

pub slice : (k m n : ℕ) (t : List ℕ) → k + m ≤ length (take n t) → take m (drop k (take n t)) ≡ take m (drop k t)
slice k m zero [] h = refl
slice k m (suc n) [] h = refl
slice zero zero zero (x ∷ xs) h = refl
slice zero (suc m) zero (x ∷ xs) h = absurd (omega arith)
slice (suc k) m zero (x ∷ xs) h = absurd (omega arith)
slice zero zero (suc n) (x ∷ xs) h = refl
slice zero (suc m) (suc n) (x ∷ xs) h = ap (λ l. x ∷ l) (slice zero m n xs (omega arith))
slice (suc k) m (suc n) (x ∷ xs) h = slice k m n xs (omega arith)
