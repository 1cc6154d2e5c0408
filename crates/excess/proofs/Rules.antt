-- A rule of a table of signed numbers, proved at all of its entries by one test that antt computes.
use Rattle.std.proofs.Common.{◌≡◌, ℕ, zero, suc, ◌+◌, ◌<◌, Bool, true, false, ◌&&◌, eqb, List, [], ◌∷◌, length, get_or, ℤ, pos, negsuc, sym, ap, ◌∙◌, add-zero, add-suc, suc-add, zero-add, arith, w8, to_z, of_z}
use Rattle.std.proofs.lemmas.Bool.{and_parts, eqb-true}

abbrev pub eq_z : ℤ → ℤ → Bool
eq_z (pos a) (pos b) = eqb a b
eq_z (pos a) (negsuc b) = false
eq_z (negsuc a) (pos b) = false
eq_z (negsuc a) (negsuc b) = eqb a b

pub eq_z_true : (x y : ℤ) → eq_z x y ≡ true → x ≡ y
eq_z_true (pos a) (pos b) e = ap pos (eqb-true a b e)
eq_z_true (pos a) (negsuc b) e = let z : ◌≡◌ {A = ℕ} 0 1 = cc in absurd (omega arith)
eq_z_true (negsuc a) (pos b) e = let z : ◌≡◌ {A = ℕ} 0 1 = cc in absurd (omega arith)
eq_z_true (negsuc a) (negsuc b) e = ap negsuc (eqb-true a b e)

-- the rule f gives each entry, as a signed byte, counted from i
abbrev pub every : (ℕ → ℤ) → ℕ → List ℤ → Bool
every f i [] = true
every f i (x ∷ xs) = eq_z (to_z w8 (of_z w8 x)) (f i) && every f (suc i) xs

from : (f : ℕ → ℤ) (xs : List ℤ) (i : ℕ) → every f i xs ≡ true → (k : ℕ) → k < length xs → to_z w8 (of_z w8 (get_or xs k (pos 0))) ≡ f (i + k)
from f [] i t k h = absurd (omega arith)
from f (x ∷ xs) i t zero h = eq_z_true _ _ (and_parts _ _ t).0 ∙ ap f (sym (add-zero i))
from f (x ∷ xs) i t (suc k) h = from f xs (suc i) (and_parts _ _ t).1 k (omega arith) ∙ ap f (suc-add i k ∙ sym (add-suc i k))

pub at : (f : ℕ → ℤ) (k : ℕ) (xs : List ℤ) → k < 256 → length xs ≡ 256 → every f 0 xs ≡ true → to_z w8 (of_z w8 (get_or xs k (pos 0))) ≡ f k
at f k xs h n t = from f xs 0 t k (omega arith) ∙ ap f (zero-add k)
