-- A word that `==` tells from another.
use Rattle.std.proofs.Common.{◌≡◌, ℕ, Bool, false, eqb, List, [], ◌∷◌, refl, sym, ap, ◌∙◌, ◌&&◌}
use Rattle.std.specs.Cmp.Lexicographic.{pointwise}
use Rattle.grammar.specs.Machine.{same}

same_pointwise : (w z : List ℕ) → same w z ≡ pointwise eqb w z
same_pointwise [] [] = refl
same_pointwise [] (y ∷ ys) = refl
same_pointwise (x ∷ xs) [] = refl
same_pointwise (x ∷ xs) (y ∷ ys) = ap (λ b. eqb x y && b) (same_pointwise xs ys)

pub other : {y : List ℕ} {r : Bool} (w z : List ℕ) → y ≡ z → r ≡ pointwise eqb w y → r ≡ false → same w z ≡ false
other w z e h f = same_pointwise w z ∙ ap (pointwise eqb w) (sym e) ∙ sym h ∙ f
