-- The words of the language.
use Rattle.std.proofs.Common.{◌≡◌, ℕ, Bool, true, false, eqb, List, [], ◌∷◌, refl, ap, ◌∙◌, arith}
use Rattle.std.proofs.lemmas.Bool.{eqb-true, eq-eqb, and_parts, and_from, cond_both}
use Rattle.grammar.specs.Syntax.{Axis, self, child, descendant, following_sibling, axis_word, text_word, node_word, or_word, and_word}
use Rattle.grammar.specs.Machine.{same, AsAxis, is, axis_of_word, AsTest, istext, isnode, test_of, AsJoin, isor, isand, join_of}

pub same_true : (a b : List ℕ) → same a b ≡ true → a ≡ b
same_true [] [] h = refl
same_true [] (y ∷ ys) h = let z : ◌≡◌ {A = ℕ} 0 1 = cc in absurd (omega arith)
same_true (x ∷ xs) [] h = let z : ◌≡◌ {A = ℕ} 0 1 = cc in absurd (omega arith)
same_true (x ∷ xs) (y ∷ ys) h =
    let p = and_parts (eqb x y) (same xs ys) h in
    ap (λ z. z ∷ xs) (eqb-true x y p.0) ∙ ap (λ z. y ∷ z) (same_true xs ys p.1)

pub same_self : (a : List ℕ) → same a a ≡ true
same_self [] = refl
same_self (x ∷ xs) = and_from (eqb x x) (same xs xs) (eq-eqb x x refl) (same_self xs)

pub by_test : (b : Bool) (P : Bool → Type 0) → (b ≡ true → P true) → (b ≡ false → P false) → P b
by_test true P f g = f refl
by_test false P f g = g refl

pub by_axis : (w : List ℕ) (P : AsAxis → Type 0) → ((v : Axis) → w ≡ axis_word v → P (is v)) → P AsAxis.isnt → P (axis_of_word w)
by_axis w P f g =
    cond_both (same w (axis_word self)) _ _ P (λ e. f self (same_true w (axis_word self) e)) (λ _.
    cond_both (same w (axis_word child)) _ _ P (λ e. f child (same_true w (axis_word child) e)) (λ _.
    cond_both (same w (axis_word descendant)) _ _ P (λ e. f descendant (same_true w (axis_word descendant) e)) (λ _.
    cond_both (same w (axis_word following_sibling)) _ _ P (λ e. f following_sibling (same_true w (axis_word following_sibling) e)) (λ _. g))))

pub by_type : (w : List ℕ) (P : AsTest → Type 0) → (w ≡ text_word → P istext) → (w ≡ node_word → P isnode) → P AsTest.isnt → P (test_of w)
by_type w P f g n =
    cond_both (same w text_word) _ _ P (λ e. f (same_true w text_word e)) (λ _.
    cond_both (same w node_word) _ _ P (λ e. g (same_true w node_word e)) (λ _. n))

pub by_join : (w : List ℕ) (P : AsJoin → Type 0) → (w ≡ or_word → P isor) → (w ≡ and_word → P isand) → P AsJoin.isnt → P (join_of w)
by_join w P f g n =
    cond_both (same w or_word) _ _ P (λ e. f (same_true w or_word e)) (λ _.
    cond_both (same w and_word) _ _ P (λ e. g (same_true w and_word e)) (λ _. n))

pub axis_of : (v : Axis) (w : List ℕ) → w ≡ axis_word v → axis_of_word w ≡ is v
axis_of self w e = ap axis_of_word e
axis_of child w e = ap axis_of_word e
axis_of descendant w e = ap axis_of_word e
axis_of following_sibling w e = ap axis_of_word e
