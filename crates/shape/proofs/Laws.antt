-- The laws of the parentheses of a tree.
use Rattle.std.proofs.Common.{◌≡◌, ℕ, zero, suc, ◌+◌, ◌<◌, Bool, true, false, cond, List, [], ◌∷◌, length, get_or, take, drop, Some, None, sym, refl, ap, ◌∙◌, subst, arith}
use Rattle.rows.specs.Rows.{Row}
use Rattle.rows.specs.Answers.{size_of}
use Rattle.rows.specs.Lawful.{IsLawful}
use Rattle.rows.proofs.Laws.{of_lawful, to_lawful}
use Rattle.shape.specs.Bits.{openings, select, close}
use Rattle.shape.specs.Shape.{closing, parens, rows_from, labels_of}
use Rattle.shape.specs.Matching.{Matches}
use Rattle.shape.specs.Laws.{RowsBack, TwoEach, opening_place, closing_place, ParensPlaced, RelationsShown, BitsPacked, example, ExamplePacked}
use Rattle.shape.proofs.Answers.{lawful_stepped}
use Rattle.shape.proofs.Lawful.{rows_back, parens_length, parens_append}
use Rattle.shape.proofs.Nodes.{opening_within, opening_told, opening_opens, closing_within, closing_told, first_is, next_is}
use Rattle.shape.proofs.Matching.{matches}
use Rattle.shape.proofs.Packed.{bits_packed, packed_small}

pub rows_back_law : RowsBack
rows_back_law rs s l = ap (λ (b : List Bool). rows_from 0 b (labels_of rs)) (sym (parens_append 0 rs (closing s []))) ∙ rows_back 0 s rs (lawful_stepped rs (of_lawful rs l))

pub two_each : TwoEach
two_each rs l = parens_length 0 rs [] (lawful_stepped rs (of_lawful rs l)) ∙ omega arith

-- the openings before the opening that was looked for
before_opening : (v : ℕ) (bs : List Bool) → select v bs < length bs → openings (take (select v bs) bs) ≡ v
before_opening v [] h = absurd (omega arith)
before_opening zero (true ∷ bs) h = refl
before_opening (suc v) (true ∷ bs) h = ap suc (before_opening v bs (omega arith))
before_opening zero (false ∷ bs) h = before_opening zero bs (omega arith)
before_opening (suc v) (false ∷ bs) h = before_opening (suc v) bs (omega arith)

-- where a node's parentheses are, for bits that are the parentheses of rows and then t
module _ (rs : List Row) (law : IsLawful rs) (v : ℕ) (node : v < length rs) where
  pub opening_is : opening_place rs v ≡ select v (parens rs)
  opening_is = sym (opening_told (parens rs) rs [] refl law v node)

  closing_is : closing_place rs v ≡ select v (parens rs) + 1 + close 0 (drop (select v (parens rs) + 1) (parens rs))
  closing_is =
      let o = opening_is in
      let c = closing_told (parens rs) rs [] refl law v node in
      omega arith

  placed : (openings (take (opening_place rs v) (parens rs)) ≡ v) × Matches (parens rs) (opening_place rs v) (closing_place rs v)
  placed =
      let o = opening_is in
      let within = opening_within (parens rs) rs [] refl law v node in
      let m = matches (parens rs) (select v (parens rs)) (closing_place rs v) within (opening_opens (parens rs) rs [] refl law v node) (closing_within (parens rs) rs [] refl law v node) closing_is in (
        ap (λ (p : ℕ). openings (take p (parens rs))) o ∙ before_opening v (parens rs) within,
        subst (λ (p : ℕ). Matches (parens rs) p (closing_place rs v)) (sym o) m,
      )

pub parens_placed : ParensPlaced
parens_placed rs v law node = placed rs (of_lawful rs law) v node

pub relations_shown : RelationsShown
relations_shown rs v law node =
    let l = of_lawful rs law in
    let bs = parens rs in
    let z : closing_place rs v + 1 ≡ select v bs + 1 + (close 0 (drop (select v bs + 1) bs) + 1) = omega (arith, closing_is rs l v node) in (
      ap (λ (p : ℕ). cond (get_or bs (p + 1) false) (Some (v + 1)) None) (opening_is rs l v node) ∙ first_is bs rs [] refl l v node,
      ap (λ (i : ℕ). cond (get_or bs i false) (Some (v + size_of rs v)) None) z ∙ next_is bs rs [] refl l v node refl,
    )

pub bits_packed_law : BitsPacked
bits_packed_law n bs h = (bits_packed n bs h, packed_small n bs)

pub example_packed : ExamplePacked
example_packed = (to_lawful example refl, refl)
