-- The five answers about a node of a lawful tree, by the places of its parentheses.
use Rattle.std.proofs.Common.{◌≡◌, ℕ, zero, suc, ◌+◌, ◌-◌, ◌*◌, ◌/◌, ◌<◌, ◌≤◌, Bool, true, false, cond, List, [], ◌∷◌, length, get_or, drop, Some, None, sym, refl, ap, ◌∙◌, subst, arith, length-drop}
use Rattle.std.proofs.lemmas.List.{get_or-drop}
use Rattle.rows.specs.Rows.{Row, nobody}
use Rattle.rows.specs.Answers.{run, size_here, size_of, first_here, first_of, next_here, next_of}
use Rattle.rows.specs.Lawful.{IsLawful}
use Rattle.std.proofs.lemmas.Bool.Decides.{nat_tests}
use Rattle.shape.proofs.Lists.{drop_tail}
use Rattle.shape.proofs.Lawful.{parens_length}
use Rattle.shape.specs.Bits.{select, close}
use Rattle.shape.specs.Shape.{parens_onto}
use Rattle.shape.specs.Laws.{opening_place}
use Rattle.shape.proofs.Answers.{Stepped, lawful_stepped, select_closing, opening_drop, close_run, after_run, first_told, next_told}

-- the row of a node, and those after it
pub record Found (rs : List Row) (v : ℕ) : Type 0 where
  pub r : Row
  pub qs : List Row
  pub place : drop v rs ≡ r ∷ qs

pub found : (rs : List Row) (v : ℕ) → v < length rs → Found rs v
found [] v h = absurd (omega arith)
found (r ∷ rs) zero h = record { r = r; qs = rs; place = refl }
found (r ∷ rs) (suc v) h = let f = found rs v (omega arith) in record { r = f.r; qs = f.qs; place = f.place }

stepped_drop : (k v : ℕ) (rs : List Row) (r : Row) (qs : List Row) → Stepped k rs → drop v rs ≡ r ∷ qs → Stepped (suc r.depth) qs
stepped_drop k zero [] r qs s e = absurd (omega (arith, ap length e))
stepped_drop k (suc v) [] r qs s e = absurd (omega (arith, ap length e))
stepped_drop k zero (x ∷ xs) r qs s e =
    let a : x ≡ r = cc in
    let c : xs ≡ qs = cc in
    subst (λ (ys : List Row). Stepped (suc r.depth) ys) c (subst (λ (y : Row). Stepped (suc y.depth) xs) a s.1)
stepped_drop k (suc v) (x ∷ xs) r qs s e = stepped_drop (suc x.depth) v xs r qs s.1 e

opening_depth : (k v : ℕ) (rs : List Row) (t : List Bool) (r : Row) (qs : List Row) → Stepped k rs → drop v rs ≡ r ∷ qs → select v (parens_onto k rs t) + r.depth ≡ 2 * v + k
opening_depth k zero [] t r qs s e = absurd (omega (arith, ap length e))
opening_depth k (suc v) [] t r qs s e = absurd (omega (arith, ap length e))
opening_depth k zero (x ∷ xs) t r qs s e =
    let a : x ≡ r = cc in
    let d = ap (λ (y : Row). y.depth) a in
    let le = s.0 in
    omega (arith, select_closing (k - x.depth) 0 (true ∷ parens_onto (suc x.depth) xs t))
opening_depth k (suc v) (x ∷ xs) t r qs s e =
    let le = s.0 in
    let ih = opening_depth (suc x.depth) v xs t r qs s.1 e in
    omega (arith, select_closing (k - x.depth) (suc v) (true ∷ parens_onto (suc x.depth) xs t))

run_length : (d : ℕ) (qs : List Row) → run d qs ≤ length qs
run_length d [] = omega arith
run_length d (r ∷ qs) = let ih = run_length d qs in grind (arith, nat_tests)

-- bs are the parentheses of rows, then t, which opens no node at its start; v is a node
module _ (bs : List Bool) (rs : List Row) (t : List Bool) (is : bs ≡ parens_onto 0 rs t) (law : IsLawful rs) (v : ℕ) (node : v < length rs) where
  f : Found rs v
  f = found rs v node

  d : ℕ
  d = f.r.depth

  after : List Bool
  after = parens_onto (suc d) f.qs t

  steps : Stepped (suc d) f.qs
  unfolding d
  steps = stepped_drop 0 v rs f.r f.qs (lawful_stepped rs law) f.place

  here : drop (select v bs) bs ≡ true ∷ after
  unfolding after d
  here = ap (λ (x : List Bool). drop (select v x) x) is ∙ opening_drop 0 v rs t f.r f.qs f.place ∙ refl

  next : drop (select v bs + 1) bs ≡ after
  next = drop_tail bs (select v bs) true after here

  pub opening_within : select v bs < length bs
  opening_within = omega (arith, length-drop (select v bs) bs, ap length here)

  pub opening_opens : get_or bs (select v bs) false ≡ true
  opening_opens = ap (λ (i : ℕ). get_or bs i false) (omega arith) ∙ sym (get_or-drop (select v bs) bs 0 false) ∙ ap (λ (x : List Bool). get_or x 0 false) here

  pub opening_told : select v bs ≡ opening_place rs v
  opening_told =
      let z : v ≡ v + 0 = omega arith in
      let row_is : get_or rs v nobody ≡ f.r = ap (λ (i : ℕ). get_or rs i nobody) z ∙ sym (get_or-drop v rs 0 nobody) ∙ ap (λ (l : List Row). get_or l 0 nobody) f.place in
      let o = opening_depth 0 v rs t f.r f.qs (lawful_stepped rs law) f.place in
      let e = ap (λ (r : Row). r.depth) row_is in
      let b = ap (select v) is in
      omega arith

  close_is : close 0 (drop (select v bs + 1) bs) ≡ 2 * run d f.qs
  unfolding after
  close_is = ap (close 0) next ∙ close_run (suc d) d 0 f.qs t (omega arith) steps ∙ omega arith

  pub closing_within : close 0 (drop (select v bs + 1) bs) < length (drop (select v bs + 1) bs)
  unfolding after
  closing_within =
      let c = close_is in
      let long = parens_length (suc d) f.qs t steps in
      let few = run_length d f.qs in
      omega (arith, ap length next)

  pub closing_told : close 0 (drop (select v bs + 1) bs) + 2 ≡ 2 * size_of rs v
  unfolding d
  closing_told =
      let s : size_of rs v ≡ suc (run f.r.depth f.qs) = ap size_here f.place in
      let c = close_is in
      omega arith

  pub size_told : (2 + close 0 (drop (select v bs + 1) bs)) / 2 ≡ size_of rs v
  unfolding d
  size_told =
      let s : size_of rs v ≡ suc (run f.r.depth f.qs) = ap size_here f.place in
      let c = close_is in
      omega arith

  pub first_is : cond (get_or bs (select v bs + 1) false) (Some (v + 1)) None ≡ first_of rs v
  unfolding d after
  first_is =
      let z : select v bs + 1 ≡ select v bs + 1 + 0 = omega arith in
      let b : get_or bs (select v bs + 1) false ≡ get_or (parens_onto (suc f.r.depth) f.qs t) 0 false = ap (λ (i : ℕ). get_or bs i false) z ∙ sym (get_or-drop (select v bs + 1) bs 0 false) ∙ ap (λ (x : List Bool). get_or x 0 false) next in
      ap (λ (x : Bool). cond x (Some (v + 1)) None) b ∙ first_told (v + 1) f.r.depth f.qs t steps ∙ sym (ap (first_here v) f.place)

  pub next_is : get_or t 0 false ≡ false → cond (get_or bs (select v bs + 1 + (close 0 (drop (select v bs + 1) bs) + 1)) false) (Some (v + size_of rs v)) None ≡ next_of rs v
  unfolding d after
  next_is z =
      let s : size_of rs v ≡ suc (run f.r.depth f.qs) = ap size_here f.place in
      let far : v + size_of rs v ≡ v + 1 + run f.r.depth f.qs = omega arith in
      let c = close_is in
      let j : close 0 (drop (select v bs + 1) bs) + 1 ≡ suc (2 * run f.r.depth f.qs + 0) + 0 = omega arith in
      let b : get_or bs (select v bs + 1 + (close 0 (drop (select v bs + 1) bs) + 1)) false ≡ get_or (parens_onto f.r.depth (drop (run f.r.depth f.qs) f.qs) t) 0 false =
      sym (get_or-drop (select v bs + 1) bs _ false) ∙ ap (λ (x : List Bool). get_or x (close 0 (drop (select v bs + 1) bs) + 1) false) next
      ∙ ap (λ (i : ℕ). get_or (parens_onto (suc f.r.depth) f.qs t) i false) j ∙ sym (get_or-drop (suc (2 * run f.r.depth f.qs + 0)) _ 0 false)
      ∙ ap (λ (x : List Bool). get_or x 0 false) (after_run (suc f.r.depth) f.r.depth 0 f.qs t (omega arith) steps) in
      ap (λ (x : Bool). cond x (Some (v + size_of rs v)) None) b ∙ ap (λ (n : ℕ). cond (get_or (parens_onto f.r.depth (drop (run f.r.depth f.qs) f.qs) t) 0 false) (Some n) None) far
      ∙ next_told (v + 1) f.r.depth f.qs t z ∙ sym (ap (next_here v) f.place)
