-- What the parentheses of rows answer.
use Rattle.std.proofs.Common.{◌≡◌, ℕ, zero, suc, ◌+◌, ◌-◌, ◌*◌, ◌<◌, ◌≤◌, Bool, true, false, cond, ltb, List, [], ◌∷◌, length, get_or, drop, Some, None, sym, refl, ap, ◌∙◌, ⊎_elim, arith}
use Rattle.std.proofs.lemmas.Bool.Decides.{nat_tests}
use Rattle.std.proofs.lemmas.Bool.{and_parts, ltb-true, ltb-false, cond-true, cond-false, eq-eqb, ne_eqb, cases_eq}
use Rattle.rows.specs.Rows.{Row}
use Rattle.rows.specs.Answers.{run, first_from, next_from}
use Rattle.rows.specs.Lawful.{IsLawful, follow, reach}
use Rattle.shape.specs.Bits.{select, close}
use Rattle.shape.specs.Shape.{closing, parens_onto}

-- no row is deeper than the nodes that are open before it
abbrev pub Stepped : ℕ → List Row → Type 0
Stepped k [] = Unit {0}
Stepped k (r ∷ rs) = (r.depth ≤ k) × Stepped (suc r.depth) rs

reach_bound : (p : Row) → reach p ≤ suc p.depth
reach_bound p = grind (arith, nat_tests)

pub follow_stepped : (p : Row) (rs : List Row) → follow p rs ≡ true → Stepped (suc p.depth) rs
follow_stepped p [] f = tt
follow_stepped p (r ∷ rs) f =
    let le : r.depth ≤ reach p = grind (arith, nat_tests) in
    (omega (arith, reach_bound p), follow_stepped r rs (and_parts _ _ f).1)

pub lawful_stepped : (rs : List Row) → IsLawful rs → Stepped 0 rs
lawful_stepped [] l = tt
lawful_stepped (r ∷ rs) l =
    (grind (arith, nat_tests), follow_stepped r rs (and_parts _ _ l).1)

-- closings in a row
pub select_closing : (m v : ℕ) (t : List Bool) → select v (closing m t) ≡ m + select v t
select_closing zero v t = omega arith
select_closing (suc m) v t = let ih = select_closing m v t in omega arith

drop_closing : (m j : ℕ) (t : List Bool) → drop (m + j) (closing m t) ≡ drop j t
drop_closing zero j t = ap (λ (n : ℕ). drop n t) (omega arith)
drop_closing (suc m) j t = let e : suc m + j ≡ suc (m + j) = omega arith in ap (λ (n : ℕ). drop n (false ∷ closing m t)) e ∙ drop_closing m j t

close_past : (m e : ℕ) (t : List Bool) → close (m + e) (closing m t) ≡ m + close e t
close_past zero e t = let z : 0 + e ≡ e = omega arith in ap (λ (n : ℕ). close n t) z ∙ omega arith
close_past (suc m) e t =
    let ih = close_past m e t in
    let z : suc m + e ≡ suc (m + e) = omega arith in
    ap (λ (n : ℕ). close n (false ∷ closing m t)) z ∙ omega arith

close_here : (m e : ℕ) (t : List Bool) → e < m → close e (closing m t) ≡ e
close_here zero e t h = absurd (omega arith)
close_here (suc m) zero t h = refl
close_here (suc m) (suc e) t h = ap suc (close_here m e t (omega arith))

head_more : (m : ℕ) (t : List Bool) → 1 ≤ m → get_or (closing m t) 0 false ≡ false
head_more zero t h = absurd (omega arith)
head_more (suc m) t h = refl

-- from the opening of a node on
pub opening_drop : (k v : ℕ) (rs : List Row) (t : List Bool) (r : Row) (qs : List Row) → drop v rs ≡ r ∷ qs →
    drop (select v (parens_onto k rs t)) (parens_onto k rs t) ≡ true ∷ parens_onto (suc r.depth) qs t
opening_drop k zero [] t r qs e = absurd (omega (arith, ap length e))
opening_drop k (suc v) [] t r qs e = absurd (omega (arith, ap length e))
opening_drop k zero (x ∷ xs) t r qs e =
    let m = k - x.depth in
    let b = true ∷ parens_onto (suc x.depth) xs t in
    let same : x ∷ xs ≡ r ∷ qs = e in
    let a : x ≡ r = cc in
    let c : xs ≡ qs = cc in
    ap (λ (n : ℕ). drop n (closing m b)) (select_closing m 0 b) ∙ drop_closing m 0 b ∙ ap (λ (y : Row). true ∷ parens_onto (suc y.depth) xs t) a ∙ ap (λ (ys : List Row). true ∷ parens_onto (suc r.depth) ys t) c
opening_drop k (suc v) (x ∷ xs) t r qs e =
    let m = k - x.depth in
    let b = parens_onto (suc x.depth) xs t in
    ap (λ (n : ℕ). drop n (closing m (true ∷ b))) (select_closing m (suc v) (true ∷ b)) ∙ drop_closing m (suc (select v b)) (true ∷ b) ∙ opening_drop (suc x.depth) v xs t r qs e

-- the closing of a node of depth d, where k nodes are open, e of them below it
pub close_run : (k d e : ℕ) (qs : List Row) (t : List Bool) → k ≡ suc (d + e) → Stepped k qs → close e (parens_onto k qs t) ≡ 2 * run d qs + e
close_run k d e [] t h s = close_here k e t (omega arith) ∙ omega arith
close_run k d e (r ∷ rs) t h s =
    go (parens_onto (suc r.depth) rs t) (λ f. close_run (suc r.depth) d (r.depth - d) rs t (omega arith) s.1) (ltb d r.depth) refl where
      go : (b : List Bool) → (d < r.depth → close (r.depth - d) b ≡ 2 * run d rs + (r.depth - d)) → (c : Bool) → ltb d r.depth ≡ c →
          close e (closing (k - r.depth) (true ∷ b)) ≡ 2 * run d (r ∷ rs) + e
      go b again true c =
          let lt = ltb-true _ _ c in
          let ih = again lt in
          let le = s.0 in
          let split : e ≡ (k - r.depth) + (r.depth - suc d) = omega arith in
          let n : run d (r ∷ rs) ≡ suc (run d rs) = cond-true _ _ _ c in
          let on : close (suc (r.depth - suc d)) b ≡ 2 * run d rs + (r.depth - d) = ap (λ (x : ℕ). close x b) (omega arith) ∙ ih in
          ap (λ (x : ℕ). close x (closing (k - r.depth) (true ∷ b))) split ∙ close_past (k - r.depth) (r.depth - suc d) (true ∷ b) ∙ omega arith
      go b again false c =
          let le = ltb-false _ _ c in
          let n : run d (r ∷ rs) ≡ 0 = cond-false _ _ _ c in
          close_here (k - r.depth) e (true ∷ b) (omega arith) ∙ omega arith

fewer : (a b k : ℕ) (t : List Bool) → k ≡ a + b → drop a (closing k t) ≡ closing b t
fewer zero b k t h = ap (λ (n : ℕ). closing n t) (omega arith)
fewer (suc a) b zero t h = absurd (omega arith)
fewer (suc a) b (suc k) t h = fewer a b k t (omega arith)

-- what follows that closing
pub after_run : (k d e : ℕ) (qs : List Row) (t : List Bool) → k ≡ suc (d + e) → Stepped k qs →
    drop (suc (2 * run d qs + e)) (parens_onto k qs t) ≡ parens_onto d (drop (run d qs) qs) t
after_run k d e [] t h s =
    let z : suc (2 * 0 + e) ≡ suc e = omega arith in
    ap (λ (n : ℕ). drop n (closing k t)) z ∙ fewer (suc e) d k t (omega arith)
after_run k d e (r ∷ rs) t h s =
    go (parens_onto (suc r.depth) rs t) refl (λ f. after_run (suc r.depth) d (r.depth - d) rs t (omega arith) s.1) (ltb d r.depth) refl where
      go : (b : List Bool) → b ≡ parens_onto (suc r.depth) rs t → (d < r.depth → drop (suc (2 * run d rs + (r.depth - d))) b ≡ parens_onto d (drop (run d rs) rs) t) → (c : Bool) → ltb d r.depth ≡ c →
          drop (suc (2 * run d (r ∷ rs) + e)) (closing (k - r.depth) (true ∷ b)) ≡ parens_onto d (drop (run d (r ∷ rs)) (r ∷ rs)) t
      go b is again true c =
          let lt = ltb-true _ _ c in
          let le = s.0 in
          let n : run d (r ∷ rs) ≡ suc (run d rs) = cond-true _ _ _ c in
          let far : suc (2 * run d (r ∷ rs) + e) ≡ (k - r.depth) + suc (suc (2 * run d rs + (r.depth - d))) = omega arith in
          ap (λ (x : ℕ). drop x (closing (k - r.depth) (true ∷ b))) far ∙ drop_closing (k - r.depth) _ (true ∷ b) ∙ again lt ∙ ap (λ (x : ℕ). parens_onto d (drop x (r ∷ rs)) t) (sym n)
      go b is again false c =
          let le = ltb-false _ _ c in
          let n : run d (r ∷ rs) ≡ 0 = cond-false _ _ _ c in
          let near : suc (2 * run d (r ∷ rs) + e) ≡ suc e = omega arith in
          ap (λ (x : ℕ). drop x (closing (k - r.depth) (true ∷ b))) near ∙ fewer (suc e) (d - r.depth) (k - r.depth) (true ∷ b) (omega arith)
          ∙ ap (λ (l : List Bool). closing (d - r.depth) (true ∷ l)) is ∙ ap (λ (x : ℕ). parens_onto d (drop x (r ∷ rs)) t) (sym n)

head_none : (m : ℕ) (t : List Bool) → m ≡ 0 → get_or (closing m (true ∷ t)) 0 false ≡ true
head_none zero t h = refl
head_none (suc m) t h = absurd (omega arith)

-- the parenthesis after a node's opening tells its first child
pub first_told : (u d : ℕ) (qs : List Row) (t : List Bool) → Stepped (suc d) qs →
    cond (get_or (parens_onto (suc d) qs t) 0 false) (Some u) None ≡ first_from u d qs
first_told u d [] t s = refl
first_told u d (r ∷ rs) t s = ⊎_elim same other (cases_eq r.depth (suc d)) where
  same : r.depth ≡ suc d → cond (get_or (closing (suc d - r.depth) (true ∷ parens_onto (suc r.depth) rs t)) 0 false) (Some u) None ≡ first_from u d (r ∷ rs)
  same e = cond-true _ _ _ (head_none (suc d - r.depth) _ (omega arith)) ∙ sym (cond-true _ _ _ (eq-eqb _ _ e))

  other : (r.depth ≡ suc d → ⊥) → cond (get_or (closing (suc d - r.depth) (true ∷ parens_onto (suc r.depth) rs t)) 0 false) (Some u) None ≡ first_from u d (r ∷ rs)
  other e = let le = s.0 in cond-false _ _ _ (head_more (suc d - r.depth) _ (omega arith)) ∙ sym (cond-false _ _ _ (ne_eqb _ _ e))

-- the parenthesis after its closing tells its next sibling
pub next_told : (u d : ℕ) (qs : List Row) (t : List Bool) → get_or t 0 false ≡ false →
    cond (get_or (parens_onto d (drop (run d qs) qs) t) 0 false) (Some (u + run d qs)) None ≡ next_from u d qs
next_told u d [] t z = cond-false _ _ _ (none d) where
  none : (d : ℕ) → get_or (closing d t) 0 false ≡ false
  none zero = z
  none (suc d) = refl
next_told u d (r ∷ rs) t z = go (next_told (u + 1) d rs t z) (ltb d r.depth) refl where
  go : cond (get_or (parens_onto d (drop (run d rs) rs) t) 0 false) (Some (u + 1 + run d rs)) None ≡ next_from (u + 1) d rs → (c : Bool) → ltb d r.depth ≡ c →
      cond (get_or (parens_onto d (drop (run d (r ∷ rs)) (r ∷ rs)) t) 0 false) (Some (u + run d (r ∷ rs))) None ≡ next_from u d (r ∷ rs)
  go again true c =
      let n : run d (r ∷ rs) ≡ suc (run d rs) = cond-true _ _ _ c in
      let far : u + suc (run d rs) ≡ u + 1 + run d rs = omega arith in
      ap (λ (n : ℕ). cond (get_or (parens_onto d (drop n (r ∷ rs)) t) 0 false) (Some (u + n)) None) n
      ∙ ap (λ (n : ℕ). cond (get_or (parens_onto d (drop (run d rs) rs) t) 0 false) (Some n) None) far ∙ again ∙ sym (cond-true _ _ _ c)
  go again false c =
      let le = ltb-false _ _ c in
      let n : run d (r ∷ rs) ≡ 0 = cond-false _ _ _ c in
      let here : u + 0 ≡ u = omega arith in
      ap (λ (n : ℕ). cond (get_or (parens_onto d (drop n (r ∷ rs)) t) 0 false) (Some (u + n)) None) n
      ∙ ⊎_elim (λ (e : r.depth ≡ d). cond-true _ _ _ (head_none (d - r.depth) _ (omega arith)) ∙ ap Some here ∙ sym (cond-true _ _ _ (eq-eqb _ _ e)))
      (λ (e : r.depth ≡ d → ⊥). cond-false _ _ _ (head_more (d - r.depth) _ (omega arith)) ∙ sym (cond-false _ _ _ (ne_eqb _ _ e)))
      (cases_eq r.depth d)
      ∙ sym (cond-false _ _ _ c)
