-- The answers to the questions mean what they should.
use Rattle.std.proofs.Common.{◌≡◌, ℕ, suc, ◌+◌, ◌<◌, ◌≤◌, cond, eqb, ltb, ◌⊎◌, ◌↔◌, List, [], ◌∷◌, length, get_or, drop, Some, None, sym, ap, ◌∙◌, subst, inl, inr, add-one, arith, length-drop, get_or-drop}
use native.Mathlib.Decide.{dec_lt}
use Rattle.std.proofs.lemmas.Bool.{cond_both, ltb-true, ltb-false, eqb-true, eqb-false}
use Rattle.rows.specs.Rows.{Row, nobody, count_of as count, depth_of as depth, Descendant, FirstChild, NextSibling}
use Rattle.rows.specs.Answers.{run, size_here, first_here, next_from, next_here}
use Rattle.rows.specs.Claims.{Answers, Questions}

-- rs are the rows from u on
abbrev From : List Row → ℕ → List Row → Type 0
From rows u rs = (count rows ≡ u + length rs) × ((i : ℕ) → get_or rows (u + i) nobody ≡ get_or rs i nobody)

from_tail : (rows : List Row) (u : ℕ) (r : Row) (rs : List Row) → From rows u (r ∷ rs) → From rows (u + 1) rs
from_tail rows u r rs f = (omega arith, λ i. let e : u + 1 + i ≡ u + suc i = omega arith in rw e (f.1 (suc i)))

from_head : (rows : List Row) (u : ℕ) (r : Row) (rs : List Row) → From rows u (r ∷ rs) → depth rows u ≡ r.depth
from_head rows u r rs f = let e : u ≡ u + 0 = omega arith in ap (λ (x : Row). x.depth) (subst (λ x. get_or rows x nobody ≡ r) (sym e) (f.1 0))

from_drop : (rows : List Row) (v : ℕ) → v ≤ count rows → From rows v (drop v rows)
from_drop rows v h = (let e = length-drop v rows in omega arith, λ i. sym (get_or-drop v rows i nobody))

abbrev Deep : List Row → ℕ → ℕ → Type 0
Deep rows v u = (x : ℕ) → v < x → x < u → depth rows v < depth rows x

deep_more : (rows : List Row) (v u : ℕ) → Deep rows v u → depth rows v < depth rows u → Deep rows v (u + 1)
deep_more rows v u deep h x a b = test (dec_lt x u)
  where
    test : Dec (x < u) → depth rows v < depth rows x
    test (yes k) = deep x a k
    test (no k) = let e : u ≡ x = omega arith in subst (λ y. depth rows v < depth rows y) e h

sibling_answers : (rows : List Row) (v u : ℕ) (rs : List Row) → From rows u rs → v < u → Deep rows v u
    → Answers (next_from u (depth rows v) rs) (NextSibling rows v)
sibling_answers rows v u [] f lt deep = λ w n. let g = deep w n.0 (omega arith) in omega arith
sibling_answers rows v u (r ∷ rs) f lt deep =
    let e = from_head rows u r rs f in
    cond_both (ltb (depth rows v) r.depth) (next_from (u + 1) (depth rows v) rs) (cond (eqb r.depth (depth rows v)) (Some u) None) (λ o. Answers o (NextSibling rows v))
    (λ t. let k = ltb-true (depth rows v) r.depth t in
    sibling_answers rows v (u + 1) rs (from_tail rows u r rs f) (omega arith) (deep_more rows v u deep (omega arith)))
    (λ t. let k = ltb-false (depth rows v) r.depth t in
    cond_both (eqb r.depth (depth rows v)) (Some u) None (λ o. Answers o (NextSibling rows v))
    (λ s. let g = eqb-true r.depth (depth rows v) s in (lt, omega arith, omega arith, deep))
    (λ s w n. none_here k (λ i. eqb-false r.depth (depth rows v) s (sym e ∙ i)) w n (dec_lt w u) (dec_lt u w)))
  where
    none_here : r.depth ≤ depth rows v → ¬ (depth rows u ≡ depth rows v) → (w : ℕ) → NextSibling rows v w → Dec (w < u) → Dec (u < w) → ⊥
    none_here k m w n (yes a) b = let g = deep w n.0 a in let i = n.2 in omega arith
    none_here k m w n (no a) (yes b) = let g = n.3 u lt b in let e = from_head rows u r rs f in omega arith
    none_here k m w n (no a) (no b) = let e : w ≡ u = omega arith in m (subst (λ x. depth rows x ≡ depth rows v) e n.2)

-- the nodes after v as far as the deeper ones go
run_counts : (rows : List Row) (v u : ℕ) (rs : List Row) → From rows u rs → v < u → Deep rows v u
    → (w : ℕ) → v < w → Descendant rows v w ↔ (w < u + run (depth rows v) rs)
run_counts rows v u [] f lt deep w h =
    (λ d. let k = d.1 in omega arith, λ k. (h, omega arith, λ x a b. deep x a (omega arith)))
run_counts rows v u (r ∷ rs) f lt deep w h =
    let e = from_head rows u r rs f in
    cond_both (ltb (depth rows v) r.depth) (suc (run (depth rows v) rs)) 0 (λ n. Descendant rows v w ↔ (w < u + n))
    (λ t. let k = ltb-true (depth rows v) r.depth t in
    let i = run_counts rows v (u + 1) rs (from_tail rows u r rs f) (omega arith) (deep_more rows v u deep (omega arith)) w h in
    (λ d. let j = i.0 d in omega arith, λ l. i.1 (omega arith)))
    (λ t. let k = ltb-false (depth rows v) r.depth t in
    (λ d. before k d (dec_lt w u), λ l. (h, omega arith, λ x a b. deep x a (omega arith))))
  where
    before : r.depth ≤ depth rows v → Descendant rows v w → Dec (w < u) → w < u + 0
    before k d (yes a) = omega arith
    before k d (no a) = let g = d.2 u lt (omega arith) in let e = from_head rows u r rs f in absurd (omega arith)

first_answers : (rows : List Row) (v : ℕ) (rs : List Row) → From rows v rs → Answers (first_here v rs) (FirstChild rows v)
first_answers rows v [] f = λ w n. let e = n.0 in let k = n.1 in omega arith
first_answers rows v (r ∷ []) f = λ w n. let e = n.0 in let k = n.1 in omega arith
first_answers rows v (r ∷ (s ∷ rs)) f =
    let e = from_head rows v r (s ∷ rs) f in
    let g = from_head rows (v + 1) s rs (from_tail rows v r (s ∷ rs) f) in
    cond_both (eqb s.depth (suc r.depth)) (Some (v + 1)) None (λ o. Answers o (FirstChild rows v))
    (λ t. let k = eqb-true s.depth (suc r.depth) t in (omega arith, omega arith, omega arith))
    (λ t w n. eqb-false s.depth (suc r.depth) t (let i = subst (λ x. depth rows x ≡ suc (depth rows v)) (n.0 ∙ sym (add-one v)) n.2 in omega arith))

next_answers : (rows : List Row) (v : ℕ) (rs : List Row) → From rows v rs → Answers (next_here v rs) (NextSibling rows v)
next_answers rows v [] f = λ w n. let e = n.0 in let k = n.1 in omega arith
next_answers rows v (r ∷ rs) f =
    let e = from_head rows v r rs f in
    subst (λ d. Answers (next_from (v + 1) d rs) (NextSibling rows v)) e
    (sibling_answers rows v (v + 1) rs (from_tail rows v r rs f) (omega arith) (λ x a b. absurd (omega arith)))

size_counts : (rows : List Row) (v : ℕ) (rs : List Row) → v < count rows → From rows v rs → (w : ℕ) → ((w ≡ v) ⊎ Descendant rows v w) ↔ ((v ≤ w) × (w < v + size_here rs))
size_counts rows v [] h f w = absurd (omega arith)
size_counts rows v (r ∷ rs) h f w = (to, λ p. of p (dec_lt v w))
  where
    e : depth rows v ≡ r.depth
    e = from_head rows v r rs f

    counts : v < w → Descendant rows v w ↔ (w < v + 1 + run r.depth rs)
    counts l = subst (λ d. Descendant rows v w ↔ (w < v + 1 + run d rs)) e
        (run_counts rows v (v + 1) rs (from_tail rows v r rs f) (omega arith) (λ x a b. absurd (omega arith)) w l)

    to : (w ≡ v) ⊎ Descendant rows v w → (v ≤ w) × (w < v + suc (run r.depth rs))
    to (inl i) = omega arith
    to (inr d) = let k = (counts d.0).0 d in let l = d.0 in omega arith

    of : (v ≤ w) × (w < v + suc (run r.depth rs)) → Dec (v < w) → (w ≡ v) ⊎ Descendant rows v w
    of p (yes l) = inr ((counts l).1 (omega arith))
    of p (no l) = inl (omega arith)

pub questions : Questions
questions rows v h =
    let f = from_drop rows v (omega arith) in
    (first_answers rows v (drop v rows) f, next_answers rows v (drop v rows) f, size_counts rows v (drop v rows) h f)
