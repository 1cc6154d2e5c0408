-- Depths inside and after a subtree, and how far back a parent is.
use Rattle.std.proofs.Common.{◌≡◌, ℕ, zero, suc, ◌+◌, ◌-◌, ◌<◌, ◌≤◌, Bool, true, false, ltb, ◌⊎◌, List, [], ◌∷◌, length, sym, refl, subst, inl, inr, ⊎_elim, arith}
use Rattle.std.proofs.lemmas.Bool.Decides.{nat_tests}
use Rattle.std.proofs.lemmas.Bool.{cases_lt, cond-true, cond-false, ltb-true, ltb-false, lt-ltb, le-ltb}
use Rattle.rows.specs.Rows.{Row, depth_of}
use Rattle.rows.specs.Answers.{run, size_of}
use Rattle.stored.specs.Stored.{back}

run_inside : (d : ℕ) (rs : List Row) (k : ℕ) → k < run d rs → d < depth_of rs k
run_inside d [] k h = absurd (omega arith)
run_inside d (r ∷ rs) zero h = grind (arith, nat_tests)
run_inside d (r ∷ rs) (suc k) h = run_inside d rs k (grind (arith, nat_tests))

run_stop : (d : ℕ) (rs : List Row) → run d rs < length rs → depth_of rs (run d rs) ≤ d
run_stop d [] h = absurd (omega arith)
run_stop d (r ∷ rs) h = go (run_stop d rs) (ltb d r.depth) refl where
  go : (run d rs < length rs → depth_of rs (run d rs) ≤ d) → (t : Bool) → ltb d r.depth ≡ t → depth_of (r ∷ rs) (run d (r ∷ rs)) ≤ d
  go again true t =
      let n : run d (r ∷ rs) ≡ suc (run d rs) = cond-true _ _ _ t in
      subst (λ (k : ℕ). depth_of (r ∷ rs) k ≤ d) (sym n) (again (omega arith))
  go again false t =
      let n : run d (r ∷ rs) ≡ 0 = cond-false _ _ _ t in
      subst (λ (k : ℕ). depth_of (r ∷ rs) k ≤ d) (sym n) (ltb-false _ _ t)

run_length : (d : ℕ) (rs : List Row) → run d rs ≤ length rs
run_length d [] = omega arith
run_length d (r ∷ rs) = let ih = run_length d rs in grind (arith, nat_tests)

pub size_inside : (rs : List Row) (q j : ℕ) → q < j → j < q + size_of rs q → depth_of rs q < depth_of rs j
size_inside [] zero j a b = absurd (omega arith)
size_inside [] (suc q) j a b = absurd (omega arith)
size_inside (r ∷ rs) zero zero a b = absurd (omega arith)
size_inside (r ∷ rs) zero (suc j) a b = run_inside r.depth rs j (omega arith)
size_inside (r ∷ rs) (suc q) zero a b = absurd (omega arith)
size_inside (r ∷ rs) (suc q) (suc j) a b = size_inside rs q j (omega arith) (omega arith)

pub size_stop : (rs : List Row) (q : ℕ) → q < length rs → q + size_of rs q < length rs → depth_of rs (q + size_of rs q) ≤ depth_of rs q
size_stop [] q a b = absurd (omega arith)
size_stop (r ∷ rs) zero a b =
    let e : suc (run r.depth rs) ≡ 0 + size_of (r ∷ rs) 0 = omega arith in
    subst (λ (k : ℕ). depth_of (r ∷ rs) k ≤ r.depth) e (run_stop r.depth rs (omega arith))
size_stop (r ∷ rs) (suc q) a b =
    let e : suc (q + size_of rs q) ≡ suc q + size_of rs q = omega arith in
    subst (λ (k : ℕ). depth_of (r ∷ rs) k ≤ depth_of rs q) e (size_stop rs q (omega arith) (omega arith))

pub size_more : (rs : List Row) (q : ℕ) → q < length rs → 1 ≤ size_of rs q
size_more [] q h = absurd (omega arith)
size_more (r ∷ rs) zero h = omega arith
size_more (r ∷ rs) (suc q) h = size_more rs q (omega arith)

pub size_within : (rs : List Row) (q : ℕ) → q < length rs → q + size_of rs q ≤ length rs
size_within [] q h = absurd (omega arith)
size_within (r ∷ rs) zero h = omega (arith, run_length r.depth rs)
size_within (r ∷ rs) (suc q) h = omega (arith, size_within rs q (omega arith))

-- a size is known by the depths inside and after the subtree
pub size_known : (rs : List Row) (v s : ℕ) → v < length rs → 1 ≤ s → v + s ≤ length rs
    → ((j : ℕ) → v < j → j < v + s → depth_of rs v < depth_of rs j)
    → (v + s < length rs → depth_of rs (v + s) ≤ depth_of rs v) → s ≡ size_of rs v
size_known rs v s h one le inside stop =
    let more = size_more rs v h in
    let most = size_within rs v h in
    ⊎_elim
    (λ (less : s < size_of rs v). let a = stop (omega arith) in let b = size_inside rs v (v + s) (omega arith) (omega arith) in absurd (omega arith))
    (λ (ge : size_of rs v ≤ s).
    ⊎_elim
    (λ (less : size_of rs v < s). let a = size_stop rs v h (omega arith) in let b = inside (v + size_of rs v) (omega arith) (omega arith) in absurd (omega arith))
    (λ (le2 : s ≤ size_of rs v). omega arith)
    (cases_lt (size_of rs v) s))
    (cases_lt s (size_of rs v))

-- the nearest node before v that is less deep than d
pub back_found : (d : ℕ) (rs : List Row) (v q : ℕ) → q < v → ((j : ℕ) → q < j → j < v → d ≤ depth_of rs j) → depth_of rs q < d → q + back d rs v ≡ v
back_found d rs zero q lt above less = absurd (omega arith)
back_found d rs (suc v) q lt above less =
    ⊎_elim
    (λ (before : q < v). let n : back d rs (suc v) ≡ suc (back d rs v) = cond-false _ _ _ (le-ltb _ _ (above v before (omega arith))) in
    omega (arith, back_found d rs v q before (λ j a b. above j a (omega arith)) less))
    (λ (ge : v ≤ q). let e : q ≡ v = omega arith in
    let n : back d rs (suc v) ≡ 1 = cond-true _ _ _ (lt-ltb _ _ (subst (λ (x : ℕ). depth_of rs x < d) e less)) in omega arith)
    (cases_lt q v)

pub back_above : (d : ℕ) (rs : List Row) (v j : ℕ) → j < v → v < j + back d rs v → d ≤ depth_of rs j
back_above d rs zero j lt a = absurd (omega arith)
back_above d rs (suc v) j lt a = go (λ l b. back_above d rs v j l b) (ltb (depth_of rs v) d) refl (cases_lt j v) where
  go : (j < v → v < j + back d rs v → d ≤ depth_of rs j) → (t : Bool) → ltb (depth_of rs v) d ≡ t → (j < v) ⊎ (v ≤ j) → d ≤ depth_of rs j
  go again true t w = let n : back d rs (suc v) ≡ 1 = cond-true _ _ _ t in absurd (omega arith)
  go again false t (inl l) = let n : back d rs (suc v) ≡ suc (back d rs v) = cond-false _ _ _ t in again l (omega arith)
  go again false t (inr ge) = let e : v ≡ j = omega arith in subst (λ (x : ℕ). d ≤ depth_of rs x) e (ltb-false _ _ t)

pub back_some : (d : ℕ) (rs : List Row) (v : ℕ) → 0 < v → depth_of rs 0 < d → (1 ≤ back d rs v) × (back d rs v ≤ v) × (depth_of rs (v - back d rs v) < d)
back_some d rs zero z less = absurd (omega arith)
back_some d rs (suc v) z less = go (λ l. back_some d rs v l less) (ltb (depth_of rs v) d) refl (cases_lt 0 v) where
  go : (0 < v → (1 ≤ back d rs v) × (back d rs v ≤ v) × (depth_of rs (v - back d rs v) < d)) → (t : Bool) → ltb (depth_of rs v) d ≡ t → (0 < v) ⊎ (v ≤ 0)
      → (1 ≤ back d rs (suc v)) × (back d rs (suc v) ≤ suc v) × (depth_of rs (suc v - back d rs (suc v)) < d)
  go again true t w =
      let n : back d rs (suc v) ≡ 1 = cond-true _ _ _ t in
      let e : v ≡ suc v - back d rs (suc v) = omega arith in
      (omega arith, omega arith, subst (λ (x : ℕ). depth_of rs x < d) e (ltb-true _ _ t))
  go again false t (inl l) =
      let n : back d rs (suc v) ≡ suc (back d rs v) = cond-false _ _ _ t in
      let i = again l in
      let e : v - back d rs v ≡ suc v - back d rs (suc v) = omega arith in
      (omega arith, omega arith, subst (λ (x : ℕ). depth_of rs x < d) e i.2)
  go again false t (inr ge) =
      let e : 0 ≡ v = omega arith in
      let a = ltb-false _ _ t in
      let b = subst (λ (x : ℕ). depth_of rs x < d) e less in
      absurd (omega arith)
