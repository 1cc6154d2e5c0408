-- The excerpt's rows are those of a tree, and what it answers.
use Rattle.std.proofs.Common.{◌≡◌, ℕ, zero, suc, ◌+◌, ◌-◌, ◌<◌, ◌≤◌, max, Bool, true, false, ◌&&◌, ltb, leb, List, [], ◌∷◌, length, drop, Some, None, Option, sym, refl, ap, ◌∙◌, subst, arith, length-drop, drop-drop}
use Rattle.std.proofs.lemmas.Bool.Decides.{nat_tests}
use Rattle.std.proofs.lemmas.Bool.{and_parts, and_from, ltb-true, cond-true, cond-false}
use Rattle.rows.specs.Rows.{Row, row, Lawful, depth_of, label_of}
use Rattle.rows.specs.Lawful.{lawful, IsLawful, follow, reach, inner_label}
use Rattle.rows.specs.Answers.{run, size_here, size_of, first_from, first_here, first_of, next_from, next_here, next_of}
use Rattle.rows.specs.Excerpts.{raised, below, excerpt_here, excerpt_of, Excerpts}
use Rattle.rows.proofs.Laws.{to_lawful, of_lawful}

below_short : (d : ℕ) (rs : List Row) → length (below d rs) ≤ length rs
below_short d [] = omega arith
below_short d (r ∷ rs) = let ih = below_short d rs in grind (arith, nat_tests)

below_follow : (d : ℕ) (p q : Row) (rs : List Row) → d ≤ p.depth → q.depth ≡ p.depth - d → reach p ≤ reach q + d → follow p rs ≡ true → follow q (below d rs) ≡ true
below_follow d p q [] le e l f = refl
below_follow d p q (r ∷ rs) le e l f = go (λ lt. below_follow d r (raised d r) rs (omega arith) refl (grind (arith, nat_tests)) (and_parts _ _ f).1) (ltb d r.depth) refl where
  head : d < r.depth → (leb 1 (r.depth - d) && leb (r.depth - d) (reach q) && inner_label r.label) ≡ true
  head lt = grind (arith, nat_tests)

  go : (d < r.depth → follow (raised d r) (below d rs) ≡ true) → (b : Bool) → ltb d r.depth ≡ b → follow q (below d (r ∷ rs)) ≡ true
  go again true t = let lt = ltb-true _ _ t in ap (follow q) (cond-true _ _ _ t) ∙ and_from _ _ (head lt) (again lt)
  go again false t = ap (follow q) (cond-false _ _ _ t)

excerpt_here_lawful : (p : Row) (rs : List Row) → follow p rs ≡ true → length rs ≤ 8191 → lawful (excerpt_here (p ∷ rs)) ≡ true
excerpt_here_lawful p rs f h =
    let n = below_short p.depth rs in
    and_from _ _ (grind (arith, nat_tests)) (below_follow p.depth p (row 0 0) rs (omega arith) (omega arith) (grind (arith, nat_tests)) f)

follow_part : (p : Row) (rs : List Row) (v : ℕ) → follow p rs ≡ true → length rs ≤ 8191 → IsLawful (excerpt_of rs v)
follow_part p [] zero f n = refl
follow_part p [] (suc v) f n = refl
follow_part p (r ∷ rs) zero f n = excerpt_here_lawful r rs (and_parts _ _ f).1 (omega arith)
follow_part p (r ∷ rs) (suc v) f n = follow_part r rs v (and_parts _ _ f).1 (omega arith)

pub excerpt_passes : (rs : List Row) (v : ℕ) → IsLawful rs → IsLawful (excerpt_of rs v)
excerpt_passes [] zero l = refl
excerpt_passes [] (suc v) l = refl
excerpt_passes (r ∷ rs) zero l = excerpt_here_lawful r rs (and_parts _ _ l).1 (grind (arith, nat_tests))
excerpt_passes (r ∷ rs) (suc v) l = follow_part r rs v (and_parts _ _ l).1 (grind (arith, nat_tests))

abbrev label_here : List Row → ℕ
label_here [] = 65535
label_here (r ∷ rs) = r.label

abbrev depth_here : List Row → ℕ
depth_here [] = 0
depth_here (r ∷ rs) = r.depth

label_drop : (rs : List Row) (v : ℕ) → label_here (drop v rs) ≡ label_of rs v
label_drop [] zero = refl
label_drop [] (suc v) = refl
label_drop (r ∷ rs) zero = refl
label_drop (r ∷ rs) (suc v) = label_drop rs v

depth_drop : (rs : List Row) (v : ℕ) → depth_here (drop v rs) ≡ depth_of rs v
depth_drop [] zero = refl
depth_drop [] (suc v) = refl
depth_drop (r ∷ rs) zero = refl
depth_drop (r ∷ rs) (suc v) = depth_drop rs v

below_length : (d : ℕ) (rs : List Row) → length (below d rs) ≡ run d rs
below_length d [] = refl
below_length d (r ∷ rs) = let ih = below_length d rs in grind (arith, nat_tests)

abbrev pub lower : ℕ → Option ℕ → Option ℕ
lower n None = None
lower n (Some w) = Some (w - n)

-- inside the excerpt, from a row that is deeper than d on
run_below : (d e : ℕ) (rs : List Row) → d < e → run (e - d) (below d rs) ≡ run e rs
run_below d e [] h = refl
run_below d e (r ∷ rs) h = let ih = run_below d e rs h in grind (arith, nat_tests)

next_below : (d e n u : ℕ) (rs : List Row) → d < e → next_from u (e - d) (below d rs) ≡ lower n (next_from (n + u) e rs)
next_below d e n u [] h = refl
next_below d e n u (r ∷ rs) h =
    let ih : next_from (u + 1) (e - d) (below d rs) ≡ lower n (next_from (n + u + 1) e rs) = next_below d e n (u + 1) rs h ∙ ap (λ (k : ℕ). lower n (next_from k e rs)) (omega arith) in
    let back : n + u - n ≡ u = omega arith in
    grind (arith, nat_tests)

-- a place k of the rows below a row of depth d
record Deeper (d : ℕ) (rs : List Row) (k : ℕ) : Type 0 where
  pub r : Row
  pub qs : List Row
  pub place : drop k rs ≡ r ∷ qs
  pub deep : d < r.depth
  pub part : drop k (below d rs) ≡ raised d r ∷ below d qs

deeper : (d : ℕ) (rs : List Row) (k : ℕ) → k < run d rs → Deeper d rs k
deeper d [] k h = absurd (omega arith)
deeper d (r ∷ rs) k h = go k h (λ j l. deeper d rs j l) (ltb d r.depth) refl where
  go : (k : ℕ) → k < run d (r ∷ rs) → ((j : ℕ) → j < run d rs → Deeper d rs j) → (b : Bool) → ltb d r.depth ≡ b → Deeper d (r ∷ rs) k
  go k h again false t = let z : run d (r ∷ rs) ≡ 0 = cond-false _ _ _ t in absurd (omega arith)
  go zero h again true t = record { r = r; qs = rs; place = refl; deep = ltb-true _ _ t; part = cond-true _ _ _ t }
  go (suc k) h again true t =
      let z : run d (r ∷ rs) ≡ suc (run d rs) = cond-true _ _ _ t in
      let i = again k (omega arith) in
      record { r = i.r; qs = i.qs; place = i.place; deep = i.deep; part = ap (drop (suc k)) (cond-true _ _ _ t) ∙ i.part }

label_deeper : (d : ℕ) (rs : List Row) (k : ℕ) → k < run d rs → label_here (drop k (below d rs)) ≡ label_here (drop k rs)
label_deeper d rs k h = let i = deeper d rs k h in ap label_here i.part ∙ sym (ap label_here i.place)

size_deeper : (d : ℕ) (rs : List Row) (k : ℕ) → k < run d rs → size_here (drop k (below d rs)) ≡ size_here (drop k rs)
size_deeper d rs k h =
    let i = deeper d rs k h in
    ap size_here i.part ∙ ap suc (run_below d i.r.depth i.qs i.deep) ∙ sym (ap size_here i.place)

first_below : (d e n u : ℕ) (rs : List Row) → d < e → first_from u (e - d) (below d rs) ≡ lower n (first_from (n + u) e rs)
first_below d e n u [] h = refl
first_below d e n u (r ∷ rs) h = let back : n + u - n ≡ u = omega arith in grind (arith, nat_tests)

first_deeper : (d n v : ℕ) (rs : List Row) (k : ℕ) → k < run d rs → first_here v (drop k (below d rs)) ≡ lower n (first_here (n + v) (drop k rs))
first_deeper d n v rs k h =
    let i = deeper d rs k h in
    ap (first_here v) i.part ∙ first_below d i.r.depth n (v + 1) i.qs i.deep ∙ ap (λ (x : ℕ). lower n (first_from x i.r.depth i.qs)) (omega arith) ∙ sym (ap (λ (l : List Row). lower n (first_here (n + v) l)) i.place)

next_deeper : (d n v : ℕ) (rs : List Row) (k : ℕ) → k < run d rs → next_here v (drop k (below d rs)) ≡ lower n (next_here (n + v) (drop k rs))
next_deeper d n v rs k h =
    let i = deeper d rs k h in
    ap (next_here v) i.part ∙ next_below d i.r.depth n (v + 1) i.qs i.deep ∙ ap (λ (x : ℕ). lower n (next_from x i.r.depth i.qs)) (omega arith) ∙ sym (ap (λ (l : List Row). lower n (next_here (n + v) l)) i.place)

root_run : (d : ℕ) (rs : List Row) → run 0 (below d rs) ≡ run d rs
root_run d [] = refl
root_run d (r ∷ rs) = let ih = root_run d rs in grind (arith, nat_tests)

root_first : (d n u : ℕ) (rs : List Row) → first_from u 0 (below d rs) ≡ lower n (first_from (n + u) d rs)
root_first d n u [] = refl
root_first d n u (r ∷ rs) = let back : n + u - n ≡ u = omega arith in grind (arith, nat_tests)

root_next : (d u : ℕ) (rs : List Row) → next_from u 0 (below d rs) ≡ None
root_next d u [] = refl
root_next d u (r ∷ rs) = let ih = root_next d (u + 1) rs in grind (arith, nat_tests)

past : {A : Type 0} (xs : List A) (v : ℕ) → length xs ≤ v → drop v xs ≡ []
past [] zero h = refl
past [] (suc v) h = refl
past (x ∷ xs) zero h = absurd (omega arith)
past (x ∷ xs) (suc v) h = past xs v (omega arith)

-- over the rows p from the node n on
here_count : (p : List Row) → max (size_here p) 1 ≡ length (excerpt_here p)
here_count [] = refl
here_count (r ∷ rs) = omega (arith, below_length r.depth rs)

here_past : (p : List Row) (v : ℕ) → max (size_here p) 1 ≤ v → drop v (excerpt_here p) ≡ []
here_past p v h = past (excerpt_here p) v (omega (arith, here_count p))

here_label : (p : List Row) (v : ℕ) → (v ≡ 0 → ⊥) → v < size_here p → label_here (drop v (excerpt_here p)) ≡ label_here (drop v p)
here_label [] v z h = absurd (omega arith)
here_label (r ∷ rs) zero z h = absurd (z refl)
here_label (r ∷ rs) (suc k) z h = label_deeper r.depth rs k (omega arith)

here_size : (p : List Row) (v : ℕ) → v < size_here p → size_here (drop v (excerpt_here p)) ≡ size_here (drop v p)
here_size [] v h = absurd (omega arith)
here_size (r ∷ rs) zero h = ap suc (root_run r.depth rs)
here_size (r ∷ rs) (suc k) h = size_deeper r.depth rs k (omega arith)

here_first : (p : List Row) (n v : ℕ) → v < size_here p → first_here v (drop v (excerpt_here p)) ≡ lower n (first_here (n + v) (drop v p))
here_first [] n v h = absurd (omega arith)
here_first (r ∷ rs) n zero h = root_first r.depth n (0 + 1) rs ∙ ap (λ (x : ℕ). lower n (first_from x r.depth rs)) (omega arith)
here_first (r ∷ rs) n (suc k) h = first_deeper r.depth n (suc k) rs k (omega arith)

here_next : (p : List Row) (n v : ℕ) → (v ≡ 0 → ⊥) → v < size_here p → next_here v (drop v (excerpt_here p)) ≡ lower n (next_here (n + v) (drop v p))
here_next [] n v z h = absurd (omega arith)
here_next (r ∷ rs) n zero z h = absurd (z refl)
here_next (r ∷ rs) n (suc k) z h = next_deeper r.depth n (suc k) rs k (omega arith)

here_root_next : (p : List Row) → next_here 0 (excerpt_here p) ≡ None
here_root_next [] = refl
here_root_next (r ∷ rs) = root_next r.depth (0 + 1) rs

-- over the rows of the tree
module _ (rs : List Row) (n v : ℕ) where
  step : drop v (drop n rs) ≡ drop (n + v) rs
  step = drop-drop v n rs

  pub excerpt_count : max (size_of rs n) 1 ≡ length (excerpt_of rs n)
  excerpt_count = here_count (drop n rs)

  pub excerpt_label : (v ≡ 0 → ⊥) → v < size_of rs n → label_of rs (n + v) ≡ label_of (excerpt_of rs n) v
  excerpt_label z h = sym (label_drop rs (n + v)) ∙ sym (here_label (drop n rs) v z h ∙ ap label_here step) ∙ label_drop (excerpt_of rs n) v

  pub excerpt_label_past : (v ≡ 0 → ⊥) → size_of rs n ≤ v → 65535 ≡ label_of (excerpt_of rs n) v
  excerpt_label_past z h = sym (ap label_here (here_past (drop n rs) v (omega arith))) ∙ label_drop (excerpt_of rs n) v

  pub excerpt_size : v < size_of rs n → size_of rs (n + v) ≡ size_of (excerpt_of rs n) v
  excerpt_size h = sym (here_size (drop n rs) v h ∙ ap size_here step)

  pub excerpt_size_past : (v ≡ 0 → ⊥) → size_of rs n ≤ v → 0 ≡ size_of (excerpt_of rs n) v
  excerpt_size_past z h = sym (ap size_here (here_past (drop n rs) v (omega arith)))

  pub excerpt_first : v < size_of rs n → lower n (first_of rs (n + v)) ≡ first_of (excerpt_of rs n) v
  excerpt_first h = sym (here_first (drop n rs) n v h ∙ ap (λ (l : List Row). lower n (first_here (n + v) l)) step)

  pub excerpt_first_past : size_of rs n ≤ v → None ≡ first_of (excerpt_of rs n) v
  excerpt_first_past h = sym (go (drop n rs) v h) where
    go : (p : List Row) (v : ℕ) → size_here p ≤ v → first_here v (drop v (excerpt_here p)) ≡ None
    go [] zero h = refl
    go [] (suc zero) h = refl
    go [] (suc (suc v)) h = refl
    go (r ∷ rs) v h = ap (first_here v) (here_past (r ∷ rs) v (omega arith))

  pub excerpt_next : (v ≡ 0 → ⊥) → v < size_of rs n → lower n (next_of rs (n + v)) ≡ next_of (excerpt_of rs n) v
  excerpt_next z h = sym (here_next (drop n rs) n v z h ∙ ap (λ (l : List Row). lower n (next_here (n + v) l)) step)

  pub excerpt_next_past : (v ≡ 0 → ⊥) → size_of rs n ≤ v → None ≡ next_of (excerpt_of rs n) v
  excerpt_next_past z h = sym (ap (next_here v) (here_past (drop n rs) v (omega arith)))

  pub excerpt_next_root : v ≡ 0 → None ≡ next_of (excerpt_of rs n) v
  excerpt_next_root z = sym (subst (λ (x : ℕ). next_of (excerpt_of rs n) x ≡ None) (sym z) (here_root_next (drop n rs)))

  pub excerpt_root_label : v ≡ 0 → 0 ≡ label_of (excerpt_of rs n) v
  excerpt_root_label z = subst (λ (x : ℕ). 0 ≡ label_of (excerpt_of rs n) x) (sym z) (go (drop n rs)) where
    go : (p : List Row) → 0 ≡ label_of (excerpt_here p) 0
    go [] = refl
    go (r ∷ rs) = refl

  pub excerpt_root_size : v ≡ 0 → max (size_of rs n) 1 ≡ size_of (excerpt_of rs n) v
  excerpt_root_size z = subst (λ (x : ℕ). max (size_of rs n) 1 ≡ size_of (excerpt_of rs n) x) (sym z) (go (drop n rs)) where
    go : (p : List Row) → max (size_here p) 1 ≡ size_here (excerpt_here p)
    go [] = refl
    go (r ∷ rs) = omega (arith, root_run r.depth rs)

run_length : (d : ℕ) (rs : List Row) → run d rs ≤ length rs
run_length d [] = omega arith
run_length d (r ∷ rs) = let ih = run_length d rs in grind (arith, nat_tests)

size_length : (rs : List Row) → size_here rs ≤ length rs
size_length [] = omega arith
size_length (r ∷ rs) = omega (arith, run_length r.depth rs)

pub excerpt_fits : (rs : List Row) (n v : ℕ) → Lawful rs → v < size_of rs n → n + v < 8192
excerpt_fits rs n v l h = omega (arith, size_length (drop n rs), length-drop n rs, l.few)

next_from_later : (u d w : ℕ) (rs : List Row) → next_from u d rs ≡ Some w → u ≤ w
next_from_later u d w [] e = let z : ◌≡◌ {A = ℕ} 0 1 = cc in absurd (omega arith)
next_from_later u d w (r ∷ rs) e = let ih = next_from_later (u + 1) d w rs in grind (arith, nat_tests)

next_here_later : (v w : ℕ) (rs : List Row) → next_here v rs ≡ Some w → v < w
next_here_later v w [] e = let z : ◌≡◌ {A = ℕ} 0 1 = cc in absurd (omega arith)
next_here_later v w (r ∷ rs) e = omega (arith, next_from_later (v + 1) r.depth w rs e)

pub next_later : (rs : List Row) (v w : ℕ) → next_of rs v ≡ Some w → v < w
next_later rs v w e = next_here_later v w (drop v rs) e

depth_deeper : (d : ℕ) (rs : List Row) (k : ℕ) → k < run d rs → depth_here (drop k (below d rs)) + d ≡ depth_here (drop k rs)
depth_deeper d rs k h =
    let i = deeper d rs k h in
    let a = ap depth_here i.part in
    let b = ap depth_here i.place in
    omega arith

here_depth : (p : List Row) (v : ℕ) → v < size_here p → depth_here (drop v (excerpt_here p)) + depth_here p ≡ depth_here (drop v p)
here_depth [] v h = absurd (omega arith)
here_depth (r ∷ rs) zero h = omega arith
here_depth (r ∷ rs) (suc k) h = depth_deeper r.depth rs k (omega arith)

excerpt_depth : (rs : List Row) (n k : ℕ) → k < size_of rs n → depth_of (excerpt_of rs n) k + depth_of rs n ≡ depth_of rs (n + k)
excerpt_depth rs n k h =
    let a = here_depth (drop n rs) k h in
    let b = ap depth_here (drop-drop k n rs) in
    omega (arith, depth_drop rs (n + k), depth_drop (excerpt_of rs n) k, depth_drop rs n)

size_some : (rs : List Row) (v : ℕ) → v < length rs → 1 ≤ size_of rs v
size_some [] v h = absurd (omega arith)
size_some (r ∷ rs) zero h = omega arith
size_some (r ∷ rs) (suc v) h = size_some rs v (omega arith)

pub excerpt_lawful : (rs : List Row) (v : ℕ) → Lawful rs → Lawful (excerpt_of rs v)
excerpt_lawful rs v l = to_lawful (excerpt_of rs v) (excerpt_passes rs v (of_lawful rs l))

pub excerpts : Excerpts
excerpts rs v l = (
  excerpt_lawful rs v l,
  λ h. record {
    count = omega (arith, excerpt_count rs v 0, size_some rs v h);
    root = sym (excerpt_root_label rs v 0 refl);
    depth = λ k b. excerpt_depth rs v k b;
    label = λ k a b. sym (excerpt_label rs v k (λ e. omega arith) b);
  },
)
