-- What stored rows answer.
use Rattle.std.proofs.Common.{◌≡◌, ℕ, zero, suc, ◌+◌, ◌-◌, ◌<◌, ◌≤◌, List, [], ◌∷◌, length, get_or, drop, Some, None, Option, sym, refl, ap, ◌∙◌, subst, ⊎_elim, add-one, arith}
use Rattle.std.proofs.lemmas.Bool.{cases_lt}
use Rattle.rows.specs.Rows.{Row, nobody, count_of, depth_of, label_of, Lawful, FirstChild, NextSibling}
use Rattle.rows.specs.Answers.{size_here, size_of, first_here, first_of, next_here, next_of}
use Rattle.rows.specs.Claims.{Answers}
use Rattle.rows.proofs.Questions.{questions}
use Rattle.stored.specs.declared.row.StoredRow.{StoredRow}
use Rattle.stored.specs.Stored.{at, rows_of, OfTree, Stores}
use Rattle.stored.proofs.Subtrees.{size_inside, size_stop, size_more, size_within}
use Rattle.stored.proofs.Kept.{rows_length, tree_rows}
use Rattle.stored.proofs.Passed.{root_size}

-- an answer is the one node so related, or none
answer_some : (R : ℕ → Type 0) (o : Option ℕ) (w : ℕ) → Answers o R → R w → ((x : ℕ) → R x → x ≡ w) → Some w ≡ o
answer_some R None w a r one = absurd (a w r)
answer_some R (Some x) w a r one = ap Some (sym (one x a))

answer_none : (R : ℕ → Type 0) (o : Option ℕ) → Answers o R → ((x : ℕ) → ¬ R x) → None ≡ o
answer_none R None a none = refl
answer_none R (Some x) a none = absurd (none x a)

past : {A : Type 0} (xs : List A) (v : ℕ) → length xs ≤ v → drop v xs ≡ []
past [] zero h = refl
past [] (suc v) h = refl
past (x ∷ xs) zero h = absurd (omega arith)
past (x ∷ xs) (suc v) h = past xs v (omega arith)

get_d_past : {A : Type 0} (xs : List A) (v : ℕ) (d : A) → length xs ≤ v → get_or xs v d ≡ d
get_d_past [] zero d h = refl
get_d_past [] (suc v) d h = refl
get_d_past (x ∷ xs) zero d h = absurd (omega arith)
get_d_past (x ∷ xs) (suc v) d h = get_d_past xs v d (omega arith)

module _ (es : List StoredRow) (t : OfTree es) (v : ℕ) where
  pub count_at : length es ≡ count_of (rows_of es)
  count_at = sym (rows_length [] es)

  l : Lawful (rows_of es)
  l = (tree_rows es t).0

  s : Stores (rows_of es) es
  s = (tree_rows es t).1

  pub label_at : v < length es → (at es v).label ≡ label_of (rows_of es) v
  label_at h = s.label v (omega (arith, count_at))

  pub label_past : length es ≤ v → 65535 ≡ label_of (rows_of es) v
  label_past h = sym (ap (λ (r : Row). r.label) (get_d_past (rows_of es) v nobody (omega (arith, count_at))))

  pub size_at : v < length es → (at es v).size ≡ size_of (rows_of es) v
  size_at h = s.size v (omega (arith, count_at))

  pub size_past : length es ≤ v → 0 ≡ size_of (rows_of es) v
  size_past h = sym (ap size_here (past (rows_of es) v (omega (arith, count_at))))

  pub first_past : length es ≤ v → None ≡ first_of (rows_of es) v
  first_past h = sym (ap (first_here v) (past (rows_of es) v (omega (arith, count_at))))

  pub next_past : length es ≤ v → None ≡ next_of (rows_of es) v
  next_past h = sym (ap (next_here v) (past (rows_of es) v (omega (arith, count_at))))

  pub first_some : v < length es → 1 < (at es v).size → Some (v + 1) ≡ first_of (rows_of es) v
  first_some h b =
      let n = count_at in
      let z = size_at h in
      let w = size_within (rows_of es) v (omega arith) in
      let deep = size_inside (rows_of es) v (suc v) (omega arith) (omega arith) in
      let one = l.steps v (omega arith) in
      let e = add-one v in
      answer_some (FirstChild (rows_of es) v) (first_of (rows_of es) v) (v + 1) (questions (rows_of es) v (omega arith)).0
      (subst (FirstChild (rows_of es) v) (sym e) (refl, omega arith, omega arith)) (λ x f. f.0 ∙ sym e)

  pub first_none : v < length es → (at es v).size ≤ 1 → None ≡ first_of (rows_of es) v
  first_none h b =
      let n = count_at in
      let z = size_at h in
      let m = size_more (rows_of es) v (omega arith) in
      answer_none (FirstChild (rows_of es) v) (first_of (rows_of es) v) (questions (rows_of es) v (omega arith)).0
      (λ x f.
      let e : v + size_of (rows_of es) v ≡ suc v = omega arith in
      let lt = subst (λ y. y < count_of (rows_of es)) f.0 f.1 in
      let d = subst (λ y. depth_of (rows_of es) y ≡ suc (depth_of (rows_of es) v)) f.0 f.2 in
      let a = subst (λ y. depth_of (rows_of es) y ≤ depth_of (rows_of es) v) e (size_stop (rows_of es) v (omega arith) (omega arith)) in
      omega arith)

  -- a next sibling stands right after the subtree
  sibling_after : v < length es → (x : ℕ) → NextSibling (rows_of es) v x → x ≡ v + (at es v).size
  sibling_after h x f =
      let n = count_at in
      let z = size_at h in
      let w = size_within (rows_of es) v (omega arith) in
      let m = size_more (rows_of es) v (omega arith) in
      let lt = f.0 in
      let d = f.2 in
      ⊎_elim
      (λ (less : x < v + size_of (rows_of es) v). let a = size_inside (rows_of es) v x lt less in absurd (omega arith))
      (λ (ge : v + size_of (rows_of es) v ≤ x).
      ⊎_elim
      (λ (more : v + size_of (rows_of es) v < x). let k = f.1 in let a = size_stop (rows_of es) v (omega arith) (omega arith) in let b = f.3 (v + size_of (rows_of es) v) (omega arith) more in absurd (omega arith))
      (λ (le : x ≤ v + size_of (rows_of es) v). omega arith)
      (cases_lt (v + size_of (rows_of es) v) x))
      (cases_lt x (v + size_of (rows_of es) v))

  pub next_none : v < length es → length es ≤ v + (at es v).size → None ≡ next_of (rows_of es) v
  next_none h b =
      let n = count_at in
      answer_none (NextSibling (rows_of es) v) (next_of (rows_of es) v) (questions (rows_of es) v (omega arith)).1
      (λ x f. let e = sibling_after h x f in let k = f.1 in omega arith)

  not_root : v < length es → v + (at es v).size < length es → 0 < v
  not_root h b =
      ⊎_elim (λ (less : 0 < v). less)
      (λ (le : v ≤ 0). let e : v ≡ 0 = omega arith in let g = ap (λ x. x + (at es x).size) e in let r = root_size (rows_of es) l es s in absurd (omega arith))
      (cases_lt 0 v)

  pub next_some : v < length es → v + (at es v).size < length es → (at es (v + (at es v).size)).distance ≡ v + (at es v).size - v + (at es v).distance → Some (v + (at es v).size) ≡ next_of (rows_of es) v
  next_some h b far =
      let n = count_at in
      let z = size_at h in
      let m = size_more (rows_of es) v (omega arith) in
      let p = s.parent v (not_root h b) (omega arith) in
      let q = s.parent (v + (at es v).size) (omega arith) (omega arith) in
      let e : v + (at es v).size - (at es (v + (at es v).size)).distance ≡ v - (at es v).distance = omega (arith, p.0) in
      let g = ap (depth_of (rows_of es)) e in
      let i = p.1.1 in
      let j = q.1.1 in
      answer_some (NextSibling (rows_of es) v) (next_of (rows_of es) v) (v + (at es v).size) (questions (rows_of es) v (omega arith)).1
      (omega arith, omega arith, omega arith, λ u a c. size_inside (rows_of es) v u a (omega arith)) (sibling_after h)

  pub next_other : v < length es → v + (at es v).size < length es → ((at es (v + (at es v).size)).distance ≡ v + (at es v).size - v + (at es v).distance → ⊥) → None ≡ next_of (rows_of es) v
  next_other h b far =
      let n = count_at in
      let z = size_at h in
      let m = size_more (rows_of es) v (omega arith) in
      let p = s.parent v (not_root h b) (omega arith) in
      let q = s.parent (v + (at es v).size) (omega arith) (omega arith) in
      let P = v - (at es v).distance in
      let Q = v + (at es v).size - (at es (v + (at es v).size)).distance in
      let i = p.1.1 in
      let j = q.1.1 in
      let pv = p.1.0 in
      let qv = q.1.0 in
      let pl = p.0 in
      let ql = q.0 in
      let p0 = pv.0 in
      let q0 = qv.0 in
      answer_none (NextSibling (rows_of es) v) (next_of (rows_of es) v) (questions (rows_of es) v (omega arith)).1
      (λ x f.
      let e = sibling_after h x f in
      let d = subst (λ y. depth_of (rows_of es) y ≡ depth_of (rows_of es) v) e f.2 in
      ⊎_elim
      (λ (less : v < Q). let a = size_inside (rows_of es) v Q less (omega arith) in omega arith)
      (λ (le : Q ≤ v).
      ⊎_elim
      (λ (qp : Q < P). let a = qv.2 P qp (omega arith) in omega arith)
      (λ (pq : P ≤ Q).
      ⊎_elim
      (λ (pq2 : P < Q). let a = pv.2 Q pq2 le in omega arith)
      (λ (qp2 : Q ≤ P). far (omega arith))
      (cases_lt P Q))
      (cases_lt Q P))
      (cases_lt v Q))
