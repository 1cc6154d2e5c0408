-- The stored rows of a tree are those that have each node's label, distance and size, and they stand for its rows.
use Rattle.std.proofs.Common.{◌≡◌, ℕ, zero, suc, ◌+◌, ◌-◌, ◌<◌, ◌≤◌, List, [], ◌∷◌, length, get_or, sym, refl, ap, ◌∙◌, subst, ⊎_elim, arith}
use Rattle.std.proofs.lemmas.List.FromFn.{length-map-range_with_len, get_or-map-range_with_len, fill_by_all}
use Rattle.std.proofs.lemmas.Bool.{cases_lt, cond-true, cond-false, eq-eqb, ne_eqb}
use Rattle.rows.specs.Rows.{Row, row, nobody, count_of, depth_of, label_of, Lawful, Child}
use Rattle.rows.specs.Lawful.{IsLawful}
use Rattle.rows.proofs.Laws.{to_lawful, of_lawful}
use Rattle.stored.specs.declared.row.StoredRow.{StoredRow}
use Rattle.stored.specs.Stored.{stored, blank, at, distance_of, stored_at, stored_of, depth_at, rows_from, rows_of, OfTree, Stores}
use Rattle.stored.specs.Claims.{RowsKept, TreesKnown}
use Rattle.stored.proofs.Subtrees.{back_found, back_above, back_some}

pub rows_length : (ds : List ℕ) (es : List StoredRow) → length (rows_from ds es) ≡ length es
rows_length ds [] = refl
rows_length ds (e ∷ es) = ap suc (rows_length (depth_at ds e ∷ ds) es)

pub label_rows : (ds : List ℕ) (es : List StoredRow) (v : ℕ) → v < length es → label_of (rows_from ds es) v ≡ (at es v).label
label_rows ds [] v h = absurd (omega arith)
label_rows ds (e ∷ es) zero h = refl
label_rows ds (e ∷ es) (suc v) h = label_rows (depth_at ds e ∷ ds) es v (omega arith)

-- the depths before node v, the nearest first
abbrev before : List ℕ → List Row → ℕ → List ℕ
before ds rs zero = ds
before ds [] (suc v) = ds
before ds (r ∷ rs) (suc v) = before (r.depth ∷ ds) rs v

before_old : (ds : List ℕ) (rs : List Row) (v k : ℕ) → v ≤ length rs → get_or (before ds rs v) (v + k) 0 ≡ get_or ds k 0
before_old ds rs zero k h = ap (λ (n : ℕ). get_or ds n 0) (omega arith)
before_old ds [] (suc v) k h = absurd (omega arith)
before_old ds (r ∷ rs) (suc v) k h = ap (λ (n : ℕ). get_or (before (r.depth ∷ ds) rs v) n 0) (omega arith) ∙ before_old (r.depth ∷ ds) rs v (suc k) (omega arith)

before_at : (ds : List ℕ) (rs : List Row) (v k j : ℕ) → v ≤ length rs → j + suc k ≡ v → get_or (before ds rs v) k 0 ≡ depth_of rs j
before_at ds rs zero k j h e = absurd (omega arith)
before_at ds [] (suc v) k j h e = absurd (omega arith)
before_at ds (r ∷ rs) (suc v) k zero h e = ap (λ (n : ℕ). get_or (before (r.depth ∷ ds) rs v) n 0) (omega arith) ∙ before_old (r.depth ∷ ds) rs v 0 (omega arith)
before_at ds (r ∷ rs) (suc v) k (suc j) h e = before_at (r.depth ∷ ds) rs v k j (omega arith) (omega arith)

depth_from : (ds : List ℕ) (es : List StoredRow) (v : ℕ) → v < length es → depth_of (rows_from ds es) v ≡ depth_at (before ds (rows_from ds es) v) (at es v)
depth_from ds [] v h = absurd (omega arith)
depth_from ds (e ∷ es) zero h = refl
depth_from ds (e ∷ es) (suc v) h = depth_from (depth_at ds e ∷ ds) es v (omega arith)

pub depth_root : (es : List StoredRow) → 0 < length es → (at es 0).distance ≡ 0 → depth_of (rows_of es) 0 ≡ 0
depth_root es h z = depth_from [] es 0 h ∙ cond-true _ _ _ (eq-eqb _ _ z)

pub depth_parent : (es : List StoredRow) (v : ℕ) → v < length es → 1 ≤ (at es v).distance → (at es v).distance ≤ v
    → depth_of (rows_of es) v ≡ suc (depth_of (rows_of es) (v - (at es v).distance))
depth_parent es v h one le =
    let n = rows_length [] es in
    depth_from [] es v h ∙ cond-false _ _ _ (ne_eqb (at es v).distance 0 (λ z. omega arith))
    ∙ ap suc (before_at [] (rows_of es) v ((at es v).distance - 1) (v - (at es v).distance) (omega arith) (omega arith))

-- lists are equal where they are at every place
same_lists : {A : Type 0} (xs ys : List A) (d : A) → length xs ≡ length ys → ((k : ℕ) → k < length ys → get_or xs k d ≡ get_or ys k d) → xs ≡ ys
same_lists [] [] d n e = refl
same_lists [] (y ∷ ys) d n e = absurd (omega arith)
same_lists (x ∷ xs) [] d n e = absurd (omega arith)
same_lists (x ∷ xs) (y ∷ ys) d n e = ap (λ z. z ∷ xs) (e 0 (omega arith)) ∙ ap (λ zs. y ∷ zs) (same_lists xs ys d (omega arith) (λ k h. e (suc k) (omega arith)))

same_row : (r s : Row) → r.depth ≡ s.depth → r.label ≡ s.label → r ≡ s
same_row r s d c = ap (λ x. row x r.label) d ∙ ap (λ x. row s.depth x) c

same_stored : (e : StoredRow) (c d s : ℕ) → e.label ≡ c → e.distance ≡ d → e.size ≡ s → e ≡ stored c d s
same_stored e c d s p q r = ap (λ x. stored x e.distance e.size) p ∙ ap (λ x. stored c x e.size) q ∙ ap (λ x. stored c d x) r

pub stored_length : (rows : List Row) → length (stored_of rows) ≡ count_of rows
stored_length rows = length-map-range_with_len (stored_at rows) 0 (count_of rows)

pub stored_read : (rows : List Row) (v : ℕ) → v < count_of rows → at (stored_of rows) v ≡ stored_at rows v
stored_read rows v h = get_or-map-range_with_len (stored_at rows) 0 (count_of rows) v v blank h (omega arith)

-- the parent is the nearest node before that is less deep
parent_back : (rows : List Row) → Lawful rows → (v : ℕ) → 0 < v → v < count_of rows → (distance_of rows v ≤ v) × Child rows (v - distance_of rows v) v
parent_back rows l v z h =
    let d = l.root_depth in
    let low = l.other_depth v z h in
    let b = back_some (depth_of rows v) rows v z (omega arith) in
    let p = v - distance_of rows v in
    let above : (u : ℕ) → p < u → u ≤ v → depth_of rows v ≤ depth_of rows u = λ u a c.
    ⊎_elim
    (λ (less : u < v). back_above (depth_of rows v) rows v u less (omega arith))
    (λ (ge : v ≤ u). let e : v ≡ u = omega arith in let k = ap (depth_of rows) e in omega arith)
    (cases_lt u v) in
    let one = l.steps p (omega arith) in
    let deep = above (suc p) (omega arith) (omega arith) in
    (b.1, ((omega arith, h, λ u a c. let k = above u a c in omega arith), omega arith))

pub stores : (rows : List Row) → Lawful rows → Stores rows (stored_of rows)
stores rows l = record {
  each = stored_length rows;
  label = λ v h. ap (λ (e : StoredRow). e.label) (stored_read rows v h);
  root = ap (λ (e : StoredRow). e.distance) (stored_read rows 0 l.some);
  parent = λ v z h. let e = ap (λ (e : StoredRow). e.distance) (stored_read rows v h) in subst (λ (x : ℕ). (x ≤ v) × Child rows (v - x) v) (sym e) (parent_back rows l v z h);
  size = λ v h. ap (λ (e : StoredRow). e.size) (stored_read rows v h);
}

pub stored_same : (rows : List Row) (es : List StoredRow) → Stores rows es → es ≡ stored_of rows
stored_same rows es s = fill_by_all (stored_at rows) es (count_of rows) blank s.each (λ k h. same_stored (at es k) _ _ _ (s.label k h) (far k h) (s.size k h)) where
  far : (k : ℕ) → k < count_of rows → (at es k).distance ≡ distance_of rows k
  far zero h = s.root
  far (suc k) h =
      let p = s.parent (suc k) (omega arith) h in
      let c = p.1.0 in
      let d = p.1.1 in
      let q = suc k - (at es (suc k)).distance in
      let f = back_found (depth_of rows (suc k)) rows (suc k) q c.0 (λ j a b. let e = c.2 j a (omega arith) in omega arith) (omega arith) in
      omega (arith, p.0)

module _ (rows : List Row) (l : Lawful rows) (es : List StoredRow) (s : Stores rows es) where
  depths : (m v : ℕ) → v < m → v < count_of rows → depth_of (rows_of es) v ≡ depth_of rows v
  depths zero v a h = absurd (omega arith)
  depths (suc m) zero a h = depth_root es (omega (arith, s.each)) s.root ∙ sym l.root_depth
  depths (suc m) (suc v) a h =
      let p = s.parent (suc v) (omega arith) h in
      let lt = p.1.0.0 in
      let q = suc v - (at es (suc v)).distance in
      depth_parent es (suc v) (omega (arith, s.each)) (omega arith) p.0 ∙ ap suc (depths m q (omega arith) (omega arith)) ∙ sym p.1.1

  pub rows_back : rows_of es ≡ rows
  rows_back =
      let n = rows_length [] es in
      same_lists (rows_of es) rows nobody (omega (arith, s.each))
      (λ k h. same_row (get_or (rows_of es) k nobody) (get_or rows k nobody) (depths (suc k) k (omega arith) h) (label_rows [] es k (omega (arith, s.each)) ∙ s.label k h))

  pub of_tree : OfTree es
  of_tree = record { lawful = subst IsLawful (sym rows_back) (of_lawful rows l); same = ap stored_of rows_back ∙ sym (stored_same rows es s) }

pub tree_rows : (es : List StoredRow) → OfTree es → Lawful (rows_of es) × Stores (rows_of es) es
tree_rows es t =
    let l = to_lawful (rows_of es) t.lawful in
    (l, subst (Stores (rows_of es)) t.same (stores (rows_of es) l))

pub rows_kept : RowsKept
rows_kept rows l = record {
  exactly = λ es. (stored_same rows es, λ e. subst (Stores rows) (sym e) (stores rows l));
  back = rows_back rows l (stored_of rows) (stores rows l);
  loads = of_tree rows l (stored_of rows) (stores rows l);
}

pub trees_known : TreesKnown
trees_known es = (tree_rows es, λ rows l s. (of_tree rows l es s, rows_back rows l es s))
