-- One pass over stored rows decides whether they are of a tree.
use Rattle.std.proofs.Common.{◌≡◌, ℕ, zero, suc, ◌+◌, ◌-◌, ◌<◌, ◌≤◌, List, [], length, sym, ap, ◌∙◌, subst, ⊎_elim, arith}
use Rattle.std.proofs.lemmas.Bool.{cases_lt}
use Rattle.rows.specs.Rows.{Row, count_of, depth_of, Lawful, Child}
use Rattle.rows.specs.Answers.{size_of}
use Rattle.stored.specs.declared.row.StoredRow.{StoredRow}
use Rattle.stored.specs.Stored.{at, rows_of, OfTree, Stores}
use Rattle.stored.specs.Fits.{Ended, parent_of, Fits, Fitting}
use Rattle.stored.specs.Claims.{PassDecides}
use Rattle.stored.proofs.Subtrees.{size_inside, size_stop, size_more, size_within, size_known}
use Rattle.stored.proofs.Kept.{rows_length, label_rows, depth_root, depth_parent, of_tree, tree_rows}

module _ (es : List StoredRow) (t : Fitting es) where
  abbrev D : ℕ → ℕ
  D v = depth_of (rows_of es) v

  abbrev end : ℕ → ℕ
  end v = v + (at es v).size

  deeper : (v : ℕ) → 0 < v → v < length es → D v ≡ suc (D (parent_of es v))
  deeper v z h = let f = t.fits v z h in depth_parent es v h f.back f.before

  -- a node inside v's subtree has its parent there
  parent_in : (v u : ℕ) → v < u → u < length es → u < end v → v ≤ parent_of es u
  parent_in v u a h b =
      ⊎_elim (λ (less : parent_of es u < v). let k = (t.fits u (omega arith) h).ended v less a in absurd (omega arith)) (λ (ge : v ≤ parent_of es u). ge) (cases_lt (parent_of es u) v)

  inside : (m u : ℕ) → u < m → (v : ℕ) → v < u → u < length es → u < end v → D v < D u
  inside zero u k v a h b = absurd (omega arith)
  inside (suc m) u k v a h b =
      let f = t.fits u (omega arith) h in
      let back = f.back in
      let before = f.before in
      let d = deeper u (omega arith) h in
      let ge = parent_in v u a h b in
      ⊎_elim
      (λ (less : v < parent_of es u). let i = inside m (parent_of es u) (omega arith) v less (omega arith) (omega arith) in omega arith)
      (λ (le : parent_of es u ≤ v). let e : parent_of es u ≡ v = omega arith in let g = ap D e in omega arith)
      (cases_lt v (parent_of es u))

  nested : (m j : ℕ) → j < m → (v : ℕ) → v ≤ j → j < length es → j < end v → end j ≤ end v
  nested zero j k v a h b = absurd (omega arith)
  nested (suc m) j k v a h b =
      ⊎_elim
      (λ (less : v < j).
      let f = t.fits j (omega arith) h in
      let back = f.back in
      let before = f.before in
      let within = f.within in
      let i = nested m (parent_of es j) (omega arith) v (parent_in v j less h b) (omega arith) (omega arith) in
      omega arith)
      (λ (le : j ≤ v). let e : j ≡ v = omega arith in let g = ap end e in omega arith)
      (cases_lt v j)

  some : (v : ℕ) → v < length es → 1 ≤ (at es v).size
  some zero h = let s = t.root_size in omega arith
  some (suc v) h = (t.fits (suc v) (omega arith) h).some

  ends : (v : ℕ) → v < length es → end v ≤ length es
  ends v h = let s = t.root_size in let k = nested (suc v) v (omega arith) 0 (omega arith) h (omega arith) in omega arith

  after : (v : ℕ) → v < length es → end v < length es → D (end v) ≤ D v
  after v h b =
      let one = some v h in
      let u = end v in
      let f = t.fits u (omega arith) b in
      let back = f.back in
      let before = f.before in
      let within = f.within in
      let more = f.some in
      let d = deeper u (omega arith) b in
      ⊎_elim
      (λ (less : parent_of es u < v). let i = inside (suc v) v (omega arith) (parent_of es u) less h (omega arith) in omega arith)
      (λ (ge : v ≤ parent_of es u). let i = nested u (parent_of es u) (omega arith) v ge (omega arith) (omega arith) in absurd (omega arith))
      (cases_lt (parent_of es u) v)

  count : count_of (rows_of es) ≡ length es
  count = rows_length [] es

  -- a node that is not the root is inside its parent's subtree, and so are those between
  below : (v : ℕ) → 0 < v → v < length es → (u : ℕ) → parent_of es v < u → u ≤ v → D (parent_of es v) < D u
  below v z h u a b =
      let f = t.fits v z h in
      let within = f.within in
      let more = f.some in
      inside (suc u) u (omega arith) (parent_of es v) a (omega arith) (omega arith)

  parents : (v : ℕ) → 0 < v → v < count_of (rows_of es) → ((at es v).distance ≤ v) × Child (rows_of es) (parent_of es v) v
  parents v z h =
      let n = count in
      let f = t.fits v z (omega arith) in
      let back = f.back in
      let before = f.before in
      (before, ((omega arith, h, λ u a b. below v z (omega arith) u a b), deeper v z (omega arith)))

  pass_stores : Stores (rows_of es) es
  pass_stores = record {
    each = sym count;
    label = λ v h. sym (label_rows [] es v (omega (arith, count)));
    root = t.root_distance;
    parent = parents;
    size = λ v h. let n = count in size_known (rows_of es) v (at es v).size h (some v (omega arith)) (let e = ends v (omega arith) in omega arith)
        (λ j a b. let e = ends v (omega arith) in inside (suc j) j (omega arith) v a (omega arith) b)
        (λ b. after v (omega arith) (omega arith));
  }

  step : (v : ℕ) → suc v < length es → D (suc v) ≤ suc (D v)
  step v h =
      let f = t.fits (suc v) (omega arith) h in
      let back = f.back in
      let d = deeper (suc v) (omega arith) h in
      ⊎_elim
      (λ (less : parent_of es (suc v) < v). let i = below (suc v) (omega arith) h v less (omega arith) in omega arith)
      (λ (ge : v ≤ parent_of es (suc v)). let e : parent_of es (suc v) ≡ v = omega arith in let g = ap D e in omega arith)
      (cases_lt (parent_of es (suc v)) v)

  text : (v : ℕ) → suc v < length es → (at es v).label ≡ 1 → D (suc v) ≤ D v
  text v h is =
      let f = t.fits (suc v) (omega arith) h in
      let back = f.back in
      let d = deeper (suc v) (omega arith) h in
      ⊎_elim
      (λ (less : parent_of es (suc v) < v). let i = below (suc v) (omega arith) h v less (omega arith) in omega arith)
      (λ (ge : v ≤ parent_of es (suc v)). let e : parent_of es (suc v) ≡ v = omega arith in absurd (f.no_text (ap (λ x. (at es x).label) e ∙ is)))
      (cases_lt (parent_of es (suc v)) v)

  pass_lawful : Lawful (rows_of es)
  pass_lawful =
      let n = count in
      record {
        some = let s = t.some in omega arith;
        few = let f = t.few in omega arith;
        root_depth = depth_root es t.some t.root_distance;
        root_label = label_rows [] es 0 t.some ∙ t.root_label;
        other_depth = λ v z h. let d = deeper v z (omega arith) in omega arith;
        other_label = λ v z h. let f = t.fits v z (omega arith) in let e = label_rows [] es v (omega arith) in let a = f.low_label in let b = f.high_label in (omega arith, omega arith);
        steps = λ v h. step v (omega arith);
        texts = λ v h is. text v (omega arith) (sym (label_rows [] es v (omega arith)) ∙ is);
      }

  pub passed : OfTree es
  passed = of_tree (rows_of es) pass_lawful es pass_stores

module _ (rows : List Row) (l : Lawful rows) (es : List StoredRow) (s : Stores rows es) where
  pub fits : (v : ℕ) → 0 < v → v < length es → Fits es v
  fits v z b =
      let n = s.each in
      let h : v < count_of rows = omega arith in
      let p = parent_of es v in
      let c = s.parent v z h in
      let down = c.1.0 in
      let lt = down.0 in
      let deep = c.1.1 in
      let q = l.other_label v z h in
      let sv = s.size v h in
      let sp = s.size p (omega arith) in
      let inp : v < p + size_of rows p =
      ⊎_elim (λ (k : v < p + size_of rows p). k) (λ (k : p + size_of rows p ≤ v). let m = size_more rows p (omega arith) in let a = size_stop rows p (omega arith) (omega arith) in let g = down.2 (p + size_of rows p) (omega arith) k in absurd (omega arith)) (cases_lt v (p + size_of rows p)) in
      record {
        low_label = let e = s.label v h in omega (arith, q.0);
        high_label = let e = s.label v h in omega (arith, q.1);
        some = let m = size_more rows v h in omega arith;
        back = omega arith;
        before = c.0;
        no_text = λ is. let e = s.label p (omega arith) in let a = l.texts p (omega arith) (sym e ∙ is) in let g = down.2 (suc p) (omega arith) (omega arith) in omega arith;
        within =
            ⊎_elim
            (λ (k : p + size_of rows p < v + size_of rows v).
            let w = size_within rows v h in
            let a = size_stop rows p (omega arith) (omega arith) in
            let g = size_inside rows v (p + size_of rows p) inp k in
            absurd (omega arith))
            (λ (k : v + size_of rows v ≤ p + size_of rows p). omega arith)
            (cases_lt (p + size_of rows p) (v + size_of rows v));
        ended = λ j a d.
            let sj = s.size j (omega arith) in
            ⊎_elim
            (λ (k : v < j + size_of rows j). let g = size_inside rows j v d k in let i = down.2 j a (omega arith) in absurd (omega arith))
            (λ (k : j + size_of rows j ≤ v). omega arith)
            (cases_lt v (j + size_of rows j));
      }

  pub root_size : (at es 0).size ≡ length es
  root_size =
      let n = s.each in
      let z = l.some in
      let sz = s.size 0 z in
      let w = size_within rows 0 z in
      let m = size_more rows 0 z in
      let r = l.root_depth in
      ⊎_elim
      (λ (k : 0 + size_of rows 0 < count_of rows). let a = size_stop rows 0 z k in let o = l.other_depth (0 + size_of rows 0) (omega arith) k in absurd (omega arith))
      (λ (k : count_of rows ≤ 0 + size_of rows 0). omega arith)
      (cases_lt (0 + size_of rows 0) (count_of rows))

  pub fitting : Fitting es
  fitting = record {
    some = let n = s.each in let z = l.some in omega arith;
    few = let n = s.each in let z = l.few in omega arith;
    root_label = s.label 0 l.some ∙ l.root_label;
    root_distance = s.root;
    root_size = root_size;
    fits = fits;
  }

pub pass_decides : PassDecides
pass_decides es = (passed es, λ t. let r = tree_rows es t in fitting (rows_of es) r.0 es r.1)

-- from a row whose subtree has ended at v to its parent
pub climb : (es : List StoredRow) (v q : ℕ) → q < v → q + (at es q).size ≤ v → Fits es q → Ended es q v → Ended es (parent_of es q) v
climb es v q lt end f ended j a b =
    ⊎_elim
    (λ (less : j < q). let k = f.ended j a less in omega arith)
    (λ (ge : q ≤ j). ⊎_elim (λ (more : q < j). ended j more b) (λ (le : j ≤ q). let e : q ≡ j = omega arith in subst (λ x. x + (at es x).size ≤ v) e end) (cases_lt q j))
    (cases_lt j q)

-- a row before v whose subtree goes on at v, and all between it and v have ended, is the parent by v's distance
pub same_parent : (es : List StoredRow) (v p : ℕ) → p < v → v < p + (at es p).size → Ended es p v → Fits es v → p ≡ parent_of es v
same_parent es v p lt on ended f =
    let back = f.back in
    let before = f.before in
    let within = f.within in
    let some = f.some in
    ⊎_elim
    (λ (less : p < parent_of es v). let k = ended (parent_of es v) less (omega arith) in absurd (omega arith))
    (λ (ge : parent_of es v ≤ p). ⊎_elim (λ (more : parent_of es v < p). let k = f.ended p more lt in absurd (omega arith)) (λ (le : p ≤ parent_of es v). omega arith) (cases_lt (parent_of es v) p))
    (cases_lt p (parent_of es v))

-- the root's subtree goes on everywhere
pub not_root : (es : List StoredRow) (v q : ℕ) → (at es 0).size ≡ length es → v < length es → q + (at es q).size ≤ v → 0 < q
not_root es v zero r h e = absurd (omega arith)
not_root es v (suc q) r h e = omega arith

-- what the pass finds of row v and of its parent p
pub fits_found : (es : List StoredRow) (v p : ℕ) → p < v → Ended es p v → v - p ≡ (at es v).distance
    → 1 ≤ (at es v).label → (at es v).label ≤ 513 → 1 ≤ (at es v).size → ((at es p).label ≡ 1 → ⊥) → v + (at es v).size ≤ p + (at es p).size → Fits es v
fits_found es v p lt ended far low high some other within =
    let e : p ≡ parent_of es v = omega arith in
    record {
      low_label = low;
      high_label = high;
      some = some;
      back = omega arith;
      before = omega arith;
      no_text = subst (λ x. (at es x).label ≡ 1 → ⊥) e other;
      within = subst (λ x. v + (at es v).size ≤ x + (at es x).size) e within;
      ended = subst (λ x. Ended es x v) e ended;
    }
