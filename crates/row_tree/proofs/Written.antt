-- Writing stored rows one after the other.
use Rattle.std.proofs.Common.{◌≡◌, ℕ, zero, suc, ◌+◌, ◌<◌, ◌≤◌, List, [], ◌∷◌, ◌++◌, length, get_or, take, drop, set, sym, refl, ap, ◌∙◌, subst, arith}
use lib.Seq.{drop-nil}
use Rattle.std.proofs.lemmas.List.{take_all, take-append-le}
use Rattle.rows.specs.Rows.{Row, count_of, Lawful}
use Rattle.rows.specs.Answers.{size_of}
use Rattle.stored.specs.declared.row.StoredRow.{StoredRow}
use Rattle.stored.specs.Stored.{at, distance_of, stored_at, stored_of, rows_of, OfTree}
use Rattle.stored.specs.Fits.{Ended, parent_of, Fits}
use Rattle.stored.proofs.Subtrees.{size_within}
use Rattle.stored.proofs.Kept.{stored_length, stored_read, stores, rows_kept}
use Rattle.stored.proofs.Passed.{fits, root_size, same_parent}

pub size_fits : (rs : List Row) (q : ℕ) → Lawful rs → q < count_of rs → q + size_of rs q ≤ 8192
size_fits rs q l h = let w = size_within rs q h in let f = l.few in omega arith

-- a row fits by the rows up to it alone
fits_same : (es os : List StoredRow) (v : ℕ) → ((j : ℕ) → j ≤ v → at es j ≡ at os j) → Fits es v → Fits os v
fits_same es os v e f =
    let here = e v (omega arith) in
    let label = ap (λ (x : StoredRow). x.label) here in
    let distance = ap (λ (x : StoredRow). x.distance) here in
    let size = ap (λ (x : StoredRow). x.size) here in
    let above : parent_of es v ≡ parent_of os v = omega arith in
    let there : at es (parent_of es v) ≡ at os (parent_of os v) = e (parent_of es v) (omega arith) ∙ ap (at os) above in
    let end = ap (λ (x : StoredRow). x.size) there in
    record {
      low_label = omega (arith, f.low_label);
      high_label = omega (arith, f.high_label);
      some = omega (arith, f.some);
      back = omega (arith, f.back);
      before = omega (arith, f.before);
      no_text = λ t. f.no_text (ap (λ (x : StoredRow). x.label) there ∙ t);
      within = omega (arith, f.within);
      ended = λ j a b. let k = ap (λ (x : StoredRow). x.size) (e j (omega arith)) in let n = f.ended j (omega arith) b in omega arith;
    }

module _ (rs : List Row) (l : Lawful rs) (v : ℕ) (h : v < count_of rs) where
  fits_at : (q : ℕ) → 0 < q → q ≤ v → Fits (stored_of rs) q
  fits_at q z le = fits rs l (stored_of rs) (stores rs l) q z (omega (arith, stored_length rs))

  -- rows of which those before v have been written
  module _ (es : List StoredRow) (known : (j : ℕ) → j < v → at es j ≡ stored_at rs j) where
    same : (j : ℕ) → j < v → at (stored_of rs) j ≡ at es j
    same j b = stored_read rs j (omega arith) ∙ sym (known j b)

    pub fits_known : (q : ℕ) → 0 < q → q < v → Fits es q
    fits_known q z b = fits_same (stored_of rs) es q (λ j le. same j (omega arith)) (fits_at q z (omega arith))

    pub root_known : 0 < v → v < (at es 0).size
    root_known z =
        let size = ap (λ (e : StoredRow). e.size) (same 0 z) in
        omega (arith, root_size rs l (stored_of rs) (stores rs l), stored_length rs)

    -- v's parent is found from them
    pub parent_known : (q : ℕ) → q < v → v < q + (at es q).size → Ended es q v → q + distance_of rs v ≡ v
    parent_known q lt on ended =
        let size : (at (stored_of rs) q).size ≡ (at es q).size = ap (λ (e : StoredRow). e.size) (same q lt) in
        let f = fits_at v (omega arith) (omega arith) in
        let d : (at (stored_of rs) v).distance ≡ distance_of rs v = ap (λ (e : StoredRow). e.distance) (stored_read rs v h) in
        let e = same_parent (stored_of rs) v q lt (omega arith) (λ j a b. let k = ap (λ (x : StoredRow). x.size) (same j b) in let n = ended j a b in omega arith) f in
        omega (arith, f.before)

pub fill_more : {A : Type 0} (es os : List A) (v : ℕ) (d : A) → v < length es → v < length os → set (take v es ++ drop v os) v (get_or es v d) ≡ take (suc v) es ++ drop (suc v) os
fill_more [] os v d a b = absurd (omega arith)
fill_more (x ∷ es) [] v d a b = absurd (omega arith)
fill_more (x ∷ es) (y ∷ os) zero d a b = refl
fill_more (x ∷ es) (y ∷ os) (suc v) d a b = ap (λ l. x ∷ l) (fill_more es os v d (omega arith) (omega arith))

pub fill_read : {A : Type 0} (es os : List A) (v j : ℕ) (d : A) → v ≤ length es → j < v → get_or (take v es ++ drop v os) j d ≡ get_or es j d
fill_read [] os v j d a b = absurd (omega arith)
fill_read (x ∷ es) os zero j d a b = absurd (omega arith)
fill_read (x ∷ es) os (suc v) zero d a b = refl
fill_read (x ∷ es) [] (suc v) (suc j) d a b = ap (λ (l : List _). get_or (take v es ++ l) j d) (sym (drop-nil v)) ∙ fill_read es [] v j d (omega arith) (omega arith)
fill_read (x ∷ es) (y ∷ os) (suc v) (suc j) d a b = fill_read es os v j d (omega arith) (omega arith)

take_front : {A : Type 0} (xs ys : List A) (n : ℕ) → n ≡ length xs → take n (xs ++ ys) ≡ xs
take_front xs ys n e = take-append-le n xs ys (omega arith) ∙ take_all n xs (omega arith)

-- what was written loads, and shows the rows
pub reloads : (rs : List Row) (out rest : List StoredRow) → Lawful rs → out ≡ stored_of rs ++ rest → OfTree (take (count_of rs) out) × (rows_of (take (count_of rs) out) ≡ rs)
reloads rs out rest l o =
    let part : take (count_of rs) out ≡ stored_of rs = ap (take (count_of rs)) o ∙ take_front (stored_of rs) rest (count_of rs) (sym (stored_length rs)) in
    let k = rows_kept rs l in
    (subst OfTree (sym part) k.loads, ap rows_of part ∙ k.back)
