-- What a row tree answers from rows that may be missing.
use Rattle.std.proofs.Common.{◌≡◌, ℕ, ◌+◌, ◌-◌, ◌<◌, ◌≤◌, Bool, true, false, eqb, ltb, List, length, Option, Some, None, MatchOption, Bor, sym, refl, ap, ◌∙◌, subst, arith}
use Rattle.std.specs.Bool.{then_some}
use Rattle.std.specs.Slice.{IsItemAt}
use Rattle.std.proofs.lemmas.Bool.{ltb-true, ltb-false, eqb-true, eqb-false}
use Rattle.rows.specs.Answers.{first_of, next_of}
use Rattle.stored.specs.declared.row.StoredRow.{StoredRow}
use Rattle.stored.specs.Stored.{at, blank, rows_of, OfTree}
use Rattle.stored.proofs.Questions.{first_some, first_none, next_some, next_other, next_none}
use Rattle.row_tree.specs.declared.row_tree.RowTree.{RowTree}

pub of_tree : (t : RowTree) → OfTree t.rows.now
of_tree t = record { lawful = t.law; same = t.same }

-- a row that was got is that of its number
got : (es : List StoredRow) (v : ℕ) (e : Bor StoredRow) → IsItemAt es v (Some e) → e.now ≡ at es v
got es v e i = i.4 (omega arith) blank

-- a field of a row, or the default where there is none
pub mapped : (f : StoredRow → ℕ) (d : ℕ) (es : List StoredRow) (v : ℕ) (o : Option (Bor StoredRow)) (Q : Bor StoredRow → Type 0) (r x : ℕ) → IsItemAt es v o → MatchOption o (r ≡ d) Q → ((e : Bor StoredRow) → Q e → r ≡ f e.now) →
    (v < length es → f (at es v) ≡ x) → (length es ≤ v → d ≡ x) → r ≡ x
mapped f d es v None Q r x i m q a b = m ∙ b i.3
mapped f d es v (Some e) Q r x i m q a b = q e m ∙ ap f (got es v e i) ∙ a i.3.0

-- a node, if the test finds one
told : (b : Bool) (w : ℕ) (o : Option ℕ) → (b ≡ true → Some w ≡ o) → (b ≡ false → None ≡ o) → then_some b w ≡ o
told true w o a b = a refl
told false w o a b = b refl

pub first_told : (t : RowTree) (v : ℕ) (e : Bor StoredRow) → IsItemAt t.rows.now v (Some e) → then_some (ltb 1 e.now.size) (v + 1) ≡ first_of (rows_of t.rows.now) v
first_told t v e i =
    let is = ap (λ (x : StoredRow). x.size) (got t.rows.now v e i) in
    told (ltb 1 e.now.size) (v + 1) _ (λ h. first_some t.rows.now (of_tree t) v i.3.0 (omega (arith, ltb-true 1 e.now.size h))) (λ h. first_none t.rows.now (of_tree t) v i.3.0 (omega (arith, ltb-false 1 e.now.size h)))

-- the row after the subtree of v, whose row is a, is that of the next sibling if it has the same parent
after : (t : RowTree) (v : ℕ) (a b : StoredRow) → a ≡ at t.rows.now v → b ≡ at t.rows.now (v + a.size) → v < length t.rows.now → v + a.size < length t.rows.now →
    then_some (eqb b.distance (v + a.size - v + a.distance)) (v + a.size) ≡ next_of (rows_of t.rows.now) v
after t v a b p q h k =
    let es = t.rows.now in
    subst (λ (x : StoredRow). v + x.size < length es → b ≡ at es (v + x.size) → then_some (eqb b.distance (v + x.size - v + x.distance)) (v + x.size) ≡ next_of (rows_of es) v) (sym p)
    (λ m r. subst (λ (x : StoredRow). then_some (eqb x.distance (v + (at es v).size - v + (at es v).distance)) (v + (at es v).size) ≡ next_of (rows_of es) v) (sym r)
    (told _ _ _ (λ s. next_some es (of_tree t) v h m (eqb-true _ _ s)) (λ s. next_other es (of_tree t) v h m (eqb-false _ _ s))))
    k q

pub next_told : (t : RowTree) (v : ℕ) (e f : Bor StoredRow) → IsItemAt t.rows.now v (Some e) → IsItemAt t.rows.now (v + e.now.size) (Some f) →
    then_some (eqb f.now.distance (v + e.now.size - v + e.now.distance)) (v + e.now.size) ≡ next_of (rows_of t.rows.now) v
next_told t v e f i j = after t v e.now f.now (got t.rows.now v e i) (got t.rows.now (v + e.now.size) f j) i.3.0 j.3.0

pub next_missed : (t : RowTree) (v : ℕ) (e : Bor StoredRow) → IsItemAt t.rows.now v (Some e) → IsItemAt t.rows.now (v + e.now.size) None → None ≡ next_of (rows_of t.rows.now) v
next_missed t v e i j =
    let is = ap (λ (x : StoredRow). x.size) (got t.rows.now v e i) in
    let end = j.3 in
    next_none t.rows.now (of_tree t) v i.3.0 (omega arith)
