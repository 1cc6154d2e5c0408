-- What was read keeps the limits.
use Rattle.std.proofs.Common.{ℕ, zero, suc, ◌+◌, ◌-◌, ◌≤◌, Bool, true, false, List, [], ◌∷◌, length, arith}
use Rattle.grammar.specs.Bytes.{white}
use Rattle.grammar.specs.Tokens.{Placed, Front, found, done, strange, long, front_of, cut, token, bad}
use Rattle.grammar.specs.Syntax.{NodeTest, Path, Axis, Filter, Pred, some, not, and, or}
use Rattle.grammar.specs.Grammar.{IsTest, is_any, is_name, is_text, is_node, IsPath, is_first, is_root, is_deep, is_more, is_far, IsStep, is_axis, is_child, IsTail, is_tail, IsFilter, is_plain, is_holds, IsPred, is_conj, is_or, IsConj, is_unit, is_and, IsUnit, is_not, is_group, is_some}
use Rattle.grammar.proofs.Reading.{sound}
use Rattle.selection.specs.Limits.{path_words, filter_words, words, alone, conjoined, unit, path_levels, filter_levels, levels}
use Rattle.selection.specs.Claims.{AcceptedLimited}

-- a predicate in parentheses needs one level more at most
unit_more : (p : Pred) → levels p unit ≤ suc (levels p alone)
unit_more (some p) = omega arith
unit_more (not p) = omega arith
unit_more (and p q) = omega arith
unit_more (or p q) = omega arith

conjoined_unit : (p : Pred) → levels p conjoined ≤ levels p unit
conjoined_unit (some p) = omega arith
conjoined_unit (not p) = omega arith
conjoined_unit (and p q) = omega arith
conjoined_unit (or p q) = omega arith

alone_conjoined : (p : Pred) → levels p alone ≤ levels p conjoined
alone_conjoined (some p) = omega arith
alone_conjoined (not p) = omega arith
alone_conjoined (and p q) = omega arith
alone_conjoined (or p q) = omega arith

test_kept : {ts us : List Placed} {t : NodeTest} → IsTest ts t us → length us ≤ length ts
test_kept is_any = omega arith
test_kept is_name = omega arith
test_kept (is_text e) = omega arith
test_kept (is_node e) = omega arith

-- The levels suffice, and each word is a token that was read.
mutual
  path_kept : {l : ℕ} {ts us : List Placed} {p : Path} → IsPath l ts p us → (path_levels p ≤ l) × (path_words p + length us ≤ length ts)
  path_kept (is_first s) = step_kept s
  path_kept (is_root s) = let k = step_kept s in (k.0, omega arith)
  path_kept (is_deep s) = let k = tail_kept s in (k.0, omega arith)
  path_kept (is_more p s) = let i = path_kept p in let k = step_kept s in (omega arith, omega arith)
  path_kept (is_far p s) = let i = path_kept p in let k = tail_kept s in (omega arith, omega arith)

  step_kept : {l : ℕ} {ts us : List Placed} {a : Axis} {t : NodeTest} {f : Filter} → IsStep l ts a t f us → (filter_levels f ≤ l) × (filter_words f + length us ≤ length ts)
  step_kept (is_axis e s) = let k = tail_kept s in (k.0, omega arith)
  step_kept (is_child s) = tail_kept s

  tail_kept : {l : ℕ} {ts us : List Placed} {t : NodeTest} {f : Filter} → IsTail l ts t f us → (filter_levels f ≤ l) × (filter_words f + length us ≤ length ts)
  tail_kept (is_tail t f) = let i = test_kept t in let k = filter_kept f in (k.0, omega arith)

  filter_kept : {l : ℕ} {ts us : List Placed} {f : Filter} → IsFilter l ts f us → (filter_levels f ≤ l) × (filter_words f + length us ≤ length ts)
  filter_kept is_plain = (omega arith, omega arith)
  filter_kept (is_holds p) = let k = pred_kept p in (omega arith, omega arith)

  pred_kept : {l : ℕ} {ts us : List Placed} {p : Pred} → IsPred l ts p us → (levels p alone ≤ l) × (words p + length us ≤ length ts)
  pred_kept (is_conj {p = p} c) = let k = conj_kept c in let e = alone_conjoined p in (omega arith, k.1)
  pred_kept (is_or e p c) = let i = pred_kept p in let k = conj_kept c in (omega arith, omega arith)

  conj_kept : {l : ℕ} {ts us : List Placed} {p : Pred} → IsConj l ts p us → (levels p conjoined ≤ l) × (words p + length us ≤ length ts)
  conj_kept (is_unit {p = p} u) = let k = unit_kept u in let e = conjoined_unit p in (omega arith, k.1)
  conj_kept (is_and e c u) = let i = conj_kept c in let k = unit_kept u in (omega arith, omega arith)

  unit_kept : {l : ℕ} {ts us : List Placed} {p : Pred} → IsUnit l ts p us → (levels p unit ≤ l) × (words p + length us ≤ length ts)
  unit_kept (is_not e p) = let k = pred_kept p in (omega arith, omega arith)
  unit_kept (is_group {p = p} d) = let k = pred_kept d in let e = unit_more p in (omega arith, omega arith)
  unit_kept (is_some p) = path_kept p

-- there are no more tokens than bytes
cut_few : (bs : List ℕ) (k p : ℕ) → length (cut bs k p) ≤ length bs
cut_few [] k p = omega arith
cut_few (b ∷ bs) (suc k) p = let e = cut_few bs k (p + 1) in omega arith
cut_few (b ∷ bs) zero p = spaced (white b) (λ k. cut_few bs k (p + 1))
  where
    told : (f : Front) → ((k : ℕ) → length (cut bs k (p + 1)) ≤ length bs)
        → length {A = Placed} (elim f [ found t n ↦ token t p ∷ cut bs (n - 1) (p + 1) | done ↦ [] | strange ↦ bad 2 p ∷ [] | long ↦ bad 3 p ∷ [] ]) ≤ suc (length bs)
    told (found t n) ih = let e = ih (n - 1) in omega arith
    told done ih = omega arith
    told strange ih = omega arith
    told long ih = omega arith

    spaced : (w : Bool) → ((k : ℕ) → length (cut bs k (p + 1)) ≤ length bs)
        → length {A = Placed} (elim w [ true ↦ cut bs 0 (p + 1) | false ↦ elim (front_of b bs) [ found t n ↦ token t p ∷ cut bs (n - 1) (p + 1) | done ↦ [] | strange ↦ bad 2 p ∷ [] | long ↦ bad 3 p ∷ [] ] ]) ≤ suc (length bs)
    spaced true ih = let e = ih 0 in omega arith
    spaced false ih = told (front_of b bs) ih

pub accepted_limited : AcceptedLimited
accepted_limited bs q e =
    let r = sound bs q e in
    let k = path_kept r.derived in
    let c = cut_few bs 0 0 in
    let s = r.short in
    record { outside = r.outside; inside = r.inside; deep = k.0; short = omega arith }
