-- More levels do as well, and no tokens are two queries.
use Rattle.std.proofs.Common.{ℕ, zero, suc, ◌+◌, ◌≤◌, List, sym, ◌∙◌, arith}
use Rattle.grammar.specs.Tokens.{Placed}
use Rattle.grammar.specs.Syntax.{Axis, NodeTest, Path, Filter, Pred, own, in_path}
use Rattle.grammar.specs.Grammar.{IsPath, is_first, is_root, is_deep, is_more, is_far, IsStep, is_axis, is_child, IsTail, is_tail, IsFilter, is_plain, is_holds, IsPred, is_conj, is_or, IsConj, is_unit, is_and, IsUnit, is_not, is_group, is_some}
use Rattle.grammar.specs.Claims.{Wider, OneQuery}
use Rattle.grammar.proofs.Whole.{accepts}

mutual
  wk_path : {l : ℕ} {ts us : List Placed} {p : Path} → IsPath l ts p us → (m : ℕ) → l ≤ m → IsPath m ts p us
  wk_path (is_first d) m h = is_first (wk_step d m h)
  wk_path (is_root d) m h = is_root (wk_step d m h)
  wk_path (is_deep d) m h = is_deep (wk_tail d m h)
  wk_path (is_more x d) m h = is_more (wk_path x m h) (wk_step d m h)
  wk_path (is_far x d) m h = is_far (wk_path x m h) (wk_tail d m h)

  wk_step : {l : ℕ} {ts us : List Placed} {v : Axis} {t : NodeTest} {f : Filter} → IsStep l ts v t f us → (m : ℕ) → l ≤ m → IsStep m ts v t f us
  wk_step (is_axis e d) m h = is_axis e (wk_tail d m h)
  wk_step (is_child d) m h = is_child (wk_tail d m h)

  wk_tail : {l : ℕ} {ts us : List Placed} {t : NodeTest} {f : Filter} → IsTail l ts t f us → (m : ℕ) → l ≤ m → IsTail m ts t f us
  wk_tail (is_tail x d) m h = is_tail x (wk_filter d m h)

  wk_filter : {l : ℕ} {ts us : List Placed} {f : Filter} → IsFilter l ts f us → (m : ℕ) → l ≤ m → IsFilter m ts f us
  wk_filter is_plain m h = is_plain
  wk_filter (is_holds d) zero h = absurd (omega arith)
  wk_filter (is_holds d) (suc m) h = is_holds (wk_pred d m (omega arith))

  wk_pred : {l : ℕ} {ts us : List Placed} {p : Pred} → IsPred l ts p us → (m : ℕ) → l ≤ m → IsPred m ts p us
  wk_pred (is_conj d) m h = is_conj (wk_conj d m h)
  wk_pred (is_or e x d) m h = is_or e (wk_pred x m h) (wk_conj d m h)

  wk_conj : {l : ℕ} {ts us : List Placed} {p : Pred} → IsConj l ts p us → (m : ℕ) → l ≤ m → IsConj m ts p us
  wk_conj (is_unit d) m h = is_unit (wk_unit d m h)
  wk_conj (is_and e x d) m h = is_and e (wk_conj x m h) (wk_unit d m h)

  wk_unit : {l : ℕ} {ts us : List Placed} {p : Pred} → IsUnit l ts p us → (m : ℕ) → l ≤ m → IsUnit m ts p us
  wk_unit (is_not e d) zero h = absurd (omega arith)
  wk_unit (is_not e d) (suc m) h = is_not e (wk_pred d m (omega arith))
  wk_unit (is_group d) zero h = absurd (omega arith)
  wk_unit (is_group d) (suc m) h = is_group (wk_pred d m (omega arith))
  wk_unit (is_some d) m h = is_some (wk_path d m h)

pub wider : Wider
wider l m ts q h d = wk_path d m h

pub one_query : OneQuery
one_query l m ts p q d g =
    let x = accepts 0 (l + m) (own p + own q) (in_path p + in_path q) ts p (wk_path d (l + m) (omega arith)) (omega arith) (omega arith) in
    let y = accepts 0 (l + m) (own p + own q) (in_path p + in_path q) ts q (wk_path g (l + m) (omega arith)) (omega arith) (omega arith) in
    let z = sym x ∙ y in
    cc
