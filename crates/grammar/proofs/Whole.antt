-- What the grammar derives, the machine accepts with as many steps.
use Rattle.std.proofs.Common.{◌≡◌, ℕ, zero, suc, ◌-◌, ◌≤◌, true, false, List, [], ◌∷◌, sym, refl, ap, subst, arith}
use Rattle.grammar.specs.declared.tokens.Symbol.TheVariants.{Slash, DoubleSlash, LeftBracket, RightBracket, LeftParen, RightParen, Star, DoubleColon}
use Rattle.grammar.specs.Tokens.{Token, symbol, word, Placed, token, tokens_at}
use Rattle.grammar.specs.Tokens as tokens
use Rattle.grammar.specs.Syntax.{Axis, self, child, descendant, following_sibling, NodeTest, name, Path, Filter, plain, holds, Pred, some, not, or, axis_word, not_word, own, in_path}
use Rattle.grammar.specs.Grammar.{IsTest, is_any, is_name, is_text, is_node, IsPath, is_first, is_root, is_deep, is_more, is_far, IsStep, is_axis, is_child, IsTail, is_tail, IsFilter, is_plain, is_holds, IsPred, is_conj, is_or, IsConj, is_unit, is_and, IsUnit, is_not, is_group, is_some}
use Rattle.grammar.specs.Machine.{Before, start, past, ext, Side, no, has, conj, disj, Context, top, unit, Opened, bracket, group, negate, State, begin, due, test, pend, named, tested, stepped, united, either, outer, inner, where_is, Act, same, lone, Outcome, accepted, refused, stop, go, turn, run}
use Rattle.grammar.proofs.Words.{by_test, same_true}
use Rattle.grammar.proofs.Counts.{outs, ins, out_p, in_o, in_f, in_p, out_inner, out_outer, in_outer}

pub never : {X : Type 0} (k a : ℕ) (q : Path) → refused k a ≡ accepted q → X
never k a q h = let z : ◌≡◌ {A = ℕ} 0 1 = cc in absurd (omega arith)

module _ (e : ℕ) (q : Path) where
  abbrev pub Acc : State → ℕ → ℕ → ℕ → List Placed → Type 0
  Acc s l o i ts = run e s l o i ts ≡ accepted q

  stepped_tested : (c : Context) (b : Before) (v : Axis) (t : NodeTest) (l o i : ℕ) (ts : List Placed) → Acc (stepped c (ext b v t plain)) l o i ts → Acc (tested c b v t) l o i ts
  stepped_tested c b v t l o i [] h = h
  stepped_tested c b v t l o i (tokens.bad k a ∷ ts) h = h
  stepped_tested c b v t l o i (token (symbol Slash) a ∷ ts) h = h
  stepped_tested c b v t l o i (token (symbol DoubleSlash) a ∷ ts) h = h
  stepped_tested c b v t l o i (token (symbol LeftBracket) a ∷ ts) h = never 4 a q h
  stepped_tested c b v t l o i (token (symbol RightBracket) a ∷ ts) h = h
  stepped_tested c b v t l o i (token (symbol LeftParen) a ∷ ts) h = h
  stepped_tested c b v t l o i (token (symbol RightParen) a ∷ ts) h = h
  stepped_tested c b v t l o i (token (symbol Star) a ∷ ts) h = h
  stepped_tested c b v t l o i (token (symbol DoubleColon) a ∷ ts) h = h
  stepped_tested c b v t l o i (token (word w) a ∷ ts) h = h

  tested_named : (c : Context) (b : Before) (v : Axis) (w : List ℕ) (l o i : ℕ) (ts : List Placed) → Acc (tested c b v (name w)) l o i ts → Acc (named c b v w) l o i ts
  tested_named c b v w l o i [] h = h
  tested_named c b v w l o i (tokens.bad k a ∷ ts) h = h
  tested_named c b v w l o i (token (symbol Slash) a ∷ ts) h = h
  tested_named c b v w l o i (token (symbol DoubleSlash) a ∷ ts) h = h
  tested_named c b v w l o i (token (symbol LeftBracket) a ∷ ts) h = h
  tested_named c b v w l o i (token (symbol RightBracket) a ∷ ts) h = h
  tested_named c b v w l o i (token (symbol LeftParen) a ∷ ts) h = never 4 a q h
  tested_named c b v w l o i (token (symbol RightParen) a ∷ ts) h = h
  tested_named c b v w l o i (token (symbol Star) a ∷ ts) h = h
  tested_named c b v w l o i (token (symbol DoubleColon) a ∷ ts) h = h
  tested_named c b v w l o i (token (word x) a ∷ ts) h = h

  named_pend : (c : Context) (b : Before) (w : List ℕ) (l o i : ℕ) (ts : List Placed) → Acc (named c b child w) l o i ts → Acc (pend c b w) l o i ts
  named_pend c b w l o i [] h = h
  named_pend c b w l o i (tokens.bad k a ∷ ts) h = h
  named_pend c b w l o i (token (symbol Slash) a ∷ ts) h = h
  named_pend c b w l o i (token (symbol DoubleSlash) a ∷ ts) h = h
  named_pend c b w l o i (token (symbol LeftBracket) a ∷ ts) h = h
  named_pend c b w l o i (token (symbol RightBracket) a ∷ ts) h = h
  named_pend c b w l o i (token (symbol LeftParen) a ∷ ts) h = h
  named_pend c b w l o i (token (symbol RightParen) a ∷ ts) h = h
  named_pend c b w l o i (token (symbol Star) a ∷ ts) h = h
  named_pend c b w l o i (token (symbol DoubleColon) a ∷ ts) h = never 4 a q h
  named_pend c b w l o i (token (word x) a ∷ ts) h = h

  united_stepped : (k : Opened) (s n : Side) (p : Path) (l o i : ℕ) (ts : List Placed) → Acc (united k s n (some p)) l o i ts → Acc (stepped (unit k s n) p) l o i ts
  united_stepped k s n p l o i [] h = h
  united_stepped k s n p l o i (tokens.bad m a ∷ ts) h = h
  united_stepped k s n p l o i (token (symbol Slash) a ∷ ts) h = never 4 a q h
  united_stepped k s n p l o i (token (symbol DoubleSlash) a ∷ ts) h = never 4 a q h
  united_stepped k s n p l o i (token (symbol LeftBracket) a ∷ ts) h = h
  united_stepped k s n p l o i (token (symbol RightBracket) a ∷ ts) h = h
  united_stepped k s n p l o i (token (symbol LeftParen) a ∷ ts) h = h
  united_stepped k s n p l o i (token (symbol RightParen) a ∷ ts) h = h
  united_stepped k s n p l o i (token (symbol Star) a ∷ ts) h = h
  united_stepped k s n p l o i (token (symbol DoubleColon) a ∷ ts) h = h
  united_stepped k s n p l o i (token (word x) a ∷ ts) h = h

  -- the step is begun
  test_fresh : (c : Context) (b : Before) (v : Axis) (l o i : ℕ) (ts : List Placed) → Acc (test c b v false) l o i ts → Acc (test c b v true) l (outs (where_is c) o) (ins (where_is c) i) ts
  test_fresh c b v l o i [] h = h
  test_fresh c b v l o i (tokens.bad k a ∷ ts) h = h
  test_fresh c b v l o i (token (symbol Slash) a ∷ ts) h = h
  test_fresh c b v l o i (token (symbol DoubleSlash) a ∷ ts) h = h
  test_fresh c b v l o i (token (symbol LeftBracket) a ∷ ts) h = h
  test_fresh c b v l o i (token (symbol RightBracket) a ∷ ts) h = h
  test_fresh c b v l o i (token (symbol LeftParen) a ∷ ts) h = h
  test_fresh c b v l o i (token (symbol RightParen) a ∷ ts) h = h
  test_fresh top b v l o i (token (symbol Star) a ∷ ts) h = h
  test_fresh (unit k s n) b v l o i (token (symbol Star) a ∷ ts) h = h
  test_fresh c b v l o i (token (symbol DoubleColon) a ∷ ts) h = h
  test_fresh top b v l o i (token (word x) a ∷ ts) h = h
  test_fresh (unit k s n) b v l o i (token (word x) a ∷ ts) h = h

  test_due : (c : Context) (b : Before) (l o i : ℕ) (ts : List Placed) → Acc (test c b child false) l o i ts → Acc (due c b) l (outs (where_is c) o) (ins (where_is c) i) ts
  test_due c b l o i [] h = h
  test_due c b l o i (tokens.bad k a ∷ ts) h = h
  test_due c b l o i (token (symbol Slash) a ∷ ts) h = h
  test_due c b l o i (token (symbol DoubleSlash) a ∷ ts) h = h
  test_due c b l o i (token (symbol LeftBracket) a ∷ ts) h = h
  test_due c b l o i (token (symbol RightBracket) a ∷ ts) h = h
  test_due c b l o i (token (symbol LeftParen) a ∷ ts) h = h
  test_due c b l o i (token (symbol RightParen) a ∷ ts) h = h
  test_due top b l o i (token (symbol Star) a ∷ ts) h = h
  test_due (unit k s n) b l o i (token (symbol Star) a ∷ ts) h = h
  test_due c b l o i (token (symbol DoubleColon) a ∷ ts) h = h
  test_due top b l o i (token (word x) a ∷ ts) h = named_pend top b x l o i ts h
  test_due (unit k s n) b l o i (token (word x) a ∷ ts) h = named_pend (unit k s n) b x l o i ts h

  axis_due : (c : Context) (b : Before) (v : Axis) (l o i x y : ℕ) (ts : List Placed) → Acc (test c b v false) l o i ts → Acc (due c b) l (outs (where_is c) o) (ins (where_is c) i) (token (word (axis_word v)) x ∷ token (symbol DoubleColon) y ∷ ts)
  axis_due top b self l o i x y ts h = h
  axis_due top b child l o i x y ts h = h
  axis_due top b descendant l o i x y ts h = h
  axis_due top b following_sibling l o i x y ts h = h
  axis_due (unit k s n) b self l o i x y ts h = h
  axis_due (unit k s n) b child l o i x y ts h = h
  axis_due (unit k s n) b descendant l o i x y ts h = h
  axis_due (unit k s n) b following_sibling l o i x y ts h = h

  -- `not` that is a name
  late : (k : Opened) (s n : Side) (l o i d : ℕ) (ts : List Placed) → Acc (pend (unit k s n) (start false) not_word) l o i ts → Acc (either k s n d) l o (suc i) ts
  late k s n l o i d [] h = h
  late k s n l o i d (tokens.bad m a ∷ ts) h = h
  late k s n l o i d (token (symbol Slash) a ∷ ts) h = h
  late k s n l o i d (token (symbol DoubleSlash) a ∷ ts) h = h
  late k s n l o i d (token (symbol LeftBracket) a ∷ ts) h = h
  late k s n l o i d (token (symbol RightBracket) a ∷ ts) h = h
  late k s n l o i d (token (symbol LeftParen) a ∷ ts) h = never 4 a q h
  late k s n l o i d (token (symbol RightParen) a ∷ ts) h = h
  late k s n l o i d (token (symbol Star) a ∷ ts) h = h
  late k s n l o i d (token (symbol DoubleColon) a ∷ ts) h = h
  late k s n l o i d (token (word x) a ∷ ts) h = h

  abbrev worded_acc : Act → ℕ → ℕ → ℕ → ℕ → List Placed → Type 0
  worded_acc z a l o i ts = ◌≡◌ {A = Outcome} (elim (turn z a l o i) [ stop k b ↦ refused k b | go r m p j ↦ run e r m p j ts ]) (accepted q)

  due_lone : (k : Opened) (s n : Side) (l o i : ℕ) (w : List ℕ) (a : ℕ) (ts : List Placed) → Acc (due (unit k s n) (start false)) l o i (token (word w) a ∷ ts) → worded_acc (lone (same w not_word) k s n w a) a l o i ts
  due_lone k s n l o zero w a ts h = never 6 a q h
  due_lone k s n l o (suc i) w a ts h = by_test (same w not_word) (λ j. worded_acc (lone j k s n w a) a l o (suc i) ts)
      (λ g. late k s n l o i a ts (subst (λ z. Acc (pend (unit k s n) (start false) z) l o i ts) (same_true w not_word g) h))
      (λ g. h)

  due_begin : (c : Context) (l o i : ℕ) (ts : List Placed) → Acc (due c (start false)) l o i ts → Acc (begin c) l o i ts
  due_begin c l o i [] h = h
  due_begin c l o i (tokens.bad k a ∷ ts) h = h
  due_begin c l o i (token (symbol Slash) a ∷ ts) h = never 4 a q h
  due_begin c l o i (token (symbol DoubleSlash) a ∷ ts) h = never 4 a q h
  due_begin c l o i (token (symbol LeftBracket) a ∷ ts) h = h
  due_begin c l o i (token (symbol RightBracket) a ∷ ts) h = h
  due_begin c l o i (token (symbol LeftParen) a ∷ ts) h = never 4 a q h
  due_begin c l o i (token (symbol RightParen) a ∷ ts) h = h
  due_begin c l o i (token (symbol Star) a ∷ ts) h = h
  due_begin c l o i (token (symbol DoubleColon) a ∷ ts) h = h
  due_begin top l o i (token (word x) a ∷ ts) h = h
  due_begin (unit k s n) l o i (token (word x) a ∷ ts) h = due_lone k s n l o i x a ts h

  of_test : {ts us : List Placed} {t : NodeTest} → IsTest ts t us → (c : Context) (b : Before) (v : Axis) (l o i : ℕ) → Acc (tested c b v t) l o i us → Acc (test c b v false) l o i ts
  of_test is_any c b v l o i h = h
  of_test (is_name {w = w} {us = us}) c b v l o i h = tested_named c b v w l o i us h
  of_test (is_text {a = x} {b = y} {c = z} {us = us} g) c b v l o i h = subst (λ w. Acc (named c b v w) l o i (token (symbol LeftParen) y ∷ token (symbol RightParen) z ∷ us)) (sym g) h
  of_test (is_node {a = x} {b = y} {c = z} {us = us} g) c b v l o i h = subst (λ w. Acc (named c b v w) l o i (token (symbol LeftParen) y ∷ token (symbol RightParen) z ∷ us)) (sym g) h

  mutual
    of_path : {l : ℕ} {ts us : List Placed} {p : Path} → IsPath l ts p us → (c : Context) (o i : ℕ) → Acc (stepped c p) l o i us → Acc (begin c) l (out_p (where_is c) p o) (in_o (where_is c) p i) ts
    of_path (is_first {l = l} {ts = ts} {f = f} d) c o i h = due_begin c l (outs (where_is c) o) (ins (where_is c) (in_f f i)) ts (of_step d c (start false) o i h)
    of_path (is_root d) c o i h = of_step d c (start true) o i h
    of_path (is_deep {l = l} {ts = ts} {f = f} d) c o i h = test_fresh c (start true) descendant l o (in_f f i) ts (of_tail d c (start true) descendant o i h)
    of_path (is_more {p = p} {f = f} x d) c o i h = of_path x c (outs (where_is c) o) (ins (where_is c) (in_f f i)) (of_step d c (past p) o i h)
    of_path (is_far {l = l} {us = us} {p = p} {f = f} x d) c o i h = of_path x c (outs (where_is c) o) (ins (where_is c) (in_f f i)) (test_fresh c (past p) descendant l o (in_f f i) us (of_tail d c (past p) descendant o i h))

    of_step : {l : ℕ} {ts us : List Placed} {v : Axis} {t : NodeTest} {f : Filter} → IsStep l ts v t f us → (c : Context) (b : Before) (o i : ℕ) → Acc (stepped c (ext b v t f)) l o i us → Acc (due c b) l (outs (where_is c) o) (ins (where_is c) (in_f f i)) ts
    of_step (is_axis {l = l} {a = x} {b = y} {ts = ts} {v = v} {f = f} g d) c b o i h = subst (λ w. Acc (due c b) l (outs (where_is c) o) (ins (where_is c) (in_f f i)) (token (word w) x ∷ token (symbol DoubleColon) y ∷ ts)) (sym g) (axis_due c b v l o (in_f f i) x y ts (of_tail d c b v o i h))
    of_step (is_child {l = l} {ts = ts} {f = f} d) c b o i h = test_due c b l o (in_f f i) ts (of_tail d c b child o i h)

    of_tail : {l : ℕ} {ts us : List Placed} {t : NodeTest} {f : Filter} → IsTail l ts t f us → (c : Context) (b : Before) (v : Axis) (o i : ℕ) → Acc (stepped c (ext b v t f)) l o i us → Acc (test c b v false) l o (in_f f i) ts
    of_tail (is_tail {l = l} {t = t} {f = f} x d) c b v o i h = of_test x c b v l o (in_f f i) (of_filter d c b v t o i h)

    of_filter : {l : ℕ} {ts us : List Placed} {f : Filter} → IsFilter l ts f us → (c : Context) (b : Before) (v : Axis) (t : NodeTest) (o i : ℕ) → Acc (stepped c (ext b v t f)) l o i us → Acc (tested c b v t) l o (in_f f i) ts
    of_filter (is_plain {l = l} {us = us}) c b v t o i h = stepped_tested c b v t l o i us h
    of_filter (is_holds {l = l} {vs = vs} d) c b v t o i h = of_pred d (bracket c b v t) o i (λ s n x g. subst (λ z. Acc (stepped c (ext b v t (holds z))) (suc l) o i vs) (sym g) h)

    of_pred : {l : ℕ} {ts us : List Placed} {p : Pred} → IsPred l ts p us → (k : Opened) (o i : ℕ) → ((s n : Side) (x : Pred) → disj s (conj n x) ≡ p → Acc (united k s n x) l o i us) → Acc (begin (unit k no no)) l o (in_p p i) ts
    of_pred (is_conj d) k o i f = of_conj d k no o i (λ n x g. f no n x g)
    of_pred (is_or {l = l} {a = a} {us = us} {p = p} {q = r} g x d) k o i f = of_pred x k o (in_p r i) (λ s n y j.
        subst (λ w. Acc (united k s n y) l o (in_p r i) (token (word w) a ∷ us)) (sym g)
        (subst (λ z. Acc (begin (unit k (has z) no)) l o (in_p r i) us) (sym j) (of_conj d k (has p) o i (λ m z h. f (has p) m z (ap (or p) h)))))

    of_conj : {l : ℕ} {ts us : List Placed} {p : Pred} → IsConj l ts p us → (k : Opened) (s : Side) (o i : ℕ) → ((n : Side) (x : Pred) → conj n x ≡ p → Acc (united k s n x) l o i us) → Acc (begin (unit k s no)) l o (in_p p i) ts
    of_conj (is_unit {p = p} d) k s o i f = of_unit d k s no o i (f no p refl)
    of_conj (is_and {l = l} {a = a} {us = us} {p = p} {q = r} g x d) k s o i f = of_conj x k s o (in_p r i) (λ n y j.
        subst (λ w. Acc (united k s n y) l o (in_p r i) (token (word w) a ∷ us)) (sym g)
        (subst (λ z. Acc (begin (unit k s (has z))) l o (in_p r i) us) (sym j) (of_unit d k s (has p) o i (f (has p) r refl))))

    of_unit : {l : ℕ} {ts us : List Placed} {p : Pred} → IsUnit l ts p us → (k : Opened) (s n : Side) (o i : ℕ) → Acc (united k s n p) l o i us → Acc (begin (unit k s n)) l o (in_p p i) ts
    of_unit (is_not {l = l} {a = a} {b = b} {us = us} {vs = vs} {p = p} g d) k s n o i h =
        subst (λ w. Acc (begin (unit k s n)) (suc l) o (in_p p i) (token (word w) a ∷ token (symbol LeftParen) b ∷ us)) (sym g)
        (of_pred d (negate k s n) o i (λ t m x j. subst (λ z. Acc (united k s n (not z)) (suc l) o i vs) (sym j) h))
    of_unit (is_group {l = l} {vs = vs} d) k s n o i h = of_pred d (group k s n) o i (λ t m x j. subst (λ z. Acc (united k s n z) (suc l) o i vs) (sym j) h)
    of_unit (is_some {l = l} {ts = ts} {us = us} {p = p} d) k s n o i h =
        subst (λ z. Acc (begin (unit k s n)) l z (in_o inner p i) ts) (out_inner p o) (of_path d (unit k s n) o i (united_stepped k s n p l o i us h))

-- with any numbers that suffice
pub accepts : (e l o i : ℕ) (ts : List Placed) (q : Path) → IsPath l ts q [] → own q ≤ o → in_path q ≤ i → run e (begin top) l o i ts ≡ accepted q
accepts e l o i ts q d g h =
    let a : out_p outer q (o - own q) ≡ o = omega (arith, out_outer q (o - own q)) in
    let b : in_o outer q (i - in_path q) ≡ i = omega (arith, in_outer q (i - in_path q)) in
    subst (λ z. run e (begin top) l z i ts ≡ accepted q) a (subst (λ z. run e (begin top) l (out_p outer q (o - own q)) z ts ≡ accepted q) b (of_path e q d top (o - own q) (i - in_path q) refl))
