-- The tokens of a spelling derive its query.
use Rattle.std.proofs.Common.{ℕ, zero, suc, ◌+◌, ◌≤◌, true, false, List, [], ◌∷◌, length, refl, arith}
use Rattle.grammar.specs.declared.tokens.Symbol.TheVariants.{LeftBracket, RightBracket, LeftParen, RightParen}
use Rattle.grammar.specs.Tokens.{Token, symbol, word, Placed, token}
use Rattle.grammar.specs.Syntax.{Axis, self, child, descendant, following_sibling, NodeTest, element, name, text, node, Path, first, more, Filter, plain, holds, Pred, some, not, and, or, not_word, or_word, and_word}
use Rattle.grammar.specs.Grammar.{is_any, is_name, is_text, is_node, IsPath, is_first, is_root, is_deep, is_more, is_far, is_axis, is_child, IsTail, is_tail, IsFilter, is_plain, is_holds, IsPred, is_conj, is_or, IsConj, is_unit, is_and, IsUnit, is_not, is_group, is_some}
use Rattle.grammar.specs.Spelling.{Place, low, mid, high, axis_t, slash_t, test_t, path_t, filter_t, pred_t, bytes, gap}
use Rattle.grammar.proofs.Shortest.{lev_p, lev_f, lev_d}

abbrev pub after : ℕ → Token → List Token → ℕ
after p t ts = p + (length (bytes t) + length (gap t ts))

-- the tokens ts written from the place p on
abbrev pub lay : ℕ → List Token → List Placed
lay p [] = []
lay p (t ∷ ts) = token t p ∷ lay (after p t ts) ts

abbrev Is : Place → ℕ → List Placed → Pred → List Placed → Type 0
Is low = IsPred
Is mid = IsConj
Is high = IsUnit

raise : (k : Place) {l : ℕ} {ts us : List Placed} {d : Pred} → IsUnit l ts d us → Is k l ts d us
raise low d = is_conj (is_unit d)
raise mid d = is_unit d
raise high d = d

module _ (l : ℕ) where
  -- of the tokens X before us
  abbrev Tails : NodeTest → Filter → List Token → List Token → Type 0
  Tails t f X us = (p : ℕ) → (x : ℕ) × IsTail l (lay p X) t f (lay x us)

  root_first : (v : Axis) (t : NodeTest) (f : Filter) (X us : List Token) (p : ℕ) → Tails t f X us → (x : ℕ) × IsPath l (lay p (slash_t v X)) (first true v t f) (lay x us)
  root_first self t f X us p k = let r = k _ in (r.0, is_root (is_axis refl r.1))
  root_first child t f X us p k = let r = k _ in (r.0, is_root (is_child r.1))
  root_first descendant t f X us p k = let r = k _ in (r.0, is_deep r.1)
  root_first following_sibling t f X us p k = let r = k _ in (r.0, is_root (is_axis refl r.1))

  axis_first : (v : Axis) (t : NodeTest) (f : Filter) (X us : List Token) (p : ℕ) → Tails t f X us → (x : ℕ) × IsPath l (lay p (axis_t v X)) (first false v t f) (lay x us)
  axis_first self t f X us p k = let r = k _ in (r.0, is_first (is_axis refl r.1))
  axis_first child t f X us p k = let r = k p in (r.0, is_first (is_child r.1))
  axis_first descendant t f X us p k = let r = k _ in (r.0, is_first (is_axis refl r.1))
  axis_first following_sibling t f X us p k = let r = k _ in (r.0, is_first (is_axis refl r.1))

  slash_more : (v : Axis) (t : NodeTest) (f : Filter) (X us : List Token) (q : Path) (ts : List Placed) (p : ℕ) → IsPath l ts q (lay p (slash_t v X)) → Tails t f X us → (x : ℕ) × IsPath l ts (more q v t f) (lay x us)
  slash_more self t f X us q ts p d k = let r = k _ in (r.0, is_more d (is_axis refl r.1))
  slash_more child t f X us q ts p d k = let r = k _ in (r.0, is_more d (is_child r.1))
  slash_more descendant t f X us q ts p d k = let r = k _ in (r.0, is_far d r.1)
  slash_more following_sibling t f X us q ts p d k = let r = k _ in (r.0, is_more d (is_axis refl r.1))

  of_tail : (t : NodeTest) (f : Filter) (X us : List Token) → ((p : ℕ) → (x : ℕ) × IsFilter l (lay p X) f (lay x us)) → Tails t f (test_t t X) us
  of_tail element f X us k p = let r = k _ in (r.0, is_tail is_any r.1)
  of_tail (name w) f X us k p = let r = k _ in (r.0, is_tail is_name r.1)
  of_tail text f X us k p = let r = k _ in (r.0, is_tail (is_text refl) r.1)
  of_tail node f X us k p = let r = k _ in (r.0, is_tail (is_node refl) r.1)

  Ors : (a b : Pred) (us : List Token) (p : ℕ) → ((us : List Token) (p : ℕ) → (x : ℕ) × IsPred l (lay p (pred_t a low us)) a (lay x us)) → ((us : List Token) (p : ℕ) → (x : ℕ) × IsConj l (lay p (pred_t b mid us)) b (lay x us)) → (x : ℕ) × IsPred l (lay p (pred_t a low (word or_word ∷ pred_t b mid us))) (or a b) (lay x us)
  Ors a b us p f g =
      let r = f (word or_word ∷ pred_t b mid us) p in
      let s = g us (after r.0 (word or_word) (pred_t b mid us)) in
      (s.0, is_or refl r.1 s.1)

  Ands : (a b : Pred) (us : List Token) (p : ℕ) → ((us : List Token) (p : ℕ) → (x : ℕ) × IsConj l (lay p (pred_t a mid us)) a (lay x us)) → ((us : List Token) (p : ℕ) → (x : ℕ) × IsUnit l (lay p (pred_t b high us)) b (lay x us)) → (x : ℕ) × IsConj l (lay p (pred_t a mid (word and_word ∷ pred_t b high us))) (and a b) (lay x us)
  Ands a b us p f g =
      let r = f (word and_word ∷ pred_t b high us) p in
      let s = g us (after r.0 (word and_word) (pred_t b high us)) in
      (s.0, is_and refl r.1 s.1)

mutual
  pub of_path : (q : Path) (l : ℕ) → lev_p q ≤ l → (us : List Token) (p : ℕ) → (x : ℕ) × IsPath l (lay p (path_t q us)) q (lay x us)
  of_path (first true v t f) l h us p = root_first l v t f (test_t t (filter_t f us)) us p (of_tail l t f (filter_t f us) us (of_filter f l h us))
  of_path (first false v t f) l h us p = axis_first l v t f (test_t t (filter_t f us)) us p (of_tail l t f (filter_t f us) us (of_filter f l h us))
  of_path (more q v t f) l h us p =
      let X = test_t t (filter_t f us) in
      let r = of_path q l (omega arith) (slash_t v X) p in
      slash_more l v t f X us q (lay p (path_t q (slash_t v X))) r.0 r.1 (of_tail l t f (filter_t f us) us (of_filter f l (omega arith) us))

  of_filter : (f : Filter) (l : ℕ) → lev_f f ≤ l → (us : List Token) (p : ℕ) → (x : ℕ) × IsFilter l (lay p (filter_t f us)) f (lay x us)
  of_filter plain l h us p = (p, is_plain)
  of_filter (holds d) zero h us p = absurd (omega arith)
  of_filter (holds d) (suc l) h us p = let r = of_pred d low l (omega arith) (symbol RightBracket ∷ us) (after p (symbol LeftBracket) (pred_t d low (symbol RightBracket ∷ us))) in (after r.0 (symbol RightBracket) us, is_holds r.1)

  of_pred : (d : Pred) (k : Place) (l : ℕ) → lev_d d k ≤ l → (us : List Token) (p : ℕ) → (x : ℕ) × Is k l (lay p (pred_t d k us)) d (lay x us)
  of_pred (some q) k l h us p = let r = of_path q l h us p in (r.0, raise k (is_some r.1))
  of_pred (not d) k zero h us p = absurd (omega arith)
  of_pred (not d) k (suc l) h us p =
      let X = pred_t d low (symbol RightParen ∷ us) in
      let r = of_pred d low l (omega arith) (symbol RightParen ∷ us) (after (after p (word not_word) (symbol LeftParen ∷ X)) (symbol LeftParen) X) in
      (after r.0 (symbol RightParen) us, raise k (is_not refl r.1))
  of_pred (and a b) low l h us p = let r = Ands l a b us p (of_pred a mid l (omega arith)) (of_pred b high l (omega arith)) in (r.0, is_conj r.1)
  of_pred (and a b) mid l h us p = Ands l a b us p (of_pred a mid l (omega arith)) (of_pred b high l (omega arith))
  of_pred (and a b) high zero h us p = absurd (omega arith)
  of_pred (and a b) high (suc l) h us p = let r = Ands l a b (symbol RightParen ∷ us) _ (of_pred a mid l (omega arith)) (of_pred b high l (omega arith)) in (after r.0 (symbol RightParen) us, is_group (is_conj r.1))
  of_pred (or a b) low l h us p = Ors l a b us p (of_pred a low l (omega arith)) (of_pred b mid l (omega arith))
  of_pred (or a b) mid zero h us p = absurd (omega arith)
  of_pred (or a b) mid (suc l) h us p = let r = Ors l a b (symbol RightParen ∷ us) _ (of_pred a low l (omega arith)) (of_pred b mid l (omega arith)) in (after r.0 (symbol RightParen) us, is_unit (is_group r.1))
  of_pred (or a b) high zero h us p = absurd (omega arith)
  of_pred (or a b) high (suc l) h us p = let r = Ors l a b (symbol RightParen ∷ us) _ (of_pred a low l (omega arith)) (of_pred b mid l (omega arith)) in (after r.0 (symbol RightParen) us, is_group r.1)

pub respelled : (q : Path) (l : ℕ) → lev_p q ≤ l → IsPath l (lay 0 (path_t q [])) q []
respelled q l h = (of_path q l h [] 0).1
