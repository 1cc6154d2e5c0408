-- No text of a query has fewer bytes or levels than its spelling.
use Rattle.std.proofs.Common.{◌≡◌, ℕ, suc, ◌+◌, ◌≤◌, max, Bool, true, false, List, [], ◌∷◌, length, refl, ap, arith}
use Rattle.grammar.specs.declared.tokens.Symbol.TheVariants.{Slash, DoubleSlash, LeftBracket, RightBracket, LeftParen, RightParen, Star, DoubleColon}
use Rattle.grammar.specs.Tokens.{Token, symbol, word, Placed, token, tokens_at}
use Rattle.grammar.specs.Tokens as tokens
use Rattle.grammar.specs.Syntax.{Axis, self, child, descendant, following_sibling, NodeTest, Path, first, more, Filter, plain, holds, Pred, some, not, and, or, axis_word, text_word, node_word, not_word, or_word, and_word}
use Rattle.grammar.specs.Grammar.{IsTest, is_any, is_name, is_text, is_node, IsPath, is_first, is_root, is_deep, is_more, is_far, IsStep, is_axis, is_child, IsTail, is_tail, IsFilter, is_plain, is_holds, IsPred, is_conj, is_or, IsConj, is_unit, is_and, IsUnit, is_not, is_group, is_some}
use Rattle.grammar.specs.declared.tokens.Symbol.{Symbol}
use Rattle.grammar.specs.Spelling.{Place, low, mid, high, or_wraps, and_wraps, axis_t, slash_t, test_t, path_t, filter_t, pred_t, glyph}

-- the levels of the spelling
abbrev lift : Bool → ℕ → ℕ
lift true n = suc n
lift false n = n

abbrev mutual
  pub lev_p : Path → ℕ
  lev_p (first r v t f) = lev_f f
  lev_p (more p v t f) = max (lev_p p) (lev_f f)

  pub lev_f : Filter → ℕ
  lev_f plain = 0
  lev_f (holds p) = suc (lev_d p low)

  pub lev_d : Pred → Place → ℕ
  lev_d (some p) k = lev_p p
  lev_d (not p) k = suc (lev_d p low)
  lev_d (and p q) k = lift (and_wraps k) (max (lev_d p mid) (lev_d q high))
  lev_d (or p q) k = lift (or_wraps k) (max (lev_d p low) (lev_d q mid))

lev_group : (p : Pred) (k : Place) (l : ℕ) → lev_d p low ≤ l → lev_d p k ≤ suc l
lev_group (some p) k l h = omega arith
lev_group (not p) k l h = omega arith
lev_group (and p q) low l h = omega arith
lev_group (and p q) mid l h = omega arith
lev_group (and p q) high l h = omega arith
lev_group (or p q) low l h = omega arith
lev_group (or p q) mid l h = omega arith
lev_group (or p q) high l h = omega arith

abbrev pub Below : Place → Type 0
Below low = Unit {0}
Below mid = Unit {0}
Below high = ⊥

mutual
  pub lev_path : {l : ℕ} {ts us : List Placed} {p : Path} → IsPath l ts p us → lev_p p ≤ l
  lev_path (is_first d) = lev_step d
  lev_path (is_root d) = lev_step d
  lev_path (is_deep d) = lev_tail d
  lev_path (is_more x d) = omega (arith, lev_path x, lev_step d)
  lev_path (is_far x d) = omega (arith, lev_path x, lev_tail d)

  lev_step : {l : ℕ} {ts us : List Placed} {v : Axis} {t : NodeTest} {f : Filter} → IsStep l ts v t f us → lev_f f ≤ l
  lev_step (is_axis e d) = lev_tail d
  lev_step (is_child d) = lev_tail d

  lev_tail : {l : ℕ} {ts us : List Placed} {t : NodeTest} {f : Filter} → IsTail l ts t f us → lev_f f ≤ l
  lev_tail (is_tail x d) = lev_filter d

  lev_filter : {l : ℕ} {ts us : List Placed} {f : Filter} → IsFilter l ts f us → lev_f f ≤ l
  lev_filter is_plain = omega arith
  lev_filter (is_holds d) = omega (arith, lev_pred d)

  lev_pred : {l : ℕ} {ts us : List Placed} {p : Pred} → IsPred l ts p us → lev_d p low ≤ l
  lev_pred (is_conj d) = lev_conj d low tt
  lev_pred (is_or e x d) = omega (arith, lev_pred x, lev_conj d mid tt)

  lev_conj : {l : ℕ} {ts us : List Placed} {p : Pred} → IsConj l ts p us → (k : Place) → Below k → lev_d p k ≤ l
  lev_conj (is_unit d) k b = lev_unit d k
  lev_conj (is_and e x d) low b = omega (arith, lev_conj x mid tt, lev_unit d high)
  lev_conj (is_and e x d) mid b = omega (arith, lev_conj x mid tt, lev_unit d high)
  lev_conj (is_and e x d) high b = absurd b

  lev_unit : {l : ℕ} {ts us : List Placed} {p : Pred} → IsUnit l ts p us → (k : Place) → lev_d p k ≤ l
  lev_unit (is_not e d) k = omega (arith, lev_pred d)
  lev_unit (is_group {l = l} {p = p} d) k = lev_group p k l (lev_pred d)
  lev_unit (is_some d) k = lev_path d

-- the bytes of tokens, with a space between two names
abbrev pub sw : List Token → ℕ
sw [] = 0
sw (symbol m ∷ ts) = 0
sw (word w ∷ ts) = 1

abbrev pub weight : List Token → ℕ
weight [] = 0
weight (symbol m ∷ ts) = length (glyph m) + weight ts
weight (word w ∷ ts) = length w + (sw ts + weight ts)

abbrev pub sw_p : List Placed → ℕ
sw_p [] = 0
sw_p (tokens.bad k a ∷ ts) = 0
sw_p (token (symbol m) a ∷ ts) = 0
sw_p (token (word w) a ∷ ts) = 1

abbrev pub weight_p : List Placed → ℕ
weight_p [] = 0
weight_p (tokens.bad k a ∷ ts) = 0
weight_p (token (symbol m) a ∷ ts) = length (glyph m) + weight_p ts
weight_p (token (word w) a ∷ ts) = length w + (sw_p ts + weight_p ts)

sw_one : (us : List Token) → sw us ≤ 1
sw_one [] = omega arith
sw_one (symbol m ∷ us) = omega arith
sw_one (word w ∷ us) = omega arith

glyph_one : (m : Symbol) → 1 ≤ length (glyph m)
glyph_one Slash = omega arith
glyph_one DoubleSlash = omega arith
glyph_one LeftBracket = omega arith
glyph_one RightBracket = omega arith
glyph_one LeftParen = omega arith
glyph_one RightParen = omega arith
glyph_one Star = omega arith
glyph_one DoubleColon = omega arith

-- the tokens us take no more than ts, before a name too
pub record Dom (us : List Token) (ts : List Placed) : Type 0 where
  pub light : weight us ≤ weight_p ts
  pub clear : weight us + sw us ≤ weight_p ts + sw_p ts

dom_none : Dom [] []
dom_none = record { light = omega arith; clear = omega arith }

dom_point : (m : Symbol) (a : ℕ) {us : List Token} {ts : List Placed} → Dom us ts → Dom (symbol m ∷ us) (token (symbol m) a ∷ ts)
dom_point m a h = record { light = omega (arith, h.light); clear = omega (arith, h.light) }

dom_skip : (m : Symbol) (a : ℕ) {us : List Token} {ts : List Placed} → Dom us ts → Dom us (token (symbol m) a ∷ ts)
dom_skip m a {us} h = record { light = omega (arith, h.light); clear = omega (arith, h.light, sw_one us, glyph_one m) }

dom_word : (w x : List ℕ) (a : ℕ) {us : List Token} {ts : List Placed} → w ≡ x → Dom us ts → Dom (word x ∷ us) (token (word w) a ∷ ts)
dom_word w x a e h = record { light = omega (arith, h.clear, ap length e); clear = omega (arith, h.clear, ap length e) }

axis_dom : (v : Axis) (w : List ℕ) (a b : ℕ) {us : List Token} {ts : List Placed} → w ≡ axis_word v → Dom us ts → Dom (axis_t v us) (token (word w) a ∷ token (symbol DoubleColon) b ∷ ts)
axis_dom self w a b e h = dom_word w (axis_word self) a e (dom_point DoubleColon b h)
axis_dom child w a b {us} e h = record { light = omega (arith, h.light); clear = omega (arith, h.light, sw_one us) }
axis_dom descendant w a b e h = dom_word w (axis_word descendant) a e (dom_point DoubleColon b h)
axis_dom following_sibling w a b e h = dom_word w (axis_word following_sibling) a e (dom_point DoubleColon b h)

slash_dom : (v : Axis) (w : List ℕ) (d a b : ℕ) {us : List Token} {ts : List Placed} → w ≡ axis_word v → Dom us ts → Dom (slash_t v us) (token (symbol Slash) d ∷ token (word w) a ∷ token (symbol DoubleColon) b ∷ ts)
slash_dom self w d a b e h = dom_point Slash d (dom_word w (axis_word self) a e (dom_point DoubleColon b h))
slash_dom child w d a b e h = dom_point Slash d (axis_dom child w a b e h)
slash_dom descendant w d a b {us} e h = record { light = omega (arith, h.light); clear = omega (arith, h.light) }
slash_dom following_sibling w d a b e h = dom_point Slash d (dom_word w (axis_word following_sibling) a e (dom_point DoubleColon b h))

group_dom : (p : Pred) (k : Place) (b c : ℕ) (xs : List Token) (us vs : List Placed) → ((ys : List Token) → Dom ys (token (symbol RightParen) c ∷ vs) → Dom (pred_t p low ys) us) → Dom xs vs → Dom (pred_t p k xs) (token (symbol LeftParen) b ∷ us)
group_dom (some p) k b c xs us vs f h = dom_skip LeftParen b (f xs (dom_skip RightParen c h))
group_dom (not p) k b c xs us vs f h = dom_skip LeftParen b (f xs (dom_skip RightParen c h))
group_dom (and p q) low b c xs us vs f h = dom_skip LeftParen b (f xs (dom_skip RightParen c h))
group_dom (and p q) mid b c xs us vs f h = dom_skip LeftParen b (f xs (dom_skip RightParen c h))
group_dom (and p q) high b c xs us vs f h = dom_point LeftParen b (f (symbol RightParen ∷ xs) (dom_point RightParen c h))
group_dom (or p q) low b c xs us vs f h = dom_skip LeftParen b (f xs (dom_skip RightParen c h))
group_dom (or p q) mid b c xs us vs f h = dom_point LeftParen b (f (symbol RightParen ∷ xs) (dom_point RightParen c h))
group_dom (or p q) high b c xs us vs f h = dom_point LeftParen b (f (symbol RightParen ∷ xs) (dom_point RightParen c h))

test_dom : {ts us : List Placed} {t : NodeTest} → IsTest ts t us → (xs : List Token) → Dom xs us → Dom (test_t t xs) ts
test_dom (is_any {a = a}) xs h = dom_point Star a h
test_dom (is_name {w = w} {a = a}) xs h = dom_word w w a refl h
test_dom (is_text {w = w} {a = a} {b = b} {c = c} e) xs h = dom_word w text_word a e (dom_point LeftParen b (dom_point RightParen c h))
test_dom (is_node {w = w} {a = a} {b = b} {c = c} e) xs h = dom_word w node_word a e (dom_point LeftParen b (dom_point RightParen c h))

mutual
  pub path_dom : {l : ℕ} {ts us : List Placed} {p : Path} → IsPath l ts p us → (xs : List Token) → Dom xs us → Dom (path_t p xs) ts
  path_dom (is_first d) xs h = step_dom d xs h
  path_dom (is_root {a = a} d) xs h = slashed_dom d a xs h
  path_dom (is_deep {a = a} d) xs h = dom_point DoubleSlash a (tail_dom d xs h)
  path_dom (is_more {a = a} x d) xs h = path_dom x _ (slashed_dom d a xs h)
  path_dom (is_far {a = a} x d) xs h = path_dom x _ (dom_point DoubleSlash a (tail_dom d xs h))

  step_dom : {l : ℕ} {ts us : List Placed} {v : Axis} {t : NodeTest} {f : Filter} → IsStep l ts v t f us → (xs : List Token) → Dom xs us → Dom (axis_t v (test_t t (filter_t f xs))) ts
  step_dom (is_axis {a = a} {b = b} {w = w} {v = v} e d) xs h = axis_dom v w a b e (tail_dom d xs h)
  step_dom (is_child d) xs h = tail_dom d xs h

  slashed_dom : {l : ℕ} {ts us : List Placed} {v : Axis} {t : NodeTest} {f : Filter} → IsStep l ts v t f us → (z : ℕ) (xs : List Token) → Dom xs us → Dom (slash_t v (test_t t (filter_t f xs))) (token (symbol Slash) z ∷ ts)
  slashed_dom (is_axis {a = a} {b = b} {w = w} {v = v} e d) z xs h = slash_dom v w z a b e (tail_dom d xs h)
  slashed_dom (is_child d) z xs h = dom_point Slash z (tail_dom d xs h)

  tail_dom : {l : ℕ} {ts us : List Placed} {t : NodeTest} {f : Filter} → IsTail l ts t f us → (xs : List Token) → Dom xs us → Dom (test_t t (filter_t f xs)) ts
  tail_dom (is_tail {f = f} x d) xs h = test_dom x (filter_t f xs) (filter_dom d xs h)

  filter_dom : {l : ℕ} {ts us : List Placed} {f : Filter} → IsFilter l ts f us → (xs : List Token) → Dom xs us → Dom (filter_t f xs) ts
  filter_dom is_plain xs h = h
  filter_dom (is_holds {a = a} {b = b} d) xs h = dom_point LeftBracket a (pred_dom d (symbol RightBracket ∷ xs) (dom_point RightBracket b h))

  pred_dom : {l : ℕ} {ts us : List Placed} {p : Pred} → IsPred l ts p us → (xs : List Token) → Dom xs us → Dom (pred_t p low xs) ts
  pred_dom (is_conj d) xs h = conj_dom d low tt xs h
  pred_dom (is_or {a = a} {w = w} {q = q} e x d) xs h = pred_dom x (word or_word ∷ pred_t q mid xs) (dom_word w or_word a e (conj_dom d mid tt xs h))

  conj_dom : {l : ℕ} {ts us : List Placed} {p : Pred} → IsConj l ts p us → (k : Place) → Below k → (xs : List Token) → Dom xs us → Dom (pred_t p k xs) ts
  conj_dom (is_unit d) k b xs h = unit_dom d k xs h
  conj_dom (is_and {a = a} {w = w} {q = q} e x d) low b xs h = conj_dom x mid tt (word and_word ∷ pred_t q high xs) (dom_word w and_word a e (unit_dom d high xs h))
  conj_dom (is_and {a = a} {w = w} {q = q} e x d) mid b xs h = conj_dom x mid tt (word and_word ∷ pred_t q high xs) (dom_word w and_word a e (unit_dom d high xs h))
  conj_dom (is_and e x d) high b xs h = absurd b

  unit_dom : {l : ℕ} {ts us : List Placed} {p : Pred} → IsUnit l ts p us → (k : Place) (xs : List Token) → Dom xs us → Dom (pred_t p k xs) ts
  unit_dom (is_not {a = a} {b = b} {c = c} {w = w} e d) k xs h = dom_word w not_word a e (dom_point LeftParen b (pred_dom d (symbol RightParen ∷ xs) (dom_point RightParen c h)))
  unit_dom (is_group {b = b} {c = c} {us = us} {vs = vs} {p = p} d) k xs h = group_dom p k b c xs us vs (λ ys g. pred_dom d ys g) h
  unit_dom (is_some d) k xs h = path_dom d xs h

pub lightest : {l : ℕ} {ts : List Placed} {q : Path} → IsPath l ts q [] → weight (path_t q []) ≤ weight_p ts
lightest d = (path_dom d [] dom_none).light
