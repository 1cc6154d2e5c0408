-- How the parts of a spelling join.
use Rattle.std.proofs.Common.{◌≡◌, ℕ, ◌+◌, ◌-◌, ◌<◌, ◌≤◌, Bool, true, false, List, [], ◌∷◌, length, Some, None, Option, sym, refl, ap, ◌∙◌, subst, arith}
use Rattle.grammar.specs.declared.tokens.Symbol.TheVariants.{LeftBracket, RightBracket, LeftParen, RightParen}
use Rattle.grammar.specs.Tokens.{Token, symbol, word}
use Rattle.grammar.specs.Syntax.{NodeTest, Path, first, more, Filter, plain, holds, Pred, some, not, and, or, own, in_path, in_filter, in_pred, not_word, and_word, or_word}
use Rattle.grammar.specs.Machine.{Where, outer, inner}
use Rattle.grammar.specs.Spelling.{test_t, filter_t, pred_t, path_t, Place, low, mid, high, wrap, and_wraps, or_wraps}
use Rattle.query.specs.declared.table.Table.{Table}
use Rattle.query.specs.declared.table.Step.{Step}
use Rattle.query.specs.declared.table.Shape.{Shape}
use Rattle.query.specs.declared.table.Shape.TheVariants as shape
use Rattle.query.specs.declared.table.Predicate.{Predicate}
use Rattle.query.specs.Shown.{axis_of, ShowsTest, ShowsPath, ShowsFilter, ShowsPred, step_at, predicate_at, index, taken, within, preds_path, preds_filter, below}
use Rattle.spelling.specs.declared.writer.Writer.{Writer}
use Rattle.spelling.specs.Writing.{total, Emits}
use Rattle.spelling.specs.Spellings.{most, lead_t, Part, part, rest_t, parts, root, ShowsFrom, preds_parts, nots, Later, only}
use Rattle.spelling.proofs.Writes.{emits, emits_none}

never : {X : Type 0} (o : Option ℕ) (k : ℕ) → o ≡ Some k → o ≡ None → X
never o k h g = let z : ◌≡◌ {A = ℕ} 0 1 = cc in absurd (omega arith)

one_some : (o : Option ℕ) (j k : ℕ) → o ≡ Some j → o ≡ Some k → j ≡ k
one_some o j k h g = cc

-- a row that is there where P, by what was read of it
pub row : {X P : Type 0} (o : Option X) (r s : X) → o ≡ Some r → (P → o ≡ Some s) → P → r ≡ s
row o r s e f p = let h = f p in cc

pub no_row : {X P Y : Type 0} (o : Option X) (s : X) → o ≡ None → (P → o ≡ Some s) → P → Y
no_row o s e f p =
    let h = f p in
    let z : ◌≡◌ {A = ℕ} 0 1 = cc in absurd (omega arith)

module _ (bs : List ℕ) (q : Table) where
  pub filter_none : (o : Option ℕ) (f : Filter) (a c : ℕ) (v : Writer) → o ≡ None → ShowsFilter bs q o f a c → Emits (filter_t f) v v
  filter_none o plain a c v e h = emits_none v
  filter_none o (holds p) a c v e h = never o (c + below p) h.0 e

  pub filter_past : (o : Option ℕ) (i limit : ℕ) (f : Filter) (a c : ℕ) (v w : Writer) → o ≡ Some i → limit ≤ i → ShowsFilter bs q o f a c → c + preds_filter f ≤ limit → Emits (filter_t f) v w
  filter_past o i limit plain a c v w e g h k = never o i e h
  filter_past o i limit (holds p) a c v w e g h k = absurd (omega (arith, one_some o i (c + below p) e h.0))

  pub filter_some : (o : Option ℕ) (i limit : ℕ) (f : Filter) (a c : ℕ) (v w x y : Writer) → o ≡ Some i → ShowsFilter bs q o f a c → a + in_filter f ≤ 23 → c + preds_filter f ≤ limit → limit ≤ 46
      → Emits (λ us. symbol LeftBracket ∷ us) v w → ((p : Pred) (a c : ℕ) → i ≡ c + below p → i < 46 → a + in_pred p ≤ 23 → ShowsPred bs q p 0 a c → Emits (pred_t p low) w x) → Emits (λ us. symbol RightBracket ∷ us) x y → Emits (filter_t f) v y
  filter_some o i limit plain a c v w x y e h ha hc hl f g k = never o i e h
  filter_some o i limit (holds p) a c v w x y e h ha hc hl f g k =
      let is = one_some o i (c + below p) e h.0 in
      emits (λ us. symbol LeftBracket ∷ us) (λ us. pred_t p low (symbol RightBracket ∷ us)) v w y f (emits (pred_t p low) (λ us. symbol RightBracket ∷ us) w x y (g p a c is (omega arith) ha h.1) k)

  later_from : (w : Where) (nx r : Option ℕ) (ps : List Part) (s a n c : ℕ) → ShowsFrom w bs q nx ps (s + 1) (a + taken w + n) c → Later nx (index w s a) r → r ≡ nx
  later_from w nx r [] s a n c h g = subst (λ z. Later z (index w s a) r → r ≡ z) (sym h) (λ k. k) g
  later_from outer nx r (part v t f ∷ ps) s a n c h g = subst (λ z. Later z s r → r ≡ z) (sym h.0) (λ k. k.0 (omega arith)) g
  later_from inner nx r (part v t f ∷ ps) s a n c h g = subst (λ z. Later z a r → r ≡ z) (sym h.0) (λ k. k.0 (omega arith)) g

  pub step_next : (w : Where) (o r : Option ℕ) (i limit : ℕ) (led : Bool) (z : Step) (ps : List Part) (s a c : ℕ) (v x y u : Writer) → o ≡ Some i → (i < most w → z ≡ step_at w q i) → ShowsFrom w bs q o ps s a c → c + preds_parts ps ≤ limit → limit ≤ 46
      → Emits (lead_t led (axis_of z.axis)) v x → ((t : NodeTest) → ShowsTest bs z.test t → Emits (test_t t) x y) → ((f : Filter) (a c : ℕ) → ShowsFilter bs q z.bracket f a c → a + in_filter f ≤ 23 → c + preds_filter f ≤ limit → limit ≤ 46 → Emits (filter_t f) y u) → Later z.next i r
      → (qs : List Part) × (d : ℕ) × (e : ℕ) × (g : ℕ) × ShowsFrom w bs q r qs d e g × (g + preds_parts qs ≤ limit) × ((us : List Token) → length (total v (rest_t led ps us)) ≤ 512 → total v (rest_t led ps us) ≡ total u (rest_t true qs us))
  step_next w o r i limit led z [] s a c v x y u e row h hc hl fa ft ff fl = never o i e h
  step_next w o r i limit led z (part b t f ∷ ps) s a c v x y u e row h hc hl fa ft ff fl =
      let is = one_some o i (index w s a) e h.0 in
      let zr : z ≡ step_at w q (index w s a) = row (subst (λ k. k < most w) (sym is) h.1) ∙ ap (step_at w q) is in
      let ax : axis_of z.axis ≡ b = ap (λ k. axis_of k.axis) zr ∙ h.3 in
      let te = ft t (subst (λ k. ShowsTest bs k.test t) (sym zr) h.4) in
      let fi = ff f (a + taken w) c (subst (λ k. ShowsFilter bs q k.bracket f (a + taken w) c) (sym zr) h.5) h.2 (omega arith) hl in
      let nx : r ≡ (step_at w q (index w s a)).next = later_from w (step_at w q (index w s a)).next r ps s a (in_filter f) (c + preds_filter f) h.6 (subst (λ k. Later (step_at w q (index w s a)).next k r) is (subst (λ k. Later k.next i r) zr fl)) in (
        ps,
        s + 1,
        a + taken w + in_filter f,
        c + preds_filter f,
        subst (λ k. ShowsFrom w bs q k ps (s + 1) (a + taken w + in_filter f) (c + preds_filter f)) (sym nx) h.6,
        omega arith,
        λ us. emits (lead_t led b) (λ ts. test_t t (filter_t f ts)) v x u (subst (λ k. Emits (lead_t led k) v x) ax fa) (emits (test_t t) (filter_t f) x y u te fi) (rest_t true ps us),
      )

  pub step_there : (w : Where) (o : Option ℕ) (i : ℕ) (ps : List Part) (s a c : ℕ) → o ≡ Some i → ShowsFrom w bs q o ps s a c → i < most w
  step_there w o i [] s a c e h = never o i e h
  step_there w o i (part b t f ∷ ps) s a c e h = subst (λ k. k < most w) (sym (one_some o i (index w s a) e h.0)) h.1

  pub step_last : (w : Where) (o : Option ℕ) (led : Bool) (ps : List Part) (s a c : ℕ) (v : Writer) → o ≡ None → ShowsFrom w bs q o ps s a c → (us : List Token) → total v (rest_t led ps us) ≡ total v us
  step_last w o led [] s a c v e h us = refl
  step_last w o led (part b t f ∷ ps) s a c v e h us = never o (index w s a) h.0 e

  pub from_path : (w : Where) (x : Path) (nx : Option ℕ) (s a c : ℕ) (ps : List Part) → (where-fits : (w ≡ outer → s + own x ≤ 16)) → a + within w x ≤ 23 → ShowsPath w bs q x nx s a c → ShowsFrom w bs q nx ps (s + own x) (a + within w x) (c + preds_path x) → ShowsFrom w bs q (Some (index w s a)) (parts x ps) s a c × ((step_at w q (index w s a)).slash ≡ root x)
  from_path outer (first r v t f) nx s a c ps fs fa h g =
      let n1 : a + in_filter f ≡ a + 0 + in_filter f = omega arith in
      ((refl, omega (arith, fs refl), omega arith, h.0.axis, h.0.test, h.1, subst (λ k. ShowsFrom outer bs q (step_at outer q s).next ps (s + 1) k (c + preds_filter f)) n1 (subst (λ k. ShowsFrom outer bs q k ps (s + 1) (a + in_filter f) (c + preds_filter f)) (sym h.0.next) g)), h.0.slash)
  from_path inner (first r v t f) nx s a c ps fs fa h g =
      let n1 : a + (1 + in_filter f) ≡ a + 1 + in_filter f = omega arith in
      ((refl, omega arith, omega arith, h.0.axis, h.0.test, h.1, subst (λ k. ShowsFrom inner bs q (step_at inner q a).next ps (s + 1) k (c + preds_filter f)) n1 (subst (λ k. ShowsFrom inner bs q k ps (s + 1) (a + (1 + in_filter f)) (c + preds_filter f)) (sym h.0.next) g)), h.0.slash)
  from_path outer (more x v t f) nx s a c ps fs fa h g =
      let n0 : s + (own x + 1) ≡ s + own x + 1 = omega arith in
      let n1 : a + (in_path x + in_filter f) ≡ a + in_path x + 0 + in_filter f = omega arith in
      let n2 : c + (preds_path x + preds_filter f) ≡ c + preds_path x + preds_filter f = omega arith in
      from_path outer x (Some (s + own x)) s a c (part v t f ∷ ps) (λ k. omega (arith, fs k)) (omega arith) h.0 (
        refl,
        omega (arith, fs refl),
        omega arith,
        h.1.axis,
        h.1.test,
        h.2,
        subst (λ k. ShowsFrom outer bs q (step_at outer q (s + own x)).next ps k (a + in_path x + 0 + in_filter f) (c + preds_path x + preds_filter f)) n0 (subst (λ k. ShowsFrom outer bs q (step_at outer q (s + own x)).next ps (s + (own x + 1)) k (c + preds_path x + preds_filter f)) n1 (subst (λ k. ShowsFrom outer bs q (step_at outer q (s + own x)).next ps (s + (own x + 1)) (a + (in_path x + in_filter f)) k) n2 (subst (λ k. ShowsFrom outer bs q k ps (s + (own x + 1)) (a + (in_path x + in_filter f)) (c + (preds_path x + preds_filter f))) (sym h.1.next) g))),
      )
  from_path inner (more x v t f) nx s a c ps fs fa h g =
      let n0 : s + (own x + 1) ≡ s + own x + 1 = omega arith in
      let n1 : a + (own x + 1 + (in_path x + in_filter f)) ≡ a + (own x + in_path x) + 1 + in_filter f = omega arith in
      let n2 : c + (preds_path x + preds_filter f) ≡ c + preds_path x + preds_filter f = omega arith in
      from_path inner x (Some (a + (own x + in_path x))) s a c (part v t f ∷ ps) (λ k. let z : ◌≡◌ {A = ℕ} 0 1 = cc in absurd (omega arith)) (omega arith) h.0 (
        refl,
        omega arith,
        omega arith,
        h.1.axis,
        h.1.test,
        h.2,
        subst (λ k. ShowsFrom inner bs q (step_at inner q (a + (own x + in_path x))).next ps k (a + (own x + in_path x) + 1 + in_filter f) (c + preds_path x + preds_filter f)) n0 (subst (λ k. ShowsFrom inner bs q (step_at inner q (a + (own x + in_path x))).next ps (s + (own x + 1)) k (c + preds_path x + preds_filter f)) n1 (subst (λ k. ShowsFrom inner bs q (step_at inner q (a + (own x + in_path x))).next ps (s + (own x + 1)) (a + (own x + 1 + (in_path x + in_filter f))) k) n2 (subst (λ k. ShowsFrom inner bs q k ps (s + (own x + 1)) (a + (own x + 1 + (in_path x + in_filter f))) (c + (preds_path x + preds_filter f))) (sym h.1.next) g))),
      )

pub path_parts : (x : Path) (ps : List Part) (us : List Token) → path_t x (rest_t true ps us) ≡ rest_t (root x) (parts x ps) us
path_parts (first true v t f) ps us = refl
path_parts (first false v t f) ps us = refl
path_parts (more x v t f) ps us = path_parts x (part v t f ∷ ps) us

pub preds_parts_lem : (x : Path) (ps : List Part) → preds_parts (parts x ps) ≡ preds_path x + preds_parts ps
preds_parts_lem (first r v t f) ps = refl
preds_parts_lem (more x v t f) ps = preds_parts_lem x (part v t f ∷ ps) ∙ omega arith

module _ (bs : List ℕ) (q : Table) where
  pub nots_in : (p : Pred) (n a c : ℕ) → ShowsPred bs q p n a c → (predicate_at q (c + below p)).negations ≡ n + nots p
  nots_in (some x) n a c h = ap (λ z. z.negations) h.0 ∙ omega arith
  nots_in (not p) n a c h = nots_in p (n + 1) a c h ∙ omega arith
  nots_in (and p x) n a c h = ap (λ z. z.negations) h.0 ∙ omega arith
  nots_in (or p x) n a c h = ap (λ z. z.negations) h.0 ∙ omega arith

  -- `not` and what stands in it
  pub not_more : (x : Pred) (n a c i m : ℕ) (k : Place) (v w u y z : Writer) → (m ≡ 0 → ⊥) → i ≡ c + below x → i < 46 → a + in_pred x ≤ 23 → m ≡ nots x → ShowsPred bs q x n a c
      → Emits (λ us. word not_word ∷ us) v w → Emits (λ us. symbol LeftParen ∷ us) w u
      → ((p : Pred) (n a c : ℕ) → i ≡ c + below p → i < 46 → a + in_pred p ≤ 23 → m - 1 ≡ nots p → ShowsPred bs q p n a c → Emits (pred_t p low) u y) → Emits (λ us. symbol RightParen ∷ us) y z → Emits (pred_t x k) v z
  not_more (some x) n a c i m k v w u y z nz e lt ha em h f1 f2 g f3 = absurd (nz em)
  not_more (not p) n a c i m k v w u y z nz e lt ha em h f1 f2 g f3 =
      emits (λ us. word not_word ∷ us) (λ us. symbol LeftParen ∷ pred_t p low (symbol RightParen ∷ us)) v w z f1
      (emits (λ us. symbol LeftParen ∷ us) (λ us. pred_t p low (symbol RightParen ∷ us)) w u z f2
      (emits (pred_t p low) (λ us. symbol RightParen ∷ us) u y z (g p (n + 1) a c e lt ha (omega (arith, em)) h) f3))
  not_more (and p x) n a c i m k v w u y z nz e lt ha em h f1 f2 g f3 = absurd (nz em)
  not_more (or p x) n a c i m k v w u y z nz e lt ha em h f1 f2 g f3 = absurd (nz em)

  own_one : (x : Path) → 1 ≤ own x
  own_one (first r v t f) = omega arith
  own_one (more x v t f) = omega arith

  shape_is : (i j : ℕ) (s : Shape) (r : Predicate) → i ≡ j → (predicate_at q i).shape ≡ s → predicate_at q j ≡ r → s ≡ r.shape
  shape_is i j s r e f h = sym f ∙ ap (λ k. (predicate_at q k).shape) e ∙ ap (λ z. z.shape) h

  pub path_shape : (x : Pred) (n a c i b : ℕ) (k : Place) (v w : Writer) (z : Bool) → i ≡ c + below x → i < 46 → a + in_pred x ≤ 23 → nots x ≡ 0 → ShowsPred bs q x n a c → (predicate_at q i).shape ≡ shape.Path b → (b < 23 → z ≡ (step_at inner q b).slash)
      → ((ps : List Part) (s a c : ℕ) → ShowsFrom inner bs q (Some b) ps s a c → c + preds_parts ps ≤ i → i ≤ 46 → Emits (rest_t z ps) v w) → Emits (pred_t x k) v w
  path_shape (some x) n a c i b k v w z e lt ha en h es sl g =
      let eq = shape_is i (c + preds_path x) (shape.Path b) _ e es h.0 in
      let is : b ≡ a = cc in
      let pp = from_path bs q inner x None a a c [] (λ k. let o : ◌≡◌ {A = ℕ} 0 1 = cc in absurd (omega arith)) ha h.1 refl in
      let flag : z ≡ root x = sl (omega (arith, own_one x)) ∙ ap (λ k. (step_at inner q k).slash) is ∙ pp.1 in
      let told = g (parts x []) a a c (subst (λ k. ShowsFrom inner bs q (Some k) (parts x []) a a c) (sym is) pp.0) (omega (arith, preds_parts_lem x [])) (omega arith) in
      λ us hl. let eqn = path_parts x [] us in ap (total v) eqn ∙ subst (λ b. Emits (rest_t b (parts x [])) v w) flag told us (subst (λ l. length (total v l) ≤ 512) eqn hl)
  path_shape (not p) n a c i b k v w z e lt ha en h es sl g = absurd (omega (arith, en))
  path_shape (and p x) n a c i b k v w z e lt ha en h es sl g = let eq = shape_is i _ (shape.Path b) _ e es h.0 in let o : ◌≡◌ {A = ℕ} 0 1 = cc in absurd (omega arith)
  path_shape (or p x) n a c i b k v w z e lt ha en h es sl g = let eq = shape_is i _ (shape.Path b) _ e es h.0 in let o : ◌≡◌ {A = ℕ} 0 1 = cc in absurd (omega arith)

  -- a path's first row is there
  pub path_there : (x : Pred) (n a c i b : ℕ) → i ≡ c + below x → a + in_pred x ≤ 23 → nots x ≡ 0 → ShowsPred bs q x n a c → (predicate_at q i).shape ≡ shape.Path b → b < 23
  path_there (some x) n a c i b e ha en h es =
      let eq = shape_is i (c + preds_path x) (shape.Path b) _ e es h.0 in
      let is : b ≡ a = cc in
      omega (arith, own_one x)
  path_there (not p) n a c i b e ha en h es = absurd (omega (arith, en))
  path_there (and p x) n a c i b e ha en h es = let eq = shape_is i _ (shape.Path b) _ e es h.0 in let o : ◌≡◌ {A = ℕ} 0 1 = cc in absurd (omega arith)
  path_there (or p x) n a c i b e ha en h es = let eq = shape_is i _ (shape.Path b) _ e es h.0 in let o : ◌≡◌ {A = ℕ} 0 1 = cc in absurd (omega arith)

  wrap_is : (b : Bool) (f : List Token → List Token) (us : List Token) → wrap b f us ≡ only LeftParen b (f (only RightParen b us))
  wrap_is true f us = refl
  wrap_is false f us = refl

  -- two predicates joined by a word
  joined : (b : Bool) (z : List ℕ) (f g : List Token → List Token) (v w u y x r : Writer) → Emits (only LeftParen b) v w → Emits f w u → Emits (λ us. word z ∷ us) u y → Emits g y x → Emits (only RightParen b) x r → Emits (λ us. wrap b (λ vs. f (word z ∷ g vs)) us) v r
  joined b z f g v w u y x r f1 f2 f3 f4 f5 us h =
      let eqn = wrap_is b (λ vs. f (word z ∷ g vs)) us in
      ap (total v) eqn ∙ emits (only LeftParen b) (λ us. f (word z ∷ g (only RightParen b us))) v w r f1 (emits f (λ us. word z ∷ g (only RightParen b us)) w u r f2 (emits (λ us. word z ∷ us) (λ us. g (only RightParen b us)) u y r f3 (emits g (only RightParen b) y x r f4 f5))) us (subst (λ l. length (total v l) ≤ 512) eqn h)

  abbrev Told : ℕ → Place → Writer → Writer → Type 0
  Told i k v w = (x : Pred) (a c : ℕ) → i ≡ c + below x → i < 46 → a + in_pred x ≤ 23 → ShowsPred bs q x 0 a c → Emits (pred_t x k) v w

  pub and_shape : (x : Pred) (n a c i l r : ℕ) (k : Place) (b : Bool) (v w u y z s : Writer) → i ≡ c + below x → i < 46 → a + in_pred x ≤ 23 → nots x ≡ 0 → ShowsPred bs q x n a c → (predicate_at q i).shape ≡ shape.And l r → b ≡ and_wraps k
      → Emits (only LeftParen b) v w → Told l mid w u → Emits (λ us. word and_word ∷ us) u y → Told r high y z → Emits (only RightParen b) z s → Emits (pred_t x k) v s
  and_shape (some x) n a c i l r k b v w u y z s e lt ha en h es eb f1 f2 f3 f4 f5 = let eq = shape_is i _ (shape.And l r) _ e es h.0 in let o : ◌≡◌ {A = ℕ} 0 1 = cc in absurd (omega arith)
  and_shape (not p) n a c i l r k b v w u y z s e lt ha en h es eb f1 f2 f3 f4 f5 = absurd (omega (arith, en))
  and_shape (and p x) n a c i l r k b v w u y z s e lt ha en h es eb f1 f2 f3 f4 f5 =
      let eq = shape_is i _ (shape.And l r) _ e es h.0 in
      let el : l ≡ c + below p = cc in
      let er : r ≡ c + (below p + 1) + below x = cc in
      subst (λ b. Emits (λ us. wrap b (λ vs. pred_t p mid (word and_word ∷ pred_t x high vs)) us) v s) eb
      (joined b and_word (pred_t p mid) (pred_t x high) v w u y z s f1 (f2 p a c el (omega arith) (omega arith) h.1) f3 (f4 x (a + in_pred p) (c + (below p + 1)) er (omega arith) (omega arith) h.2) f5)
  and_shape (or p x) n a c i l r k b v w u y z s e lt ha en h es eb f1 f2 f3 f4 f5 = let eq = shape_is i _ (shape.And l r) _ e es h.0 in let o : ◌≡◌ {A = ℕ} 0 1 = cc in absurd (omega arith)

  pub or_shape : (x : Pred) (n a c i l r : ℕ) (k : Place) (b : Bool) (v w u y z s : Writer) → i ≡ c + below x → i < 46 → a + in_pred x ≤ 23 → nots x ≡ 0 → ShowsPred bs q x n a c → (predicate_at q i).shape ≡ shape.Or l r → b ≡ or_wraps k
      → Emits (only LeftParen b) v w → Told l low w u → Emits (λ us. word or_word ∷ us) u y → Told r mid y z → Emits (only RightParen b) z s → Emits (pred_t x k) v s
  or_shape (some x) n a c i l r k b v w u y z s e lt ha en h es eb f1 f2 f3 f4 f5 = let eq = shape_is i _ (shape.Or l r) _ e es h.0 in let o : ◌≡◌ {A = ℕ} 0 1 = cc in absurd (omega arith)
  or_shape (not p) n a c i l r k b v w u y z s e lt ha en h es eb f1 f2 f3 f4 f5 = absurd (omega (arith, en))
  or_shape (and p x) n a c i l r k b v w u y z s e lt ha en h es eb f1 f2 f3 f4 f5 = let eq = shape_is i _ (shape.Or l r) _ e es h.0 in let o : ◌≡◌ {A = ℕ} 0 1 = cc in absurd (omega arith)
  or_shape (or p x) n a c i l r k b v w u y z s e lt ha en h es eb f1 f2 f3 f4 f5 =
      let eq = shape_is i _ (shape.Or l r) _ e es h.0 in
      let el : l ≡ c + below p = cc in
      let er : r ≡ c + (below p + 1) + below x = cc in
      subst (λ b. Emits (λ us. wrap b (λ vs. pred_t p low (word or_word ∷ pred_t x mid vs)) us) v s) eb
      (joined b or_word (pred_t p low) (pred_t x mid) v w u y z s f1 (f2 p a c el (omega arith) (omega arith) h.1) f3 (f4 x (a + in_pred p) (c + (below p + 1)) er (omega arith) (omega arith) h.2) f5)

  -- the predicates that one joins are before it
  pub and_below : (x : Pred) (n a c i l r : ℕ) → i ≡ c + below x → nots x ≡ 0 → ShowsPred bs q x n a c → (predicate_at q i).shape ≡ shape.And l r → (l < i) × (r < i)
  and_below (some x) n a c i l r e en h es = let eq = shape_is i _ (shape.And l r) _ e es h.0 in let o : ◌≡◌ {A = ℕ} 0 1 = cc in absurd (omega arith)
  and_below (not p) n a c i l r e en h es = absurd (omega (arith, en))
  and_below (and p x) n a c i l r e en h es =
      let eq = shape_is i _ (shape.And l r) _ e es h.0 in
      let el : l ≡ c + below p = cc in
      let er : r ≡ c + (below p + 1) + below x = cc in
      (omega arith, omega arith)
  and_below (or p x) n a c i l r e en h es = let eq = shape_is i _ (shape.And l r) _ e es h.0 in let o : ◌≡◌ {A = ℕ} 0 1 = cc in absurd (omega arith)

  pub or_below : (x : Pred) (n a c i l r : ℕ) → i ≡ c + below x → nots x ≡ 0 → ShowsPred bs q x n a c → (predicate_at q i).shape ≡ shape.Or l r → (l < i) × (r < i)
  or_below (some x) n a c i l r e en h es = let eq = shape_is i _ (shape.Or l r) _ e es h.0 in let o : ◌≡◌ {A = ℕ} 0 1 = cc in absurd (omega arith)
  or_below (not p) n a c i l r e en h es = absurd (omega (arith, en))
  or_below (and p x) n a c i l r e en h es = let eq = shape_is i _ (shape.Or l r) _ e es h.0 in let o : ◌≡◌ {A = ℕ} 0 1 = cc in absurd (omega arith)
  or_below (or p x) n a c i l r e en h es =
      let eq = shape_is i _ (shape.Or l r) _ e es h.0 in
      let el : l ≡ c + below p = cc in
      let er : r ≡ c + (below p + 1) + below x = cc in
      (omega arith, omega arith)

mutual
  pub preds_path_lem : (x : Path) → preds_path x ≤ in_path x + in_path x
  preds_path_lem (first r v t f) = preds_filter_lem f
  preds_path_lem (more x v t f) = omega (arith, preds_path_lem x, preds_filter_lem f)

  preds_filter_lem : (f : Filter) → preds_filter f ≤ in_filter f + in_filter f
  preds_filter_lem plain = omega arith
  preds_filter_lem (holds p) = omega (arith, preds_below p)

  preds_below : (p : Pred) → below p + 2 ≤ in_pred p + in_pred p
  preds_below (some x) = omega (arith, preds_path_lem x, some_own x)
  preds_below (not p) = preds_below p
  preds_below (and p x) = omega (arith, preds_below p, preds_below x)
  preds_below (or p x) = omega (arith, preds_below p, preds_below x)

  some_own : (x : Path) → 1 ≤ own x
  some_own (first r v t f) = omega arith
  some_own (more x v t f) = omega arith
