-- Rows that stay go on showing what they show.
use Rattle.std.proofs.Common.{◌≡◌, ℕ, ◌+◌, ◌*◌, ◌<◌, ◌≤◌, false, List, length, get_or, Some, None, Option, sym, refl, ap, ◌∙◌, subst, arith}
use Rattle.grammar.specs.Syntax.{Path, first, more, Filter, plain, holds, Pred, some, not, and, or, own, in_path, in_filter, in_pred}
use Rattle.grammar.specs.Machine.{Where, outer, inner}
use Rattle.query.specs.declared.table.Table.{Table}
use Rattle.query.specs.declared.table.Predicate.{Predicate}
use Rattle.query.specs.Shown.{step_at, predicate_at, within, preds_path, preds_filter, below, ShowsHere, ShowsPath, ShowsFilter, ShowsPred, blank_step}
use Rattle.lexer.specs.declared.Reader.{Reader}
use Rattle.lexer.specs.Readers.{end_of, Moved}
use Rattle.reader.specs.declared.parts.Parser.{Parser}
use Rattle.reader.specs.Rows.{Pushes, Negated}
use Rattle.reader.specs.Heads.{Onward}
use Rattle.reader.specs.Parsing.{Fit, Keeps, Gained, nots}

mutual
  pub preds_path_lem : (x : Path) → preds_path x ≤ 2 * in_path x
  preds_path_lem (first r v t f) = preds_filter_lem f
  preds_path_lem (more x v t f) = omega (arith, preds_path_lem x, preds_filter_lem f)

  pub preds_filter_lem : (f : Filter) → preds_filter f ≤ 2 * in_filter f
  preds_filter_lem plain = omega arith
  preds_filter_lem (holds p) = omega (arith, preds_below p)

  pub preds_below : (p : Pred) → below p + 2 ≤ 2 * in_pred p
  preds_below (some x) = omega (arith, preds_path_lem x, own_one x)
  preds_below (not p) = preds_below p
  preds_below (and p x) = omega (arith, preds_below p, preds_below x)
  preds_below (or p x) = omega (arith, preds_below p, preds_below x)

  pub own_one : (x : Path) → 1 ≤ own x
  own_one (first r v t f) = omega arith
  own_one (more x v t f) = omega arith

-- the same rows from s0 to s1, a0 to a1 and c0 to c1
pub record SameOn (t u : Table) (s0 s1 a0 a1 c0 c1 : ℕ) : Type 0 where
  pub outside : (k : ℕ) → s0 ≤ k → k < s1 → step_at outer u k ≡ step_at outer t k
  pub inside : (k : ℕ) → a0 ≤ k → k < a1 → step_at inner u k ≡ step_at inner t k
  pub predicates : (k : ℕ) → c0 ≤ k → k < c1 → predicate_at u k ≡ predicate_at t k

module _ (bs : List ℕ) (t u : Table) (s0 s1 a0 a1 c0 c1 : ℕ) (same : SameOn t u s0 s1 a0 a1 c0 c1) where
  abbrev Lies : Where → ℕ → ℕ → Type 0
  Lies outer s n = (s0 ≤ s) × (s + n ≤ s1)
  Lies inner s n = Unit {0}

  mutual
    pub keep_path : (w : Where) (x : Path) (nx : Option ℕ) (s a c : ℕ) → Lies w s (own x) → a0 ≤ a → a + within w x ≤ a1 → c0 ≤ c → c + preds_path x ≤ c1 → ShowsPath w bs t x nx s a c → ShowsPath w bs u x nx s a c
    keep_path outer (first r v y f) nx s a c i ha hb hc hd h =
        let e = same.outside s i.0 (omega (arith, i.1)) in
        (subst (λ z. ShowsHere bs z r v y nx) (sym e) h.0, subst (λ z. ShowsFilter bs u z.bracket f (a + 0) c) (sym e) (keep_filter (step_at outer t s).bracket f (a + 0) c (omega arith) (omega arith) hc hd h.1))
    keep_path inner (first r v y f) nx s a c i ha hb hc hd h =
        let e = same.inside a ha (omega arith) in
        (subst (λ z. ShowsHere bs z r v y nx) (sym e) h.0, subst (λ z. ShowsFilter bs u z.bracket f (a + 1) c) (sym e) (keep_filter (step_at inner t a).bracket f (a + 1) c (omega arith) (omega arith) hc hd h.1))
    keep_path outer (more x v y f) nx s a c i ha hb hc hd h =
        let e = same.outside (s + own x) (omega (arith, i.0)) (omega (arith, i.1)) in (
          keep_path outer x (Some (s + own x)) s a c (i.0, omega (arith, i.1)) ha (omega arith) hc (omega arith) h.0,
          subst (λ z. ShowsHere bs z false v y nx) (sym e) h.1,
          subst (λ z. ShowsFilter bs u z.bracket f (a + in_path x + 0) (c + preds_path x)) (sym e) (keep_filter (step_at outer t (s + own x)).bracket f (a + in_path x + 0) (c + preds_path x) (omega arith) (omega arith) (omega arith) (omega arith) h.2),
        )
    keep_path inner (more x v y f) nx s a c i ha hb hc hd h =
        let e = same.inside (a + (own x + in_path x)) (omega arith) (omega arith) in (
          keep_path inner x (Some (a + (own x + in_path x))) s a c tt ha (omega arith) hc (omega arith) h.0,
          subst (λ z. ShowsHere bs z false v y nx) (sym e) h.1,
          subst (λ z. ShowsFilter bs u z.bracket f (a + (own x + in_path x) + 1) (c + preds_path x)) (sym e) (keep_filter (step_at inner t (a + (own x + in_path x))).bracket f (a + (own x + in_path x) + 1) (c + preds_path x) (omega arith) (omega arith) (omega arith) (omega arith) h.2),
        )

    pub keep_filter : (o : Option ℕ) (f : Filter) (a c : ℕ) → a0 ≤ a → a + in_filter f ≤ a1 → c0 ≤ c → c + preds_filter f ≤ c1 → ShowsFilter bs t o f a c → ShowsFilter bs u o f a c
    keep_filter o plain a c ha hb hc hd h = h
    keep_filter o (holds p) a c ha hb hc hd h = (h.0, keep_pred p 0 a c ha hb hc hd h.1)

    pub keep_pred : (p : Pred) (n a c : ℕ) → a0 ≤ a → a + in_pred p ≤ a1 → c0 ≤ c → c + (below p + 1) ≤ c1 → ShowsPred bs t p n a c → ShowsPred bs u p n a c
    keep_pred (some x) n a c ha hb hc hd h = (same.predicates (c + preds_path x) (omega arith) (omega arith) ∙ h.0, keep_path inner x None a a c tt ha hb hc (omega arith) h.1)
    keep_pred (not p) n a c ha hb hc hd h = keep_pred p (n + 1) a c ha hb hc hd h
    keep_pred (and p x) n a c ha hb hc hd h = (same.predicates (c + (below p + 1 + (below x + 1))) (omega arith) (omega arith) ∙ h.0, keep_pred p 0 a c ha (omega arith) hc (omega arith) h.1, keep_pred x 0 (a + in_pred p) (c + (below p + 1)) (omega arith) (omega arith) (omega arith) (omega arith) h.2)
    keep_pred (or p x) n a c ha hb hc hd h = (same.predicates (c + (below p + 1 + (below x + 1))) (omega arith) (omega arith) ∙ h.0, keep_pred p 0 a c ha (omega arith) hc (omega arith) h.1, keep_pred x 0 (a + in_pred p) (c + (below p + 1)) (omega arith) (omega arith) (omega arith) (omega arith) h.2)

-- what the rows below the counts show
pub stay_pred : (bs : List ℕ) (t u : Table) → Keeps t u → (p : Pred) (n a c : ℕ) → a + in_pred p ≤ t.inside_count → c + (below p + 1) ≤ t.predicate_count → ShowsPred bs t p n a c → ShowsPred bs u p n a c
stay_pred bs t u k p n a c ha hc h = keep_pred bs t u 0 0 0 t.inside_count 0 t.predicate_count (record { outside = λ j x y. absurd (omega arith); inside = λ j x y. k.inside j y; predicates = λ j x y. k.predicates j y }) p n a c (omega arith) ha (omega arith) hc h

pub stay_path : (bs : List ℕ) (t u : Table) → Keeps t u → (x : Path) (a c : ℕ) → a + (own x + in_path x) ≤ t.inside_count → c + preds_path x ≤ t.predicate_count → ShowsPath inner bs t x None a a c → ShowsPath inner bs u x None a a c
stay_path bs t u k x a c ha hc h = keep_path bs t u 0 0 0 t.inside_count 0 t.predicate_count (record { outside = λ j x y. absurd (omega arith); inside = λ j x y. k.inside j y; predicates = λ j x y. k.predicates j y }) inner x None a a c tt (omega arith) ha (omega arith) hc h

-- the number of `not` in a row
pub nots_in : (bs : List ℕ) (t : Table) (p : Pred) (n a c : ℕ) → ShowsPred bs t p n a c → (predicate_at t (c + below p)).negations ≡ n + nots p
nots_in bs t (some x) n a c h = ap (λ z. z.negations) h.0 ∙ omega arith
nots_in bs t (not p) n a c h = nots_in bs t p (n + 1) a c h ∙ omega arith
nots_in bs t (and p x) n a c h = ap (λ z. z.negations) h.0 ∙ omega arith
nots_in bs t (or p x) n a c h = ap (λ z. z.negations) h.0 ∙ omega arith

-- one `not` more
abbrev raised : Predicate → Predicate
raised x = record { negations = x.negations + 1; shape = x.shape }

module _ (bs : List ℕ) (t u : Table) where
  below_same : (k : ℕ) → Negated k t u → (a c : ℕ) → SameOn t u 0 0 0 (a + 1) c k
  below_same k g a c = record { outside = λ j x y. absurd (omega arith); inside = λ j x y. ap (λ z. get_or z j blank_step) g.inside; predicates = λ j x y. g.others j (omega arith) }

  pub raise : (p : Pred) (n a c k : ℕ) → k ≡ c + below p → predicate_at u k ≡ raised (predicate_at t k) → Negated k t u → ShowsPred bs t p n a c → ShowsPred bs u p (n + 1) a c
  raise (some x) n a c k e i g h =
      (subst (λ j. predicate_at u j ≡ raised (predicate_at t j)) e i ∙ ap raised h.0, keep_path bs t u 0 0 0 (a + within inner x + 1) c k (below_same k g (a + within inner x) c) inner x None a a c tt (omega arith) (omega arith) (omega arith) (omega arith) h.1)
  raise (not p) n a c k e i g h = raise p (n + 1) a c k e i g h
  raise (and p x) n a c k e i g h = (
    subst (λ j. predicate_at u j ≡ raised (predicate_at t j)) e i ∙ ap raised h.0,
    keep_pred bs t u 0 0 0 (a + in_pred p + 1) c k (below_same k g (a + in_pred p) c) p 0 a c (omega arith) (omega arith) (omega arith) (omega arith) h.1,
    keep_pred bs t u 0 0 0 (a + in_pred p + in_pred x + 1) c k (below_same k g (a + in_pred p + in_pred x) c) x 0 (a + in_pred p) (c + (below p + 1)) (omega arith) (omega arith) (omega arith) (omega arith) h.2,
  )
  raise (or p x) n a c k e i g h = (
    subst (λ j. predicate_at u j ≡ raised (predicate_at t j)) e i ∙ ap raised h.0,
    keep_pred bs t u 0 0 0 (a + in_pred p + 1) c k (below_same k g (a + in_pred p) c) p 0 a c (omega arith) (omega arith) (omega arith) (omega arith) h.1,
    keep_pred bs t u 0 0 0 (a + in_pred p + in_pred x + 1) c k (below_same k g (a + in_pred p + in_pred x) c) x 0 (a + in_pred p) (c + (below p + 1)) (omega arith) (omega arith) (omega arith) (omega arith) h.2,
  )

pub keeps_trans : (t u v : Table) → Keeps t u → Keeps u v → t.outside_count ≤ u.outside_count → t.inside_count ≤ u.inside_count → t.predicate_count ≤ u.predicate_count → Keeps t v
keeps_trans t u v f g x y z = record { outside = λ k h. g.outside k (omega arith) ∙ f.outside k h; inside = λ k h. g.inside k (omega arith) ∙ f.inside k h; predicates = λ k h. g.predicates k (omega arith) ∙ f.predicates k h }

pub on_trans : (r q s : Reader) → Onward r q → Onward q s → Onward r s
on_trans r q s f g = record { text = g.text ∙ f.text; on = omega (arith, f.on, g.on) }

pub on_moved : (r q : Reader) → Moved r q → Onward r q
on_moved r q m = record { text = m.text; on = omega (arith, m.on) }

pub on_same : (r q : Reader) → q ≡ r → Onward r q
on_same r q e = record { text = ap (λ z. z.text) e; on = omega (arith, ap (λ z. z.place) e) }

pub gain : (p q r : Parser) (s a c x b d : ℕ) → Gained p q s a c → Gained q r x b d → Gained p r (s + x) (a + b) (c + d)
gain p q r s a c x b d f g = record {
  on = on_trans p.reader q.reader r.reader f.on g.on;
  outside = omega (arith, f.outside, g.outside);
  inside = omega (arith, f.inside, g.inside);
  predicates = omega (arith, f.predicates, g.predicates);
  most = g.most;
  keeps = keeps_trans p.table q.table r.table f.keeps g.keeps (omega (arith, f.outside)) (omega (arith, f.inside)) (omega (arith, f.predicates));
}

pub gain_as : (p q : Parser) (s a c x b d : ℕ) → s ≡ x → a ≡ b → c ≡ d → Gained p q s a c → Gained p q x b d
gain_as p q s a c x b d e f g h = record { on = h.on; outside = omega (arith, h.outside); inside = omega (arith, h.inside); predicates = omega (arith, h.predicates); most = h.most; keeps = h.keeps }

-- the reader alone moves
pub moves : (p : Parser) (r : Reader) → p.table.inside_count ≤ 23 → Onward p.reader r → Gained p (record { reader = r; table = p.table }) 0 0 0
moves p r h on = record { on = on; outside = omega arith; inside = omega arith; predicates = omega arith; most = h; keeps = record { outside = λ k z. refl; inside = λ k z. refl; predicates = λ k z. refl } }

pub same_end : (r q : Reader) → Onward r q → end_of q ≡ end_of r
same_end r q on = ap (λ z. length z.now) on.text

pub fit_after : (p q : Parser) (s a c : ℕ) → Fit p → Gained p q s a c → c ≤ 2 * a → Fit q
fit_after p q s a c f g h = record { short = omega (arith, f.short, same_end p.reader q.reader g.on); inside = g.most; room = omega (arith, f.room, g.inside, g.predicates) }

-- one predicate more
pub pushed : (p : Parser) (x : Predicate) (r : ℕ) (u : Table) → p.table.inside_count ≤ 23 → r < 46 → Pushes x r p.table u → Gained p (record { reader = p.reader; table = u }) 0 0 1
pushed p x r u h lt g = record {
  on = record { text = refl; on = omega arith };
  outside = omega (arith, g.counted.outside);
  inside = omega (arith, g.counted.inside);
  predicates = omega (arith, g.more lt, g.at);
  most = omega (arith, g.counted.inside);
  keeps = record {
    outside = λ k z. ap (λ l. get_or l k blank_step) g.outside;
    inside = λ k z. ap (λ l. get_or l k blank_step) g.inside;
    predicates = λ k z. g.others k (omega (arith, g.at));
  };
}

-- one `not` more
pub negated : (p : Parser) (k : ℕ) (u : Table) → p.table.inside_count ≤ 23 → Negated k p.table u → (q : Parser) (s a c : ℕ) → q.table.predicate_count ≤ k → Gained q p s a c → Gained q (record { reader = p.reader; table = u }) s a c
negated p k u h g q s a c le f = record {
  on = f.on;
  outside = omega (arith, g.counted.outside, f.outside);
  inside = omega (arith, g.counted.inside, f.inside);
  predicates = omega (arith, g.count, f.predicates);
  most = omega (arith, g.counted.inside);
  keeps = record {
    outside = λ j z. ap (λ l. get_or l j blank_step) g.outside ∙ f.keeps.outside j z;
    inside = λ j z. ap (λ l. get_or l j blank_step) g.inside ∙ f.keeps.inside j z;
    predicates = λ j z. g.others j (omega arith) ∙ f.keeps.predicates j z;
  };
}
