-- What a predicate says, by what the rows that it refers to say.
use Rattle.std.proofs.Common.{◌≡◌, ℕ, zero, suc, ◌<◌, refl, ap, ◌∙◌}
use Rattle.query.specs.declared.table.Shape.{Shape}
use Rattle.query.specs.declared.table.Shape.TheVariants as shape
use Rattle.query.specs.declared.table.Table.{Table}
use Rattle.query.specs.Shown.{predicate_at}
use Rattle.automata.specs.Program.{Formula, and, or, not}
use Rattle.translation.specs.Table.{asks_at, negated, says, shape_says, Reach, ShapeReach, said, Reaching}

module _ (q : Table) where
  Raised : ℕ → ℕ → Type 0
  Raised n i = Reach n q i → Reach (suc n) q i × (says n q i ≡ says (suc n) q i)

  raise_shape : (n i : ℕ) (x : Shape) → ((j : ℕ) → Raised n j) → ShapeReach (λ j. Reach n q j) q i x
      → ShapeReach (λ j. Reach (suc n) q j) q i x × (shape_says (λ j. says n q j) q x ≡ shape_says (λ j. says (suc n) q j) q x)
  unfolding Raised
  raise_shape n i (shape.Path s) ih r = (r, refl)
  raise_shape n i (shape.And a b) ih r =
      let s = ih a r.2 in
      let t = ih b r.3 in
      ((r.0, r.1, s.0, t.0), ap (λ f. and f (says n q b)) s.1 ∙ ap (λ f. and (says (suc n) q a) f) t.1)
  raise_shape n i (shape.Or a b) ih r =
      let s = ih a r.2 in
      let t = ih b r.3 in
      ((r.0, r.1, s.0, t.0), ap (λ f. or f (says n q b)) s.1 ∙ ap (λ f. or (says (suc n) q a) f) t.1)

  raise : (n i : ℕ) → Raised n i
  unfolding Raised
  raise zero i r = absurd r
  raise (suc n) i r =
      let s = raise_shape n i (predicate_at q i).shape (λ j. raise n j) r.1 in
      ((r.0, s.0), ap (negated (predicate_at q i).negations) s.1)

  pub reach_within : (i : ℕ) → Reaching q i → i < 46
  unfolding Reaching
  reach_within i r = r.0

  -- by the shape of the predicate
  abbrev pub Opened : ℕ → Shape → Type 0
  Opened i (shape.Path s) = (s < q.inside_count) × (said q i ≡ negated (predicate_at q i).negations (asks_at q s))
  Opened i (shape.And a b) = (a < i) × (b < i) × Reaching q a × Reaching q b × (said q i ≡ negated (predicate_at q i).negations (and (said q a) (said q b)))
  Opened i (shape.Or a b) = (a < i) × (b < i) × Reaching q a × Reaching q b × (said q i ≡ negated (predicate_at q i).negations (or (said q a) (said q b)))

  opened_at : (i : ℕ) (x : Shape) → ShapeReach (λ j. Reach 45 q j) q i x → said q i ≡ negated (predicate_at q i).negations (shape_says (λ j. says 45 q j) q x) → Opened i x
  unfolding Reaching said Raised
  opened_at i (shape.Path s) r e = (r, e)
  opened_at i (shape.And a b) r e =
      let s = raise 45 a r.2 in
      let t = raise 45 b r.3 in
      (r.0, r.1, s.0, t.0, e ∙ ap (negated (predicate_at q i).negations) (ap (λ f. and f (says 45 q b)) s.1 ∙ ap (λ f. and (says 46 q a) f) t.1))
  opened_at i (shape.Or a b) r e =
      let s = raise 45 a r.2 in
      let t = raise 45 b r.3 in
      (r.0, r.1, s.0, t.0, e ∙ ap (negated (predicate_at q i).negations) (ap (λ f. or f (says 45 q b)) s.1 ∙ ap (λ f. or (says 46 q a) f) t.1))

  pub opened : (i : ℕ) → Reaching q i → Opened i (predicate_at q i).shape
  unfolding Reaching said
  opened i r = opened_at i (predicate_at q i).shape r.1 refl

pub negated_more : (n : ℕ) (f : Formula) → negated (suc n) f ≡ negated n (not f)
negated_more zero f = refl
negated_more (suc n) f = ap not (negated_more n f)
