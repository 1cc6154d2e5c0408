-- What a query selects, by a test that computes; and the worked cases.
use Rattle.std.proofs.Common.{◌≡◌, ℕ, zero, suc, ◌+◌, ◌-◌, ◌<◌, ◌≤◌, min, Bool, true, false, cond, not, ◌&&◌, ◌||◌, T, eqb, ltb, leb, ◌⊎◌, ◌↔◌, List, [], ◌∷◌, length, sym, refl, ap, ◌∙◌, subst, inl, inr, ⊎_elim, arith, le→leb, eqb→eq, ltb→lt, lt→ltb, leb→le, T_not}
use mathlib.Core.Logic.Iff
use native.Mathlib.Decide.{dec_lt}
use lib.Dec.{not_T, eqb_refl}
use Rattle.rows.specs.Rows.{Row, count_of as count, depth_of as depth, label_of as label, Lawful, Descendant, Child, FollowingSibling}
use Rattle.grammar.specs.Syntax.{Axis, self, child, descendant, following_sibling, NodeTest, Path, first, more, Filter, plain, Pred, some}
use Rattle.grammar.specs.Syntax as query
use Rattle.grammar.specs.Machine.{Outcome, accepted, refused, outcome}
use Rattle.automata.specs.Program.{Some, Every}
use Rattle.names.specs.Store.{label_of}
use Rattle.selection.specs.Selects.{Store, On, Passes, Reaches, Filtered, Holds, Selects}
use Rattle.selection.proofs.Names.{labels_are}
use Rattle.std.proofs.lemmas.Bool.{false≢true, cases_Bool, cond-true, cond-false, eqb-true, eqb-false}
use Rattle.tally.specs.Monoid.{marks_of}
use Rattle.tally.specs.Values.{cap, add, same_capped}
use Rattle.tallying.specs.Nodes.{Lists}
use Rattle.cases.specs.Example.{example_rows, example_names, Case, cases, Works, Worked}

and_means : (a b : Bool) {A B : Type 0} → T a ↔ A → T b ↔ B → T (a && b) ↔ (A × B)
and_means true true f g = (λ t. (f.0 tt, g.0 tt), λ p. tt)
and_means true false f g = (λ t. absurd t, λ p. g.1 p.1)
and_means false b f g = (λ t. absurd t, λ p. f.1 p.0)

or_means : (a b : Bool) {A B : Type 0} → T a ↔ A → T b ↔ B → T (a || b) ↔ (A ⊎ B)
or_means true b f g = (λ t. inl (f.0 tt), λ p. tt)
or_means false b f g = (λ t. inr (g.0 t), ⊎_elim (λ x. absurd (f.1 x)) g.1)

not_means : (a : Bool) {A : Type 0} → T a ↔ A → T (not a) ↔ (¬ A)
not_means a f = (λ t x. T_not a t (f.1 x), λ n. not_T a (λ t. n (f.0 t)))

lt_means : (m n : ℕ) → T (ltb m n) ↔ (m < n)
lt_means m n = (ltb→lt m n, lt→ltb m n)

le_means : (m n : ℕ) → T (leb m n) ↔ (m ≤ n)
le_means m n = (leb→le m n, le→leb m n)

eq_means : (m n : ℕ) → T (eqb m n) ↔ (m ≡ n)
eq_means m n = (eqb→eq m n, λ e. subst (λ x. T (eqb m x)) e (eqb_refl m))

-- some number below n is so; every number below n is so
abbrev any : (ℕ → Bool) → ℕ → Bool
any f zero = false
any f (suc n) = f n || any f n

abbrev every : (ℕ → Bool) → ℕ → Bool
every f zero = true
every f (suc n) = f n && every f n

any_means : (f : ℕ → Bool) (n : ℕ) → T (any f n) ↔ ((z : ℕ) × (z < n) × T (f z))
any_means f zero = (λ t. absurd t, λ r. absurd (let h = r.1 in omega arith))
any_means f (suc n) = (
  λ t. ⊎_elim (λ h. (n, omega arith, h)) (λ h. let r = (any_means f n).0 h in (r.0, omega arith, r.2)) ((or_means (f n) (any f n) Iff.rfl Iff.rfl).0 t),
  λ r. (or_means (f n) (any f n) Iff.rfl Iff.rfl).1 (which (any_means f n).1 r (dec_lt r.0 n)),
)
  where
    which : (((z : ℕ) × (z < n) × T (f z)) → T (any f n)) → (r : (z : ℕ) × (z < suc n) × T (f z)) → Dec (r.0 < n) → T (f n) ⊎ T (any f n)
    which ih r (yes h) = inr (ih (r.0, h, r.2))
    which ih r (no h) = let e : r.0 ≡ n = let g = r.1 in omega arith in inl (subst (λ x. T (f x)) e r.2)

every_means : (f : ℕ → Bool) (n : ℕ) → T (every f n) ↔ ((z : ℕ) → z < n → T (f z))
every_means f zero = (λ t z h. absurd (omega arith), λ r. tt)
every_means f (suc n) = (
  λ t z h. which (every_means f n).0 ((and_means (f n) (every f n) Iff.rfl Iff.rfl).0 t) z h (dec_lt z n),
  λ r. (and_means (f n) (every f n) Iff.rfl Iff.rfl).1 (r n (omega arith), (every_means f n).1 (λ z h. r z (omega arith))),
)
  where
    which : (T (every f n) → (z : ℕ) → z < n → T (f z)) → T (f n) × T (every f n) → (z : ℕ) → z < suc n → Dec (z < n) → T (f z)
    which ih p z h (yes l) = ih p.1 z l
    which ih p z h (no l) = let e : n ≡ z = omega arith in subst (λ x. T (f x)) e p.0

module _ (rows : List Row) where
  is_descendant : ℕ → ℕ → Bool
  is_descendant x y = ltb x y && (ltb y (count rows) && every (λ u. leb u x || ltb (depth rows x) (depth rows u)) (suc y))

  descendant_means : (x y : ℕ) → T (is_descendant x y) ↔ Descendant rows x y
  unfolding is_descendant
  descendant_means x y =
      let deep = every (λ u. leb u x || ltb (depth rows x) (depth rows u)) (suc y) in
      let m = and_means (ltb x y) (ltb y (count rows) && deep) (lt_means x y) (and_means (ltb y (count rows)) deep (lt_means y (count rows)) (every_means _ (suc y))) in (
        λ t. let r = m.0 t in
            (r.0, r.1.0, λ u a b. ⊎_elim (λ l. absurd (omega arith)) (λ l. l) ((either u).0 (r.1.1 u (omega arith)))),
        λ d. m.1 (d.0, (d.1, λ u h. (either u).1 (which u h d (dec_lt x u)))),
      )
    where
      either : (u : ℕ) → T (leb u x || ltb (depth rows x) (depth rows u)) ↔ ((u ≤ x) ⊎ (depth rows x < depth rows u))
      either u = or_means (leb u x) (ltb (depth rows x) (depth rows u)) (le_means u x) (lt_means _ _)

      which : (u : ℕ) → u < suc y → Descendant rows x y → Dec (x < u) → (u ≤ x) ⊎ (depth rows x < depth rows u)
      which u h d (yes l) = inr (d.2 u l (omega arith))
      which u h d (no l) = inl (omega arith)

  is_child : ℕ → ℕ → Bool
  is_child x y = is_descendant x y && eqb (depth rows y) (suc (depth rows x))

  child_means : (x y : ℕ) → T (is_child x y) ↔ Child rows x y
  unfolding is_child
  child_means x y = and_means (is_descendant x y) _ (descendant_means x y) (eq_means _ _)

  is_following : ℕ → ℕ → Bool
  is_following x y = ltb x y && any (λ p. is_child p x && is_child p y) (count rows)

  following_means : (x y : ℕ) → T (is_following x y) ↔ FollowingSibling rows x y
  unfolding is_following
  following_means x y =
      let m = and_means (ltb x y) (any (λ p. is_child p x && is_child p y) (count rows)) (lt_means x y) (any_means _ (count rows)) in
      let both = λ (p : ℕ). and_means (is_child p x) (is_child p y) (child_means p x) (child_means p y) in (
        λ t. let r = m.0 t in let c = (both r.1.0).0 r.1.2 in (r.1.0, c.0, c.1, r.0),
        λ f. m.1 (f.3, (f.0, let h = f.1.0.0 in let l = f.1.0.1 in omega arith, (both f.0).1 (f.1, f.2))),
      )

  is_on : Axis → ℕ → ℕ → Bool
  is_on self x y = eqb x y
  is_on child x y = is_child x y
  is_on descendant x y = is_descendant x y
  is_on following_sibling x y = is_following x y

  on_means : (a : Axis) (x y : ℕ) → T (is_on a x y) ↔ On a rows x y
  unfolding is_on
  on_means self x y = eq_means x y
  on_means child x y = child_means x y
  on_means descendant x y = descendant_means x y
  on_means following_sibling x y = following_means x y

  on_within : (a : Axis) (x y : ℕ) → x < count rows → On a rows x y → y < count rows
  on_within self x y h o = subst (λ z. z < count rows) o h
  on_within child x y h o = o.0.1
  on_within descendant x y h o = o.1
  on_within following_sibling x y h o = o.2.0.1

  module _ (names : Store) where
    passes : NodeTest → ℕ → Bool
    passes query.element y = leb 2 (label rows y)
    passes (query.name w) y = leb 2 (label rows y) && eqb (label rows y) (label_of names w)
    passes query.text y = eqb (label rows y) 1
    passes query.node y = true

    passes_means : (t : NodeTest) (y : ℕ) → T (passes t y) ↔ Passes names t rows y
    unfolding passes
    passes_means query.element y = le_means 2 (label rows y)
    passes_means (query.name w) y = and_means (leb 2 (label rows y)) _ (le_means 2 (label rows y)) (Iff.trans (eq_means _ (label_of names w)) (labels_are names w (label rows y)))
    passes_means query.text y = eq_means _ 1
    passes_means query.node y = Iff.rfl

    mutual
      reaches : Path → ℕ → ℕ → Bool
      reaches (first s a t f) x y = is_on a x y && (passes t y && filtered f y)
      reaches (more p a t f) x y = any (λ z. reaches p x z && (is_on a z y && (passes t y && filtered f y))) (count rows)

      filtered : Filter → ℕ → Bool
      filtered plain x = true
      filtered (query.holds p) x = holds p x

      holds : Pred → ℕ → Bool
      holds (some q) x = any (λ y. reaches q x y) (count rows)
      holds (query.not p) x = not (holds p x)
      holds (query.and p q) x = holds p x && holds q x
      holds (query.or p q) x = holds p x || holds q x

    reaches_within : (q : Path) (x y : ℕ) → x < count rows → Reaches names q rows x y → y < count rows
    reaches_within (first s a t f) x y h r = on_within a x y h r.0
    reaches_within (more p a t f) x y h r = on_within a r.0 y (reaches_within p x r.0 h r.1) r.2.0

    step_means : (a : Axis) (t : NodeTest) (x y : ℕ) (b : Bool) {B : Type 0} → T b ↔ B → T (is_on a x y && (passes t y && b)) ↔ (On a rows x y × Passes names t rows y × B)
    step_means a t x y b e =
        let m = and_means (is_on a x y) (passes t y && b) (on_means a x y) (and_means (passes t y) b (passes_means t y) e) in
        (λ r. let s = m.0 r in (s.0, s.1.0, s.1.1), λ r. m.1 (r.0, (r.1, r.2)))

    mutual
      unfolding reaches

      reaches_means : (q : Path) (x y : ℕ) → x < count rows → y < count rows → T (reaches q x y) ↔ Reaches names q rows x y
      reaches_means (first s a t f) x y h l = step_means a t x y (filtered f y) (filtered_means f y l)
      reaches_means (more p a t f) x y h l =
          let m = any_means (λ z. reaches p x z && (is_on a z y && (passes t y && filtered f y))) (count rows) in
          let e = λ (z : ℕ) (b : z < count rows). and_means (reaches p x z) (is_on a z y && (passes t y && filtered f y)) (reaches_means p x z h b) (step_means a t z y (filtered f y) (filtered_means f y l)) in (
            λ r. let s = m.0 r in let g = (e s.0 s.1).0 s.2 in (s.0, g.0, g.1),
            λ r. let b = reaches_within p x r.0 h r.1 in m.1 (r.0, b, (e r.0 b).1 (r.1, r.2)),
          )

      filtered_means : (f : Filter) (x : ℕ) → x < count rows → T (filtered f x) ↔ Filtered names f rows x
      filtered_means plain x h = Iff.rfl
      filtered_means (query.holds p) x h = holds_means p x h

      holds_means : (p : Pred) (x : ℕ) → x < count rows → T (holds p x) ↔ Holds names p rows x
      holds_means (some q) x h =
          let m = any_means (λ y. reaches q x y) (count rows) in (
            λ t. let r = m.0 t in (r.0, (reaches_means q x r.0 h r.1).0 r.2),
            λ r. let b = reaches_within q x r.0 h r.1 in m.1 (r.0, b, (reaches_means q x r.0 h b).1 r.1),
          )
      holds_means (query.not p) x h = not_means (holds p x) (holds_means p x h)
      holds_means (query.and p q) x h = and_means (holds p x) (holds q x) (holds_means p x h) (holds_means q x h)
      holds_means (query.or p q) x h = or_means (holds p x) (holds q x) (holds_means p x h) (holds_means q x h)

-- a list of nodes, as a test
abbrev member : List ℕ → ℕ → Bool
member [] v = false
member (x ∷ xs) v = eqb x v || member xs v

member_means : (xs : List ℕ) (v : ℕ) → T (member xs v) ↔ Some (λ x. x ≡ v) xs
member_means [] v = Iff.rfl
member_means (x ∷ xs) v = or_means (eqb x v) (member xs v) (eq_means x v) (member_means xs v)

abbrev small : List ℕ → ℕ → Bool
small [] n = true
small (x ∷ xs) n = ltb x n && small xs n

small_means : (xs : List ℕ) (n v : ℕ) → T (small xs n) → Some (λ x. x ≡ v) xs → v < n
small_means [] n v t s = absurd s
small_means (x ∷ xs) n v t (inl e) = subst (λ y. y < n) e ((and_means (ltb x n) (small xs n) (lt_means x n) Iff.rfl).0 t).0
small_means (x ∷ xs) n v t (inr s) = small_means xs n v ((and_means (ltb x n) (small xs n) (lt_means x n) Iff.rfl).0 t).1 s

abbrev same : Bool → Bool → Bool
same true b = b
same false b = not b

same_means : (a b : Bool) → T (same a b) → T a ↔ T b
same_means true true t = Iff.rfl
same_means true false t = absurd t
same_means false true t = absurd t
same_means false false t = Iff.rfl

-- the test of a case
agrees : List Row → Store → Path → List ℕ → Bool
agrees rows names q ns = small ns (count rows) && every (λ v. same (reaches rows names q 0 v) (member ns v)) (count rows)

selects_listed : (rows : List Row) → Lawful rows → (names : Store) (q : Path) (ns : List ℕ) → T (agrees rows names q ns) → (v : ℕ) → Selects names q rows v ↔ Some (λ x. x ≡ v) ns
unfolding agrees
selects_listed rows ok names q ns t v =
    let a = (and_means (small ns (count rows)) _ Iff.rfl (every_means _ (count rows))).0 t in
    let e = λ (h : v < count rows). Iff.trans (Iff.symm (reaches_means rows names q 0 v ok.some h)) (Iff.trans (same_means _ _ (a.1 v h)) (member_means ns v)) in (
      λ r. (e (reaches_within rows names q 0 v ok.some r)).0 r,
      λ s. (e (small_means ns (count rows) v a.0 s)).1 s,
    )

-- a rule for the nodes below n, by a test
by_test : (f : ℕ → Bool) (n : ℕ) → T (every f n) → (z : ℕ) → z < n → T (f z)
by_test f n t = (every_means f n).0 t

example_lawful : Lawful example_rows
example_lawful = record {
  some = omega arith;
  few = omega arith;
  root_depth = refl;
  root_label = refl;
  other_depth = λ v h l. ⊎_elim (λ x. absurd (omega arith)) (λ x. x)
      ((or_means (leb v 0) (ltb 0 (depth example_rows v)) (le_means v 0) (lt_means 0 _)).0 (by_test (λ v. leb v 0 || ltb 0 (depth example_rows v)) 9 tt v l));
  other_label = λ v h l. ⊎_elim (λ x. absurd (omega arith)) (λ x. x)
      ((or_means (leb v 0) _ (le_means v 0) (and_means (leb 1 (label example_rows v)) (leb (label example_rows v) 513) (le_means 1 _) (le_means _ 513))).0
      (by_test (λ v. leb v 0 || (leb 1 (label example_rows v) && leb (label example_rows v) 513)) 9 tt v l));
  steps = λ v l. leb→le _ _ (by_test (λ v. leb (depth example_rows (suc v)) (suc (depth example_rows v))) 8 tt v (omega arith));
  texts = λ v l e. ⊎_elim (λ n. absurd (n e)) (λ x. x)
      ((or_means (not (eqb (label example_rows v) 1)) _ (not_means (eqb (label example_rows v) 1) (eq_means _ 1)) (le_means _ _)).0
      (by_test (λ v. not (eqb (label example_rows v) 1) || leb (depth example_rows (suc v)) (depth example_rows v)) 8 tt v (omega arith)));
}

listed : List ℕ → ℕ → Bool
listed [] v = false
listed (n ∷ ns) v = eqb n v || listed ns v

-- those of the k numbers from v on that are listed
among : List ℕ → ℕ → ℕ → List ℕ
among ns v zero = []
among ns v (suc k) = cond (listed ns v) (v ∷ among ns (v + 1) k) (among ns (v + 1) k)

listed_so : (ns : List ℕ) (v : ℕ) → (listed ns v ≡ true → Some (λ x. x ≡ v) ns) × (listed ns v ≡ false → ¬ Some (λ x. x ≡ v) ns)
unfolding listed
listed_so [] v = (λ e. absurd (false≢true e), λ e s. s)
listed_so (n ∷ ns) v = (
  λ e. ⊎_elim (λ (y : eqb n v ≡ true). inl (eqb-true n v y)) (λ (y : eqb n v ≡ false). inr ((listed_so ns v).0 (sym (ap (λ (b : Bool). b || listed ns v) y) ∙ e))) (cases_Bool (eqb n v)),
  λ e s. ⊎_elim
      (λ (y : eqb n v ≡ true). false≢true (sym e ∙ ap (λ (b : Bool). b || listed ns v) y))
      (λ (y : eqb n v ≡ false). ⊎_elim (λ (w : n ≡ v). eqb-false n v y w) (λ w. (listed_so ns v).1 (sym (ap (λ (b : Bool). b || listed ns v) y) ∙ e) w) s)
      (cases_Bool (eqb n v)),
)

lists_among : (Q : ℕ → Type 0) (ns : List ℕ) → ((v : ℕ) → Q v ↔ Some (λ x. x ≡ v) ns) → (v k : ℕ) → Lists Q v k (among ns v k)
unfolding among
lists_among Q ns all v zero = refl
lists_among Q ns all v (suc k) =
    ⊎_elim
    (λ (y : listed ns v ≡ true). inl ((all v).1 ((listed_so ns v).0 y), (among ns (v + 1) k, cond-true _ _ _ y, lists_among Q ns all (v + 1) k)))
    (λ (y : listed ns v ≡ false). inr ((λ q. (listed_so ns v).1 y ((all v).0 q)), subst (Lists Q (v + 1) k) (sym (cond-false _ _ _ y)) (lists_among Q ns all (v + 1) k)))
    (cases_Bool (listed ns v))

counted : (vs : List ℕ) → (marks_of (cap 0) (λ _. cap 1) add vs).number ≡ min 65535 (length vs)
counted [] = refl
counted (v ∷ vs) = omega (arith, counted vs)

-- the text of a case is read, and its query tested; the nodes told are those of the span
works_as : Outcome → Case → Bool
works_as (accepted q) c = agrees example_rows example_names q c.nodes
works_as (refused k a) c = false

works_by : (c : Case) (o : Outcome) → outcome c.text ≡ o → among c.nodes c.lo (c.hi - c.lo) ≡ c.told → T (works_as o c) → Works c
unfolding works_as
works_by c (accepted q) e s t =
    let all = selects_listed example_rows example_lawful example_names q c.nodes t in
    (q, e, all, subst (Lists (Selects example_names q example_rows) c.lo (c.hi - c.lo)) s (lists_among (Selects example_names q example_rows) c.nodes all c.lo (c.hi - c.lo)), same_capped _ _ (counted c.told))
works_by c (refused k a) e s t = absurd t

all_work : List Case → Bool
all_work [] = true
all_work (c ∷ cs) = works_as (outcome c.text) c && all_work cs

-- each case tells the nodes of its span
abbrev Told : Case → Type 0
Told c = among c.nodes c.lo (c.hi - c.lo) ≡ c.told

each_works : (cs : List Case) → T (all_work cs) → Every Told cs → Every Works cs
unfolding all_work
each_works [] t s = tt
each_works (c ∷ cs) t s =
    let a = (and_means (works_as (outcome c.text) c) (all_work cs) Iff.rfl Iff.rfl).0 t in
    (works_by c (outcome c.text) refl s.0 a.0, each_works cs a.1 s.1)

told : Every Told cases
unfolding among listed
told = (refl, (refl, (refl, (refl, (refl, (refl, (refl, (refl, (refl, (refl, (refl, (refl, tt))))))))))))

pub worked : Worked
unfolding all_work works_as agrees reaches is_on passes is_following is_child is_descendant
worked = record { lawful = example_lawful; work = each_works cases tt told }
