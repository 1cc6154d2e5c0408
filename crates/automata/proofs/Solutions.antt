-- Formulas settle which deciding states hold where.
use mathlib.Core.Path.{◌≡◌, refl, sym, subst, ◌∙◌}
use mathlib.Core.Bool.{Bool, true, false}
use mathlib.Core.List.{List}
use mathlib.Core.Logic.Iff
use mathlib.Core.Logic.{◌⊎◌, inl, inr, ◌↔◌, ⊎_elim}
use Prim.Native.Nat.{ℕ, zero, suc, ◌+◌, ◌-◌, ◌≤◌, ◌<◌}
use native.Mathlib.Decide.{dec_lt, dec_le, ℕ_discrete}
use native.Mathlib.Omega.{arith}
use lib.Dec.{T}
use lib.ListN.{length, get_or}
use Rattle.rows.specs.Rows.{Row, count_of as count, depth_of as depth, label_of as label, FirstChild, NextSibling}
use Rattle.automata.specs.Program.{Formula, kind, label_is, first, next, here, Kind, Decisions, OfKind, TrueAt, Right, Risen, Names, ProperStates}
use Rattle.automata.specs.Program as program
use Rattle.automata.specs.Claims.{Settled, Rises, Rising}
use Rattle.automata.proofs.Low.{Deeper, Low, low}

dec_T : (b : Bool) → Dec (T b)
dec_T true = yes tt
dec_T false = no (λ t. t)

both : {A B : Type 0} → Dec A → Dec B → Dec (A × B)
both (yes a) (yes b) = yes (a, b)
both (yes a) (no n) = no (λ p. n p.1)
both (no n) d = no (λ p. n p.0)

either : {A B : Type 0} → Dec A → Dec B → Dec (A ⊎ B)
either (yes a) d = yes (inl a)
either (no n) (yes b) = yes (inr b)
either (no n) (no m) = no (⊎_elim n m)

neither : {A : Type 0} → Dec A → Dec (¬ A)
neither (yes a) = no (λ n. n a)
neither (no n) = yes n

decided : {A : Type 0} → Dec A → (b : Bool) × (T b ↔ A)
decided (yes a) = (true, (λ t. a, λ x. tt))
decided (no n) = (false, (λ t. absurd t, λ x. n x))

pick : {A B : Type 0} → Dec A → Dec B → Bool → Bool → Bool
pick (yes a) (yes b) x y = x
pick (yes a) (no n) x y = y
pick (no n) d x y = y

pick_new : {A B : Type 0} (d : Dec A) (e : Dec B) (x y : Bool) → A → B → T (pick d e x y) ↔ T x
unfolding pick
pick_new (yes a) (yes b) x y p q = Iff.rfl
pick_new (yes a) (no n) x y p q = absurd (n q)
pick_new (no n) d x y p q = absurd (n p)

pick_old : {A B : Type 0} (d : Dec A) (e : Dec B) (x y : Bool) → ¬ (A × B) → T (pick d e x y) ↔ T y
unfolding pick
pick_old (yes a) (yes b) x y m = absurd (m (a, b))
pick_old (yes a) (no n) x y m = Iff.rfl
pick_old (no n) d x y m = Iff.rfl

-- D with the state p at the node v changed
put : Decisions → ℕ → ℕ → Bool → Decisions
put D p v b q u = pick (ℕ_discrete q p) (ℕ_discrete u v) b (D q u)

put_new : (D : Decisions) (p v : ℕ) (b : Bool) → T (put D p v b p v) ↔ T b
unfolding put
put_new D p v b = pick_new (ℕ_discrete p p) (ℕ_discrete v v) b (D p v) refl refl

put_old : (D : Decisions) (p v : ℕ) (b : Bool) (q u : ℕ) → ¬ ((q ≡ p) × (u ≡ v)) → T (D q u) ↔ T (put D p v b q u)
unfolding put
put_old D p v b q u m = Iff.symm (pick_old (ℕ_discrete q p) (ℕ_discrete u v) b (D q u) m)

module _ (rows : List Row) where
  pub next_unique : (v w x : ℕ) → NextSibling rows v w → NextSibling rows v x → w ≡ x
  next_unique v w x a b = test (dec_lt w x) (dec_lt x w)
    where
      test : Dec (w < x) → Dec (x < w) → w ≡ x
      test (yes h) k = let g = b.3 w a.0 h in absurd (omega arith)
      test (no h) (yes k) = let g = a.3 x b.0 k in absurd (omega arith)
      test (no h) (no k) = omega arith

  pub first_dec : (v : ℕ) → Dec ((w : ℕ) × FirstChild rows v w)
  first_dec v = test (dec_lt (suc v) (count rows)) (ℕ_discrete (depth rows (suc v)) (suc (depth rows v)))
    where
      test : Dec (suc v < count rows) → Dec (depth rows (suc v) ≡ suc (depth rows v)) → Dec ((w : ℕ) × FirstChild rows v w)
      test (yes h) (yes k) = yes (suc v, (refl, h, k))
      test (yes h) (no k) = no (λ r. k (rw r.1.0 at r.1.2))
      test (no h) k = no (λ r. h (rw r.1.0 at r.1.1))

  pub next_dec : (v : ℕ) → v < count rows → Dec ((w : ℕ) × NextSibling rows v w)
  next_dec v h = test (low rows v (count rows - 1))
    where
      last : {w : ℕ} → w < count rows → w ≤ count rows - 1
      last b = omega arith

      equal : (l : Low rows v (count rows - 1)) → Dec (depth rows l.0 ≡ depth rows v) → Dec ((w : ℕ) × NextSibling rows v w)
      equal l (yes e) = yes (l.0, (l.1, omega arith, e, l.4))
      equal l (no n) = no (λ r. wrong r (dec_lt r.0 l.0) (dec_lt l.0 r.0))
        where
          wrong : (r : (w : ℕ) × NextSibling rows v w) → Dec (r.0 < l.0) → Dec (l.0 < r.0) → ⊥
          wrong r (yes i) k = let g = l.4 r.0 r.1.0 i in let e = r.1.2 in omega arith
          wrong r (no i) (yes k) = let g = r.1.3 l.0 l.1 k in omega arith
          wrong r (no i) (no k) = let e : r.0 ≡ l.0 = omega arith in n (rw e at r.1.2)

      test : Deeper rows v (count rows - 1) ⊎ Low rows v (count rows - 1) → Dec ((w : ℕ) × NextSibling rows v w)
      test (inl deep) = no (λ r. let g = deep r.0 r.1.0 (last r.1.1) in let e = r.1.2 in omega arith)
      test (inr l) = equal l (ℕ_discrete (depth rows l.0) (depth rows v))

  there : (R : ℕ → Type 0) (B : ℕ → Type 0) → ((w x : ℕ) → R w → R x → w ≡ x) → ((w : ℕ) → Dec (B w)) → Dec ((w : ℕ) × R w) → Dec ((w : ℕ) × R w × B w)
  there R B one d (no n) = no (λ r. n (r.0, r.1))
  there R B one d (yes r) = test (d r.0)
    where
      test : Dec (B r.0) → Dec ((w : ℕ) × R w × B w)
      test (yes b) = yes (r.0, r.1, b)
      test (no n) = no (λ s. n (subst B (one s.0 r.0 s.1 r.1) s.2))

  kind_dec : (k : Kind) (v : ℕ) → Dec (OfKind rows k v)
  kind_dec program.root v = ℕ_discrete (label rows v) 0
  kind_dec program.text v = ℕ_discrete (label rows v) 1
  kind_dec program.element v = dec_le 2 (label rows v)

  pub true_dec : (f : Formula) (D : Decisions) (v : ℕ) → v < count rows → Dec (TrueAt f D rows v)
  true_dec (kind k) D v h = kind_dec k v
  true_dec (label_is c) D v h = ℕ_discrete (label rows v) c
  true_dec program.true D v h = yes tt
  true_dec (first q) D v h = there (FirstChild rows v) (λ w. T (D q w)) (λ w x a b. a.0 ∙ sym b.0) (λ w. dec_T (D q w)) (first_dec v)
  true_dec (next q) D v h = there (NextSibling rows v) (λ w. T (D q w)) (next_unique v) (λ w. dec_T (D q w)) (next_dec v h)
  true_dec (here q) D v h = dec_T (D q v)
  true_dec (program.and f g) D v h = both (true_dec f D v h) (true_dec g D v h)
  true_dec (program.or f g) D v h = either (true_dec f D v h) (true_dec g D v h)
  true_dec (program.not f) D v h = neither (true_dec f D v h)

  -- a formula asks only lower states at its node, and states at later nodes
  pub same : (f : Formula) (n p : ℕ) (D E : Decisions) (v : ℕ) → Names f n p → ((q : ℕ) → q < p → T (D q v) ↔ T (E q v))
      → ((q w : ℕ) → q < n → v < w → w < count rows → T (D q w) ↔ T (E q w)) → TrueAt f D rows v ↔ TrueAt f E rows v
  same (kind k) n p D E v m lower later = Iff.rfl
  same (label_is c) n p D E v m lower later = Iff.rfl
  same program.true n p D E v m lower later = Iff.rfl
  same (first q) n p D E v m lower later = (
    λ r. let g : v < r.0 = let e = r.1.0 in omega arith in (r.0, r.1, (later q r.0 m g r.1.1).0 r.2),
    λ r. let g : v < r.0 = let e = r.1.0 in omega arith in (r.0, r.1, (later q r.0 m g r.1.1).1 r.2),
  )
  same (next q) n p D E v m lower later = (
    λ r. (r.0, r.1, (later q r.0 m r.1.0 r.1.1).0 r.2),
    λ r. (r.0, r.1, (later q r.0 m r.1.0 r.1.1).1 r.2),
  )
  same (here q) n p D E v m lower later = lower q m
  same (program.and f g) n p D E v m lower later = Iff.and (same f n p D E v m.0 lower later) (same g n p D E v m.1 lower later)
  same (program.or f g) n p D E v m lower later =
      let a = same f n p D E v m.0 lower later in
      let b = same g n p D E v m.1 lower later in
      (⊎_elim (λ h. inl (a.0 h)) (λ h. inr (b.0 h)), ⊎_elim (λ h. inl (a.1 h)) (λ h. inr (b.1 h)))
  same (program.not f) n p D E v m lower later = Iff.not (same f n p D E v m lower later)

  module _ (states : List Formula) (proper : ProperStates states) where
    module _ (D E : Decisions) (dr : Right states D rows) (er : Right states E rows) where
      abbrev Agree : ℕ → ℕ → Type 0
      Agree p v = T (D p v) ↔ T (E p v)

      at_node : (v : ℕ) → v < count rows → ((q w : ℕ) → q < length states → v < w → w < count rows → Agree q w)
          → (b p : ℕ) → p < b → p < length states → Agree p v
      at_node v h later zero p l lt = absurd (omega arith)
      at_node v h later (suc b) p l lt =
          Iff.trans (dr p v lt h)
          (Iff.trans (same (get_or states p program.true) (length states) p D E v (proper p lt) (λ q ql. at_node v h later b q (omega arith) (omega arith)) later)
          (Iff.symm (er p v lt h)))

      unique : (k v : ℕ) → count rows ≤ v + k → v < count rows → (p : ℕ) → p < length states → Agree p v
      unique zero v fuel h p lt = absurd (omega arith)
      unique (suc k) v fuel h p lt = at_node v h (λ q w ql vl wl. unique k w (omega arith) wl q ql) (suc p) p (omega arith) lt

    -- the state q holds at u where its formula does
    abbrev Good : Decisions → ℕ → ℕ → Type 0
    Good D q u = T (D q u) ↔ TrueAt (get_or states q program.true) D rows u

    -- one state more at v
    more : (D E : Decisions) (v p : ℕ) → v < count rows → p < length states → ((q u : ℕ) → ¬ ((q ≡ p) × (u ≡ v)) → T (D q u) ↔ T (E q u))
        → T (E p v) ↔ TrueAt (get_or states p program.true) D rows v → Risen states D rows v p → Risen states E rows v (suc p)
    more D E v p h lt kept new b = record { after = after; below = λ q l. below q l (dec_lt q p) }
      where
        at_later : (q u : ℕ) → v < u → T (D q u) ↔ T (E q u)
        at_later q u l = kept q u (λ e. let g = e.1 in omega arith)

        at_lower : (q : ℕ) → q < p → T (D q v) ↔ T (E q v)
        at_lower q l = kept q v (λ e. let g = e.0 in omega arith)

        after : (q u : ℕ) → q < length states → v < u → u < count rows → Good E q u
        after q u ql vl ul =
            Iff.trans (Iff.symm (at_later q u vl)) (Iff.trans (b.after q u ql vl ul)
            (same (get_or states q program.true) (length states) q D E u (proper q ql) (λ r rl. at_later r u vl) (λ r w rl wl wn. at_later r w (omega arith))))

        carried : (q : ℕ) → q ≤ p → q < length states → TrueAt (get_or states q program.true) D rows v ↔ TrueAt (get_or states q program.true) E rows v
        carried q l ql = same (get_or states q program.true) (length states) q D E v (proper q ql) (λ r rl. at_lower r (omega arith)) (λ r w rl wl wn. at_later r w wl)

        below : (q : ℕ) → q < suc p → Dec (q < p) → Good E q v
        below q l (yes k) = Iff.trans (Iff.symm (at_lower q k)) (Iff.trans (b.below q k) (carried q (omega arith) (omega arith)))
        below q l (no k) = let e : p ≡ q = omega arith in subst (λ x. Good E x v) e (Iff.trans new (carried p (omega arith) lt))

    next_node : (D : Decisions) (v : ℕ) → Risen states D rows (suc v) (length states) → Risen states D rows v 0
    next_node D v b = record { after = λ q u ql vl ul. which q u ql vl ul (dec_lt (suc v) u); below = λ q l. absurd (omega arith) }
      where
        which : (q u : ℕ) → q < length states → v < u → u < count rows → Dec (suc v < u) → Good D q u
        which q u ql vl ul (yes h) = b.after q u ql h ul
        which q u ql vl ul (no h) = let e : suc v ≡ u = omega arith in subst (λ x. Good D q x) e (b.below q ql)

    rises : Rises states rows
    rises = record {
      none = λ D v h. record { after = λ q u ql vl ul. absurd (omega arith); below = λ q l. absurd (omega arith) };
      more = more;
      node = next_node;
      all = λ D b p v pl vl. which D b p v pl vl (dec_lt 0 v);
    }
      where
        which : (D : Decisions) → Risen states D rows 0 (length states) → (p v : ℕ) → p < length states → v < count rows → Dec (0 < v) → Good D p v
        which D b p v pl vl (yes h) = b.after p v pl h vl
        which D b p v pl vl (no h) = let e : 0 ≡ v = omega arith in subst (λ x. Good D p x) e (b.below p pl)

    -- decisions for one node, state after state, and then for all, node after node
    at_states : (D : Decisions) (v : ℕ) → v < count rows → Risen states D rows v 0 → (p : ℕ) → p ≤ length states → (E : Decisions) × Risen states E rows v p
    at_states D v h b zero l = (D, b)
    at_states D v h b (suc p) l =
        let r = at_states D v h b p (omega arith) in
        let bit = decided (true_dec (get_or states p program.true) r.0 v h) in
        (put r.0 p v bit.0, more r.0 _ v p h l (put_old r.0 p v bit.0) (Iff.trans (put_new r.0 p v bit.0) bit.1) r.1)

    at_nodes : (k v : ℕ) → count rows ≤ v + k → (D : Decisions) × Risen states D rows v 0
    at_nodes zero v fuel = ((λ p u. false), rises.none (λ p u. false) v (omega arith))
    at_nodes (suc k) v fuel =
        let r = at_nodes k (suc v) (omega arith) in
        which r (dec_lt (suc v) (count rows))
      where
        which : (D : Decisions) × Risen states D rows (suc v) 0 → Dec (suc v < count rows) → (D : Decisions) × Risen states D rows v 0
        which r (yes h) = let s = at_states r.0 (suc v) h r.1 (length states) (omega arith) in (s.0, next_node s.0 v s.1)
        which r (no h) = (r.0, rises.none r.0 v (omega arith))

    decisions : (D : Decisions) × Right states D rows
    decisions = which (dec_lt 0 (count rows))
      where
        which : Dec (0 < count rows) → (D : Decisions) × Right states D rows
        which (yes h) =
            let r = at_nodes (count rows) 0 (omega arith) in
            let s = at_states r.0 0 h r.1 (length states) (omega arith) in
            (s.0, rises.all s.0 s.1)
        which (no h) = ((λ p v. false), λ p v pl vl. absurd (omega arith))

pub rising : Rising
rising states rows proper = rises rows states proper

pub settled : Settled
settled states rows proper =
    (decisions rows states proper, λ D E dr er p v pl vl. unique rows states proper D E dr er (count rows) v (omega arith) vl p pl)
