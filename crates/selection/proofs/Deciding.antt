-- The deciding states of a translated predicate hold where it does.
use Rattle.std.proofs.Common.{◌≡◌, ℕ, zero, suc, ◌+◌, ◌<◌, ◌≤◌, T, ◌⊎◌, ◌↔◌, List, [], ◌∷◌, ◌++◌, length, get_or, Some, None, Option, refl, inl, inr, ⊎_elim, add-zero, arith}
use mathlib.Core.Logic.Iff
use Rattle.rows.specs.Rows.{Row, count_of as count, label_of, Lawful}
use Rattle.grammar.specs.Syntax.{Axis, self, child, descendant, following_sibling, NodeTest, Path, first, more, Filter, plain, holds, Pred, some}
use Rattle.grammar.specs.Syntax as query
use Rattle.automata.specs.Program.{Formula, Decisions, TrueAt, Right}
use Rattle.automata.specs.Program as program
use Rattle.selection.specs.Selects.{Store, On, Passes, Reaches, Filtered, Holds}
use Rattle.selection.specs.Translate.{passing, beginning, looking, both, Part, missing, part, onto, of_path, of_filter, of_pred}
use Rattle.selection.proofs.Names.{labels_are}
use Rattle.selection.proofs.Trees.{Start, Onward, Walk, stop, go, along, start_within, onward_later, walk_within}

-- D is right for formulas numbered from k
abbrev pub RightFrom : List Formula → Decisions → List Row → ℕ → Type 0
RightFrom [] D rows k = Unit {0}
RightFrom (f ∷ fs) D rows k = ((v : ℕ) → v < count rows → T (D k v) ↔ TrueAt f D rows v) × RightFrom fs D rows (suc k)

module _ (rows : List Row) (D : Decisions) where
  pub split : (xs ys : List Formula) (k : ℕ) → RightFrom (xs ++ ys) D rows k → RightFrom xs D rows k × RightFrom ys D rows (k + length xs)
  split [] ys k r = (tt, rw add-zero r)
  split (x ∷ xs) ys k r =
      let s = split xs ys (suc k) r.1 in
      let e : suc k + length xs ≡ k + suc (length xs) = omega arith in
      ((r.0, s.0), rw e at s.1)

  from : (fs : List Formula) (k : ℕ) → ((i v : ℕ) → i < length fs → v < count rows → T (D (k + i) v) ↔ TrueAt (get_or fs i program.true) D rows v) → RightFrom fs D rows k
  from [] k h = tt
  from (f ∷ fs) k h = (
    λ v b. rw add-zero at (h 0 v (omega arith) b),
    from fs (suc k) (λ i v a b. let e : k + suc i ≡ suc k + i = omega arith in rw e at (h (suc i) v (omega arith) b)),
  )

  pub right_from : (fs : List Formula) → Right fs D rows → RightFrom fs D rows 0
  right_from fs h = from fs 0 (λ i v a b. let e : 0 + i ≡ i = omega arith in rw e (h i v a b))

  pub passing_means : (names : Store) (t : NodeTest) (w : ℕ) → TrueAt (passing names t) D rows w ↔ Passes names t rows w
  passing_means names query.element w = Iff.rfl
  passing_means names (query.name n) w = Iff.and Iff.rfl (labels_are names n (label_of rows w))
  passing_means names query.text w = Iff.rfl
  passing_means names query.node w = Iff.rfl

  -- what may be missing holds, or what it asks does
  abbrev pub Asked : Option Formula → ℕ → Type 0
  Asked None v = Unit {0}
  Asked (Some f) v = TrueAt f D rows v

  pub both_means : (f : Formula) (o : Option Formula) (v : ℕ) → TrueAt (both f o) D rows v ↔ (TrueAt f D rows v × Asked o v)
  both_means f None v = (λ h. (h, tt), λ h. h.0)
  both_means f (Some g) v = Iff.rfl

  beginning_means : (a : Axis) (i x : ℕ) → TrueAt (beginning a i) D rows x ↔ ((c : ℕ) × Start a rows x c × T (D i c))
  beginning_means self i x = (λ h. (x, refl, h), λ r. rw (← r.1) at r.2)
  beginning_means child i x = Iff.rfl
  beginning_means descendant i x = Iff.rfl
  beginning_means following_sibling i x = Iff.rfl

  abbrev Further : Axis → ℕ → ℕ → Type 0
  Further a i v = (w : ℕ) × Onward a rows v w × T (D i w)

  looking_means : (a : Axis) (i : ℕ) (f : Formula) (v : ℕ) → TrueAt (looking a i f) D rows v ↔ (TrueAt f D rows v ⊎ Further a i v)
  looking_means self i f v = (inl, ⊎_elim (λ h. h) (λ r. absurd r.1))
  looking_means child i f v = Iff.rfl
  looking_means descendant i f v = (
    ⊎_elim inl (⊎_elim (λ r. inr (r.0, inl r.1, r.2)) (λ r. inr (r.0, inr r.1, r.2))),
    ⊎_elim inl (λ r. inr (which r.1 r.2)),
  )
    where
      which : {w : ℕ} → Onward descendant rows v w → T (D i w) → TrueAt (program.or (program.first i) (program.next i)) D rows v
      which {w} (inl m) d = inl (w, m, d)
      which {w} (inr m) d = inr (w, m, d)
  looking_means following_sibling i f v = Iff.rfl

  module _ (ok : Lawful rows) where
    pub on_within : (a : Axis) (x w : ℕ) → x < count rows → On a rows x w → w < count rows
    on_within a x w h o =
        let r = (along rows ok a x w).0 o in
        walk_within rows ok a (start_within rows ok a x r.0 h r.1) r.2

    -- a state that looks for M holds where the walk meets M
    abbrev Looks : Axis → ℕ → (ℕ → Type 0) → Type 0
    Looks a i M = (v : ℕ) → v < count rows → T (D i v) ↔ (M v ⊎ Further a i v)

    found : (a : Axis) (i : ℕ) (M : ℕ → Type 0) → Looks a i M → (k v : ℕ) → count rows ≤ v + k → v < count rows → T (D i v) → (w : ℕ) × Walk a rows v w × M w
    found a i M l zero v fuel b d = absurd (omega arith)
    found a i M l (suc k) v fuel b d = which (λ w. found a i M l k w) ((l v b).0 d)
      where
        which : ((w : ℕ) → count rows ≤ w + k → w < count rows → T (D i w) → (x : ℕ) × Walk a rows w x × M x) → M v ⊎ Further a i v → (x : ℕ) × Walk a rows v x × M x
        which ih (inl m) = (v, stop, m)
        which ih (inr r) =
            let o = onward_later rows ok a v r.0 r.1 in
            let s = ih r.0 (omega arith) o.1 r.2 in
            (s.0, go r.1 s.1, s.2)

    seen : (a : Axis) (i : ℕ) (M : ℕ → Type 0) → Looks a i M → {v w : ℕ} → v < count rows → Walk a rows v w → M w → T (D i v)
    seen a i M l {v} b stop m = (l v b).1 (inl m)
    seen a i M l {v} b (go {w = u} o t) m = (l v b).1 (inr (u, o, seen a i M l (onward_later rows ok a v u o).1 t m))

    -- a state that looks for f along the axis, begun there: some node on the axis has what it looks for
    step_means : (a : Axis) (k : ℕ) (ss : List Formula) (f : Formula) → RightFrom (ss ++ (looking a (k + length ss) f ∷ [])) D rows k
        → (x : ℕ) → x < count rows → TrueAt (beginning a (k + length ss)) D rows x ↔ ((w : ℕ) × On a rows x w × TrueAt f D rows w)
    step_means a k ss f r x b = (
      λ h. let c = (beginning_means a i x).0 h in
          let s = found a i M l (count rows) c.0 (omega arith) (start_within rows ok a x c.0 b c.1) c.2 in
          (s.0, (along rows ok a x s.0).1 (c.0, c.1, s.1), s.2),
      λ s. let c = (along rows ok a x s.0).0 s.1 in
          (beginning_means a i x).1 (c.0, c.1, seen a i M l (start_within rows ok a x c.0 b c.1) c.2 s.2),
    )
      where
        i : ℕ
        i = k + length ss

        M : ℕ → Type 0
        M v = TrueAt f D rows v

        l : Looks a i M
        l v h = Iff.trans ((split ss _ k r).1.0 v h) (looking_means a i f v)

    module _ (names : Store) where
      -- the parts before a step's own state are right
      onto_parts : (a : Axis) (f : Formula) (b c : Part) (k : ℕ) → RightFrom (onto a f b c k).states D rows k
          → RightFrom c.states D rows k × RightFrom b.states D rows (k + length c.states)
      onto_parts a f b c k r = split c.states b.states k (split (c.states ++ b.states) _ k r).0

      -- what a step in a bracket asks, where its bracket asks B
      onto_means : (a : Axis) (t : NodeTest) (b c : Part) (k : ℕ) → RightFrom (onto a (passing names t) b c k).states D rows k
          → (B : ℕ → Type 0) → ((z : ℕ) → z < count rows → Asked b.asks z ↔ B z)
          → (x : ℕ) → x < count rows
          → TrueAt (onto a (passing names t) b c k).asks D rows x ↔ ((z : ℕ) × (On a rows x z × Passes names t rows z × B z) × Asked c.asks z)
      onto_means a t b c k r B mb x h =
          let m = step_means a k (c.states ++ b.states) (both (both (passing names t) b.asks) c.asks) r x h in
          let each = λ (z : ℕ). Iff.trans (both_means (both (passing names t) b.asks) c.asks z) (Iff.and (both_means (passing names t) b.asks z) Iff.rfl) in (
            λ g. let s = m.0 g in
                let z = s.0 in
                let bz = on_within a x z h s.1 in
                let e = (each z).0 s.2 in
                (z, (s.1, (passing_means names t z).0 e.0.0, (mb z bz).0 e.0.1), e.1),
            λ g. let z = g.0 in
                let bz = on_within a x z h g.1.0 in
                m.1 (z, g.1.0, (each z).1 (((passing_means names t z).1 g.1.1, (mb z bz).1 g.1.2), g.2)),
          )

      -- what follows a path has right states
      pub after_right : (p : Path) (c : Part) (k : ℕ) → RightFrom (of_path names p c k).states D rows k → RightFrom c.states D rows k
      after_right (first s a t f) c k r = (onto_parts a (passing names t) (of_filter names f (k + length c.states)) c k r).0
      after_right (more p a t f) c k r =
          (onto_parts a (passing names t) (of_filter names f (k + length c.states)) c k (after_right p _ k r)).0

      pub reaches_within : (p : Path) (x y : ℕ) → x < count rows → Reaches names p rows x y → y < count rows
      reaches_within (first s a t f) x y h r = on_within a x y h r.0
      reaches_within (more p a t f) x y h r = on_within a r.0 y (reaches_within p x r.0 h r.1) r.2.0

      mutual
        pub path_means : (p : Path) (c : Part) (k : ℕ) → RightFrom (of_path names p c k).states D rows k
            → (x : ℕ) → x < count rows
            → TrueAt (of_path names p c k).asks D rows x ↔ ((y : ℕ) × Reaches names p rows x y × Asked c.asks y)
        path_means (first s a t f) c k r x h =
            let b = of_filter names f (k + length c.states) in
            let rs = onto_parts a (passing names t) b c k r in
            onto_means a t b c k r (λ z. Filtered names f rows z) (filter_means f (k + length c.states) rs.1) x h
        path_means (more p a t f) c k r x h =
            let b = of_filter names f (k + length c.states) in
            let o = onto a (passing names t) b c k in
            let ro = after_right p (part o) k r in
            let rs = onto_parts a (passing names t) b c k ro in
            let mo = onto_means a t b c k ro (λ z. Filtered names f rows z) (filter_means f (k + length c.states) rs.1) in
            let m = path_means p (part o) k r x h in (
              λ g. let s = m.0 g in
                  let u = (mo s.0 (reaches_within p x s.0 h s.1)).0 s.2 in
                  (u.0, (s.0, s.1, u.1), u.2),
              λ g. let z = g.1.0 in
                  m.1 (z, g.1.1, (mo z (reaches_within p x z h g.1.1)).1 (g.0, g.1.2, g.2)),
            )

        pub filter_means : (f : Filter) (k : ℕ) → RightFrom (of_filter names f k).states D rows k → (x : ℕ) → x < count rows
            → Asked (of_filter names f k).asks x ↔ Filtered names f rows x
        filter_means plain k r x h = Iff.rfl
        filter_means (holds p) k r x h = pred_means p k r x h

        pub pred_means : (p : Pred) (k : ℕ) → RightFrom (of_pred names p k).states D rows k → (x : ℕ) → x < count rows
            → TrueAt (of_pred names p k).asks D rows x ↔ Holds names p rows x
        pred_means (some p) k r x h =
            let m = path_means p missing k r x h in (
              λ g. let s = m.0 g in (s.0, s.1),
              λ g. m.1 (g.0, g.1, tt),
            )
        pred_means (query.not p) k r x h = Iff.not (pred_means p k r x h)
        pred_means (query.and p q) k r x h =
            let rs = split (of_pred names q k).states _ k r in
            Iff.and (pred_means p (k + length (of_pred names q k).states) rs.1 x h) (pred_means q k rs.0 x h)
        pred_means (query.or p q) k r x h =
            let rs = split (of_pred names q k).states _ k r in
            let l = pred_means p (k + length (of_pred names q k).states) rs.1 x h in
            let m = pred_means q k rs.0 x h in
            (⊎_elim (λ g. inl (l.0 g)) (λ g. inr (m.0 g)), ⊎_elim (λ g. inl (l.1 g)) (λ g. inr (m.1 g)))
