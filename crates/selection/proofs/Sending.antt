-- The sending states of a translated query mark what it selects.
use Rattle.std.proofs.Common.{◌≡◌, ℕ, zero, suc, ◌+◌, ◌<◌, T, ◌⊎◌, ◌↔◌, List, [], ◌∷◌, ◌++◌, get_or, sym, refl, subst, inl, inr, ⊎_elim, add-zero, arith}
use mathlib.Core.Logic.Iff
use Rattle.rows.specs.Rows.{Row, count_of as count, Lawful}
use Rattle.grammar.specs.Syntax.{Axis, self, child, descendant, following_sibling, Path, first, more}
use Rattle.automata.specs.Program.{Decisions, Move, down, on, stay, mark, Rule, Some, Makes, Leads, Enters, start, sent}
use Rattle.selection.specs.Selects.{Store, On, Passes, Reaches, Filtered}
use Rattle.selection.specs.Translate.{Step, step, steps_onto, rule, begin, keep, keeping, sending}
use Rattle.selection.proofs.Trees.{Start, Onward, Walk, stop, go, along, start_within, onward_later, walk_within}

-- the node passes the step's test and bracket
abbrev pub Fits : Store → Step → List Row → ℕ → Type 0
Fits names s rows v = Passes names s.test rows v × Filtered names s.filter rows v

-- from x the steps reach y
abbrev pub Along : Store → List Step → List Row → ℕ → ℕ → Type 0
Along names [] rows x y = x ≡ y
Along names (s ∷ ss) rows x y = (z : ℕ) × (On s.axis rows x z × Passes names s.test rows z × Filtered names s.filter rows z) × Along names ss rows z y

pub along_path : (names : Store) (p : Path) (ss : List Step) (rows : List Row) (x y : ℕ)
    → Along names (steps_onto p ss) rows x y ↔ ((z : ℕ) × Reaches names p rows x z × Along names ss rows z y)
along_path names (first s a t f) ss rows x y = Iff.rfl
along_path names (more p a t f) ss rows x y =
    let m = along_path names p (step a t f ∷ ss) rows x y in (
      λ g. let r = m.0 g in (r.2.0, (r.0, r.1, r.2.1), r.2.2),
      λ g. m.1 (g.1.0, g.1.1, (g.0, g.1.2, g.2)),
    )

pub along_reaches : (names : Store) (p : Path) (rows : List Row) (x y : ℕ) → Along names (steps_onto p []) rows x y ↔ Reaches names p rows x y
along_reaches names p rows x y =
    let m = along_path names p [] rows x y in
    (λ g. let r = m.0 g in subst (λ w. Reaches names p rows x w) r.2 r.1, λ g. m.1 (y, g, refl))

abbrev One : List Move → Move → Type 0
One ms m = Some (λ x. x ≡ m) ms

abbrev NoMark : Move → Type 0
NoMark (down q) = Unit {0}
NoMark (on q) = Unit {0}
NoMark (stay q) = Unit {0}
NoMark mark = ⊥

module _ (rows : List Row) where
  -- what a move leads to, by an equation for the move
  led : {x m : Move} (v r w : ℕ) → x ≡ m → Leads m rows v r w → Leads x rows v r w
  led v r w e l = subst (λ z. Leads z rows v r w) (sym e) l

  keep_leads : (a : Axis) (j v : ℕ) (m : Move) (r w : ℕ) → One (keep a j) m → Leads m rows v r w → (r ≡ j) × Onward a rows v w
  keep_leads self j v m r w o l = absurd o
  keep_leads child j v m r w (inl e) l = let k = led v r w e l in (sym k.0, k.1)
  keep_leads child j v m r w (inr e) l = absurd e
  keep_leads descendant j v m r w (inl e) l = let k = led v r w e l in (sym k.0, inl k.1)
  keep_leads descendant j v m r w (inr (inl e)) l = let k = led v r w e l in (sym k.0, inr k.1)
  keep_leads descendant j v m r w (inr (inr e)) l = absurd e
  keep_leads following_sibling j v m r w (inl e) l = let k = led v r w e l in (sym k.0, k.1)
  keep_leads following_sibling j v m r w (inr e) l = absurd e

  begin_leads : (a : Axis) (j v : ℕ) (m : Move) (r w : ℕ) → One (begin a j) m → Leads m rows v r w → (r ≡ j) × Start a rows v w
  begin_leads self j v m r w (inl e) l = let k = led v r w e l in (sym k.0, k.1)
  begin_leads self j v m r w (inr e) l = absurd e
  begin_leads child j v m r w (inl e) l = let k = led v r w e l in (sym k.0, k.1)
  begin_leads child j v m r w (inr e) l = absurd e
  begin_leads descendant j v m r w (inl e) l = let k = led v r w e l in (sym k.0, k.1)
  begin_leads descendant j v m r w (inr e) l = absurd e
  begin_leads following_sibling j v m r w (inl e) l = let k = led v r w e l in (sym k.0, k.1)
  begin_leads following_sibling j v m r w (inr e) l = absurd e

  keep_no_mark : (a : Axis) (j : ℕ) → ¬ One (keep a j) mark
  keep_no_mark self j o = o
  keep_no_mark child j (inl e) = subst NoMark e tt
  keep_no_mark child j (inr e) = e
  keep_no_mark descendant j (inl e) = subst NoMark e tt
  keep_no_mark descendant j (inr (inl e)) = subst NoMark e tt
  keep_no_mark descendant j (inr (inr e)) = e
  keep_no_mark following_sibling j (inl e) = subst NoMark e tt
  keep_no_mark following_sibling j (inr e) = e

  begin_no_mark : (a : Axis) (j : ℕ) → ¬ One (begin a j) mark
  begin_no_mark self j (inl e) = subst NoMark e tt
  begin_no_mark self j (inr e) = e
  begin_no_mark child j (inl e) = subst NoMark e tt
  begin_no_mark child j (inr e) = e
  begin_no_mark descendant j (inl e) = subst NoMark e tt
  begin_no_mark descendant j (inr e) = e
  begin_no_mark following_sibling j (inl e) = subst NoMark e tt
  begin_no_mark following_sibling j (inr e) = e

  keep_makes : (a : Axis) (j v w : ℕ) → Onward a rows v w → (m : Move) × One (keep a j) m × Leads m rows v j w
  keep_makes self j v w o = absurd o
  keep_makes child j v w o = (on j, inl refl, (refl, o))
  keep_makes descendant j v w (inl o) = (down j, inl refl, (refl, o))
  keep_makes descendant j v w (inr o) = (on j, inr (inl refl), (refl, o))
  keep_makes following_sibling j v w o = (on j, inl refl, (refl, o))

  begin_makes : (a : Axis) (j v w : ℕ) → Start a rows v w → (m : Move) × One (begin a j) m × Leads m rows v j w
  begin_makes self j v w o = (stay j, inl refl, (refl, o))
  begin_makes child j v w o = (down j, inl refl, (refl, o))
  begin_makes descendant j v w o = (down j, inl refl, (refl, o))
  begin_makes following_sibling j v w o = (on j, inl refl, (refl, o))

  leads_within : (m : Move) (v r w : ℕ) → v < count rows → Leads m rows v r w → w < count rows
  leads_within (down q) v r w h l = l.1.1
  leads_within (on q) v r w h l = l.1.1
  leads_within (stay q) v r w h l = rw (← l.1) h
  leads_within mark v r w h l = absurd l

  -- what the rules of a state make: what keeps looking, and what its step's deciding state lets go on
  made : (a : Axis) (m n j v : ℕ) (ms : List Move) (D : Decisions) (x : Move) → Makes (keeping a m j ++ (rule n ms ∷ [])) D v x
      → One (keep a j) x ⊎ (T (D n v) × One ms x)
  made self m n j v ms D x (inl h) = inr h
  made self m n j v ms D x (inr h) = absurd h
  made child m n j v ms D x (inl h) = inl h.1
  made child m n j v ms D x (inr (inl h)) = inr h
  made child m n j v ms D x (inr (inr h)) = absurd h
  made descendant m n j v ms D x (inl h) = inl h.1
  made descendant m n j v ms D x (inr (inl h)) = inr h
  made descendant m n j v ms D x (inr (inr h)) = absurd h
  made following_sibling m n j v ms D x (inl h) = inl h.1
  made following_sibling m n j v ms D x (inr (inl h)) = inr h
  made following_sibling m n j v ms D x (inr (inr h)) = absurd h

  made_keep : (a : Axis) (m n j v : ℕ) (ms : List Move) (D : Decisions) (x : Move) → T (D m v) → One (keep a j) x
      → Makes (keeping a m j ++ (rule n ms ∷ [])) D v x
  made_keep self m n j v ms D x t o = absurd o
  made_keep child m n j v ms D x t o = inl (t, o)
  made_keep descendant m n j v ms D x t o = inl (t, o)
  made_keep following_sibling m n j v ms D x t o = inl (t, o)

  made_go : (a : Axis) (m n j v : ℕ) (ms : List Move) (D : Decisions) (x : Move) → T (D n v) → One ms x
      → Makes (keeping a m j ++ (rule n ms ∷ [])) D v x
  made_go self m n j v ms D x t o = inl (t, o)
  made_go child m n j v ms D x t o = inr (inl (t, o))
  made_go descendant m n j v ms D x t o = inr (inl (t, o))
  made_go following_sibling m n j v ms D x t o = inr (inl (t, o))

  module _ (names : Store) where
    -- What is left where the state i after the first, which looks along a for nodes that are Q, has entered v: from there the steps reach y.
    abbrev Left : Axis → (ℕ → Type 0) → List Step → ℕ → ℕ → ℕ → Type 0
    Left a Q ss zero v y = (z : ℕ) × (Walk a rows v z × Q z) × Along names ss rows z y
    Left a Q [] (suc i) v y = ⊥
    Left a Q (s ∷ ss) (suc i) v y = Left s.axis (λ w. Fits names s rows w) ss i v y

    module _ (D : Decisions) (ok : Lawful rows) (m : ℕ) where
      -- the deciding state n holds where Q does
      abbrev Tells : ℕ → (ℕ → Type 0) → Type 0
      Tells n Q = (v : ℕ) → v < count rows → T (D n v) ↔ Q v

      -- the deciding states from m + j on are those of the steps
      abbrev pub Tell : List Step → ℕ → Type 0
      Tell [] j = Unit {0}
      Tell (s ∷ ss) j = ((v : ℕ) → v < count rows → T (D (m + j) v) ↔ (Passes names s.test rows v × Filtered names s.filter rows v)) × Tell ss (suc j)

      reach : (s : Step) (ss : List Step) (v w y : ℕ) → Start s.axis rows v w
          → Left s.axis (λ x. Fits names s rows x) ss 0 w y → Along names (s ∷ ss) rows v y
      reach s ss v w y st l = (l.0, ((along rows ok s.axis v l.0).1 (w, st, l.1.0), l.1.1.0, l.1.1.1), l.2)

      -- each move leaves no more than there was
      abbrev Sound : Axis → (ℕ → Type 0) → List Step → ℕ → ℕ → ℕ → ℕ → ℕ → ℕ → Type 0
      Sound a Q ss j i v r w y = (n : ℕ) × (r ≡ j + n) × (Left a Q ss n w y → Left a Q ss i v y)

      kept_sound : (a : Axis) (Q : ℕ → Type 0) (ss : List Step) (j v : ℕ) (x : Move) (r w y : ℕ) → One (keep a j) x → Leads x rows v r w → Sound a Q ss j 0 v r w y
      kept_sound a Q ss j v x r w y h l =
          let o = keep_leads a j v x r w h l in
          (0, rw add-zero o.0, λ f. (f.0, (go o.1 f.1.0, f.1.1), f.2))

      moves_sound : (a : Axis) (Q : ℕ → Type 0) (ss : List Step) (j : ℕ) → Tells (m + j) Q → Tell ss (suc j)
          → (i v : ℕ) → v < count rows → (x : Move) → Makes (get_or (sending m j a ss) i []) D v x
          → (r w y : ℕ) → Leads x rows v r w → Sound a Q ss j i v r w y
      moves_sound a Q [] j q ts zero v b x h r w y l =
          ⊎_elim (λ k. kept_sound a Q [] j v x r w y k l) (λ k. absurd (none k.1)) (made a m (m + j) j v (mark ∷ []) D x h)
        where
          none : One (mark ∷ []) x → ⊥
          none (inl e) = led v r w e l
          none (inr e) = e
      moves_sound a Q [] j q ts (suc i) v b x h r w y l = absurd h
      moves_sound a Q (s ∷ ss) j q ts zero v b x h r w y l =
          ⊎_elim (λ k. kept_sound a Q (s ∷ ss) j v x r w y k l) (λ k. begun k) (made a m (m + j) j v (begin s.axis (suc j)) D x h)
        where
          begun : T (D (m + j) v) × One (begin s.axis (suc j)) x → Sound a Q (s ∷ ss) j 0 v r w y
          begun k =
              let o = begin_leads s.axis (suc j) v x r w k.1 l in
              let e = o.0 in
              (1, omega arith, λ f. (v, (stop, (q v b).0 k.0), reach s ss v w y o.1 f))
      moves_sound a Q (s ∷ ss) j q ts (suc i) v b x h r w y l =
          let g = moves_sound s.axis (λ u. Fits names s rows u) ss (suc j) ts.0 ts.1 i v b x h r w y l in
          (suc g.0, omega arith, g.2)

      marks_sound : (a : Axis) (Q : ℕ → Type 0) (ss : List Step) (j : ℕ) → Tells (m + j) Q → Tell ss (suc j)
          → (i v : ℕ) → v < count rows → Makes (get_or (sending m j a ss) i []) D v mark → Left a Q ss i v v
      marks_sound a Q [] j q ts zero v b h =
          ⊎_elim (λ k. absurd (keep_no_mark a j k)) (λ k. (v, (stop, (q v b).0 k.0), refl)) (made a m (m + j) j v (mark ∷ []) D mark h)
      marks_sound a Q [] j q ts (suc i) v b h = absurd h
      marks_sound a Q (s ∷ ss) j q ts zero v b h =
          ⊎_elim (λ k. absurd (keep_no_mark a j k)) (λ k. absurd (begin_no_mark s.axis (suc j) k.1)) (made a m (m + j) j v (begin s.axis (suc j)) D mark h)
      marks_sound a Q (s ∷ ss) j q ts (suc i) v b h = marks_sound s.axis (λ u. Fits names s rows u) ss (suc j) ts.0 ts.1 i v b h

      module _ (everywhere : (v : ℕ) → v < count rows → T (D (m + 0) v)) (ss : List Step) (ts : Tell ss 1) where
        root : Tells (m + 0) (λ v. Unit {0})
        root v b = (λ t. tt, λ u. everywhere v b)

        enters_sound : {i v : ℕ} → Enters (sending m 0 self ss) D rows i v
            → (v < count rows) × ((y : ℕ) → Left self (λ w. Unit {0}) ss i v y → Along names ss rows 0 y)
        enters_sound start = (ok.some, λ y l. let e = (along rows ok self 0 l.0).1 (0, refl, l.1.0) in rw e l.2)
        enters_sound (sent {q = i} {v = v} {r = r} {w = w} x e mk ld) =
            let ih = enters_sound e in (
              leads_within x v r w ih.0 ld,
              λ y l. let g = moves_sound self (λ u. Unit {0}) ss 0 root ts i v ih.0 x mk r w y ld in
                  let n : r ≡ g.0 = omega arith in
                  ih.1 y (g.2 (rw n at l)),
            )

        pub marked_along : (v : ℕ) → ((i : ℕ) × Enters (sending m 0 self ss) D rows i v × Makes (get_or (sending m 0 self ss) i []) D v mark) → Along names ss rows 0 v
        marked_along v h =
            let e = enters_sound h.1 in
            e.1 v (marks_sound self (λ u. Unit {0}) ss 0 root ts h.0 v e.0 h.2)

      module _ (S : List (List Rule)) (everywhere : (v : ℕ) → v < count rows → T (D m v)) where
        -- the states stand in S from j on
        abbrev Placed : List (List Rule) → ℕ → Type 0
        Placed cs j = (i : ℕ) → get_or S (j + i) [] ≡ get_or cs i []

        placed_tail : (c : List Rule) (cs : List (List Rule)) (j : ℕ) → Placed (c ∷ cs) j → Placed cs (suc j)
        placed_tail c cs j h i = let e : suc j + i ≡ j + suc i = omega arith in rw e (h (suc i))

        makes : (c : List Rule) (cs : List (List Rule)) (j v : ℕ) (x : Move) → Placed (c ∷ cs) j → Makes c D v x → Makes (get_or S j []) D v x
        makes c cs j v x h k = let e : get_or S j [] ≡ c = rw add-zero at (h 0) in rw e k

        walked : (a : Axis) (n j : ℕ) (ms : List Move) (cs : List (List Rule)) → Placed ((keeping a m j ++ (rule n ms ∷ [])) ∷ cs) j
            → {v w : ℕ} → v < count rows → Walk a rows v w → Enters S D rows j v → Enters S D rows j w
        walked a n j ms cs h b stop e = e
        walked a n j ms cs h {v} b (go {w = u} o t) e =
            let x = keep_makes a j v u o in
            walked a n j ms cs h (onward_later rows ok a v u o).1 t
            (sent x.0 e (makes _ cs j v x.0 h (made_keep a m n j v ms D x.0 (everywhere v b) x.1)) x.2)

        -- what the steps reach from z is marked, if the state of the step before them has entered x and walks to z
        reached_marked : (a : Axis) (Q : ℕ → Type 0) (ss : List Step) (j : ℕ) → Tells (m + j) Q → Tell ss (suc j) → Placed (sending m j a ss) j
            → (x z : ℕ) → x < count rows → Enters S D rows j x → Walk a rows x z → Q z
            → (y : ℕ) → Along names ss rows z y → (i : ℕ) × Enters S D rows i y × Makes (get_or S i []) D y mark
        reached_marked a Q [] j q ts pl x z b en wk qz y r =
            let e = walked a (m + j) j (mark ∷ []) [] pl b wk en in
            let k = makes _ [] j z mark pl (made_go a m (m + j) j z (mark ∷ []) D mark ((q z (walk_within rows ok a b wk)).1 qz) (inl refl)) in
            (j, subst (λ u. Enters S D rows j u) r e, subst (λ u. Makes (get_or S j []) D u mark) r k)
        reached_marked a Q (s ∷ ss) j q ts pl x z b en wk qz y r =
            let e = walked a (m + j) j (begin s.axis (suc j)) (sending m (suc j) s.axis ss) pl b wk en in
            let bz = walk_within rows ok a b wk in
            let c = (along rows ok s.axis z r.0).0 r.1.0 in
            let x' = begin_makes s.axis (suc j) z c.0 c.1 in
            let en' = sent x'.0 e (makes _ (sending m (suc j) s.axis ss) j z x'.0 pl (made_go a m (m + j) j z (begin s.axis (suc j)) D x'.0 ((q z bz).1 qz) x'.1)) x'.2 in
            reached_marked s.axis (λ u. Fits names s rows u) ss (suc j) ts.0 ts.1 (placed_tail _ (sending m (suc j) s.axis ss) j pl)
            c.0 r.0 (start_within rows ok s.axis z c.0 bz c.1) en' c.2 (r.1.1, r.1.2) y r.2

      pub along_marked : (ss : List Step) → ((v : ℕ) → v < count rows → T (D m v)) → Tell ss 1
          → (v : ℕ) → Along names ss rows 0 v → (i : ℕ) × Enters (sending m 0 self ss) D rows i v × Makes (get_or (sending m 0 self ss) i []) D v mark
      along_marked ss everywhere ts v r =
          reached_marked (sending m 0 self ss) everywhere self (λ u. Unit {0}) ss 0
          (λ u b. (λ t. tt, λ k. rw add-zero (everywhere u b))) ts
          (λ i. let e : 0 + i ≡ i = omega arith in rw e) 0 0 ok.some start stop tt v r
