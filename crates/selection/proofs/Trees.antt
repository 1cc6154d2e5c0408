-- The axes by first children and next siblings.
use Rattle.std.proofs.Common.{◌≡◌, ℕ, zero, suc, ◌+◌, ◌<◌, ◌≤◌, ◌⊎◌, ◌↔◌, List, refl, subst, inl, inr, arith}
use native.Mathlib.Decide.{dec_lt}
use Rattle.rows.specs.Rows.{Row, count_of as count, depth_of as depth, Lawful, Descendant, Child, FollowingSibling, FirstChild, NextSibling}
use Rattle.grammar.specs.Syntax.{Axis, self, child, descendant, following_sibling}
use Rattle.selection.specs.Selects.{On}

-- where a step along the axis begins to look
abbrev pub Start : Axis → List Row → ℕ → ℕ → Type 0
Start self rows x c = x ≡ c
Start child rows x c = FirstChild rows x c
Start descendant rows x c = FirstChild rows x c
Start following_sibling rows x c = NextSibling rows x c

-- where it looks next
abbrev pub Onward : Axis → List Row → ℕ → ℕ → Type 0
Onward self rows v w = ⊥
Onward child rows v w = NextSibling rows v w
Onward descendant rows v w = FirstChild rows v w ⊎ NextSibling rows v w
Onward following_sibling rows v w = NextSibling rows v w

pub data Walk (a : Axis) (rows : List Row) : ℕ → ℕ → Type 0 where
  stop : {v : ℕ} → Walk a rows v v
  go : {v w x : ℕ} → Onward a rows v w → Walk a rows w x → Walk a rows v x

stop_at : {a : Axis} {rows : List Row} {v w : ℕ} → v ≡ w → Walk a rows v w
stop_at {a} {rows} {v} e = subst (λ x. Walk a rows v x) e stop

-- one number more
extend : (P : ℕ → Type 0) (m : ℕ) → ((u : ℕ) → u ≤ m → P u) → P (suc m) → (u : ℕ) → u ≤ suc m → P u
extend P m all more u le = pick (dec_lt u (suc m))
  where
    pick : Dec (u < suc m) → P u
    pick (yes h) = all u (omega arith)
    pick (no h) = let e : suc m ≡ u = omega arith in subst P e more

module _ (rows : List Row) where
  -- w is in the forest from c: c, its later siblings, and their subtrees
  abbrev Forest : ℕ → ℕ → Type 0
  Forest c w = (c ≤ w) × (w < count rows) × ((u : ℕ) → c ≤ u → u ≤ w → depth rows c ≤ depth rows u)

  abbrev pub Deeper : ℕ → ℕ → Type 0
  Deeper c w = (u : ℕ) → c < u → u ≤ w → depth rows c < depth rows u

  abbrev pub Low : ℕ → ℕ → Type 0
  Low c w = (s : ℕ) × (c < s) × (s ≤ w) × (depth rows s ≤ depth rows c) × ((u : ℕ) → c < u → u < s → depth rows c < depth rows u)

  -- the first node after c, as far as w, that is no deeper than c
  pub low : (c w : ℕ) → Deeper c w ⊎ Low c w
  low c zero = inl (λ u h k. absurd (omega arith))
  low c (suc w) = grow (low c w)
    where
      grow : Deeper c w ⊎ Low c w → Deeper c (suc w) ⊎ Low c (suc w)
      grow (inr l) = inr (l.0, l.1, omega arith, l.3, l.4)
      grow (inl all) = test (dec_lt (depth rows c) (depth rows (suc w))) (dec_lt c (suc w))
        where
          test : Dec (depth rows c < depth rows (suc w)) → Dec (c < suc w) → Deeper c (suc w) ⊎ Low c (suc w)
          test (yes h) y = inl (λ u lt le. extend (λ x. c < x → depth rows c < depth rows x) w (λ x b a. all x a b) (λ a. h) u le lt)
          test (no h) (yes k) = inr (suc w, k, omega arith, omega arith, λ u a b. all u a (omega arith))
          test (no h) (no k) = inl (λ u lt le. absurd (omega arith))

  module _ (ok : Lawful rows) where
    first_of : (c w : ℕ) → c < w → w < count rows → Deeper c w → FirstChild rows c (suc c)
    first_of c w lt within deep =
        let a = ok.steps c (omega arith) in
        let b = deep (suc c) (omega arith) (omega arith) in
        (refl, omega arith, omega arith)

    -- the move with which a walk from c to a later node of its forest begins
    abbrev Ahead : ℕ → ℕ → Type 0
    Ahead c w = (FirstChild rows c (suc c) × Forest (suc c) w) ⊎ ((s : ℕ) × NextSibling rows c s × Forest s w)

    next_of : (c w : ℕ) → Forest c w → Low c w → (s : ℕ) × NextSibling rows c s × Forest s w
    next_of c w f l =
        let s = l.0 in
        let e : depth rows s ≡ depth rows c = let g = f.2 s (omega arith) l.2 in omega arith in
        (s, (l.1, omega arith, e, l.4), (l.2, f.1, λ u a b. let g = f.2 u (omega arith) b in omega arith))

    ahead : (c w : ℕ) → c < w → Forest c w → Ahead c w
    ahead c w h f = test (low c w)
      where
        test : Deeper c w ⊎ Low c w → Ahead c w
        test (inl deep) = let fc = first_of c w h f.1 deep in inl (fc, (h, f.1, λ u a b. let g = deep u a b in omega arith))
        test (inr l) = inr (next_of c w f l)

    forest_walk : (k c w : ℕ) → w < c + k → Forest c w → Walk descendant rows c w
    forest_walk zero c w fuel f = absurd (omega arith)
    forest_walk (suc k) c w fuel f = test (λ x. forest_walk k x w) (dec_lt c w)
      where
        test : ((x : ℕ) → w < x + k → Forest x w → Walk descendant rows x w) → Dec (c < w) → Walk descendant rows c w
        test ih (no h) = stop_at (omega arith)
        test ih (yes h) = step (ahead c w h f)
          where
            step : Ahead c w → Walk descendant rows c w
            step (inl g) = go (inl g.0) (ih (suc c) (omega arith) g.1)
            step (inr g) = go (inr g.1) (ih g.0 (omega arith) g.2)

    from_first : (c v w : ℕ) → FirstChild rows c v → Forest v w → Forest c w
    from_first c v w fc f = (omega arith, f.1, λ u a b. near u a b (dec_lt c u))
      where
        near : (u : ℕ) → c ≤ u → u ≤ w → Dec (c < u) → depth rows c ≤ depth rows u
        near u a b (yes h) = let g = f.2 u (omega arith) b in omega arith
        near u a b (no h) = let e : c ≡ u = omega arith in rw e (omega arith)

    from_next : (c v w : ℕ) → NextSibling rows c v → Forest v w → Forest c w
    from_next c v w nx f = (omega arith, f.1, λ u a b. near u a b (dec_lt c u) (dec_lt u v))
      where
        near : (u : ℕ) → c ≤ u → u ≤ w → Dec (c < u) → Dec (u < v) → depth rows c ≤ depth rows u
        near u a b (no h) y = let e : c ≡ u = omega arith in rw e (omega arith)
        near u a b (yes h) (yes k) = let g = nx.3 u h k in omega arith
        near u a b (yes h) (no k) = let g = f.2 u (omega arith) b in omega arith

    alone : (c : ℕ) → c < count rows → Forest c c
    alone c h = (omega arith, h, λ u a b. let e : c ≡ u = omega arith in rw e (omega arith))

    walk_forest : {c w : ℕ} → c < count rows → Walk descendant rows c w → Forest c w
    walk_forest {c} within stop = alone c within
    walk_forest {c} {w} within (go {w = v} (inl fc) t) = from_first c v w fc (walk_forest fc.1 t)
    walk_forest {c} {w} within (go {w = v} (inr nx) t) = from_next c v w nx (walk_forest nx.1 t)

    -- a walk along siblings keeps the depth
    sibling_walk : (k c w : ℕ) → w < c + k → Forest c w → depth rows w ≡ depth rows c → Walk child rows c w
    sibling_walk zero c w fuel f e = absurd (omega arith)
    sibling_walk (suc k) c w fuel f e = test (λ x. sibling_walk k x w) (dec_lt c w)
      where
        test : ((x : ℕ) → w < x + k → Forest x w → depth rows w ≡ depth rows x → Walk child rows x w) → Dec (c < w) → Walk child rows c w
        test ih (no h) = stop_at (omega arith)
        test ih (yes h) = step (low c w)
          where
            step : Deeper c w ⊎ Low c w → Walk child rows c w
            step (inl deep) = let g = deep w h (omega arith) in absurd (omega arith)
            step (inr l) =
                let g = next_of c w f l in
                go g.1 (ih g.0 (omega arith) g.2 (omega arith))

    walk_sibling : {c w : ℕ} → c < count rows → Walk child rows c w → Forest c w × (depth rows w ≡ depth rows c)
    walk_sibling {c} within stop = (alone c within, refl)
    walk_sibling {c} {w} within (go {w = v} nx t) =
        let f = walk_sibling nx.1 t in
        (from_next c v w nx f.0, omega arith)

    -- the two kinds of walk along siblings are one
    pub as_child : {c w : ℕ} → Walk following_sibling rows c w → Walk child rows c w
    as_child stop = stop
    as_child (go nx t) = go nx (as_child t)

    pub as_following : {c w : ℕ} → Walk child rows c w → Walk following_sibling rows c w
    as_following stop = stop
    as_following (go nx t) = go nx (as_following t)

    descendant_walk : (x w : ℕ) → Descendant rows x w ↔ ((c : ℕ) × FirstChild rows x c × Walk descendant rows c w)
    descendant_walk x w = (
      λ h. let fc = first_of x w h.0 h.1 h.2 in
          (suc x, fc, forest_walk (suc w) (suc x) w (omega arith) (h.0, h.1, λ u a b. let g = h.2 u a b in omega arith)),
      λ r. let c = r.0 in
          let f = walk_forest r.1.1 r.2 in
          (omega arith, f.1, λ u a b. let g = f.2 u (omega arith) b in omega arith),
    )

    child_walk : (x w : ℕ) → Child rows x w ↔ ((c : ℕ) × FirstChild rows x c × Walk child rows c w)
    child_walk x w = (
      λ h. let fc = first_of x w h.0.0 h.0.1 h.0.2 in
          (suc x, fc, sibling_walk (suc w) (suc x) w (omega arith) (h.0.0, h.0.1, λ u a b. let g = h.0.2 u a b in omega arith) (omega arith)),
      λ r. let c = r.0 in
          let f = walk_sibling r.1.1 r.2 in
          ((omega arith, f.0.1, λ u a b. let g = f.0.2 u (omega arith) b in omega arith), omega arith),
    )

    -- the last node before x that is shallower than x
    abbrev Above : ℕ → ℕ → Type 0
    Above x y = (p : ℕ) × (p < y) × (depth rows p < depth rows x) × ((u : ℕ) → p < u → u < y → depth rows x ≤ depth rows u)

    above : (x y : ℕ) → 0 < y → depth rows 0 < depth rows x → Above x y
    above x zero h k = absurd (omega arith)
    above x (suc y) h k = test (λ l. above x y l k) (dec_lt (depth rows y) (depth rows x)) (dec_lt 0 y)
      where
        test : (0 < y → Above x y) → Dec (depth rows y < depth rows x) → Dec (0 < y) → Above x (suc y)
        test ih (yes g) z = (y, omega arith, g, λ u a b. absurd (omega arith))
        test ih (no g) (no l) = let e : 0 ≡ y = omega arith in (0, omega arith, k, λ u a b. absurd (omega arith))
        test ih (no g) (yes l) =
            let r = ih l in
            (r.0, omega arith, r.2, λ u a b. nearer r u a b (dec_lt u y))
          where
            nearer : (r : Above x y) (u : ℕ) → r.0 < u → u < suc y → Dec (u < y) → depth rows x ≤ depth rows u
            nearer r u a b (yes i) = r.3 u a i
            nearer r u a b (no i) = let e : u ≡ y = omega arith in rw e (omega arith)

    parent : (x : ℕ) → 0 < x → x < count rows → (p : ℕ) × Child rows p x
    parent x h within =
        let dx = ok.other_depth x h within in
        let dr = ok.root_depth in
        found (above x x h (omega arith))
      where
        deeper : (r : Above x x) (u : ℕ) → r.0 < u → u ≤ x → Dec (u < x) → depth rows r.0 < depth rows u
        deeper r u a b (yes i) = let g = r.3 u a i in let e = r.2 in omega arith
        deeper r u a b (no i) = let e : u ≡ x = omega arith in rw e r.2

        one : (r : Above x x) → Dec (suc r.0 < x) → depth rows x ≤ depth rows (suc r.0)
        one r (yes i) = r.3 (suc r.0) (omega arith) i
        one r (no i) = let e : suc r.0 ≡ x = omega arith in rw e (omega arith)

        found : Above x x → (p : ℕ) × Child rows p x
        found r =
            let s = ok.steps r.0 (omega arith) in
            let t = one r (dec_lt (suc r.0) x) in
            (r.0, ((r.1, within, λ u a b. deeper r u a b (dec_lt u x)), omega arith))

    following_to : (x w : ℕ) → FollowingSibling rows x w → (s : ℕ) × NextSibling rows x s × Walk following_sibling rows s w
    following_to x w h = step (low x w)
      where
        e : depth rows w ≡ depth rows x
        e = omega arith

        forest : Forest x w
        forest = (omega arith, h.2.0.1, λ u a b. let g = h.2.0.2 u (omega arith) b in omega arith)

        step : Deeper x w ⊎ Low x w → (s : ℕ) × NextSibling rows x s × Walk following_sibling rows s w
        step (inl deep) = let g = deep w h.3 (omega arith) in absurd (omega (arith, e))
        step (inr l) =
            let g = next_of x w forest l in
            (g.0, g.1, as_following (sibling_walk (suc w) g.0 w (omega arith) g.2 (omega (arith, e))))

    following_from : (x w s : ℕ) → NextSibling rows x s → Walk following_sibling rows s w → FollowingSibling rows x w
    following_from x w s nx t =
        let f = walk_sibling nx.1 (as_child t) in
        let g = from_next x s w nx f.0 in
        let ds = ok.other_depth s (omega arith) nx.1 in
        let dr = ok.root_depth in
        let r = parent x (later (dec_lt 0 x)) (omega arith) in
        close r f g
      where
        later : Dec (0 < x) → 0 < x
        later (yes h) = h
        later (no h) =
            let e : x ≡ 0 = omega arith in
            let z : depth rows x ≡ 0 = rw e ok.root_depth in
            let ds = ok.other_depth s (omega arith) nx.1 in
            absurd (omega arith)

        deeper : (r : (p : ℕ) × Child rows p x) → Forest x w → (u : ℕ) → r.0 < u → u ≤ w → Dec (u < x) → depth rows r.0 < depth rows u
        deeper r g u a b (yes i) = r.1.0.2 u a (omega arith)
        deeper r g u a b (no i) = let k = g.2 u (omega arith) b in omega arith

        close : (r : (p : ℕ) × Child rows p x) → Forest s w × (depth rows w ≡ depth rows s) → Forest x w → FollowingSibling rows x w
        close r f g = (r.0, r.1, ((omega arith, g.1, λ u a b. deeper r g u a b (dec_lt u x)), omega arith), omega arith)

    -- THE AXES: what a step reaches is where it begins to look and what it meets from there
    pub along : (a : Axis) (x w : ℕ) → On a rows x w ↔ ((c : ℕ) × Start a rows x c × Walk a rows c w)
    along self x w = (λ h. (x, refl, stop_at h), λ r. still r.1 r.2)
      where
        still : {c : ℕ} → x ≡ c → Walk self rows c w → x ≡ w
        still e stop = e
        still e (go m t) = absurd m
    along child x w = child_walk x w
    along descendant x w = descendant_walk x w
    along following_sibling x w = (following_to x w, λ r. following_from x w r.0 r.1 r.2)

    -- a look goes on to later nodes
    pub start_within : (a : Axis) (x c : ℕ) → x < count rows → Start a rows x c → c < count rows
    start_within self x c h e = rw (← e) h
    start_within child x c h m = m.1
    start_within descendant x c h m = m.1
    start_within following_sibling x c h m = m.1

    pub onward_later : (a : Axis) (v w : ℕ) → Onward a rows v w → (v < w) × (w < count rows)
    onward_later self v w m = absurd m
    onward_later child v w m = (m.0, m.1)
    onward_later descendant v w (inl m) = (omega arith, m.1)
    onward_later descendant v w (inr m) = (m.0, m.1)
    onward_later following_sibling v w m = (m.0, m.1)

    pub walk_within : (a : Axis) {v w : ℕ} → v < count rows → Walk a rows v w → w < count rows
    walk_within a h stop = h
    walk_within a {v} h (go {w = u} m t) = walk_within a (onward_later a v u m).1 t
