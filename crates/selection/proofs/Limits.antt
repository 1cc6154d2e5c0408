-- Translations keep the rules for programs.
use Rattle.std.proofs.Common.{◌≡◌, ℕ, zero, suc, ◌+◌, ◌*◌, ◌<◌, ◌≤◌, max, List, [], ◌∷◌, ◌++◌, length, get_or, Some, None, Option, refl, subst, add-zero, arith, length-append}
use Rattle.grammar.specs.Syntax.{Axis, self, child, descendant, following_sibling, NodeTest, Path, first, more, Filter, plain, holds, Pred, some, own, in_path, in_filter, in_pred}
use Rattle.grammar.specs.Syntax as query
use Rattle.automata.specs.Program.{Formula, Names, ProperStates, Every, Goes, ProperRules, width, formula_bytes, move_bytes, total, bytes, Proper, Move, Rule, Program}
use Rattle.automata.specs.Program as program
use Rattle.selection.specs.Selects.{Store}
use Rattle.selection.specs.Limits.{path_words, filter_words, words, Place, alone, conjoined, unit, level_and, level_or, path_levels, filter_levels, levels}
use Rattle.selection.specs.Translate.{passing, beginning, looking, both, Piece, Part, missing, part, onto, of_path, of_filter, of_pred, Step, step, steps_onto, steps_of, brackets, matching, deciding, begin, rule, keeping, going, sending}
use Rattle.selection.specs.Claims.{TranslationsFit}

own_some : (p : Path) → 1 ≤ own p
own_some (first s a t f) = omega arith
own_some (more p a t f) = omega arith

-- How many states there are.
onto_length : (a : Axis) (f : Formula) (b c : Part) (k : ℕ) → length (onto a f b c k).states ≡ length c.states + length b.states + 1
onto_length a f b c k = simp length-append (omega arith)

module _ (names : Store) where
  mutual
    pub path_length : (p : Path) (c : Part) (k : ℕ) → length (of_path names p c k).states ≡ length c.states + (own p + in_path p)
    path_length (first s a t f) c k =
        let b = of_filter names f (k + length c.states) in
        let e = onto_length a (passing names t) b c k in
        let g = filter_length f (k + length c.states) in
        omega arith
    path_length (more p a t f) c k =
        let b = of_filter names f (k + length c.states) in
        let e = onto_length a (passing names t) b c k in
        let g = filter_length f (k + length c.states) in
        let h = path_length p (part (onto a (passing names t) b c k)) k in
        omega arith

    pub filter_length : (f : Filter) (k : ℕ) → length (of_filter names f k).states ≡ in_filter f
    filter_length plain k = refl
    filter_length (holds p) k = pred_length p k

    pub pred_length : (p : Pred) (k : ℕ) → length (of_pred names p k).states ≡ in_pred p
    pred_length (some p) k = let e = path_length p missing k in omega arith
    pred_length (query.not p) k = pred_length p k
    pred_length (query.and p q) k =
        let g = pred_length q k in
        let e = pred_length p (k + length (of_pred names q k).states) in
        simp length-append (omega arith)
    pred_length (query.or p q) k =
        let g = pred_length q k in
        let e = pred_length p (k + length (of_pred names q k).states) in
        simp length-append (omega arith)

  steps_length : (p : Path) (ss : List Step) → length (steps_onto p ss) ≡ own p + length ss
  steps_length (first s a t f) ss = omega arith
  steps_length (more p a t f) ss = let e = steps_length p (step a t f ∷ ss) in omega arith

  brackets_more : (s : Step) (ss : List Step) → length (brackets names (s ∷ ss)) ≡ length (brackets names ss) + in_filter s.filter
  brackets_more s ss = let e = filter_length s.filter (length (brackets names ss)) in simp length-append (omega arith)

  pub brackets_length : (p : Path) (ss : List Step) → length (brackets names (steps_onto p ss)) ≡ length (brackets names ss) + in_path p
  brackets_length (first s a t f) ss = brackets_more (step a t f) ss
  brackets_length (more p a t f) ss =
      let e = brackets_length p (step a t f ∷ ss) in
      let g = brackets_more (step a t f) ss in
      omega arith

  matching_length : (ss : List Step) → length (matching names ss) ≡ length ss
  matching_length [] = refl
  matching_length (s ∷ ss) = let e = matching_length ss in omega arith

  deciding_length : (ss : List Step) → length (deciding names ss) ≡ length (brackets names ss) + suc (length ss)
  deciding_length ss = let e = matching_length ss in simp length-append (omega arith)

sending_length : (m j : ℕ) (a : Axis) (ss : List Step) → length (sending m j a ss) ≡ suc (length ss)
sending_length m j a [] = refl
sending_length m j a (s ∷ ss) = let e = sending_length m (suc j) s.axis ss in omega arith

-- Which states the formulas name.
abbrev NamesFrom : List Formula → ℕ → ℕ → Type 0
NamesFrom [] n k = Unit {0}
NamesFrom (f ∷ fs) n k = Names f n k × NamesFrom fs n (suc k)

abbrev NamesIf : Option Formula → ℕ → ℕ → Type 0
NamesIf None n k = Unit {0}
NamesIf (Some f) n k = Names f n k

names_append : (xs ys : List Formula) (n k : ℕ) → NamesFrom xs n k → NamesFrom ys n (k + length xs) → NamesFrom (xs ++ ys) n k
names_append [] ys n k a b = rw add-zero at b
names_append (x ∷ xs) ys n k a b =
    let e : k + suc (length xs) ≡ suc k + length xs = omega arith in
    (a.0, names_append xs ys n (suc k) a.1 (rw e at b))

weaken : (f : Formula) (n p r : ℕ) → p ≤ r → Names f n p → Names f n r
weaken (program.kind k) n p r h m = tt
weaken (program.label_is c) n p r h m = tt
weaken program.true n p r h m = tt
weaken (program.first q) n p r h m = m
weaken (program.next q) n p r h m = m
weaken (program.here q) n p r h m = omega arith
weaken (program.and f g) n p r h m = (weaken f n p r h m.0, weaken g n p r h m.1)
weaken (program.or f g) n p r h m = (weaken f n p r h m.0, weaken g n p r h m.1)
weaken (program.not f) n p r h m = weaken f n p r h m

weaken_if : (o : Option Formula) (n p r : ℕ) → p ≤ r → NamesIf o n p → NamesIf o n r
weaken_if None n p r h m = tt
weaken_if (Some f) n p r h m = weaken f n p r h m

passing_names : (names : Store) (t : NodeTest) (n p : ℕ) → Names (passing names t) n p
passing_names names query.element n p = tt
passing_names names (query.name c) n p = (tt, tt)
passing_names names query.text n p = tt
passing_names names query.node n p = tt

both_names : (f : Formula) (o : Option Formula) (n p : ℕ) → Names f n p → NamesIf o n p → Names (both f o) n p
both_names f None n p h g = h
both_names f (Some x) n p h g = (h, g)

beginning_names : (a : Axis) (i n p : ℕ) → i < n → i < p → Names (beginning a i) n p
beginning_names self i n p h l = l
beginning_names child i n p h l = h
beginning_names descendant i n p h l = h
beginning_names following_sibling i n p h l = h

looking_names : (a : Axis) (i : ℕ) (f : Formula) (n p : ℕ) → i < n → Names f n p → Names (looking a i f) n p
looking_names self i f n p h m = m
looking_names child i f n p h m = (m, h)
looking_names descendant i f n p h m = (m, (h, h))
looking_names following_sibling i f n p h m = (m, h)

abbrev Named : ℕ → ℕ → Piece → Type 0
Named k n b = NamesFrom b.states n k × Names b.asks n (k + length b.states)

abbrev NamedPart : ℕ → ℕ → Part → Type 0
NamedPart k n b = NamesFrom b.states n k × NamesIf b.asks n (k + length b.states)

onto_names : (a : Axis) (f : Formula) (b c : Part) (k n : ℕ) → k + length (onto a f b c k).states ≤ n → ((p : ℕ) → Names f n p)
    → NamedPart (k + length c.states) n b → NamedPart k n c → Named k n (onto a f b c k)
onto_names a f b c k n h g mb mc =
    let ss = c.states ++ b.states in
    let e = onto_length a f b c k in
    let l = length-append c.states b.states in
    let x : Names (both (both f b.asks) c.asks) n (k + length ss) =
    both_names (both f b.asks) c.asks n (k + length ss)
    (both_names f b.asks n (k + length ss) (g (k + length ss)) (weaken_if b.asks n _ _ (omega arith) mb.1))
    (weaken_if c.asks n _ _ (omega arith) mc.1) in (
      names_append ss _ n k (names_append c.states b.states n k mc.0 mb.0)
          (looking_names a (k + length ss) (both (both f b.asks) c.asks) n (k + length ss) (omega arith) x, tt),
      beginning_names a (k + length ss) n _ (omega arith) (omega arith),
    )

-- two predicates beside one another
two : (b c : Piece) (k n : ℕ) → Named (k + length c.states) n b → Named k n c
    → NamesFrom (c.states ++ b.states) n k × (Names b.asks n (k + length (c.states ++ b.states)) × Names c.asks n (k + length (c.states ++ b.states)))
two b c k n mb mc =
    let e = length-append c.states b.states in
    (names_append c.states b.states n k mc.0 mb.0, (weaken b.asks n _ _ (omega arith) mb.1, weaken c.asks n _ _ (omega arith) mc.1))

module _ (names : Store) where
  mutual
    path_names : (p : Path) (c : Part) (k n : ℕ) → k + (length c.states + (own p + in_path p)) ≤ n → NamedPart k n c → Named k n (of_path names p c k)
    path_names (first s a t f) c k n h mc =
        let b = of_filter names f (k + length c.states) in
        let e = onto_length a (passing names t) b c k in
        let g = filter_length names f (k + length c.states) in
        onto_names a (passing names t) b c k n (omega arith) (passing_names names t n) (filter_names f (k + length c.states) n (omega arith)) mc
    path_names (more p a t f) c k n h mc =
        let b = of_filter names f (k + length c.states) in
        let e = onto_length a (passing names t) b c k in
        let g = filter_length names f (k + length c.states) in
        path_names p (part (onto a (passing names t) b c k)) k n (omega arith)
        (onto_names a (passing names t) b c k n (omega arith) (passing_names names t n) (filter_names f (k + length c.states) n (omega arith)) mc)

    filter_names : (f : Filter) (k n : ℕ) → k + in_filter f ≤ n → NamedPart k n (of_filter names f k)
    filter_names plain k n h = (tt, tt)
    filter_names (holds p) k n h = pred_names p k n h

    pred_names : (p : Pred) (k n : ℕ) → k + in_pred p ≤ n → Named k n (of_pred names p k)
    pred_names (some p) k n h = path_names p missing k n (omega arith) (tt, tt)
    pred_names (query.not p) k n h = pred_names p k n h
    pred_names (query.and p q) k n h =
        let g = pred_length names q k in
        two (of_pred names p (k + length (of_pred names q k).states)) (of_pred names q k) k n
        (pred_names p (k + length (of_pred names q k).states) n (omega arith)) (pred_names q k n (omega arith))
    pred_names (query.or p q) k n h =
        let g = pred_length names q k in
        two (of_pred names p (k + length (of_pred names q k).states)) (of_pred names q k) k n
        (pred_names p (k + length (of_pred names q k).states) n (omega arith)) (pred_names q k n (omega arith))

  brackets_names : (ss : List Step) (n : ℕ) → length (brackets names ss) ≤ n → NamesFrom (brackets names ss) n 0
  brackets_names [] n h = tt
  brackets_names (s ∷ ss) n h =
      let e = brackets_more names s ss in
      let r = brackets names ss in
      let z : 0 + length r ≡ length r = omega arith in
      names_append r _ n 0 (brackets_names ss n (omega arith)) (rw z (filter_names s.filter (length r) n (omega arith)).0)

  matching_names : (ss : List Step) (n k : ℕ) → length (brackets names ss) ≤ k → length (brackets names ss) ≤ n → NamesFrom (matching names ss) n k
  matching_names [] n k l h = tt
  matching_names (s ∷ ss) n k l h =
      let e = brackets_more names s ss in
      let r = brackets names ss in
      let g = filter_length names s.filter (length r) in
      let b = of_filter names s.filter (length r) in
      let m = filter_names s.filter (length r) n (omega arith) in (
        both_names (passing names s.test) b.asks n k (passing_names names s.test n k) (weaken_if b.asks n _ k (omega arith) m.1),
        matching_names ss n (suc k) (omega arith) (omega arith),
      )

names_at : (fs : List Formula) (n k : ℕ) → NamesFrom fs n k → (i : ℕ) → i < length fs → Names (get_or fs i program.true) n (k + i)
names_at [] n k m i h = absurd (omega arith)
names_at (f ∷ fs) n k m zero h = rw add-zero m.0
names_at (f ∷ fs) n k m (suc i) h =
    let e : k + suc i ≡ suc k + i = omega arith in
    rw e (names_at fs n (suc k) m.1 i (omega arith))

proper_states : (fs : List Formula) → NamesFrom fs (length fs) 0 → ProperStates fs
proper_states fs m p h = let e : 0 + p ≡ p = omega arith in rw e at (names_at fs (length fs) 0 m p h)

pub formulas_proper : (names : Store) (ss : List Step) → ProperStates (deciding names ss)
formulas_proper names ss =
    let r = brackets names ss in
    let n = length (deciding names ss) in
    let e = deciding_length names ss in
    let z : 0 + length r ≡ length r = omega arith in
    proper_states (deciding names ss)
    (names_append r (program.true ∷ matching names ss) n 0 (brackets_names names ss n (omega arith))
    (rw z (tt, matching_names names ss n (suc (length r)) (omega arith) (omega arith))))

-- Which states the rules name.
begin_goes : (a : Axis) (j n : ℕ) → suc j < n → Every (λ m. Goes m n j) (begin a (suc j))
begin_goes self j n h = ((omega arith, h), tt)
begin_goes child j n h = (h, tt)
begin_goes descendant j n h = (h, tt)
begin_goes following_sibling j n h = (h, tt)

state_proper : (a : Axis) (m p j d n : ℕ) (ms : List Move) → m < d → p < d → j < n → Every (λ x. Goes x n j) ms
    → ProperRules d n j (keeping a m j ++ (rule p ms ∷ []))
state_proper self m p j d n ms hm hp hj g = ((hp, g), tt)
state_proper child m p j d n ms hm hp hj g = ((hm, (hj, tt)), ((hp, g), tt))
state_proper descendant m p j d n ms hm hp hj g = ((hm, (hj, (hj, tt))), ((hp, g), tt))
state_proper following_sibling m p j d n ms hm hp hj g = ((hm, (hj, tt)), ((hp, g), tt))

rules_proper : (a : Axis) (ss : List Step) (m j d n : ℕ) → m + j + length ss < d → j + length ss < n → (i : ℕ) → i ≤ length ss
    → ProperRules d n (j + i) (get_or (sending m j a ss) i [])
rules_proper a [] m j d n h l zero b = rw add-zero (state_proper a m (m + j) j d n (going j []) (omega arith) (omega arith) (omega arith) (tt, tt))
rules_proper a [] m j d n h l (suc i) b = absurd (omega arith)
rules_proper a (s ∷ ss) m j d n h l zero b =
    rw add-zero (state_proper a m (m + j) j d n (begin s.axis (suc j)) (omega arith) (omega arith) (omega arith) (begin_goes s.axis j n (omega arith)))
rules_proper a (s ∷ ss) m j d n h l (suc i) b =
    let g : j + suc i ≡ suc j + i = omega arith in
    rw g (rules_proper s.axis ss m (suc j) d n (omega arith) (omega arith) i (omega arith))

-- How deep the formulas go.
rank : Place → ℕ
rank alone = 0
rank conjoined = 1
rank unit = 2

beginning_width : (a : Axis) (i : ℕ) → width (beginning a i) ≡ 1
beginning_width self i = refl
beginning_width child i = refl
beginning_width descendant i = refl
beginning_width following_sibling i = refl

path_width : (names : Store) (p : Path) (c : Part) (k : ℕ) → width (of_path names p c k).asks ≡ 1
path_width names (first s a t f) c k = beginning_width a _
path_width names (more p a t f) c k = path_width names p (part (onto a (passing names t) (of_filter names f (k + length c.states)) c k)) k

rank_few : (c : Place) → rank c ≤ 2
unfolding rank
rank_few alone = omega arith
rank_few conjoined = omega arith
rank_few unit = omega arith

and_width : (c : Place) (x y m n : ℕ) → x + 1 ≤ 3 + 2 * m → y + 2 ≤ 3 + 2 * n → max x (suc y) + rank c ≤ 3 + 2 * level_and c (max m n)
unfolding rank
and_width alone x y m n h l = omega arith
and_width conjoined x y m n h l = omega arith
and_width unit x y m n h l = omega arith

or_width : (c : Place) (x y m n : ℕ) → x ≤ 3 + 2 * m → y + 1 ≤ 3 + 2 * n → max x (suc y) + rank c ≤ 3 + 2 * level_or c (max m n)
unfolding rank
or_width alone x y m n h l = omega arith
or_width conjoined x y m n h l = omega arith
or_width unit x y m n h l = omega arith

asks_width : (names : Store) (p : Pred) (k : ℕ) (c : Place) → width (of_pred names p k).asks + rank c ≤ 3 + 2 * levels p c
unfolding rank
asks_width names (some p) k c = let r = rank_few c in let e = path_width names p missing k in omega arith
asks_width names (query.not p) k c = let r = rank_few c in let g = asks_width names p k alone in omega arith
asks_width names (query.and p q) k c =
    let l = k + length (of_pred names q k).states in
    and_width c (width (of_pred names p l).asks) (width (of_pred names q k).asks) (levels p conjoined) (levels q unit)
    (asks_width names p l conjoined) (asks_width names q k unit)
asks_width names (query.or p q) k c =
    let l = k + length (of_pred names q k).states in
    or_width c (width (of_pred names p l).asks) (width (of_pred names q k).asks) (levels p alone) (levels q conjoined)
    (let g = asks_width names p l alone in omega arith) (asks_width names q k conjoined)

abbrev WidthIf : Option Formula → ℕ → Type 0
WidthIf None n = Unit {0}
WidthIf (Some f) n = width f ≤ n

filter_width : (names : Store) (f : Filter) (k : ℕ) → filter_levels f ≤ 12 → WidthIf (of_filter names f k).asks 25
unfolding rank
filter_width names plain k h = tt
filter_width names (holds p) k h = let g = asks_width names p k alone in omega arith

passing_width : (names : Store) (t : NodeTest) → width (passing names t) ≤ 2
passing_width names query.element = omega arith
passing_width names (query.name c) = omega arith
passing_width names query.text = omega arith
passing_width names query.node = omega arith

both_width : (f : Formula) (o : Option Formula) (n : ℕ) → width f ≤ suc n → WidthIf o n → width (both f o) ≤ suc n
both_width f None n h g = h
both_width f (Some x) n h g = omega arith

width_more : (o : Option Formula) (m n : ℕ) → m ≤ n → WidthIf o m → WidthIf o n
width_more None m n h g = tt
width_more (Some f) m n h g = omega arith

looking_width : (a : Axis) (i : ℕ) (f : Formula) → width f ≤ 32 → width (looking a i f) ≤ 32
looking_width self i f h = h
looking_width child i f h = omega arith
looking_width descendant i f h = omega arith
looking_width following_sibling i f h = omega arith

abbrev Narrow : List Formula → Type 0
Narrow fs = Every (λ f. width f ≤ 32) fs

narrow_append : (xs ys : List Formula) → Narrow xs → Narrow ys → Narrow (xs ++ ys)
narrow_append [] ys a b = b
narrow_append (x ∷ xs) ys a b = (a.0, narrow_append xs ys a.1 b)

step_width : (names : Store) (t : NodeTest) (o : Option Formula) → WidthIf o 25 → width (both (passing names t) o) ≤ 26
step_width names t o h = let v = passing_width names t in both_width (passing names t) o 25 (omega arith) h

onto_narrow : (names : Store) (a : Axis) (t : NodeTest) (b c : Part) (k : ℕ) → Narrow b.states → WidthIf b.asks 25 → Narrow c.states → WidthIf c.asks 1
    → Narrow (onto a (passing names t) b c k).states
onto_narrow names a t b c k nb wb nc wc =
    let w = both_width (both (passing names t) b.asks) c.asks 25 (step_width names t b.asks wb) (width_more c.asks 1 25 (omega arith) wc) in
    narrow_append (c.states ++ b.states) _ (narrow_append c.states b.states nc nb) (looking_width a _ _ (omega arith), tt)

and_levels : (c : Place) (n : ℕ) → level_and c n ≤ 12 → n ≤ 12
and_levels alone n h = h
and_levels conjoined n h = h
and_levels unit n h = omega arith

or_levels : (c : Place) (n : ℕ) → level_or c n ≤ 12 → n ≤ 12
or_levels alone n h = h
or_levels conjoined n h = omega arith
or_levels unit n h = omega arith

module _ (names : Store) where
  mutual
    path_narrow : (p : Path) (c : Part) (k : ℕ) → path_levels p ≤ 12 → Narrow c.states → WidthIf c.asks 1 → Narrow (of_path names p c k).states
    path_narrow (first s a t f) c k h nc wc =
        let b = of_filter names f (k + length c.states) in
        onto_narrow names a t b c k (filter_narrow f _ h) (filter_width names f _ h) nc wc
    path_narrow (more p a t f) c k h nc wc =
        let b = of_filter names f (k + length c.states) in
        let o = onto a (passing names t) b c k in
        let w = beginning_width a (k + length (c.states ++ b.states)) in
        path_narrow p (part o) k (omega arith)
        (onto_narrow names a t b c k (filter_narrow f _ (omega arith)) (filter_width names f _ (omega arith)) nc wc) (omega arith)

    filter_narrow : (f : Filter) (k : ℕ) → filter_levels f ≤ 12 → Narrow (of_filter names f k).states
    filter_narrow plain k h = tt
    filter_narrow (holds p) k h = pred_narrow p k alone (omega arith)

    pred_narrow : (p : Pred) (k : ℕ) (c : Place) → levels p c ≤ 12 → Narrow (of_pred names p k).states
    pred_narrow (some p) k c h = path_narrow p missing k h tt tt
    pred_narrow (query.not p) k c h = pred_narrow p k alone (omega arith)
    pred_narrow (query.and p q) k c h =
        let m = and_levels c (max (levels p conjoined) (levels q unit)) h in
        narrow_append (of_pred names q k).states _ (pred_narrow q k unit (omega arith)) (pred_narrow p (k + length (of_pred names q k).states) conjoined (omega arith))
    pred_narrow (query.or p q) k c h =
        let m = or_levels c (max (levels p alone) (levels q conjoined)) h in
        narrow_append (of_pred names q k).states _ (pred_narrow q k conjoined (omega arith)) (pred_narrow p (k + length (of_pred names q k).states) alone (omega arith))

  -- the steps' brackets are at most 12 levels deep
  abbrev Shallow : List Step → Type 0
  Shallow ss = Every (λ s. filter_levels s.filter ≤ 12) ss

  shallow : (p : Path) (ss : List Step) → path_levels p ≤ 12 → Shallow ss → Shallow (steps_onto p ss)
  shallow (first s a t f) ss h g = (h, g)
  shallow (more p a t f) ss h g = shallow p (step a t f ∷ ss) (omega arith) (omega arith, g)

  brackets_narrow : (ss : List Step) → Shallow ss → Narrow (brackets names ss)
  brackets_narrow [] h = tt
  brackets_narrow (s ∷ ss) h = narrow_append (brackets names ss) _ (brackets_narrow ss h.1) (filter_narrow s.filter _ h.0)

  matching_narrow : (ss : List Step) → Shallow ss → Narrow (matching names ss)
  matching_narrow [] h = tt
  matching_narrow (s ∷ ss) h =
      let w = step_width names s.test _ (filter_width names s.filter (length (brackets names ss)) h.0) in
      (omega arith, matching_narrow ss h.1)

-- How many bytes there are.
abbrev state_bytes : List Formula → ℕ
state_bytes fs = total (λ f. suc (formula_bytes f)) fs

abbrev BytesIf : Option Formula → ℕ
BytesIf None = 0
BytesIf (Some f) = suc (formula_bytes f)

state_append : (xs ys : List Formula) → state_bytes (xs ++ ys) ≡ state_bytes xs + state_bytes ys
state_append [] ys = omega arith
state_append (x ∷ xs) ys = let e = state_append xs ys in omega arith

passing_bytes : (names : Store) (t : NodeTest) → formula_bytes (passing names t) ≤ 6
passing_bytes names query.element = omega arith
passing_bytes names (query.name c) = omega arith
passing_bytes names query.text = omega arith
passing_bytes names query.node = omega arith

both_bytes : (f : Formula) (o : Option Formula) → formula_bytes (both f o) ≡ formula_bytes f + BytesIf o
both_bytes f None = omega arith
both_bytes f (Some g) = omega arith

looking_bytes : (a : Axis) (i : ℕ) (f : Formula) → formula_bytes (looking a i f) ≤ formula_bytes f + 6
looking_bytes self i f = omega arith
looking_bytes child i f = omega arith
looking_bytes descendant i f = omega arith
looking_bytes following_sibling i f = omega arith

beginning_bytes : (a : Axis) (i : ℕ) → formula_bytes (beginning a i) ≡ 2
beginning_bytes self i = refl
beginning_bytes child i = refl
beginning_bytes descendant i = refl
beginning_bytes following_sibling i = refl

onto_bytes : (names : Store) (a : Axis) (t : NodeTest) (b c : Part) (k : ℕ)
    → state_bytes (onto a (passing names t) b c k).states + formula_bytes (onto a (passing names t) b c k).asks + 1
    ≤ (state_bytes c.states + BytesIf c.asks) + (state_bytes b.states + BytesIf b.asks) + 16
onto_bytes names a t b c k =
    let ss = c.states ++ b.states in
    let g = both (both (passing names t) b.asks) c.asks in
    let e = state_append ss (looking a (k + length ss) g ∷ []) in
    let d = state_append c.states b.states in
    let l = looking_bytes a (k + length ss) g in
    let x = both_bytes (both (passing names t) b.asks) c.asks in
    let y = both_bytes (passing names t) b.asks in
    let p = passing_bytes names t in
    let n = beginning_bytes a (k + length ss) in
    omega arith

module _ (names : Store) where
  mutual
    path_bytes : (p : Path) (c : Part) (k : ℕ) → state_bytes (of_path names p c k).states + formula_bytes (of_path names p c k).asks + 1
        ≤ (state_bytes c.states + BytesIf c.asks) + (16 * own p + 17 * in_path p + 2 * path_words p)
    path_bytes (first s a t f) c k =
        let o = onto_bytes names a t (of_filter names f (k + length c.states)) c k in
        let b = filter_bytes f (k + length c.states) in
        omega arith
    path_bytes (more p a t f) c k =
        let o = onto_bytes names a t (of_filter names f (k + length c.states)) c k in
        let b = filter_bytes f (k + length c.states) in
        let g = path_bytes p (part (onto a (passing names t) (of_filter names f (k + length c.states)) c k)) k in
        omega arith

    filter_bytes : (f : Filter) (k : ℕ) → state_bytes (of_filter names f k).states + BytesIf (of_filter names f k).asks ≤ 17 * in_filter f + 2 * filter_words f
    filter_bytes plain k = omega arith
    filter_bytes (holds p) k = let b = pred_bytes p k in omega arith

    pred_bytes : (p : Pred) (k : ℕ) → state_bytes (of_pred names p k).states + formula_bytes (of_pred names p k).asks + 1 ≤ 17 * in_pred p + 2 * words p
    pred_bytes (some p) k = let b = path_bytes p missing k in let o = own_some p in omega arith
    pred_bytes (query.not p) k = let b = pred_bytes p k in omega arith
    pred_bytes (query.and p q) k =
        let cs = (of_pred names q k).states in
        let e = state_append cs (of_pred names p (k + length cs)).states in
        let b = pred_bytes p (k + length cs) in
        let c = pred_bytes q k in
        omega arith
    pred_bytes (query.or p q) k =
        let cs = (of_pred names q k).states in
        let e = state_append cs (of_pred names p (k + length cs)).states in
        let b = pred_bytes p (k + length cs) in
        let c = pred_bytes q k in
        omega arith

  abbrev steps_cost : List Step → ℕ
  steps_cost ss = total (λ s. 17 * in_filter s.filter + 2 * filter_words s.filter + 7) ss

  steps_cost_path : (p : Path) (ss : List Step) → steps_cost (steps_onto p ss) ≡ 17 * in_path p + 2 * path_words p + 7 * own p + steps_cost ss
  steps_cost_path (first s a t f) ss = omega arith
  steps_cost_path (more p a t f) ss = let e = steps_cost_path p (step a t f ∷ ss) in omega arith

  deciding_cost : (ss : List Step) → state_bytes (brackets names ss) + state_bytes (matching names ss) ≤ steps_cost ss
  deciding_cost [] = omega arith
  deciding_cost (s ∷ ss) =
      let r = brackets names ss in
      let b = of_filter names s.filter (length r) in
      let e = state_append r b.states in
      let f = filter_bytes s.filter (length r) in
      let x = both_bytes (passing names s.test) b.asks in
      let p = passing_bytes names s.test in
      let ih = deciding_cost ss in
      omega arith

begin_bytes : (a : Axis) (j : ℕ) → total move_bytes (begin a j) ≤ 2
begin_bytes self j = omega arith
begin_bytes child j = omega arith
begin_bytes descendant j = omega arith
begin_bytes following_sibling j = omega arith

abbrev rules_bytes : List Rule → ℕ
rules_bytes rules = total (λ r. 2 + total move_bytes r.moves) rules

abbrev sending_bytes : List (List Rule) → ℕ
sending_bytes rs = total (λ rules. suc (rules_bytes rules)) rs

state_cost : (a : Axis) (m p j : ℕ) (ms : List Move) → total move_bytes ms ≤ 2 → rules_bytes (keeping a m j ++ (rule p ms ∷ [])) ≤ 10
state_cost self m p j ms h = omega arith
state_cost child m p j ms h = omega arith
state_cost descendant m p j ms h = omega arith
state_cost following_sibling m p j ms h = omega arith

sending_cost : (m j : ℕ) (a : Axis) (ss : List Step) → sending_bytes (sending m j a ss) ≤ 11 * suc (length ss)
sending_cost m j a [] = let c = state_cost a m (m + j) j (going j []) (omega arith) in omega arith
sending_cost m j a (s ∷ ss) =
    let c = state_cost a m (m + j) j (begin s.axis (suc j)) (begin_bytes s.axis (suc j)) in
    let ih = sending_cost m (suc j) s.axis ss in
    omega arith

pub translations_fit : TranslationsFit
translations_fit names q ok = record {
  formulas = formulas_proper names ss;
  rules = λ j h. let e : 0 + j ≡ j = omega arith in subst (λ x. ProperRules (length ds) (length rs) x (get_or rs j [])) e (rules_proper self ss m 0 (length ds) (length rs) (omega (arith, dl)) (omega (arith, sl)) j (omega (arith, sl)));
  deciding_some = omega (arith, dl);
  deciding_few = omega (arith, dl, ml, ol);
  sending_some = omega (arith, sl);
  sending_few = omega (arith, sl, ol);
  narrow = narrow_append (brackets names ss) (program.true ∷ matching names ss) (brackets_narrow names ss flat) (omega arith, matching_narrow names ss flat);
  short = omega (arith, da, db, dc, sb, ol, ml);
}
  where
    ss : List Step
    ss = steps_of q

    m : ℕ
    m = length (brackets names ss)

    ds : List Formula
    ds = deciding names ss

    rs : List (List Rule)
    rs = sending m 0 self ss

    ol : length ss ≡ own q
    ol = let e = steps_length names q [] in omega arith

    ml : m ≡ in_path q
    ml = let e = brackets_length names q [] in omega arith

    dl : length ds ≡ m + suc (length ss)
    dl = deciding_length names ss

    sl : length rs ≡ suc (length ss)
    sl = sending_length m 0 self ss

    flat : Shallow names ss
    flat = shallow names q [] ok.deep tt

    da : state_bytes ds ≡ state_bytes (brackets names ss) + (2 + state_bytes (matching names ss))
    da = state_append (brackets names ss) (program.true ∷ matching names ss)

    db : state_bytes (brackets names ss) + state_bytes (matching names ss) ≤ steps_cost names ss
    db = deciding_cost names ss

    dc : steps_cost names ss ≡ 17 * in_path q + 2 * path_words q + 7 * own q
    dc = let e = steps_cost_path names q [] in omega arith

    sb : sending_bytes rs ≤ 11 * suc (length ss)
    sb = sending_cost m 0 self ss
