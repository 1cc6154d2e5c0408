-- The rows of a table that shows a query say the query's program.
use Rattle.std.proofs.Common.{◌≡◌, ℕ, zero, suc, ◌+◌, ◌*◌, ◌<◌, ◌≤◌, Bool, false, List, [], ◌∷◌, ◌++◌, length, Some, None, Option, sym, refl, ap, ◌∙◌, subst, arith}
use native.Mathlib.Decide.{dec_lt}
use Rattle.grammar.specs.Syntax.{Path, first, more, Filter, plain, holds, Pred, some, own, in_path, in_filter, in_pred}
use Rattle.grammar.specs.Syntax as syntax
use Rattle.grammar.specs.Machine.{outer, inner}
use Rattle.query.specs.declared.table.NodeTest.{NodeTest}
use Rattle.query.specs.declared.table.NodeTest.TheVariants.{Element, Name, Text, Node}
use Rattle.query.specs.declared.table.Predicate.{Predicate}
use Rattle.query.specs.declared.table.Table.{Table}
use Rattle.query.specs.Shown.{axis_of, step_at, predicate_at, preds_path, preds_filter, below, ShowsTest, ShowsHere, ShowsPath, ShowsFilter, ShowsPred}
use Rattle.automata.specs.Program.{Formula, Rule, Program, and, or, not}
use Rattle.automata.specs.Program as program
use Rattle.selection.specs.Selects.{Store}
use Rattle.selection.specs.Translate.{passing, beginning, looking, both, Piece, Part, missing, part, onto, of_path, of_filter, of_pred, steps_onto, steps_of, brackets, matching, deciding, sending, going, begin, keeping, rule, translate}
use Rattle.selection.specs.Translate as translated
use Rattle.selection.proofs.Limits.{pred_length}
use Rattle.translation.specs.Table.{state_of, asks_at, negated, says, shape_says, Reach, ShapeReach, said, Reaching, test_says, bracket_says, next_says, step_says, inside_says, GoodTest, GoodBracket, GoodNext, GoodStep, GoodInside, insides, outsides, axis_before, state_rules, sends, program_of}
use Rattle.translation.specs.Claims.{SaysProgram}
use Rattle.translation.proofs.Reaching.{negated_more}

-- there are at most two predicates for each step in brackets
mutual
  preds_path_lem : (p : Path) → preds_path p ≤ 2 * in_path p
  preds_path_lem (first s a t f) = preds_filter_lem f
  preds_path_lem (more p a t f) = let x = preds_path_lem p in let y = preds_filter_lem f in omega arith

  preds_filter_lem : (f : Filter) → preds_filter f ≤ 2 * in_filter f
  preds_filter_lem plain = omega arith
  preds_filter_lem (holds p) = let x = preds_pred p in omega arith

  preds_pred : (p : Pred) → below p + 2 ≤ 2 * in_pred p
  preds_pred (some p) = let x = preds_path_lem p in let o = own_some p in omega arith
    where
      own_some : (p : Path) → 1 ≤ own p
      own_some (first s a t f) = omega arith
      own_some (more p a t f) = omega arith
  preds_pred (syntax.not p) = preds_pred p
  preds_pred (syntax.and p x) = let y = preds_pred p in let z = preds_pred x in omega arith
  preds_pred (syntax.or p x) = let y = preds_pred p in let z = preds_pred x in omega arith

module _ (names : Store) (bs : List ℕ) (q : Table) where
  abbrev m : ℕ
  m = q.inside_count

  abbrev Run : ℕ → ℕ → List Formula
  Run i n = insides names bs q i n

  run_append : (i n k : ℕ) → Run (i + n) k ++ Run i n ≡ Run i (n + k)
  run_append i n zero = let e : n ≡ n + 0 = omega arith in rw (← e)
  run_append i n (suc k) =
      let e : n + suc k ≡ suc (n + k) = omega arith in
      let a : i + n + k ≡ i + (n + k) = omega arith in
      let ih = run_append i n k in
      rw e (rw a (ap (λ fs. inside_says names bs q (i + (n + k)) ∷ fs) ih))

  run_last : (i n : ℕ) → Run (suc i) n ++ (inside_says names bs q i ∷ []) ≡ Run i (suc n)
  run_last i zero = let e : i + 0 ≡ i = omega arith in rw e
  run_last i (suc n) =
      let e : suc i + n ≡ i + suc n = omega arith in
      let ih = run_last i n in
      rw e (ap (λ fs. inside_says names bs q (i + suc n) ∷ fs) ih)

  run_length : (i n : ℕ) → length (Run i n) ≡ n
  run_length i zero = refl
  run_length i (suc n) = let e = run_length i n in omega arith

  test_same : (w : NodeTest) (t : syntax.NodeTest) → ShowsTest bs w t → test_says names bs w ≡ passing names t
  test_same Element t h = rw h
  test_same (Name at len) t h = rw h.1
  test_same Text t h = rw h
  test_same Node t h = rw h

  test_good : (w : NodeTest) (t : syntax.NodeTest) → ShowsTest bs w t → GoodTest bs w
  test_good Element t h = tt
  test_good (Name at len) t h = h.0
  test_good Text t h = tt
  test_good Node t h = tt

  -- the inside steps from i on, n of them, have their parts
  abbrev Fine : ℕ → ℕ → Type 0
  Fine i n = (j : ℕ) → i ≤ j → j < i + n → GoodInside bs q (step_at inner q j)

  fine_none : (i : ℕ) → Fine i 0
  fine_none i j a b = absurd (omega arith)

  fine_append : (i n k : ℕ) → Fine i n → Fine (i + n) k → Fine i (n + k)
  fine_append i n k x y j a b = pick (dec_lt j (i + n))
    where
      pick : Dec (j < i + n) → GoodInside bs q (step_at inner q j)
      pick (yes h) = x j a h
      pick (no h) = y j (omega arith) (omega arith)

  fine_one : (i : ℕ) → GoodInside bs q (step_at inner q i) → Fine i 1
  fine_one i g j a b = let e : i ≡ j = omega arith in subst (λ x. GoodInside bs q (step_at inner q x)) e g

  -- what the rows of a bracket say is what its part of the program is
  pub record Bracket (o : Option ℕ) (b : Part) (a n : ℕ) : Type 0 where
    pub states : b.states ≡ Run a n
    pub asks : bracket_says q o ≡ b.asks
    pub good : GoodBracket q o
    pub fine : Fine a n

  pub record UnitOf (b : Piece) (a n i k : ℕ) : Type 0 where
    pub states : b.states ≡ Run a n
    pub reach : (d : ℕ) → k < d → Reach d q i
    pub fine : Fine a n

  -- a step's own row, between what follows it and its bracket
  onto_says : (j nb n k : ℕ) (r : Bool) (v : syntax.Axis) (t : syntax.NodeTest) (nx : Option ℕ) (b c : Part)
      → ShowsHere bs (step_at inner q j) r v t nx → Bracket (step_at inner q j).bracket b (suc j) nb
      → c.states ≡ Run (suc j + nb) n → next_says q nx ≡ c.asks → k + (suc j + nb + n) ≡ m
      → ((onto v (passing names t) b c k).states ≡ Run j (suc (nb + n))) × ((onto v (passing names t) b c k).asks ≡ asks_at q j)
  onto_says j nb n k r v t nx b c here br cs ca e =
      let ss : c.states ++ b.states ≡ Run (suc j) (nb + n) = ap (λ x. x ++ b.states) cs ∙ ap (λ x. Run (suc j + nb) n ++ x) br.states ∙ run_append (suc j) nb n in
      let l : length (c.states ++ b.states) ≡ nb + n = ap length ss ∙ run_length (suc j) (nb + n) in
      let s : k + length (c.states ++ b.states) ≡ state_of q j = omega arith in
      let f : both (both (passing names t) b.asks) c.asks ≡ both (step_says names bs q (step_at inner q j)) (next_says q (step_at inner q j).next)
      = ap (λ x. both (both x b.asks) c.asks) (sym (test_same (step_at inner q j).test t here.test))
      ∙ ap (λ x. both (both (test_says names bs (step_at inner q j).test) x) c.asks) (sym br.asks)
      ∙ ap (λ x. both (step_says names bs q (step_at inner q j)) x) (sym ca ∙ ap (next_says q) (sym here.next)) in
      let g : looking v (k + length (c.states ++ b.states)) (both (both (passing names t) b.asks) c.asks) ≡ inside_says names bs q j
      = ap (λ x. looking x (k + length (c.states ++ b.states)) (both (both (passing names t) b.asks) c.asks)) (sym here.axis)
      ∙ ap (λ x. looking (axis_of (step_at inner q j).axis) x (both (both (passing names t) b.asks) c.asks)) s
      ∙ ap (λ x. looking (axis_of (step_at inner q j).axis) (state_of q j) x) f in (
        ap (λ x. x ++ (looking v (k + length (c.states ++ b.states)) (both (both (passing names t) b.asks) c.asks) ∷ [])) ss
            ∙ ap (λ x. Run (suc j) (nb + n) ++ (x ∷ [])) g
            ∙ run_last j (nb + n),
        ap (λ x. beginning x (k + length (c.states ++ b.states))) (sym here.axis) ∙ ap (beginning (axis_of (step_at inner q j).axis)) s,
      )

  own_some : (p : Path) → 1 ≤ own p
  own_some (first s a t f) = omega arith
  own_some (more p a t f) = omega arith

  -- by a predicate's row
  reach_from : (i k : ℕ) (x : Predicate) → predicate_at q i ≡ x → i < 46
      → ((d : ℕ) → k ≤ d → ShapeReach (λ j. Reach d q j) q i x.shape) → (d : ℕ) → k < d → Reach d q i
  reach_from i k x e lt f zero h = absurd (omega arith)
  reach_from i k x e lt f (suc d) h = (lt, subst (λ y. ShapeReach (λ j. Reach d q j) q i y.shape) (sym e) (f d (omega arith)))

  says_from : (i k : ℕ) (x : Predicate) (g : Formula) → predicate_at q i ≡ x
      → ((d : ℕ) → k ≤ d → shape_says (λ j. says d q j) q x.shape ≡ g) → (d : ℕ) → k < d → says d q i ≡ negated x.negations g
  says_from i k x g e f zero h = absurd (omega arith)
  says_from i k x g e f (suc d) h =
      ap (λ y. negated y.negations (shape_says (λ j. says d q j) q y.shape)) e ∙ ap (negated x.negations) (f d (omega arith))

  record PathSays (b : Piece) (a w n : ℕ) : Type 0 where
    states : b.states ≡ Run a (w + n)
    asks : b.asks ≡ asks_at q a
    fine : Fine a w

  record PredSays (b : Piece) (a w i k n : ℕ) : Type 0 where
    states : b.states ≡ Run a w
    reach : (d : ℕ) → k < d → Reach d q i
    told : (d : ℕ) → k < d → says d q i ≡ negated n b.asks
    fine : Fine a w

  -- a step whose row is shown has its parts
  step_good : (j : ℕ) (r : Bool) (v : syntax.Axis) (t : syntax.NodeTest) (nx : Option ℕ) → ShowsHere bs (step_at inner q j) r v t nx
      → GoodBracket q (step_at inner q j).bracket → GoodNext q nx → GoodInside bs q (step_at inner q j)
  step_good j r v t nx here br nxt =
      record { step = record { test = test_good (step_at inner q j).test t here.test; bracket = br }; next = subst (GoodNext q) (sym here.next) nxt }

  -- two predicates beside one another
  two_states : (a n w : ℕ) (b c : Piece) → b.states ≡ Run a n → c.states ≡ Run (a + n) w → c.states ++ b.states ≡ Run a (n + w)
  two_states a n w b c x y = ap (λ z. z ++ b.states) y ∙ ap (λ z. Run (a + n) w ++ z) x ∙ run_append a n w

  mutual
    unfolding said Reaching

    path_says : (p : Path) (s a c n k : ℕ) (nx : Option ℕ) (cont : Part) → ShowsPath inner bs q p nx s a c → c + preds_path p ≤ 46
        → cont.states ≡ Run (a + (own p + in_path p)) n → next_says q nx ≡ cont.asks → GoodNext q nx
        → k + (a + (own p + in_path p) + n) ≡ m → PathSays (of_path names p cont k) a (own p + in_path p) n
    path_says (first r v t f) s a c n k nx cont h few cs ca gn e =
        let l : length cont.states ≡ n = ap length cs ∙ run_length (a + (1 + in_filter f)) n in
        let o = (step_at inner q a).bracket in
        let b = of_filter names f (k + length cont.states) in
        let br = filter_says f o (a + 1) c (k + length cont.states) h.1 few (omega arith) in
        let one : a + 1 ≡ suc a = omega arith in
        let br' : Bracket o b (suc a) (in_filter f) = subst (λ x. Bracket o b x (in_filter f)) one br in
        let at : a + (1 + in_filter f) ≡ suc a + in_filter f = omega arith in
        let cs' : cont.states ≡ Run (suc a + in_filter f) n = cs ∙ ap (λ x. Run x n) at in
        let os = onto_says a (in_filter f) n k r v t nx b cont h.0 br' cs' ca (omega arith) in
        let sz : suc (in_filter f + n) ≡ 1 + in_filter f + n = omega arith in
        record {
          states = os.0 ∙ ap (Run a) sz;
          asks = os.1;
          fine = fine_append a 1 (in_filter f) (fine_one a (step_good a r v t nx h.0 br.good gn)) br.fine;
        }
    path_says (more p v t f) s a c n k nx cont h few cs ca gn e =
        let j = a + (own p + in_path p) in
        let l : length cont.states ≡ n = ap length cs ∙ run_length (a + (own p + 1 + (in_path p + in_filter f))) n in
        let o = (step_at inner q j).bracket in
        let b = of_filter names f (k + length cont.states) in
        let br = filter_says f o (j + 1) (c + preds_path p) (k + length cont.states) h.2 (omega arith) (omega arith) in
        let one : j + 1 ≡ suc j = omega arith in
        let br' : Bracket o b (suc j) (in_filter f) = subst (λ x. Bracket o b x (in_filter f)) one br in
        let at : a + (own p + 1 + (in_path p + in_filter f)) ≡ suc j + in_filter f = omega arith in
        let cs' : cont.states ≡ Run (suc j + in_filter f) n = cs ∙ ap (λ x. Run x n) at in
        let os = onto_says j (in_filter f) n k false v t nx b cont h.1 br' cs' ca (omega arith) in
        let ih = path_says p s a c (suc (in_filter f + n)) k (Some j) (part (onto v (passing names t) b cont k)) h.0 (omega arith) os.0 (ap Some (sym os.1)) (omega arith) (omega arith) in
        let sz : own p + in_path p + suc (in_filter f + n) ≡ own p + 1 + (in_path p + in_filter f) + n = omega arith in
        let wd : own p + in_path p + (1 + in_filter f) ≡ own p + 1 + (in_path p + in_filter f) = omega arith in
        record {
          states = ih.states ∙ ap (Run a) sz;
          asks = ih.asks;
          fine = subst (λ x. Fine a x) wd (fine_append a (own p + in_path p) (1 + in_filter f) ih.fine
              (fine_append j 1 (in_filter f) (fine_one j (step_good j false v t nx h.1 br.good gn)) br.fine));
        }

    filter_says : (f : Filter) (o : Option ℕ) (a c k : ℕ) → ShowsFilter bs q o f a c → c + preds_filter f ≤ 46
        → k + (a + in_filter f) ≡ m → Bracket o (of_filter names f k) a (in_filter f)
    filter_says plain o a c k h few e =
        record { states = refl; asks = ap (bracket_says q) h; good = subst (GoodBracket q) (sym h) tt; fine = fine_none a }
    filter_says (holds p) o a c k h few e =
        let g = pred_says p 0 a c k h.1 (omega arith) e in
        record {
          states = g.states;
          asks = ap (bracket_says q) h.0 ∙ ap Some (g.told 46 (omega arith));
          good = subst (GoodBracket q) (sym h.0) (g.reach 46 (omega arith));
          fine = g.fine;
        }

    pred_says : (p : Pred) (n a c k : ℕ) → ShowsPred bs q p n a c → c + below p < 46
        → k + (a + in_pred p) ≡ m → PredSays (of_pred names p k) a (in_pred p) (c + below p) (below p) n
    pred_says (some x) n a c k h few e =
        let g = path_says x a a c 0 k None missing h.1 (omega arith) refl refl tt (omega arith) in
        let o = own_some x in
        let z : own x + in_path x + 0 ≡ own x + in_path x = omega arith in
        let within : a < q.inside_count = omega arith in
        record {
          states = g.states ∙ ap (Run a) z;
          reach = reach_from (c + preds_path x) (preds_path x) _ h.0 few (λ d l. within);
          told = says_from (c + preds_path x) (preds_path x) _ (of_path names x missing k).asks h.0 (λ d l. sym g.asks);
          fine = g.fine;
        }
    pred_says (syntax.not p) n a c k h few e =
        let g = pred_says p (n + 1) a c k h few e in
        let one : n + 1 ≡ suc n = omega arith in
        record {
          states = g.states;
          reach = g.reach;
          told = λ d l. g.told d l ∙ ap (λ x. negated x (of_pred names p k).asks) one ∙ negated_more n (of_pred names p k).asks;
          fine = g.fine;
        }
    pred_says (syntax.and p x) n a c k h few e =
        let l = pred_length names x k in
        let gx = pred_says x 0 (a + in_pred p) (c + (below p + 1)) k h.2 (omega arith) (omega arith) in
        let gp = pred_says p 0 a c (k + length (of_pred names x k).states) h.1 (omega arith) (omega arith) in
        let i = c + (below p + 1 + (below x + 1)) in
        let lp : c + below p < i = omega arith in
        let lx : c + (below p + 1) + below x < i = omega arith in
        record {
          states = two_states a (in_pred p) (in_pred x) (of_pred names p (k + length (of_pred names x k).states)) (of_pred names x k) gp.states gx.states;
          reach = reach_from i (below p + 1 + (below x + 1)) _ h.0 few (λ d u. (lp, lx, gp.reach d (omega arith), gx.reach d (omega arith)));
          told = says_from i (below p + 1 + (below x + 1)) _ _ h.0
              (λ d u. ap (λ f. and f (says d q (c + (below p + 1) + below x))) (gp.told d (omega arith)) ∙ ap (λ f. and (of_pred names p (k + length (of_pred names x k).states)).asks f) (gx.told d (omega arith)));
          fine = fine_append a (in_pred p) (in_pred x) gp.fine gx.fine;
        }
    pred_says (syntax.or p x) n a c k h few e =
        let l = pred_length names x k in
        let gx = pred_says x 0 (a + in_pred p) (c + (below p + 1)) k h.2 (omega arith) (omega arith) in
        let gp = pred_says p 0 a c (k + length (of_pred names x k).states) h.1 (omega arith) (omega arith) in
        let i = c + (below p + 1 + (below x + 1)) in
        let lp : c + below p < i = omega arith in
        let lx : c + (below p + 1) + below x < i = omega arith in
        record {
          states = two_states a (in_pred p) (in_pred x) (of_pred names p (k + length (of_pred names x k).states)) (of_pred names x k) gp.states gx.states;
          reach = reach_from i (below p + 1 + (below x + 1)) _ h.0 few (λ d u. (lp, lx, gp.reach d (omega arith), gx.reach d (omega arith)));
          told = says_from i (below p + 1 + (below x + 1)) _ _ h.0
              (λ d u. ap (λ f. or f (says d q (c + (below p + 1) + below x))) (gp.told d (omega arith)) ∙ ap (λ f. or (of_pred names p (k + length (of_pred names x k).states)).asks f) (gx.told d (omega arith)));
          fine = fine_append a (in_pred p) (in_pred x) gp.fine gx.fine;
        }

  -- the n outside steps from i on have their parts
  abbrev FineOut : ℕ → ℕ → Type 0
  FineOut i n = (j : ℕ) → i ≤ j → j < i + n → GoodStep bs q (step_at outer q j)

  abbrev Axes : List translated.Step → ℕ → Type 0
  Axes [] i = Unit {0}
  Axes (s ∷ ss) i = (axis_of (step_at outer q i).axis ≡ s.axis) × Axes ss (suc i)

  record OutSays (ss : List translated.Step) (s a w n k x : ℕ) : Type 0 where
    brackets_are : brackets names ss ≡ Run a (w + n)
    matching_are : matching names ss ≡ outsides names bs q s (k + x)
    axes : Axes ss s
    fine : Fine a w
    fine_out : FineOut s k

  one_outside : (r : Bool) (v : syntax.Axis) (t : syntax.NodeTest) (f : Filter) (nx : Option ℕ) (ss : List translated.Step) (s a c n x : ℕ)
      → ShowsHere bs (step_at outer q s) r v t nx → ShowsFilter bs q (step_at outer q s).bracket f a c → c + preds_filter f ≤ 46
      → brackets names ss ≡ Run (a + in_filter f) n → a + in_filter f + n ≡ m → matching names ss ≡ outsides names bs q (suc s) x → Axes ss (suc s)
      → OutSays (translated.step v t f ∷ ss) s a (in_filter f) n 1 x
  one_outside r v t f nx ss s a c n x here h few bs' e ms ax =
      let k = length (brackets names ss) in
      let l : k ≡ n = ap length bs' ∙ run_length (a + in_filter f) n in
      let o = (step_at outer q s).bracket in
      let b = of_filter names f k in
      let br = filter_says f o a c k h few (omega arith) in
      let one : suc x ≡ 1 + x = omega arith in
      record {
        brackets_are = ap (λ z. z ++ b.states) bs' ∙ ap (λ z. Run (a + in_filter f) n ++ z) br.states ∙ run_append a (in_filter f) n;
        matching_are = ap (λ z. both (passing names t) b.asks ∷ z) ms
            ∙ ap (λ z. both z b.asks ∷ outsides names bs q (suc s) x) (sym (test_same (step_at outer q s).test t here.test))
            ∙ ap (λ z. both (test_says names bs (step_at outer q s).test) z ∷ outsides names bs q (suc s) x) (sym br.asks)
            ∙ ap (outsides names bs q s) one;
        axes = (here.axis, ax);
        fine = br.fine;
        fine_out = λ j u w. let d : s ≡ j = omega arith in
            subst (λ z. GoodStep bs q (step_at outer q z)) d (record { test = test_good (step_at outer q s).test t here.test; bracket = br.good });
      }

  outside_path : (p : Path) (nx : Option ℕ) (ss : List translated.Step) (s a c n x : ℕ) → ShowsPath outer bs q p nx s a c → c + preds_path p ≤ 46
      → brackets names ss ≡ Run (a + in_path p) n → a + in_path p + n ≡ m → matching names ss ≡ outsides names bs q (s + own p) x → Axes ss (s + own p)
      → OutSays (steps_onto p ss) s a (in_path p) n (own p) x
  outside_path (first r v t f) nx ss s a c n x h few be e me ax =
      let z : a + 0 ≡ a = omega arith in
      let one : s + 1 ≡ suc s = omega arith in
      one_outside r v t f nx ss s a c n x h.0 (subst (λ y. ShowsFilter bs q (step_at outer q s).bracket f y c) z h.1) few be e
      (me ∙ ap (λ y. outsides names bs q y x) one) (subst (λ y. Axes ss y) one ax)
  outside_path (more p v t f) nx ss s a c n x h few be e me ax =
      let z : a + in_path p + 0 ≡ a + in_path p = omega arith in
      let one : s + (own p + 1) ≡ suc (s + own p) = omega arith in
      let at : a + (in_path p + in_filter f) ≡ a + in_path p + in_filter f = omega arith in
      let i = s + own p in
      let g = one_outside false v t f nx ss i (a + in_path p) (c + preds_path p) n x h.1
      (subst (λ y. ShowsFilter bs q (step_at outer q i).bracket f y (c + preds_path p)) z h.2) (omega arith)
      (be ∙ ap (λ y. Run y n) at) (omega arith) (me ∙ ap (λ y. outsides names bs q y x) one) (subst (λ y. Axes ss y) one ax) in
      let ih = outside_path p (Some i) (translated.step v t f ∷ ss) s a c (in_filter f + n) (1 + x) h.0 (omega arith) g.brackets_are (omega arith) g.matching_are g.axes in
      let sz : in_path p + (in_filter f + n) ≡ in_path p + in_filter f + n = omega arith in
      let kx : own p + (1 + x) ≡ own p + 1 + x = omega arith in
      record {
        brackets_are = ih.brackets_are ∙ ap (Run a) sz;
        matching_are = ih.matching_are ∙ ap (outsides names bs q s) kx;
        axes = ih.axes;
        fine = fine_append a (in_path p) (in_filter f) ih.fine g.fine;
        fine_out = λ j u w. pick ih g j u w (dec_lt j i);
      }
    where
      pick : OutSays (steps_onto p (translated.step v t f ∷ ss)) s a (in_path p) (in_filter f + n) (own p) (1 + x)
          → OutSays (translated.step v t f ∷ ss) (s + own p) (a + in_path p) (in_filter f) n 1 x
          → (j : ℕ) → s ≤ j → j < s + (own p + 1) → Dec (j < s + own p) → GoodStep bs q (step_at outer q j)
      pick ih g j u w (yes y) = ih.fine_out j u y
      pick ih g j u w (no y) = g.fine_out j (omega arith) (omega arith)

  sending_says : (ss : List translated.Step) (a : syntax.Axis) (j : ℕ) → axis_before q j ≡ a → Axes ss j → sending m j a ss ≡ sends q j (suc (length ss))
  sending_says [] a j e ax = ap (λ z. (keeping z m j ++ (rule (m + j) (going j []) ∷ [])) ∷ []) (sym e)
  sending_says (s ∷ ss) a j e ax =
      ap (λ z. (keeping z m j ++ (rule (m + j) (begin s.axis (suc j)) ∷ [])) ∷ sending m (suc j) s.axis ss) (sym e)
      ∙ ap (λ z. (keeping (axis_before q j) m j ++ (rule (m + j) (begin z (suc j)) ∷ [])) ∷ sending m (suc j) s.axis ss) (sym ax.0)
      ∙ ap (λ z. state_rules q j (suc (length ss)) ∷ z) (sending_says ss s.axis (suc j) ax.0 ax.1)

  steps_many : (p : Path) (ss : List translated.Step) → length (steps_onto p ss) ≡ own p + length ss
  steps_many (first r v t f) ss = omega arith
  steps_many (more p v t f) ss = let e = steps_many p (translated.step v t f ∷ ss) in omega arith

abbrev same_program : (a b : List Formula) (c d : List (List Rule)) → a ≡ b → c ≡ d → ◌≡◌ {A = Program} (record { deciding = a; sending = c }) (record { deciding = b; sending = d })
same_program a b c d e g = ap (λ x. record { deciding = x; sending = c }) e ∙ ap (λ x. record { deciding = b; sending = x }) g

pub says_program : SaysProgram
unfolding program_of
says_program names bs q p h ok =
    let few = preds_path_lem p in
    let im = h.inside in
    let om = h.outside in
    let ins = ok.inside in
    let e : 0 + in_path p + 0 ≡ q.inside_count = omega arith in
    let z : 0 + own p ≡ own p = omega arith in
    let g = outside_path names bs q p None [] 0 0 0 0 0 h.path (omega arith) refl e refl tt in
    let ss = steps_of p in
    let w : in_path p + 0 ≡ q.inside_count = omega arith in
    let k : own p + 0 ≡ q.outside_count = omega arith in
    let bsame : brackets names ss ≡ insides names bs q 0 q.inside_count = g.brackets_are ∙ ap (insides names bs q 0) w in
    let msame : matching names ss ≡ outsides names bs q 0 q.outside_count = g.matching_are ∙ ap (outsides names bs q 0) k in
    let len : length (brackets names ss) ≡ q.inside_count = ap length bsame ∙ run_length names bs q 0 q.inside_count in
    let many : length ss ≡ q.outside_count = let x = steps_many names bs q p [] in omega arith in
    let ssame : sends q 0 (suc q.outside_count) ≡ sending (length (brackets names ss)) 0 syntax.self ss
    = ap (λ x. sends q 0 (suc x)) (sym many) ∙ sym (sending_says names bs q ss syntax.self 0 refl g.axes) ∙ ap (λ x. sending x 0 syntax.self ss) (sym len) in (
      record {
        inside_few = omega arith;
        outside_few = let o = ok.outside in omega arith;
        inside = λ i l. g.fine i (omega arith) (omega arith);
        outside = λ i l. g.fine_out i (omega arith) (omega arith);
      },
      same_program _ _ _ _ (ap (λ x. x ++ (program.true ∷ outsides names bs q 0 q.outside_count)) (sym bsame) ∙ ap (λ x. brackets names ss ++ (program.true ∷ x)) (sym msame)) ssame,
    )
