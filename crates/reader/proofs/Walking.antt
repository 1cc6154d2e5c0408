-- How the steps of a path join.
use Rattle.std.proofs.Common.{◌≡◌, ℕ, ◌+◌, ◌-◌, ◌<◌, Bool, true, false, ◌&&◌, List, [], ◌∷◌, length, get_or, Some, Ok, Err, Option, sym, refl, ap, ◌∙◌, subst, arith}
use Rattle.grammar.specs.declared.tokens.Symbol.TheVariants as symbols
use Rattle.grammar.specs.Tokens.{Placed, token, bad, symbol, word}
use Rattle.grammar.specs.Syntax as syntax
use Rattle.grammar.specs.Syntax.{Path, first, more, Filter, plain, holds, Pred, some, not, and, or, child, descendant, own, in_path, in_filter, in_pred, or_word, and_word, not_word}
use Rattle.grammar.specs.Machine.{Where, outer, inner, where_is, Context, top, unit, Before, start, past, ext, begin, due, tested, stepped, run}
use Rattle.grammar.specs.Glances.{next_is, next_not}
use Rattle.query.specs.declared.fault.Fault.{Fault}
use Rattle.query.specs.declared.table.Table.{Table}
use Rattle.query.specs.declared.table.Step.{Step}
use Rattle.query.specs.Shown.{axis_of, step_at, predicate_at, taken, within, preds_path, preds_filter, ShowsHere, ShowsPath, ShowsFilter, blank_predicate}
use Rattle.lexer.specs.declared.Reader.{Reader}
use Rattle.lexer.specs.Readers.{tokens_of, end_of}
use Rattle.reader.specs.declared.parts.Lead.{Lead}
use Rattle.reader.specs.declared.parts.Lead.TheVariants.{Nothing, Slash, DoubleSlash}
use Rattle.reader.specs.declared.parts.Head.{Head}
use Rattle.reader.specs.declared.parts.Parser.{Parser}
use Rattle.reader.specs.Rows.{index_in, most, grown, Counted, Writes}
use Rattle.reader.specs.Heads.{Leads, far_of, starting, Onward, HeadRead, outer_left, inner_left}
use Rattle.reader.specs.Parsing.{Fit, Starts, Keeps, Gained, runs, fails, owns, one, PathTells, slash_of, ending, Over, next_of, StepRead, StepTells, FilterRead, slash_in, owns_before, within_before, preds_before, ShowsBefore, Walked}
use Rattle.grammar.proofs.Descent.{path_word}
use Rattle.grammar.specs.Machine.{same}
use Rattle.reader.proofs.Keeping.{preds_filter_lem, keep_path, keep_filter, on_trans, on_moved, on_same, gain, gain_as, moves, same_end, fit_after}
use Rattle.reader.proofs.Telling.{with, nope}

-- where a path begins without a slash, its first step is due
not_negates : (z : List ℕ) (ts : List Placed) → (same z not_word && next_is symbols.LeftParen ts) ≡ false → z ≡ not_word → next_is symbols.LeftParen ts ≡ false
not_negates z ts h e = subst (λ y. (same y not_word && next_is symbols.LeftParen ts) ≡ false) e h

begin_due : (e : ℕ) (c : Context) (l o i : ℕ) (ts : List Placed) → (where_is c ≡ inner → (next_is symbols.LeftParen ts ≡ false) × (next_not ts ≡ false)) → next_is symbols.Slash ts ≡ false → next_is symbols.DoubleSlash ts ≡ false → run e (begin c) l o i ts ≡ run e (due c (start false)) l o i ts
begin_due e c l o i [] h f g = refl
begin_due e c l o i (bad k a ∷ ts) h f g = refl
begin_due e c l o i (token (symbol symbols.Slash) a ∷ ts) h f g = nope f
begin_due e c l o i (token (symbol symbols.DoubleSlash) a ∷ ts) h f g = nope g
begin_due e c l o i (token (symbol symbols.LeftBracket) a ∷ ts) h f g = refl
begin_due e c l o i (token (symbol symbols.RightBracket) a ∷ ts) h f g = refl
begin_due e top l o i (token (symbol symbols.LeftParen) a ∷ ts) h f g = refl
begin_due e (unit k s n) l o i (token (symbol symbols.LeftParen) a ∷ ts) h f g = nope (h refl).0
begin_due e c l o i (token (symbol symbols.RightParen) a ∷ ts) h f g = refl
begin_due e c l o i (token (symbol symbols.Star) a ∷ ts) h f g = refl
begin_due e c l o i (token (symbol symbols.DoubleColon) a ∷ ts) h f g = refl
begin_due e c l o i (token (word z) a ∷ ts) h f g = path_word e c z l o i a ts (λ k q. not_negates z ts (h k).1 q)

starts_at : (w : Where) (p : Parser) (c : Context) → Starts w p → where_is c ≡ w → where_is c ≡ inner → (next_is symbols.LeftParen (tokens_of p.reader) ≡ false) × (next_not (tokens_of p.reader) ≡ false)
starts_at outer p c s h g = let z : outer ≡ inner = sym h ∙ g in let k : ◌≡◌ {A = ℕ} 0 1 = cc in absurd (omega arith)
starts_at inner p c s h g = s

lead_on : (v : Lead) (r q : Reader) → Leads v r q → Onward r q
lead_on Nothing r q h = on_same r q h.0
lead_on Slash r q h = on_moved r q h.2
lead_on DoubleSlash r q h = on_moved r q h.2

-- a path begins
pub walk_start : (w : Where) (l : ℕ) (v : Lead) (p : Parser) (r : Reader) → Fit p → Starts w p → Leads v p.reader r → Walked w l v (slash_of v) p (with p r) (start (slash_of v))
walk_start w l v p r f s h = record { gained = moves p r f.inside (lead_on v p.reader r h); flag = refl; shows = tt; tells = go v h }
  where
    go : (v : Lead) → Leads v p.reader r → (c : Context) → where_is c ≡ w → runs p p (begin c) l ≡ runs p (with p r) (starting (far_of v) c (start (slash_of v))) l
    go Nothing h c e = begin_due (end_of p.reader) c l (outer_left p) (inner_left p) (tokens_of p.reader) (starts_at w p c s e) h.1 h.2 ∙ ap (λ z. run (end_of p.reader) (due c (start false)) l (outer_left p) (inner_left p) (tokens_of z)) (sym h.0)
    go Slash h c e = ap (run (end_of p.reader) (begin c) l (outer_left p) (inner_left p)) h.1
    go DoubleSlash h c e = ap (run (end_of p.reader) (begin c) l (outer_left p) (inner_left p)) h.1

-- what leads on from a step
lead_run : (e : ℕ) (v : Lead) (c : Context) (x : Path) (l o i : ℕ) (r q : Reader) → Leads v r q → run e (stepped c x) l o i (tokens_of r) ≡ run e (ending v c x) l o i (tokens_of q)
lead_run e Nothing c x l o i r q h = ap (λ z. run e (stepped c x) l o i (tokens_of z)) (sym h.0)
lead_run e Slash c x l o i r q h = ap (run e (stepped c x) l o i) h.1
lead_run e DoubleSlash c x l o i r q h = ap (run e (stepped c x) l o i) h.1

lead_over : (v : Lead) (r q : Reader) → Leads v r q → Over v (tokens_of q)
lead_over Nothing r q h = (subst (λ z. next_is symbols.Slash (tokens_of z) ≡ false) (sym h.0) h.1, subst (λ z. next_is symbols.DoubleSlash (tokens_of z) ≡ false) (sym h.0) h.2)
lead_over Slash r q h = tt
lead_over DoubleSlash r q h = tt

-- a step begins
step_gained : (w : Where) (far : Bool) (h : Head) (p q : Parser) (t : syntax.NodeTest) → Fit p → HeadRead w far h p q t → Gained p q (one w) (taken w) 0
step_gained w far h p q t f g = go w g.table g.room
  where
    on : Onward p.reader q.reader
    on = record { text = g.went.text; on = omega (arith, g.went.on) }

    go : (w : Where) → q.table ≡ grown w p.table → index_in w p.table < most w → Gained p q (one w) (taken w) 0
    go outer e lt = record {
      on = on;
      outside = ap (λ z. z.outside_count) e;
      inside = ap (λ z. z.inside_count) e ∙ omega arith;
      predicates = ap (λ z. z.predicate_count) e ∙ omega arith;
      most = omega (arith, ap (λ z. z.inside_count) e, f.inside);
      keeps = record { outside = λ k _. ap (λ z. step_at outer z k) e; inside = λ k _. ap (λ z. step_at inner z k) e; predicates = λ k _. ap (λ z. predicate_at z k) e };
    }
    go inner e lt = record {
      on = on;
      outside = ap (λ z. z.outside_count) e ∙ omega arith;
      inside = ap (λ z. z.inside_count) e;
      predicates = ap (λ z. z.predicate_count) e ∙ omega arith;
      most = omega (arith, ap (λ z. z.inside_count) e);
      keeps = record { outside = λ k _. ap (λ z. step_at outer z k) e; inside = λ k _. ap (λ z. step_at inner z k) e; predicates = λ k _. ap (λ z. predicate_at z k) e };
    }

pub head_fit : (w : Where) (far : Bool) (h : Head) (p q : Parser) (t : syntax.NodeTest) → Fit p → HeadRead w far h p q t → Fit q
head_fit w far h p q t f g = fit_after p q (one w) (taken w) 0 f (step_gained w far h p q t f g) (omega arith)

-- the row of a step is written
module _ (w : Where) (i : ℕ) (v : Step) (t u : Table) (g : Writes w i v t u) where
  others : (p : Table) → i ≡ index_in w p → Keeps p t → Keeps p u
  others p e k = record {
    outside = λ j lt. g.1 outer j (λ z y. here outer j z y lt) ∙ k.outside j lt;
    inside = λ j lt. g.1 inner j (λ z y. here inner j z y lt) ∙ k.inside j lt;
    predicates = λ j lt. ap (λ z. get_or z j blank_predicate) g.2 ∙ k.predicates j lt;
  }
    where
      here : (x : Where) (j : ℕ) → x ≡ w → j ≡ i → j < index_in x p → ⊥
      here x j z y lt = omega (arith, y ∙ e ∙ ap (λ m. index_in m p) (sym z))

  same_counts_out : u.outside_count ≡ t.outside_count
  same_counts_out = g.4.outside

-- what the brackets of the step show, they show after its row is written
filter_stays : (w : Where) (bs : List ℕ) (i : ℕ) (v : Step) (t u p : Table) (o : Option ℕ) (f : Filter) (a c : ℕ) → Writes w i v t u → i ≡ index_in w p → a ≡ p.inside_count + taken w → ShowsFilter bs t o f a c → ShowsFilter bs u o f a c
filter_stays outer bs i v t u p o f a c g e q h = keep_filter bs t u 0 0 a (a + in_filter f) c (c + preds_filter f) (record { outside = λ j x y. absurd (omega arith); inside = λ j x y. g.1 inner j (λ z k. let n : ◌≡◌ {A = ℕ} 0 1 = cc in omega arith); predicates = λ j x y. ap (λ z. get_or z j blank_predicate) g.2 }) o f a c (omega arith) (omega arith) (omega arith) (omega arith) h
filter_stays inner bs i v t u p o f a c g e q h = keep_filter bs t u 0 0 a (a + in_filter f) c (c + preds_filter f) (record { outside = λ j x y. absurd (omega arith); inside = λ j x y. g.1 inner j (λ z k. omega arith); predicates = λ j x y. ap (λ z. get_or z j blank_predicate) g.2 }) o f a c (omega arith) (omega arith) (omega arith) (omega arith) h

next_same : (w : Where) (v : Lead) (t u : Table) → Counted t u → next_of w v t ≡ next_of w v u
next_same w Nothing t u g = refl
next_same outer Slash t u g = ap Some (sym g.outside)
next_same inner Slash t u g = ap Some (sym g.inside)
next_same outer DoubleSlash t u g = ap Some (sym g.outside)
next_same inner DoubleSlash t u g = ap Some (sym g.inside)

module _ (w : Where) (l : ℕ) (before : Lead) (slash : Bool) (after : Lead) (p q x : Parser) (s : Reader) (u : Table) (h : Head) (t : syntax.NodeTest) (f : Filter) (o nx : Option ℕ) (i : ℕ) (fit : Fit p) (gh : HeadRead w (far_of before) h p q t) (gf : FilterRead l o q x f) (gl : Leads after x.reader s) (ei : i ≡ index_in w p.table) (en : nx ≡ next_of w after x.table) (gw : Writes w i (record { slash = slash; axis = h.axis; test = h.test; bracket = o; next = nx }) x.table u) where
  abbrev done : Parser
  done = record { reader = s; table = u }

  on_x : Onward p.reader x.reader
  on_x = on_trans p.reader q.reader x.reader (record { text = gh.went.text; on = omega (arith, gh.went.on) }) gf.gained.on

  gq : Gained p q (one w) (taken w) 0
  gq = step_gained w (far_of before) h p q t fit gh

  gx : Gained p x (one w + 0) (taken w + in_filter f) (0 + preds_filter f)
  gx = gain p q x (one w) (taken w) 0 0 (in_filter f) (preds_filter f) gq gf.gained

  row_is : step_at w u (index_in w p.table) ≡ record { slash = slash; axis = h.axis; test = h.test; bracket = o; next = nx }
  row_is = subst (λ k. step_at w u k ≡ record { slash = slash; axis = h.axis; test = h.test; bracket = o; next = nx }) ei (gw.0 (subst (λ k. k < most w) (sym ei) gh.room))

  same_q : end_of q.reader ≡ end_of p.reader
  same_q = ap (λ z. length z.now) gh.went.text

  pub step_read : StepTells w l before slash (Ok after) p done
  step_read = (
    axis_of h.axis,
    t,
    f,
    record {
      went = record { text = (lead_on after x.reader s gl).text ∙ on_x.text; on = omega (arith, gh.went.on, gf.gained.on.on, (lead_on after x.reader s gl).on); inside = gh.went.inside };
      gained = record {
        on = on_trans p.reader x.reader s on_x (lead_on after x.reader s gl);
        outside = gw.4.outside ∙ gx.outside ∙ omega arith;
        inside = gw.4.inside ∙ gx.inside;
        predicates = gw.3 ∙ gx.predicates ∙ omega arith;
        most = omega (arith, gw.4.inside, gx.most);
        keeps = others w i (record { slash = slash; axis = h.axis; test = h.test; bracket = o; next = nx }) x.table u gw p.table ei gx.keeps;
      };
      over = lead_over after x.reader s gl;
      here = subst (λ z. ShowsHere p.reader.text.now z slash (axis_of h.axis) t (next_of w after u)) (sym row_is) (record { slash = refl; axis = refl; test = gh.test; next = en ∙ next_same w after x.table u gw.4 });
      bracket = subst (λ z. ShowsFilter p.reader.text.now u z.bracket f (p.table.inside_count + taken w) p.table.predicate_count) (sym row_is)
          (filter_stays w p.reader.text.now i (record { slash = slash; axis = h.axis; test = h.test; bracket = o; next = nx }) x.table u p.table o f (p.table.inside_count + taken w) p.table.predicate_count gw ei refl
          (subst (λ k. ShowsFilter p.reader.text.now x.table o f (p.table.inside_count + taken w) k) (gq.predicates ∙ omega arith)
          (subst (λ k. ShowsFilter p.reader.text.now x.table o f k q.table.predicate_count) gq.inside
          (subst (λ z. ShowsFilter z.now x.table o f q.table.inside_count q.table.predicate_count) gh.went.text gf.shows))));
      tells = λ c b e.
          gh.tells c b l e
          ∙ subst (λ n. run n (tested c b (axis_of h.axis) t) l (outer_left q) (inner_left q) (tokens_of q.reader) ≡ run n (stepped c (ext b (axis_of h.axis) t f)) l (outer_left x) (inner_left x) (tokens_of x.reader)) same_q (gf.tells c b (axis_of h.axis) t)
          ∙ lead_run (end_of p.reader) after c (ext b (axis_of h.axis) t f) l (outer_left x) (inner_left x) x.reader s gl
          ∙ ap (λ z. run (end_of p.reader) (ending after c (ext b (axis_of h.axis) t f)) l (16 - z) (inner_left x) (tokens_of s)) (sym gw.4.outside)
          ∙ ap (λ z. run (end_of p.reader) (ending after c (ext b (axis_of h.axis) t f)) l (16 - u.outside_count) (23 - z) (tokens_of s)) (sym gw.4.inside);
    },
  )

-- one step more
own_ext : (w : Where) (b : Before) (v : syntax.Axis) (t : syntax.NodeTest) (f : Filter) → owns_before w b + one w ≡ owns w (ext b v t f)
own_ext outer (start r) v t f = refl
own_ext inner (start r) v t f = refl
own_ext outer (past x) v t f = refl
own_ext inner (past x) v t f = refl

within_ext : (w : Where) (b : Before) (v : syntax.Axis) (t : syntax.NodeTest) (f : Filter) → within_before w b + (taken w + in_filter f) ≡ within w (ext b v t f)
within_ext outer (start r) v t f = omega arith
within_ext inner (start r) v t f = omega arith
within_ext outer (past x) v t f = omega arith
within_ext inner (past x) v t f = omega arith

preds_ext : (b : Before) (v : syntax.Axis) (t : syntax.NodeTest) (f : Filter) → preds_before b + preds_filter f ≡ preds_path (ext b v t f)
preds_ext (start r) v t f = omega arith
preds_ext (past x) v t f = refl

shows_ext : (w : Where) (bs : List ℕ) (o p q : Table) (b : Before) (v : syntax.Axis) (t : syntax.NodeTest) (f : Filter) (nx : Option ℕ) → p.outside_count ≡ o.outside_count + owns_before w b → p.inside_count ≡ o.inside_count + within_before w b → p.predicate_count ≡ o.predicate_count + preds_before b → Keeps p q
    → ShowsBefore w bs p b (index_in w o) o.inside_count o.predicate_count → ShowsHere bs (step_at w q (index_in w p)) (slash_in b) v t nx → ShowsFilter bs q (step_at w q (index_in w p)).bracket f (p.inside_count + taken w) p.predicate_count
    → ShowsPath w bs q (ext b v t f) nx (index_in w o) o.inside_count o.predicate_count
shows_ext outer bs o p q (start r) v t f nx e1 e2 e3 k h here fl =
    let s : p.outside_count ≡ o.outside_count = omega arith in
    let a : p.inside_count ≡ o.inside_count = omega arith in
    let c : p.predicate_count ≡ o.predicate_count = omega arith in (
      subst (λ n. ShowsHere bs (step_at outer q n) r v t nx) s here,
      subst (λ n. ShowsFilter bs q (step_at outer q o.outside_count).bracket f (o.inside_count + 0) n) c (subst (λ n. ShowsFilter bs q (step_at outer q o.outside_count).bracket f (n + 0) p.predicate_count) a (subst (λ n. ShowsFilter bs q (step_at outer q n).bracket f (p.inside_count + 0) p.predicate_count) s fl)),
    )
shows_ext inner bs o p q (start r) v t f nx e1 e2 e3 k h here fl =
    let a : p.inside_count ≡ o.inside_count = omega arith in
    let c : p.predicate_count ≡ o.predicate_count = omega arith in (
      subst (λ n. ShowsHere bs (step_at inner q n) r v t nx) a here,
      subst (λ n. ShowsFilter bs q (step_at inner q o.inside_count).bracket f (o.inside_count + 1) n) c (subst (λ n. ShowsFilter bs q (step_at inner q n).bracket f (n + 1) p.predicate_count) a fl),
    )
shows_ext outer bs o p q (past x) v t f nx e1 e2 e3 k h here fl = (
  subst (λ n. ShowsPath outer bs q x (Some n) o.outside_count o.inside_count o.predicate_count) e1
      (keep_path bs p q 0 p.outside_count 0 p.inside_count 0 p.predicate_count (record { outside = λ j _ y. k.outside j y; inside = λ j _ y. k.inside j y; predicates = λ j _ y. k.predicates j y }) outer x (Some p.outside_count) o.outside_count o.inside_count o.predicate_count (omega arith, omega arith) (omega arith) (omega arith) (omega arith) (omega arith) h),
  subst (λ n. ShowsHere bs (step_at outer q n) false v t nx) e1 here,
  subst (λ n. ShowsFilter bs q (step_at outer q (o.outside_count + own x)).bracket f (o.inside_count + in_path x + 0) n) e3 (subst (λ n. ShowsFilter bs q (step_at outer q (o.outside_count + own x)).bracket f (n + 0) p.predicate_count) e2 (subst (λ n. ShowsFilter bs q (step_at outer q n).bracket f (p.inside_count + 0) p.predicate_count) e1 fl)),
)
shows_ext inner bs o p q (past x) v t f nx e1 e2 e3 k h here fl = (
  subst (λ n. ShowsPath inner bs q x (Some n) o.inside_count o.inside_count o.predicate_count) e2
      (keep_path bs p q 0 0 0 p.inside_count 0 p.predicate_count (record { outside = λ j _ y. absurd (omega arith); inside = λ j _ y. k.inside j y; predicates = λ j _ y. k.predicates j y }) inner x (Some p.inside_count) o.inside_count o.inside_count o.predicate_count tt (omega arith) (omega arith) (omega arith) (omega arith) h),
  subst (λ n. ShowsHere bs (step_at inner q n) false v t nx) e2 here,
  subst (λ n. ShowsFilter bs q (step_at inner q (o.inside_count + (own x + in_path x))).bracket f (o.inside_count + (own x + in_path x) + 1) n) e3 (subst (λ n. ShowsFilter bs q (step_at inner q n).bracket f (n + 1) p.predicate_count) e2 fl),
)

module _ (w : Where) (l : ℕ) (before : Lead) (slash : Bool) (o p q : Parser) (b : Before) (g : Walked w l before slash o p b) where
  same_o : end_of p.reader ≡ end_of o.reader
  same_o = same_end o.reader p.reader g.gained.on

  module _ (after : Lead) (v : syntax.Axis) (t : syntax.NodeTest) (f : Filter) (h : StepRead w l before slash after p q v t f) where
    grew : Gained o q (owns w (ext b v t f)) (within w (ext b v t f)) (preds_path (ext b v t f))
    grew = gain_as o q (owns_before w b + one w) (within_before w b + (taken w + in_filter f)) (preds_before b + preds_filter f) _ _ _ (own_ext w b v t f) (within_ext w b v t f) (preds_ext b v t f) (gain o p q (owns_before w b) (within_before w b) (preds_before b) (one w) (taken w + in_filter f) (preds_filter f) g.gained h.gained)

    shown : ShowsPath w o.reader.text.now q.table (ext b v t f) (next_of w after q.table) (index_in w o.table) o.table.inside_count o.table.predicate_count
    shown = shows_ext w o.reader.text.now o.table p.table q.table b v t f (next_of w after q.table) g.gained.outside g.gained.inside g.gained.predicates h.gained.keeps g.shows
        (subst (λ z. ShowsHere z.now (step_at w q.table (index_in w p.table)) (slash_in b) v t (next_of w after q.table)) g.gained.on.text (subst (λ z. ShowsHere p.reader.text.now (step_at w q.table (index_in w p.table)) z v t (next_of w after q.table)) g.flag h.here))
        (subst (λ z. ShowsFilter z.now q.table (step_at w q.table (index_in w p.table)).bracket f (p.table.inside_count + taken w) p.table.predicate_count) g.gained.on.text h.bracket)

    goes : (c : Context) → where_is c ≡ w → runs o o (begin c) l ≡ runs o q (ending after c (ext b v t f)) l
    goes c e = g.tells c e ∙ subst (λ n. run n (starting (far_of before) c b) l (outer_left p) (inner_left p) (tokens_of p.reader) ≡ run n (ending after c (ext b v t f)) l (outer_left q) (inner_left q) (tokens_of q.reader)) same_o (h.tells c b e)

  pub walk_done : (after : Lead) → slash_of after ≡ false → StepTells w l before slash (Ok after) p q → PathTells w l (Ok tt) o q
  walk_done Nothing e h = (ext b h.0 h.1 h.2, record { gained = grew Nothing h.0 h.1 h.2 h.3; slash = h.3.over.0; double = h.3.over.1; shows = shown Nothing h.0 h.1 h.2 h.3; tells = goes Nothing h.0 h.1 h.2 h.3 })
  walk_done Slash e h = nope e
  walk_done DoubleSlash e h = nope e

  pub walk_on : (after : Lead) → slash_of after ≡ true → StepTells w l before slash (Ok after) p q → (d : Before) × Walked w l after false o q d
  walk_on Nothing e h = nope (sym e)
  walk_on Slash e h = (past (ext b h.0 h.1 h.2), record { gained = grew Slash h.0 h.1 h.2 h.3; flag = refl; shows = shown Slash h.0 h.1 h.2 h.3; tells = goes Slash h.0 h.1 h.2 h.3 })
  walk_on DoubleSlash e h = (past (ext b h.0 h.1 h.2), record { gained = grew DoubleSlash h.0 h.1 h.2 h.3; flag = refl; shows = shown DoubleSlash h.0 h.1 h.2 h.3; tells = goes DoubleSlash h.0 h.1 h.2 h.3 })

  pub walk_err : (f : Fault) → StepTells w l before slash (Err f) p q → PathTells w l (Err f) o q
  walk_err f h c e = g.tells c e ∙ subst (λ n. run n (starting (far_of before) c b) l (outer_left p) (inner_left p) (tokens_of p.reader) ≡ fails f) same_o (h c b e)

pub step_fit : (w : Where) (l : ℕ) (before : Lead) (slash : Bool) (after : Lead) (p q : Parser) → Fit p → StepTells w l before slash (Ok after) p q → Fit q
step_fit w l before slash after p q f h = fit_after p q (one w) (taken w + in_filter h.2) (preds_filter h.2) f h.3.gained (omega (arith, preds_filter_lem h.2))
