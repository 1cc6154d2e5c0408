-- The table's test says what the table shows.
use Rattle.std.proofs.Common.{◌≡◌, ℕ, ◌+◌, Bool, true, false, List, take, drop, Some, None, Option, refl, ap, ◌∙◌, subst, arith}
use Rattle.std.proofs.lemmas.Bool.{eqb-true, eq-eqb, leb-true, le-leb, and_parts, and_from}
use Rattle.grammar.specs.Syntax.{self, child, descendant, following_sibling, element, name, text, node, Path, first, more, Filter, plain, holds, Pred, some, not, and, or, own, in_path, in_filter, in_pred}
use Rattle.grammar.specs.Syntax as syntax
use Rattle.grammar.specs.Machine.{Where, outer, inner, Outcome, accepted, refused, outcome}
use Rattle.grammar.proofs.Words.{same_true, same_self}
use Rattle.query.specs.declared.table.NodeTest.{NodeTest}
use Rattle.query.specs.declared.table.NodeTest.TheVariants.{Element, Name, Text, Node}
use Rattle.query.specs.declared.table.Step.{Step}
use Rattle.query.specs.declared.table.Shape.{Shape}
use Rattle.query.specs.declared.table.Shape.TheVariants as shape
use Rattle.query.specs.declared.table.Predicate.{Predicate}
use Rattle.query.specs.declared.table.Table.{Table}
use Rattle.query.specs.declared.parsed.Query.{Query}
use Rattle.query.specs.Reads.{accepts, path_of, accepts_text, path_in}
use Rattle.query.specs.Shown.{ShowsTest, step_at, index, taken, within, preds_path, below, ShowsHere, ShowsPath, ShowsFilter, ShowsPred, Shows, axis_number, is_element, is_name, is_text, is_node, shows_test, same_flag, same_number, same_shape, same_predicate, shows_here, shows_path, shows_filter, shows_pred, shown_by}

nope : {X : Type 0} → false ≡ true → X
nope h = let z : ◌≡◌ {A = ℕ} 0 1 = cc in absurd (omega arith)

same_axis : (x y : syntax.Axis) → axis_number x ≡ axis_number y → x ≡ y
same_axis self self h = refl
same_axis self child h = absurd (omega arith)
same_axis self descendant h = absurd (omega arith)
same_axis self following_sibling h = absurd (omega arith)
same_axis child self h = absurd (omega arith)
same_axis child child h = refl
same_axis child descendant h = absurd (omega arith)
same_axis child following_sibling h = absurd (omega arith)
same_axis descendant self h = absurd (omega arith)
same_axis descendant child h = absurd (omega arith)
same_axis descendant descendant h = refl
same_axis descendant following_sibling h = absurd (omega arith)
same_axis following_sibling self h = absurd (omega arith)
same_axis following_sibling child h = absurd (omega arith)
same_axis following_sibling descendant h = absurd (omega arith)
same_axis following_sibling following_sibling h = refl

element_true : (t : syntax.NodeTest) → is_element t ≡ true → t ≡ element
element_true element h = refl
element_true (name w) h = nope h
element_true text h = nope h
element_true node h = nope h

name_true : (w : List ℕ) (t : syntax.NodeTest) → is_name w t ≡ true → t ≡ name w
name_true w element h = nope h
name_true w (name x) h = ap name (same_true x w h)
name_true w text h = nope h
name_true w node h = nope h

text_true : (t : syntax.NodeTest) → is_text t ≡ true → t ≡ text
text_true element h = nope h
text_true (name w) h = nope h
text_true text h = refl
text_true node h = nope h

node_true : (t : syntax.NodeTest) → is_node t ≡ true → t ≡ node
node_true element h = nope h
node_true (name w) h = nope h
node_true text h = nope h
node_true node h = refl

test_true : (bs : List ℕ) (x : NodeTest) (t : syntax.NodeTest) → shows_test bs x t ≡ true → ShowsTest bs x t
test_true bs Element t h = element_true t h
test_true bs (Name at len) t h = let p = and_parts _ _ h in (leb-true _ _ p.0, name_true _ t p.1)
test_true bs Text t h = text_true t h
test_true bs Node t h = node_true t h

of_test : (bs : List ℕ) (x : NodeTest) (t : syntax.NodeTest) → ShowsTest bs x t → shows_test bs x t ≡ true
of_test bs Element t h = ap is_element h
of_test bs (Name at len) t h = and_from _ _ (le-leb _ _ h.0) (ap (is_name (take len (drop at bs))) h.1 ∙ same_self (take len (drop at bs)))
of_test bs Text t h = ap is_text h
of_test bs Node t h = ap is_node h

flag_true : (x y : Bool) → same_flag x y ≡ true → x ≡ y
flag_true true true h = refl
flag_true true false h = nope h
flag_true false true h = nope h
flag_true false false h = refl

of_flag : (x y : Bool) → x ≡ y → same_flag x y ≡ true
of_flag true y h = subst (λ z. same_flag true z ≡ true) h refl
of_flag false y h = subst (λ z. same_flag false z ≡ true) h refl

number_true : (x y : Option ℕ) → same_number x y ≡ true → x ≡ y
number_true None None h = refl
number_true None (Some y) h = nope h
number_true (Some x) None h = nope h
number_true (Some x) (Some y) h = ap Some (eqb-true x y h)

number_self : (x : Option ℕ) → same_number x x ≡ true
number_self None = refl
number_self (Some x) = eq-eqb x x refl

of_number : (x y : Option ℕ) → x ≡ y → same_number x y ≡ true
of_number x y h = subst (λ z. same_number x z ≡ true) h (number_self x)

shape_true : (x y : Shape) → same_shape x y ≡ true → x ≡ y
shape_true (shape.Path a) (shape.Path b) h = ap shape.Path (eqb-true a b h)
shape_true (shape.Path a) (shape.And b d) h = nope h
shape_true (shape.Path a) (shape.Or b d) h = nope h
shape_true (shape.And a c) (shape.Path b) h = nope h
shape_true (shape.And a c) (shape.And b d) h = let p = and_parts _ _ h in ap (λ z. shape.And z c) (eqb-true a b p.0) ∙ ap (shape.And b) (eqb-true c d p.1)
shape_true (shape.And a c) (shape.Or b d) h = nope h
shape_true (shape.Or a c) (shape.Path b) h = nope h
shape_true (shape.Or a c) (shape.And b d) h = nope h
shape_true (shape.Or a c) (shape.Or b d) h = let p = and_parts _ _ h in ap (λ z. shape.Or z c) (eqb-true a b p.0) ∙ ap (shape.Or b) (eqb-true c d p.1)

shape_self : (x : Shape) → same_shape x x ≡ true
shape_self (shape.Path a) = eq-eqb a a refl
shape_self (shape.And a c) = and_from _ _ (eq-eqb a a refl) (eq-eqb c c refl)
shape_self (shape.Or a c) = and_from _ _ (eq-eqb a a refl) (eq-eqb c c refl)

predicate_true : (x y : Predicate) → same_predicate x y ≡ true → x ≡ y
predicate_true x y h =
    let p = and_parts _ _ h in
    let make : ℕ → Shape → Predicate = λ n s. record { negations = n; shape = s } in
    ap (λ n. make n x.shape) (eqb-true x.negations y.negations p.0) ∙ ap (make y.negations) (shape_true x.shape y.shape p.1)

of_predicate : (x y : Predicate) → x ≡ y → same_predicate x y ≡ true
of_predicate x y h = subst (λ z. same_predicate x z ≡ true) h (and_from _ _ (eq-eqb x.negations x.negations refl) (shape_self x.shape))

here_true : (bs : List ℕ) (w : Step) (r : Bool) (v : syntax.Axis) (t : syntax.NodeTest) (nx : Option ℕ) → shows_here bs w r v t nx ≡ true → ShowsHere bs w r v t nx
here_true bs w r v t nx h =
    let p = and_parts _ _ h in
    let q = and_parts _ _ p.1 in
    let o = and_parts _ _ q.1 in
    record { slash = flag_true _ _ p.0; axis = same_axis _ _ (eqb-true _ _ q.0); test = test_true bs w.test t o.0; next = number_true _ _ o.1 }

of_here : (bs : List ℕ) (w : Step) (r : Bool) (v : syntax.Axis) (t : syntax.NodeTest) (nx : Option ℕ) → ShowsHere bs w r v t nx → shows_here bs w r v t nx ≡ true
of_here bs w r v t nx h = and_from _ _ (of_flag _ _ h.slash) (and_from _ _ (eq-eqb _ _ (ap axis_number h.axis)) (and_from _ _ (of_test bs w.test t h.test) (of_number _ _ h.next)))

module _ (bs : List ℕ) (q : Table) where
  mutual
    path_true : (w : Where) (p : Path) (nx : Option ℕ) (s a c : ℕ) → shows_path w bs q p nx s a c ≡ true → ShowsPath w bs q p nx s a c
    path_true w (first r v t f) nx s a c h = let p = and_parts _ _ h in (here_true bs (step_at w q (index w s a)) r v t nx p.0, filter_true (step_at w q (index w s a)).bracket f (a + taken w) c p.1)
    path_true w (more x v t f) nx s a c h =
        let p = and_parts _ _ h in
        let o = and_parts _ _ p.1 in
        (path_true w x (Some (index w (s + own x) (a + within w x))) s a c p.0, here_true bs (step_at w q (index w (s + own x) (a + within w x))) false v t nx o.0, filter_true (step_at w q (index w (s + own x) (a + within w x))).bracket f (a + within w x + taken w) (c + preds_path x) o.1)

    filter_true : (o : Option ℕ) (f : Filter) (a c : ℕ) → shows_filter bs q o f a c ≡ true → ShowsFilter bs q o f a c
    filter_true o plain a c h = number_true o None h
    filter_true o (holds p) a c h = let m = and_parts _ _ h in (number_true o (Some (c + below p)) m.0, pred_true p 0 a c m.1)

    pred_true : (p : Pred) (n a c : ℕ) → shows_pred bs q p n a c ≡ true → ShowsPred bs q p n a c
    pred_true (some x) n a c h = let m = and_parts _ _ h in (predicate_true _ _ m.0, path_true inner x None a a c m.1)
    pred_true (not p) n a c h = pred_true p (n + 1) a c h
    pred_true (and p x) n a c h = let m = and_parts _ _ h in let k = and_parts _ _ m.1 in (predicate_true _ _ m.0, pred_true p 0 a c k.0, pred_true x 0 (a + in_pred p) (c + (below p + 1)) k.1)
    pred_true (or p x) n a c h = let m = and_parts _ _ h in let k = and_parts _ _ m.1 in (predicate_true _ _ m.0, pred_true p 0 a c k.0, pred_true x 0 (a + in_pred p) (c + (below p + 1)) k.1)

  mutual
    of_path : (w : Where) (p : Path) (nx : Option ℕ) (s a c : ℕ) → ShowsPath w bs q p nx s a c → shows_path w bs q p nx s a c ≡ true
    of_path w (first r v t f) nx s a c h = and_from _ _ (of_here bs (step_at w q (index w s a)) r v t nx h.0) (of_filter (step_at w q (index w s a)).bracket f (a + taken w) c h.1)
    of_path w (more x v t f) nx s a c h =
        and_from _ _ (of_path w x (Some (index w (s + own x) (a + within w x))) s a c h.0) (and_from _ _ (of_here bs (step_at w q (index w (s + own x) (a + within w x))) false v t nx h.1) (of_filter (step_at w q (index w (s + own x) (a + within w x))).bracket f (a + within w x + taken w) (c + preds_path x) h.2))

    of_filter : (o : Option ℕ) (f : Filter) (a c : ℕ) → ShowsFilter bs q o f a c → shows_filter bs q o f a c ≡ true
    of_filter o plain a c h = of_number o None h
    of_filter o (holds p) a c h = and_from _ _ (of_number o (Some (c + below p)) h.0) (of_pred p 0 a c h.1)

    of_pred : (p : Pred) (n a c : ℕ) → ShowsPred bs q p n a c → shows_pred bs q p n a c ≡ true
    of_pred (some x) n a c h = and_from _ _ (of_predicate _ _ h.0) (of_path inner x None a a c h.1)
    of_pred (not p) n a c h = of_pred p (n + 1) a c h
    of_pred (and p x) n a c h = and_from _ _ (of_predicate _ _ h.0) (and_from _ _ (of_pred p 0 a c h.1) (of_pred x 0 (a + in_pred p) (c + (below p + 1)) h.2))
    of_pred (or p x) n a c h = and_from _ _ (of_predicate _ _ h.0) (and_from _ _ (of_pred p 0 a c h.1) (of_pred x 0 (a + in_pred p) (c + (below p + 1)) h.2))

  pub to_shows : (p : Path) → shown_by bs q p ≡ true → Shows bs q p
  unfolding shown_by
  to_shows p h =
      let m = and_parts _ _ h in
      let k = and_parts _ _ m.1 in
      let j = and_parts _ _ k.1 in
      record { outside = eqb-true _ _ m.0; inside = eqb-true _ _ k.0; predicates = eqb-true _ _ j.0; path = path_true outer p None 0 0 0 j.1 }

  pub of_shows : (p : Path) → Shows bs q p → shown_by bs q p ≡ true
  unfolding shown_by
  of_shows p h = and_from _ _ (eq-eqb _ _ h.outside) (and_from _ _ (eq-eqb _ _ h.inside) (and_from _ _ (eq-eqb _ _ h.predicates) (of_path outer p None 0 0 0 h.path)))

accepts_path : (o : Outcome) → accepts o ≡ true → o ≡ accepted (path_of o)
accepts_path (accepted p) h = refl
accepts_path (refused k a) h = nope h

-- an accepted text is read as its path
pub to_reads : (bs : List ℕ) → accepts_text bs ≡ true → outcome bs ≡ accepted (path_in bs)
unfolding accepts_text path_in
to_reads bs h = accepts_path (outcome bs) h

pub of_reads : (bs : List ℕ) (p : Path) → outcome bs ≡ accepted p → accepts_text bs ≡ true
unfolding accepts_text
of_reads bs p h = ap accepts h

pub path_is : (bs : List ℕ) (p : Path) → outcome bs ≡ accepted p → path_in bs ≡ p
unfolding path_in
path_is bs p h = ap path_of h

-- what a query's text is read as, and what its table shows
pub query_reads : (q : Query) → outcome (take q.len q.text) ≡ accepted (path_in (take q.len q.text))
query_reads q = to_reads (take q.len q.text) q.reads

pub query_shows : (q : Query) → Shows (take q.len q.text) q.table (path_in (take q.len q.text))
query_shows q = to_shows (take q.len q.text) q.table (path_in (take q.len q.text)) q.shown
