-- What the rows of a table show. A path's steps, with all that stands in its brackets, are one run of inside steps;
-- a path outside brackets has its own steps in the outside rows. The predicates are in the order in which they end.
-- `s` and `a`: the outside and inside steps before it, `c`: the predicates before it.
use Rattle.std.specs.Prelude.{◌≡◌, ℕ, ◌+◌, ◌≤◌, Bool, true, false, ◌&&◌, List, length, take, drop, Some, None, Option, ◌==◌, nat_le, slice_index_or}
use Rattle.grammar.specs.Syntax.{self, child, descendant, following_sibling, element, name, text, node, Path, first, more, Filter, plain, holds, Pred, some, not, and, or, own, in_path, in_filter, in_pred}
use Rattle.grammar.specs.Syntax as syntax
use Rattle.grammar.specs.Machine.{Where, outer, inner, same}
use Rattle.query.specs.declared.table.Axis.{Axis}
use Rattle.query.specs.declared.table.Axis.TheVariants.{SelfNode, Child, Descendant, FollowingSibling}
use Rattle.query.specs.declared.table.NodeTest.{NodeTest}
use Rattle.query.specs.declared.table.NodeTest.TheVariants.{Element, Name, Text, Node}
use Rattle.query.specs.declared.table.Region.{Region}
use Rattle.query.specs.declared.table.Region.TheVariants.{Outside, Inside}
use Rattle.query.specs.declared.table.Step.{Step}
use Rattle.query.specs.declared.table.Shape.{Shape}
use Rattle.query.specs.declared.table.Shape.TheVariants as shape
use Rattle.query.specs.declared.table.Predicate.{Predicate}
use Rattle.query.specs.declared.table.Table.{Table}

abbrev pub axis_of : Axis → syntax.Axis
axis_of SelfNode = self
axis_of Child = child
axis_of Descendant = descendant
axis_of FollowingSibling = following_sibling

-- a name is a part of the text
abbrev pub ShowsTest : List ℕ → NodeTest → syntax.NodeTest → Type 0
ShowsTest bs Element t = t ≡ element
ShowsTest bs (Name at len) t = (at + len ≤ length bs) × (t ≡ name (take len (drop at bs)))
ShowsTest bs Text t = t ≡ text
ShowsTest bs Node t = t ≡ node

abbrev pub where_of : Region → Where
where_of Outside = outer
where_of Inside = inner

abbrev pub blank_step : Step
blank_step = record { slash = false; axis = SelfNode; test = Element; bracket = None; next = None }

abbrev pub blank_predicate : Predicate
blank_predicate = record { negations = 0; shape = shape.Path 0 }

abbrev pub step_at : Where → Table → ℕ → Step
step_at outer q i = slice_index_or q.outside i blank_step
step_at inner q i = slice_index_or q.inside i blank_step

abbrev pub predicate_at : Table → ℕ → Predicate
predicate_at q i = slice_index_or q.predicates i blank_predicate

-- the number of the step that comes next
abbrev pub index : Where → ℕ → ℕ → ℕ
index outer s a = s
index inner s a = a

-- the inside rows of one step alone
abbrev pub taken : Where → ℕ
taken outer = 0
taken inner = 1

-- the inside rows of a path
abbrev pub within : Where → Path → ℕ
within outer p = in_path p
within inner p = own p + in_path p

-- The predicates in the brackets of a path, in those of a step, and below a predicate.
abbrev mutual
  pub preds_path : Path → ℕ
  preds_path (first r v t f) = preds_filter f
  preds_path (more p v t f) = preds_path p + preds_filter f

  pub preds_filter : Filter → ℕ
  preds_filter plain = 0
  preds_filter (holds p) = below p + 1

  pub below : Pred → ℕ
  below (some x) = preds_path x
  below (not p) = below p
  below (and p q) = below p + 1 + (below q + 1)
  below (or p q) = below p + 1 + (below q + 1)

pub record ShowsHere (bs : List ℕ) (w : Step) (r : Bool) (v : syntax.Axis) (t : syntax.NodeTest) (nx : Option ℕ) : Type 0 where
  pub slash : w.slash ≡ r
  pub axis : axis_of w.axis ≡ v
  pub test : ShowsTest bs w.test t
  pub next : w.next ≡ nx

-- `nx`: the step after the path's last. `n`: the number of `not` around the predicate.
abbrev mutual
  pub ShowsPath : Where → List ℕ → Table → Path → Option ℕ → ℕ → ℕ → ℕ → Type 0
  ShowsPath w bs q (first r v t f) nx s a c =
      ShowsHere bs (step_at w q (index w s a)) r v t nx × ShowsFilter bs q (step_at w q (index w s a)).bracket f (a + taken w) c
  ShowsPath w bs q (more p v t f) nx s a c =
      ShowsPath w bs q p (Some (index w (s + own p) (a + within w p))) s a c × ShowsHere bs (step_at w q (index w (s + own p) (a + within w p))) false v t nx × ShowsFilter bs q (step_at w q (index w (s + own p) (a + within w p))).bracket f (a + within w p + taken w) (c + preds_path p)

  pub ShowsFilter : List ℕ → Table → Option ℕ → Filter → ℕ → ℕ → Type 0
  ShowsFilter bs q o plain a c = o ≡ None
  ShowsFilter bs q o (holds p) a c = (o ≡ Some (c + below p)) × ShowsPred bs q p 0 a c

  pub ShowsPred : List ℕ → Table → Pred → ℕ → ℕ → ℕ → Type 0
  ShowsPred bs q (some x) n a c =
      (predicate_at q (c + preds_path x) ≡ record { negations = n; shape = shape.Path a }) × ShowsPath inner bs q x None a a c
  ShowsPred bs q (not p) n a c = ShowsPred bs q p (n + 1) a c
  ShowsPred bs q (and p x) n a c =
      (predicate_at q (c + (below p + 1 + (below x + 1))) ≡ record { negations = n; shape = shape.And (c + below p) (c + (below p + 1) + below x) }) × ShowsPred bs q p 0 a c × ShowsPred bs q x 0 (a + in_pred p) (c + (below p + 1))
  ShowsPred bs q (or p x) n a c =
      (predicate_at q (c + (below p + 1 + (below x + 1))) ≡ record { negations = n; shape = shape.Or (c + below p) (c + (below p + 1) + below x) }) × ShowsPred bs q p 0 a c × ShowsPred bs q x 0 (a + in_pred p) (c + (below p + 1))

-- a table that shows a query, and nothing besides
pub record Shows (bs : List ℕ) (q : Table) (p : Path) : Type 0 where
  pub outside : q.outside_count ≡ own p
  pub inside : q.inside_count ≡ in_path p
  pub predicates : q.predicate_count ≡ preds_path p
  pub path : ShowsPath outer bs q p None 0 0 0

-- The same as a test.

abbrev pub axis_number : syntax.Axis → ℕ
axis_number self = 0
axis_number child = 1
axis_number descendant = 2
axis_number following_sibling = 3

abbrev pub is_element : syntax.NodeTest → Bool
is_element element = true
is_element (name w) = false
is_element text = false
is_element node = false

abbrev pub is_name : List ℕ → syntax.NodeTest → Bool
is_name w element = false
is_name w (name x) = same x w
is_name w text = false
is_name w node = false

abbrev pub is_text : syntax.NodeTest → Bool
is_text element = false
is_text (name w) = false
is_text text = true
is_text node = false

abbrev pub is_node : syntax.NodeTest → Bool
is_node element = false
is_node (name w) = false
is_node text = false
is_node node = true

abbrev pub shows_test : List ℕ → NodeTest → syntax.NodeTest → Bool
shows_test bs Element t = is_element t
shows_test bs (Name at len) t = nat_le (at + len) (length bs) && is_name (take len (drop at bs)) t
shows_test bs Text t = is_text t
shows_test bs Node t = is_node t

abbrev pub same_flag : Bool → Bool → Bool
same_flag true true = true
same_flag true false = false
same_flag false true = false
same_flag false false = true

abbrev pub same_number : Option ℕ → Option ℕ → Bool
same_number None None = true
same_number None (Some y) = false
same_number (Some x) None = false
same_number (Some x) (Some y) = x == y

abbrev pub same_shape : Shape → Shape → Bool
same_shape (shape.Path a) (shape.Path b) = a == b
same_shape (shape.Path a) (shape.And b d) = false
same_shape (shape.Path a) (shape.Or b d) = false
same_shape (shape.And a c) (shape.Path b) = false
same_shape (shape.And a c) (shape.And b d) = a == b && c == d
same_shape (shape.And a c) (shape.Or b d) = false
same_shape (shape.Or a c) (shape.Path b) = false
same_shape (shape.Or a c) (shape.And b d) = false
same_shape (shape.Or a c) (shape.Or b d) = a == b && c == d

abbrev pub same_predicate : Predicate → Predicate → Bool
same_predicate x y = x.negations == y.negations && same_shape x.shape y.shape

abbrev pub shows_here : List ℕ → Step → Bool → syntax.Axis → syntax.NodeTest → Option ℕ → Bool
shows_here bs w r v t nx = same_flag w.slash r && (axis_number (axis_of w.axis) == axis_number v && (shows_test bs w.test t && same_number w.next nx))

abbrev mutual
  pub shows_path : Where → List ℕ → Table → Path → Option ℕ → ℕ → ℕ → ℕ → Bool
  shows_path w bs q (first r v t f) nx s a c =
      shows_here bs (step_at w q (index w s a)) r v t nx && shows_filter bs q (step_at w q (index w s a)).bracket f (a + taken w) c
  shows_path w bs q (more p v t f) nx s a c =
      shows_path w bs q p (Some (index w (s + own p) (a + within w p))) s a c && (shows_here bs (step_at w q (index w (s + own p) (a + within w p))) false v t nx && shows_filter bs q (step_at w q (index w (s + own p) (a + within w p))).bracket f (a + within w p + taken w) (c + preds_path p))

  pub shows_filter : List ℕ → Table → Option ℕ → Filter → ℕ → ℕ → Bool
  shows_filter bs q o plain a c = same_number o None
  shows_filter bs q o (holds p) a c = same_number o (Some (c + below p)) && shows_pred bs q p 0 a c

  pub shows_pred : List ℕ → Table → Pred → ℕ → ℕ → ℕ → Bool
  shows_pred bs q (some x) n a c =
      same_predicate (predicate_at q (c + preds_path x)) (record { negations = n; shape = shape.Path a }) && shows_path inner bs q x None a a c
  shows_pred bs q (not p) n a c = shows_pred bs q p (n + 1) a c
  shows_pred bs q (and p x) n a c =
      same_predicate (predicate_at q (c + (below p + 1 + (below x + 1)))) (record { negations = n; shape = shape.And (c + below p) (c + (below p + 1) + below x) }) && (shows_pred bs q p 0 a c && shows_pred bs q x 0 (a + in_pred p) (c + (below p + 1)))
  shows_pred bs q (or p x) n a c =
      same_predicate (predicate_at q (c + (below p + 1 + (below x + 1)))) (record { negations = n; shape = shape.Or (c + below p) (c + (below p + 1) + below x) }) && (shows_pred bs q p 0 a c && shows_pred bs q x 0 (a + in_pred p) (c + (below p + 1)))

unfoldable pub shown_by : List ℕ → Table → Path → Bool
shown_by bs q p = q.outside_count == own p && (q.inside_count == in_path p && (q.predicate_count == preds_path p && shows_path outer bs q p None 0 0 0))
