-- What is told of the calls of a reader by recursive descent: which state the machine comes to, whatever surrounds the
-- call, and which rows have been written.
use Rattle.std.specs.Prelude.{◌≡◌, ℕ, ◌+◌, ◌-◌, ◌*◌, ◌<◌, ◌≤◌, Bool, true, false, List, Some, None, Ok, Err, Option, Result}
use Rattle.grammar.specs.declared.tokens.Symbol.{Symbol}
use Rattle.grammar.specs.declared.tokens.Symbol.TheVariants as symbols
use Rattle.grammar.specs.Tokens.{Placed}
use Rattle.grammar.specs.Syntax as syntax
use Rattle.grammar.specs.Syntax.{Path, Filter, holds, Pred, some, not, and, or, descendant, own, in_path, in_filter, in_pred, or_word, and_word}
use Rattle.grammar.specs.Machine.{Where, outer, inner, where_is, Context, unit, Opened, bracket, group, negate, no, Before, start, past, ext, State, begin, due, test, tested, stepped, united, Turn, stop, go, move, down, run, Outcome, refused}
use Rattle.grammar.specs.Glances.{next_is, next_not, next_word}
use Rattle.grammar.specs.Descent as descent
use Rattle.query.specs.declared.fault.Fault.{Fault}
use Rattle.query.specs.Faults.{code_of, place_of}
use Rattle.query.specs.declared.table.Table.{Table}
use Rattle.query.specs.Shown.{step_at, predicate_at, taken, within, preds_path, preds_filter, below, ShowsHere, ShowsPath, ShowsFilter, ShowsPred}
use Rattle.lexer.specs.Readers.{tokens_of, end_of}
use Rattle.reader.specs.declared.parts.Lead.{Lead}
use Rattle.reader.specs.declared.parts.Lead.TheVariants.{Nothing, Slash, DoubleSlash}
use Rattle.reader.specs.declared.parts.Parser.{Parser}
use Rattle.reader.specs.Rows.{index_in}
use Rattle.reader.specs.Heads.{far_of, starting, Onward, Went, outer_left, inner_left}

-- what every call finds: a short text, and room for as many predicates as the steps can have
pub record Fit (p : Parser) : Type 0 where
  pub short : end_of p.reader < 513
  pub inside : p.table.inside_count ≤ 23
  pub room : p.table.predicate_count ≤ 2 * p.table.inside_count

-- a unit that is a path does not begin with `(`, or with `not` and `(`
abbrev pub Starts : Where → Parser → Type 0
Starts outer p = Unit {0}
Starts inner p = (next_is symbols.LeftParen (tokens_of p.reader) ≡ false) × (next_not (tokens_of p.reader) ≡ false)

-- the rows below the counts of t stay
pub record Keeps (t u : Table) : Type 0 where
  pub outside : (k : ℕ) → k < t.outside_count → step_at outer u k ≡ step_at outer t k
  pub inside : (k : ℕ) → k < t.inside_count → step_at inner u k ≡ step_at inner t k
  pub predicates : (k : ℕ) → k < t.predicate_count → predicate_at u k ≡ predicate_at t k

-- the call has gone on from p to q, with s, a and c rows more
pub record Gained (p q : Parser) (s a c : ℕ) : Type 0 where
  pub on : Onward p.reader q.reader
  pub outside : q.table.outside_count ≡ p.table.outside_count + s
  pub inside : q.table.inside_count ≡ p.table.inside_count + a
  pub predicates : q.table.predicate_count ≡ p.table.predicate_count + c
  pub most : q.table.inside_count ≤ 23
  pub keeps : Keeps p.table q.table

-- the text of the machine's state s at p
abbrev pub runs : Parser → Parser → State → ℕ → Outcome
runs p q s l = run (end_of p.reader) s l (outer_left q) (inner_left q) (tokens_of q.reader)

abbrev pub fails : Fault → Outcome
fails f = refused (code_of f) (place_of f)

-- the outside rows of a path, and of a step
abbrev pub owns : Where → Path → ℕ
owns outer x = own x
owns inner x = 0

abbrev pub one : Where → ℕ
one outer = 1
one inner = 0

pub record PathRead (w : Where) (l : ℕ) (p q : Parser) (x : Path) : Type 0 where
  pub gained : Gained p q (owns w x) (within w x) (preds_path x)
  pub slash : next_is symbols.Slash (tokens_of q.reader) ≡ false
  pub double : next_is symbols.DoubleSlash (tokens_of q.reader) ≡ false
  pub shows : ShowsPath w p.reader.text.now q.table x None (index_in w p.table) p.table.inside_count p.table.predicate_count
  pub tells : (c : Context) → where_is c ≡ w → runs p p (begin c) l ≡ runs p q (stepped c x) l

abbrev pub PathTells : Where → ℕ → Result Unit Fault → Parser → Parser → Type 0
PathTells w l (Ok u) p q = (x : Path) × PathRead w l p q x
PathTells w l (Err f) p q = (c : Context) → where_is c ≡ w → runs p p (begin c) l ≡ fails f

abbrev pub slash_of : Lead → Bool
slash_of Nothing = false
slash_of Slash = true
slash_of DoubleSlash = true

-- after a step: the path so far, or the next step is due
abbrev pub ending : Lead → Context → Path → State
ending Nothing c x = stepped c x
ending Slash c x = due c (past x)
ending DoubleSlash c x = test c (past x) descendant true

abbrev pub Over : Lead → List Placed → Type 0
Over Nothing ts = (next_is symbols.Slash ts ≡ false) × (next_is symbols.DoubleSlash ts ≡ false)
Over Slash ts = Unit {0}
Over DoubleSlash ts = Unit {0}

abbrev pub next_of : Where → Lead → Table → Option ℕ
next_of w Nothing t = None
next_of w Slash t = Some (index_in w t)
next_of w DoubleSlash t = Some (index_in w t)

pub record StepRead (w : Where) (l : ℕ) (before : Lead) (slash : Bool) (after : Lead) (p q : Parser) (v : syntax.Axis) (t : syntax.NodeTest) (f : Filter) : Type 0 where
  pub went : Went p.reader q.reader
  pub gained : Gained p q (one w) (taken w + in_filter f) (preds_filter f)
  pub over : Over after (tokens_of q.reader)
  pub here : ShowsHere p.reader.text.now (step_at w q.table (index_in w p.table)) slash v t (next_of w after q.table)
  pub bracket : ShowsFilter p.reader.text.now q.table (step_at w q.table (index_in w p.table)).bracket f (p.table.inside_count + taken w) p.table.predicate_count
  pub tells : (c : Context) (b : Before) → where_is c ≡ w → runs p p (starting (far_of before) c b) l ≡ runs p q (ending after c (ext b v t f)) l

abbrev pub StepTells : Where → ℕ → Lead → Bool → Result Lead Fault → Parser → Parser → Type 0
StepTells w l before slash (Ok after) p q = (v : syntax.Axis) × (t : syntax.NodeTest) × (f : Filter) × StepRead w l before slash after p q v t f
StepTells w l before slash (Err f) p q = (c : Context) (b : Before) → where_is c ≡ w → runs p p (starting (far_of before) c b) l ≡ fails f

pub record FilterRead (l : ℕ) (o : Option ℕ) (p q : Parser) (f : Filter) : Type 0 where
  pub gained : Gained p q 0 (in_filter f) (preds_filter f)
  pub shows : ShowsFilter p.reader.text.now q.table o f p.table.inside_count p.table.predicate_count
  pub tells : (c : Context) (b : Before) (v : syntax.Axis) (t : syntax.NodeTest) → runs p p (tested c b v t) l ≡ runs p q (stepped c (ext b v t f)) l

abbrev pub FilterTells : ℕ → Result (Option ℕ) Fault → Parser → Parser → Type 0
FilterTells l (Ok o) p q = (f : Filter) × FilterRead l o p q f
FilterTells l (Err f) p q = (c : Context) (b : Before) (v : syntax.Axis) (t : syntax.NodeTest) → runs p p (tested c b v t) l ≡ fails f

-- the number of `not` around a predicate
abbrev pub nots : Pred → ℕ
nots (some x) = 0
nots (not p) = nots p + 1
nots (and p q) = 0
nots (or p q) = 0

-- the predicate x was read, and its row is j
pub record PredRead (l j : ℕ) (p q : Parser) (x : Pred) : Type 0 where
  pub gained : Gained p q 0 (in_pred x) (below x + 1)
  pub row : j ≡ p.table.predicate_count + below x
  pub nested : nots x ≤ l
  pub shows : ShowsPred p.reader.text.now q.table x 0 p.table.inside_count p.table.predicate_count

-- what closes a level, and the state after it
abbrev pub closer : Opened → Symbol
closer (bracket c b v t) = symbols.RightBracket
closer (group k s n) = symbols.RightParen
closer (negate k s n) = symbols.RightParen

abbrev pub closed : Opened → Pred → State
closed (bracket c b v t) x = stepped c (ext b v t (holds x))
closed (group k s n) x = united k s n x
closed (negate k s n) x = united k s n (not x)

abbrev pub onto : ℕ → Turn → List Placed → Outcome
onto e x ts = elim x [ stop k b ↦ refused k b | go r m p j ↦ run e r m p j ts ]

-- a level opens at a
abbrev pub opens : ℕ → Parser → Opened → ℕ → Outcome
opens a p k l = onto (end_of p.reader) (move (down (begin (unit k no no))) a l (outer_left p) (inner_left p)) (tokens_of p.reader)

abbrev pub EnclosedTells : ℕ → ℕ → Symbol → Result ℕ Fault → Parser → Parser → Type 0
EnclosedTells l a m (Ok j) p q = (x : Pred) × PredRead (l - 1) j p q x × (0 < l) × ((k : Opened) → closer k ≡ m → opens a p k l ≡ runs p q (closed k x) l)
EnclosedTells l a m (Err f) p q = (k : Opened) → closer k ≡ m → opens a p k l ≡ fails f

-- neither `or` nor `and` stands next
abbrev pub told : {X : Type 0} → Parser → X → descent.Read X
told q x = descent.ok x (outer_left q) (inner_left q) (tokens_of q.reader)

abbrev pub failed : {X : Type 0} → Fault → descent.Read X
failed f = descent.err (code_of f) (place_of f)

abbrev pub PredTells : ℕ → Result ℕ Fault → Parser → Parser → Type 0
PredTells l (Ok j) p q = (x : Pred) × PredRead l j p q x × (next_word or_word (tokens_of q.reader) ≡ false) × (next_word and_word (tokens_of q.reader) ≡ false) × descent.PredTold (end_of p.reader) l (outer_left p) (inner_left p) (tokens_of p.reader) (told q x)
PredTells l (Err f) p q = descent.PredTold (end_of p.reader) l (outer_left p) (inner_left p) (tokens_of p.reader) (failed f)

abbrev pub ConjTells : ℕ → Result ℕ Fault → Parser → Parser → Type 0
ConjTells l (Ok j) p q = (x : Pred) × PredRead l j p q x × (next_word and_word (tokens_of q.reader) ≡ false) × descent.ConjTold (end_of p.reader) l (outer_left p) (inner_left p) (tokens_of p.reader) (told q x)
ConjTells l (Err f) p q = descent.ConjTold (end_of p.reader) l (outer_left p) (inner_left p) (tokens_of p.reader) (failed f)

abbrev pub UnitTells : ℕ → Result ℕ Fault → Parser → Parser → Type 0
UnitTells l (Ok j) p q = (x : Pred) × PredRead l j p q x × descent.UnitTold (end_of p.reader) l (outer_left p) (inner_left p) (tokens_of p.reader) (told q x)
UnitTells l (Err f) p q = descent.UnitTold (end_of p.reader) l (outer_left p) (inner_left p) (tokens_of p.reader) (failed f)

-- How far a path has been read from P to p: b stands before the next step, to which `before` leads.
abbrev pub slash_in : Before → Bool
slash_in (start r) = r
slash_in (past x) = false

abbrev pub owns_before : Where → Before → ℕ
owns_before w (start r) = 0
owns_before w (past x) = owns w x

abbrev pub within_before : Where → Before → ℕ
within_before w (start r) = 0
within_before w (past x) = within w x

abbrev pub preds_before : Before → ℕ
preds_before (start r) = 0
preds_before (past x) = preds_path x

abbrev pub ShowsBefore : Where → List ℕ → Table → Before → ℕ → ℕ → ℕ → Type 0
ShowsBefore w bs t (start r) s a c = Unit {0}
ShowsBefore w bs t (past x) s a c = ShowsPath w bs t x (Some (index_in w t)) s a c

pub record Walked (w : Where) (l : ℕ) (before : Lead) (slash : Bool) (p q : Parser) (b : Before) : Type 0 where
  pub gained : Gained p q (owns_before w b) (within_before w b) (preds_before b)
  pub flag : slash ≡ slash_in b
  pub shows : ShowsBefore w p.reader.text.now q.table b (index_in w p.table) p.table.inside_count p.table.predicate_count
  pub tells : (c : Context) → where_is c ≡ w → runs p p (begin c) l ≡ runs p q (starting (far_of before) c b) l
