-- What is told of a lead, an axis, a node test and a step without its bracket: which state the machine comes to.
use Rattle.std.specs.Prelude.{◌≡◌, ℕ, ◌-◌, ◌<◌, ◌≤◌, Bool, true, false, List, ◌∷◌, Some, None, Ok, Err, Option, Result}
use Rattle.grammar.specs.declared.tokens.Symbol.TheVariants as symbols
use Rattle.grammar.specs.Tokens.{token, symbol}
use Rattle.grammar.specs.Syntax as syntax
use Rattle.grammar.specs.Syntax.{child, descendant}
use Rattle.grammar.specs.Machine.{Where, where_is, Context, Before, State, due, test, pend, named, tested, run, refused, AsAxis, is, axis_of_word}
use Rattle.grammar.specs.Glances.{next_is}
use Rattle.query.specs.declared.fault.Fault.{Fault}
use Rattle.query.specs.Faults.{code_of, place_of}
use Rattle.query.specs.declared.table.Axis.{Axis}
use Rattle.query.specs.declared.table.NodeTest.{NodeTest}
use Rattle.query.specs.declared.table.NodeTest.TheVariants.{Name}
use Rattle.query.specs.Shown.{axis_of, ShowsTest}
use Rattle.lexer.specs.declared.Reader.{Reader}
use Rattle.lexer.specs.Readers.{tokens_of, end_of, Moved}
use Rattle.reader.specs.declared.parts.Lead.{Lead}
use Rattle.reader.specs.declared.parts.Lead.TheVariants.{Nothing, Slash, DoubleSlash}
use Rattle.reader.specs.declared.parts.Head.{Head}
use Rattle.reader.specs.declared.parts.Parser.{Parser}
use Rattle.reader.specs.Rows.{index_in, most, grown}

abbrev pub Leads : Lead → Reader → Reader → Type 0
Leads Nothing r q = (q ≡ r) × (next_is symbols.Slash (tokens_of r) ≡ false) × (next_is symbols.DoubleSlash (tokens_of r) ≡ false)
Leads Slash r q = (a : ℕ) × (tokens_of r ≡ token (symbol symbols.Slash) a ∷ tokens_of q) × Moved r q
Leads DoubleSlash r q = (a : ℕ) × (tokens_of r ≡ token (symbol symbols.DoubleSlash) a ∷ tokens_of q) × Moved r q

abbrev pub far_of : Lead → Bool
far_of Nothing = false
far_of Slash = false
far_of DoubleSlash = true

-- where a step is due, after `//` or not
abbrev pub starting : Bool → Context → Before → State
starting false c b = due c b
starting true c b = test c b descendant true

abbrev pub AxisOf : List ℕ → Option Axis → Type 0
AxisOf w (Some v) = axis_of_word w ≡ is (axis_of v)
AxisOf w None = axis_of_word w ≡ AsAxis.isnt

abbrev pub NameTest : ℕ → ℕ → NodeTest → Type 0
NameTest a n t = a < 513 → n < 33 → t ≡ Name a n

-- the reader has gone on, or stands where it stood
pub record Onward (r q : Reader) : Type 0 where
  pub text : q.text ≡ r.text
  pub on : r.place ≤ q.place

abbrev pub NamedTells : List ℕ → Result NodeTest Fault → Reader → Reader → Type 0
NamedTells w (Ok x) r q = (t : syntax.NodeTest) × ShowsTest r.text.now x t × Onward r q × ((c : Context) (b : Before) (v : syntax.Axis) (l o i : ℕ) → run (end_of r) (named c b v w) l o i (tokens_of r) ≡ run (end_of r) (tested c b v t) l o i (tokens_of q))
NamedTells w (Err f) r q = (c : Context) (b : Before) (v : syntax.Axis) (l o i : ℕ) → run (end_of r) (named c b v w) l o i (tokens_of r) ≡ refused (code_of f) (place_of f)

abbrev pub TestTells : Result NodeTest Fault → Reader → Reader → Type 0
TestTells (Ok x) r q = (t : syntax.NodeTest) × ShowsTest r.text.now x t × Onward r q × ((c : Context) (b : Before) (v : syntax.Axis) (l o i : ℕ) → run (end_of r) (test c b v false) l o i (tokens_of r) ≡ run (end_of r) (tested c b v t) l o i (tokens_of q))
TestTells (Err f) r q = (c : Context) (b : Before) (v : syntax.Axis) (l o i : ℕ) → run (end_of r) (test c b v false) l o i (tokens_of r) ≡ refused (code_of f) (place_of f)

abbrev pub usual : Bool → syntax.Axis
usual true = descendant
usual false = child

-- a word was read where a step is due
abbrev pub worded : Bool → Context → Before → List ℕ → State
worded true c b z = named c b descendant z
worded false c b z = pend c b z

abbrev pub WordTells : Bool → List ℕ → Result Head Fault → Reader → Reader → Type 0
WordTells far z (Ok h) r q = (t : syntax.NodeTest) × ShowsTest r.text.now h.test t × Onward r q × ((c : Context) (b : Before) (l o i : ℕ) → run (end_of r) (worded far c b z) l o i (tokens_of r) ≡ run (end_of r) (tested c b (axis_of h.axis) t) l o i (tokens_of q))
WordTells far z (Err f) r q = (c : Context) (b : Before) (l o i : ℕ) → run (end_of r) (worded far c b z) l o i (tokens_of r) ≡ refused (code_of f) (place_of f)

-- the steps left
abbrev pub outer_left : Parser → ℕ
outer_left p = 16 - p.table.outside_count

abbrev pub inner_left : Parser → ℕ
inner_left p = 23 - p.table.inside_count

-- the reader has gone on, from a place before the end
pub record Went (r q : Reader) : Type 0 where
  pub text : q.text ≡ r.text
  pub on : r.place < q.place
  pub inside : r.place < end_of r

pub record HeadRead (w : Where) (far : Bool) (h : Head) (p q : Parser) (t : syntax.NodeTest) : Type 0 where
  pub test : ShowsTest p.reader.text.now h.test t
  pub went : Went p.reader q.reader
  pub room : index_in w p.table < most w
  pub table : q.table ≡ grown w p.table
  pub tells : (c : Context) (b : Before) (l : ℕ) → where_is c ≡ w → run (end_of p.reader) (starting far c b) l (outer_left p) (inner_left p) (tokens_of p.reader) ≡ run (end_of p.reader) (tested c b (axis_of h.axis) t) l (outer_left q) (inner_left q) (tokens_of q.reader)

abbrev pub HeadTells : Where → Bool → Result Head Fault → Parser → Parser → Type 0
HeadTells w far (Ok h) p q = (t : syntax.NodeTest) × HeadRead w far h p q t
HeadTells w far (Err f) p q = (c : Context) (b : Before) (l : ℕ) → where_is c ≡ w → run (end_of p.reader) (starting far c b) l (outer_left p) (inner_left p) (tokens_of p.reader) ≡ refused (code_of f) (place_of f)
