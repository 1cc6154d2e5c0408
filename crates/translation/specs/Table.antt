-- The program that the rows of a table say, row by row. `bs` is the text of the query.
use Rattle.std.specs.Prelude.{ℕ, zero, suc, ◌+◌, ◌-◌, ◌<◌, ◌≤◌, List, [], ◌∷◌, ◌++◌, length, take, drop, Some, None, Option}
use Rattle.grammar.specs.Syntax.{self}
use Rattle.grammar.specs.Syntax as syntax
use Rattle.grammar.specs.Machine.{outer, inner}
use Rattle.query.specs.declared.table.NodeTest.{NodeTest}
use Rattle.query.specs.declared.table.NodeTest.TheVariants.{Element, Name, Text, Node}
use Rattle.query.specs.declared.table.Step.{Step}
use Rattle.query.specs.declared.table.Shape.{Shape}
use Rattle.query.specs.declared.table.Shape.TheVariants as shape
use Rattle.query.specs.declared.table.Table.{Table}
use Rattle.query.specs.Shown.{axis_of, step_at, predicate_at}
use Rattle.automata.specs.Program.{Formula, kind, label_is, true, and, or, not, Move, mark, Rule, Program}
use Rattle.automata.specs.Program as program
use Rattle.names.specs.Store.{label_of}
use Rattle.selection.specs.Selects.{Store}
use Rattle.selection.specs.Translate.{beginning, looking, both, begin, keeping, rule}

-- the state of an inside step: the last step has state 0
abbrev pub state_of : Table → ℕ → ℕ
state_of q i = q.inside_count - suc i

-- what asks for the inside step i and those after it
abbrev pub asks_at : Table → ℕ → Formula
asks_at q i = beginning (axis_of (step_at inner q i).axis) (state_of q i)

abbrev pub negated : ℕ → Formula → Formula
negated zero f = f
negated (suc n) f = not (negated n f)

-- What the predicate i says, and that the rows that it refers to come before it. `n` bounds how far it reaches.
abbrev pub shape_says : (ℕ → Formula) → Table → Shape → Formula
shape_says f q (shape.Path s) = asks_at q s
shape_says f q (shape.And l r) = and (f l) (f r)
shape_says f q (shape.Or l r) = or (f l) (f r)

abbrev pub says : ℕ → Table → ℕ → Formula
says zero q i = true
says (suc n) q i = negated (predicate_at q i).negations (shape_says (λ j. says n q j) q (predicate_at q i).shape)

abbrev pub ShapeReach : (ℕ → Type 0) → Table → ℕ → Shape → Type 0
ShapeReach R q i (shape.Path s) = s < q.inside_count
ShapeReach R q i (shape.And l r) = (l < i) × (r < i) × R l × R r
ShapeReach R q i (shape.Or l r) = (l < i) × (r < i) × R l × R r

abbrev pub Reach : ℕ → Table → ℕ → Type 0
Reach zero q i = ⊥
Reach (suc n) q i = (i < 46) × ShapeReach (λ j. Reach n q j) q i (predicate_at q i).shape

unfoldable pub said : Table → ℕ → Formula
said q i = says 46 q i

unfoldable pub Reaching : Table → ℕ → Type 0
Reaching q i = Reach 46 q i

-- what the parts of a step say
abbrev pub test_says : Store → List ℕ → NodeTest → Formula
test_says names bs Element = kind program.element
test_says names bs (Name at len) = and (kind program.element) (label_is (label_of names (take len (drop at bs))))
test_says names bs Text = kind program.text
test_says names bs Node = true

abbrev pub bracket_says : Table → Option ℕ → Option Formula
bracket_says q None = None
bracket_says q (Some i) = Some (said q i)

abbrev pub next_says : Table → Option ℕ → Option Formula
next_says q None = None
next_says q (Some i) = Some (asks_at q i)

abbrev pub step_says : Store → List ℕ → Table → Step → Formula
step_says names bs q w = both (test_says names bs w.test) (bracket_says q w.bracket)

abbrev pub inside_says : Store → List ℕ → Table → ℕ → Formula
inside_says names bs q i =
    let w = step_at inner q i in
    looking (axis_of w.axis) (state_of q i) (both (step_says names bs q w) (next_says q w.next))

abbrev pub outside_says : Store → List ℕ → Table → ℕ → Formula
outside_says names bs q i = step_says names bs q (step_at outer q i)

-- that a step's parts are there
abbrev pub GoodTest : List ℕ → NodeTest → Type 0
GoodTest bs Element = Unit {0}
GoodTest bs (Name at len) = at + len ≤ length bs
GoodTest bs Text = Unit {0}
GoodTest bs Node = Unit {0}

abbrev pub GoodBracket : Table → Option ℕ → Type 0
GoodBracket q None = Unit {0}
GoodBracket q (Some i) = Reaching q i

abbrev pub GoodNext : Table → Option ℕ → Type 0
GoodNext q None = Unit {0}
GoodNext q (Some i) = i < q.inside_count

pub record GoodStep (bs : List ℕ) (q : Table) (w : Step) : Type 0 where
  pub test : GoodTest bs w.test
  pub bracket : GoodBracket q w.bracket

pub record GoodInside (bs : List ℕ) (q : Table) (w : Step) : Type 0 where
  pub step : GoodStep bs q w
  pub next : GoodNext q w.next

-- the n inside steps from i on, the last first
abbrev pub insides : Store → List ℕ → Table → ℕ → ℕ → List Formula
insides names bs q i zero = []
insides names bs q i (suc n) = inside_says names bs q (i + n) ∷ insides names bs q i n

-- the n outside steps from i on
abbrev pub outsides : Store → List ℕ → Table → ℕ → ℕ → List Formula
outsides names bs q i zero = []
outsides names bs q i (suc n) = outside_says names bs q i ∷ outsides names bs q (suc i) n

-- the axis along which the sending state j looks: that of the step before the outside step j
abbrev pub axis_before : Table → ℕ → syntax.Axis
axis_before q zero = self
axis_before q (suc j) = axis_of (step_at outer q j).axis

-- what it does where its step's deciding state holds, if n steps follow
abbrev pub goes_on : Table → ℕ → ℕ → List Move
goes_on q j zero = mark ∷ []
goes_on q j (suc n) = begin (axis_of (step_at outer q j).axis) (suc j)

abbrev pub state_rules : Table → ℕ → ℕ → List Rule
state_rules q j n = keeping (axis_before q j) q.inside_count j ++ (rule (q.inside_count + j) (goes_on q j n) ∷ [])

-- the n sending states from j on
abbrev pub sends : Table → ℕ → ℕ → List (List Rule)
sends q j zero = []
sends q j (suc n) = state_rules q j n ∷ sends q (suc j) n

unfoldable pub program_of : Store → List ℕ → Table → Program
program_of names bs q = record {
  deciding = insides names bs q 0 q.inside_count ++ (true ∷ outsides names bs q 0 q.outside_count);
  sending = sends q 0 (suc q.outside_count);
}

-- a table that can be translated row by row
pub record Good (bs : List ℕ) (q : Table) : Type 0 where
  pub inside_few : q.inside_count ≤ 23
  pub outside_few : q.outside_count ≤ 16
  pub inside : (i : ℕ) → i < q.inside_count → GoodInside bs q (step_at inner q i)
  pub outside : (i : ℕ) → i < q.outside_count → GoodStep bs q (step_at outer q i)
