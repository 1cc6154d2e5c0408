-- What a text is read as: a machine with a stack, one token at a time.
use Rattle.std.specs.Prelude.{ℕ, zero, suc, Bool, true, false, cond, ◌&&◌, List, [], ◌∷◌, length, ◌==◌, nat_lt}
use Rattle.grammar.specs.declared.tokens.Symbol.TheVariants.{Slash, DoubleSlash, LeftBracket, RightBracket, LeftParen, RightParen, Star, DoubleColon}
use Rattle.grammar.specs.Tokens.{Token, symbol, word, Placed, token, tokens_at}
use Rattle.grammar.specs.Tokens as tokens
use Rattle.grammar.specs.Syntax.{Axis, self, child, descendant, following_sibling, NodeTest, element, name, text, node, Path, first, more, Filter, plain, holds, Pred, some, not, and, or, axis_word, text_word, node_word, not_word, or_word, and_word}

-- what stands before the next step of a path: nothing, with a slash or without, or a path
pub data Before : Type 0 where
  start : Bool → Before
  past : Path → Before

abbrev pub ext : Before → Axis → NodeTest → Filter → Path
ext (start r) v t f = first r v t f
ext (past p) v t f = more p v t f

-- what stands to the left of an `or` or an `and`
pub data Side : Type 0 where
  no : Side
  has : Pred → Side

abbrev pub conj : Side → Pred → Pred
conj no p = p
conj (has q) p = and q p

abbrev pub disj : Side → Pred → Pred
disj no p = p
disj (has q) p = or q p

-- Where a path stands, and what opened a predicate. `unit k o n`: in the predicate that k opened, behind the
-- left side o of an `or` and the left side n of an `and`.
mutual
  pub data Context : Type 0 where
    top : Context
    unit : Opened → Side → Side → Context

  pub data Opened : Type 0 where
    bracket : Context → Before → Axis → NodeTest → Opened
    group : Opened → Side → Side → Opened
    negate : Opened → Side → Side → Opened

pub data State : Type 0 where
  -- a path is due, or in a predicate a unit
  begin : Context → State
  -- a step is due
  due : Context → Before → State
  -- a test is due; true: the step begins with it
  test : Context → Before → Axis → Bool → State
  -- a word that is an axis or a test
  pend : Context → Before → List ℕ → State
  -- a word that is a test
  named : Context → Before → Axis → List ℕ → State
  -- `(` of a node type was read
  close : Context → Before → Axis → NodeTest → State
  -- a test was read
  tested : Context → Before → Axis → NodeTest → State
  -- a step with its bracket was read
  stepped : Context → Path → State
  -- a unit was read
  united : Opened → Side → Side → Pred → State
  -- `not` at the place, where a unit begins
  either : Opened → Side → Side → ℕ → State

pub data Where : Type 0 where
  outer : Where
  inner : Where

abbrev pub where_is : Context → Where
where_is top = outer
where_is (unit k o n) = inner

-- a token: none here, the next state, one level down to it, one level up
pub data Move : Type 0 where
  none : Move
  to : State → Move
  down : State → Move
  up : State → Move

-- with a step that begins at a place, or none
pub data Act : Type 0 where
  act : Move → Act
  begins : Where → ℕ → Move → Act

abbrev pub same : List ℕ → List ℕ → Bool
same [] [] = true
same [] (y ∷ ys) = false
same (x ∷ xs) [] = false
same (x ∷ xs) (y ∷ ys) = x == y && same xs ys

pub data AsAxis : Type 0 where
  is : Axis → AsAxis
  isnt : AsAxis

abbrev pub axis_of_word : List ℕ → AsAxis
axis_of_word w = cond (same w (axis_word self)) (is self) (cond (same w (axis_word child)) (is child) (cond (same w (axis_word descendant)) (is descendant) (cond (same w (axis_word following_sibling)) (is following_sibling) isnt)))

pub data AsTest : Type 0 where
  istext : AsTest
  isnode : AsTest
  isnt : AsTest

abbrev pub test_of : List ℕ → AsTest
test_of w = cond (same w text_word) istext (cond (same w node_word) isnode AsTest.isnt)

pub data AsJoin : Type 0 where
  isor : AsJoin
  isand : AsJoin
  isnt : AsJoin

abbrev pub join_of : List ℕ → AsJoin
join_of w = cond (same w or_word) isor (cond (same w and_word) isand AsJoin.isnt)

abbrev pub shut : Opened → Pred → Move
shut (bracket c b v t) p = up (stepped c (ext b v t (holds p)))
shut (group k o n) p = none
shut (negate k o n) p = none

abbrev pub right : Opened → Pred → Move
right (bracket c b v t) p = none
right (group k o n) p = up (united k o n p)
right (negate k o n) p = up (united k o n (not p))

abbrev pub joined : AsJoin → Opened → Side → Side → Pred → Move
joined isor k o n p = to (begin (unit k (has (disj o (conj n p))) no))
joined isand k o n p = to (begin (unit k o (has (conj n p))))
joined AsJoin.isnt k o n p = none

abbrev pub on_united : Opened → Side → Side → Pred → Token → Move
on_united k o n p (symbol Slash) = none
on_united k o n p (symbol DoubleSlash) = none
on_united k o n p (symbol LeftBracket) = none
on_united k o n p (symbol RightBracket) = shut k (disj o (conj n p))
on_united k o n p (symbol LeftParen) = none
on_united k o n p (symbol RightParen) = right k (disj o (conj n p))
on_united k o n p (symbol Star) = none
on_united k o n p (symbol DoubleColon) = none
on_united k o n p (word w) = joined (join_of w) k o n p

abbrev pub on_ended : Context → Path → Token → Move
on_ended top p t = none
on_ended (unit k o n) p t = on_united k o n (some p) t

abbrev pub on_stepped : Context → Path → Token → Move
on_stepped c p (symbol Slash) = to (due c (past p))
on_stepped c p (symbol DoubleSlash) = to (test c (past p) descendant true)
on_stepped c p (symbol LeftBracket) = none
on_stepped c p (symbol RightBracket) = on_ended c p (symbol RightBracket)
on_stepped c p (symbol LeftParen) = none
on_stepped c p (symbol RightParen) = on_ended c p (symbol RightParen)
on_stepped c p (symbol Star) = none
on_stepped c p (symbol DoubleColon) = none
on_stepped c p (word w) = on_ended c p (word w)

abbrev pub on_tested : Context → Before → Axis → NodeTest → Token → Move
on_tested c b v t (symbol Slash) = on_stepped c (ext b v t plain) (symbol Slash)
on_tested c b v t (symbol DoubleSlash) = on_stepped c (ext b v t plain) (symbol DoubleSlash)
on_tested c b v t (symbol LeftBracket) = down (begin (unit (bracket c b v t) no no))
on_tested c b v t (symbol RightBracket) = on_stepped c (ext b v t plain) (symbol RightBracket)
on_tested c b v t (symbol LeftParen) = none
on_tested c b v t (symbol RightParen) = on_stepped c (ext b v t plain) (symbol RightParen)
on_tested c b v t (symbol Star) = none
on_tested c b v t (symbol DoubleColon) = none
on_tested c b v t (word w) = on_stepped c (ext b v t plain) (word w)

abbrev pub typed : AsTest → Context → Before → Axis → Move
typed istext c b v = to (close c b v text)
typed isnode c b v = to (close c b v node)
typed AsTest.isnt c b v = none

abbrev pub on_named : Context → Before → Axis → List ℕ → Token → Move
on_named c b v w (symbol Slash) = on_tested c b v (name w) (symbol Slash)
on_named c b v w (symbol DoubleSlash) = on_tested c b v (name w) (symbol DoubleSlash)
on_named c b v w (symbol LeftBracket) = on_tested c b v (name w) (symbol LeftBracket)
on_named c b v w (symbol RightBracket) = on_tested c b v (name w) (symbol RightBracket)
on_named c b v w (symbol LeftParen) = typed (test_of w) c b v
on_named c b v w (symbol RightParen) = on_tested c b v (name w) (symbol RightParen)
on_named c b v w (symbol Star) = none
on_named c b v w (symbol DoubleColon) = none
on_named c b v w (word x) = on_tested c b v (name w) (word x)

abbrev pub on_axis : AsAxis → Context → Before → Move
on_axis (is v) c b = to (test c b v false)
on_axis AsAxis.isnt c b = none

abbrev pub on_pend : Context → Before → List ℕ → Token → Move
on_pend c b w (symbol Slash) = on_named c b child w (symbol Slash)
on_pend c b w (symbol DoubleSlash) = on_named c b child w (symbol DoubleSlash)
on_pend c b w (symbol LeftBracket) = on_named c b child w (symbol LeftBracket)
on_pend c b w (symbol RightBracket) = on_named c b child w (symbol RightBracket)
on_pend c b w (symbol LeftParen) = on_named c b child w (symbol LeftParen)
on_pend c b w (symbol RightParen) = on_named c b child w (symbol RightParen)
on_pend c b w (symbol Star) = none
on_pend c b w (symbol DoubleColon) = on_axis (axis_of_word w) c b
on_pend c b w (word x) = on_named c b child w (word x)

abbrev pub on_close : Context → Before → Axis → NodeTest → Token → Move
on_close c b v t (symbol Slash) = none
on_close c b v t (symbol DoubleSlash) = none
on_close c b v t (symbol LeftBracket) = none
on_close c b v t (symbol RightBracket) = none
on_close c b v t (symbol LeftParen) = none
on_close c b v t (symbol RightParen) = to (tested c b v t)
on_close c b v t (symbol Star) = none
on_close c b v t (symbol DoubleColon) = none
on_close c b v t (word x) = none

-- a step begins here, or began before
abbrev pub charged : Bool → Context → ℕ → Move → Act
charged true c a m = begins (where_is c) a m
charged false c a m = act m

abbrev pub on_test : Context → Before → Axis → Bool → Token → ℕ → Act
on_test c b v s (symbol Slash) a = act none
on_test c b v s (symbol DoubleSlash) a = act none
on_test c b v s (symbol LeftBracket) a = act none
on_test c b v s (symbol RightBracket) a = act none
on_test c b v s (symbol LeftParen) a = act none
on_test c b v s (symbol RightParen) a = act none
on_test c b v s (symbol Star) a = charged s c a (to (tested c b v element))
on_test c b v s (symbol DoubleColon) a = act none
on_test c b v s (word w) a = charged s c a (to (named c b v w))

abbrev pub on_due : Context → Before → Token → ℕ → Act
on_due c b (symbol Slash) a = act none
on_due c b (symbol DoubleSlash) a = act none
on_due c b (symbol LeftBracket) a = act none
on_due c b (symbol RightBracket) a = act none
on_due c b (symbol LeftParen) a = act none
on_due c b (symbol RightParen) a = act none
on_due c b (symbol Star) a = begins (where_is c) a (to (tested c b child element))
on_due c b (symbol DoubleColon) a = act none
on_due c b (word w) a = begins (where_is c) a (to (pend c b w))

abbrev pub lone : Bool → Opened → Side → Side → List ℕ → ℕ → Act
lone true k o n w a = act (to (either k o n a))
lone false k o n w a = begins inner a (to (pend (unit k o n) (start false) w))

abbrev pub worded : Context → List ℕ → ℕ → Act
worded top w a = begins outer a (to (pend top (start false) w))
worded (unit k o n) w a = lone (same w not_word) k o n w a

abbrev pub grouped : Context → Act
grouped top = act none
grouped (unit k o n) = act (down (begin (unit (group k o n) no no)))

abbrev pub on_begin : Context → Token → ℕ → Act
on_begin c (symbol Slash) a = act (to (due c (start true)))
on_begin c (symbol DoubleSlash) a = act (to (test c (start true) descendant true))
on_begin c (symbol LeftBracket) a = act none
on_begin c (symbol RightBracket) a = act none
on_begin c (symbol LeftParen) a = grouped c
on_begin c (symbol RightParen) a = act none
on_begin c (symbol Star) a = begins (where_is c) a (to (tested c (start false) child element))
on_begin c (symbol DoubleColon) a = act none
on_begin c (word w) a = worded c w a

abbrev pub on_either : Opened → Side → Side → ℕ → Token → Act
on_either k o n d (symbol Slash) = begins inner d (on_pend (unit k o n) (start false) not_word (symbol Slash))
on_either k o n d (symbol DoubleSlash) = begins inner d (on_pend (unit k o n) (start false) not_word (symbol DoubleSlash))
on_either k o n d (symbol LeftBracket) = begins inner d (on_pend (unit k o n) (start false) not_word (symbol LeftBracket))
on_either k o n d (symbol RightBracket) = begins inner d (on_pend (unit k o n) (start false) not_word (symbol RightBracket))
on_either k o n d (symbol LeftParen) = act (down (begin (unit (negate k o n) no no)))
on_either k o n d (symbol RightParen) = begins inner d (on_pend (unit k o n) (start false) not_word (symbol RightParen))
on_either k o n d (symbol Star) = begins inner d none
on_either k o n d (symbol DoubleColon) = begins inner d none
on_either k o n d (word x) = begins inner d (on_pend (unit k o n) (start false) not_word (word x))

abbrev pub next : State → Token → ℕ → Act
next (begin c) t a = on_begin c t a
next (due c b) t a = on_due c b t a
next (test c b v s) t a = on_test c b v s t a
next (pend c b w) t a = act (on_pend c b w t)
next (named c b v w) t a = act (on_named c b v w t)
next (close c b v x) t a = act (on_close c b v x t)
next (tested c b v x) t a = act (on_tested c b v x t)
next (stepped c p) t a = act (on_stepped c p t)
next (united k o n p) t a = act (on_united k o n p t)
next (either k o n d) t a = on_either k o n d t

-- where the text ends: the query, too early, or too early behind a step that begins at a place
pub data Last : Type 0 where
  whole : Path → Last
  early : Last
  behind : ℕ → Last

abbrev pub ended : Context → Path → Last
ended top p = whole p
ended (unit k o n) p = early

abbrev pub last : State → Last
last (begin c) = early
last (due c b) = early
last (test c b v s) = early
last (pend c b w) = ended c (ext b child (name w) plain)
last (named c b v w) = ended c (ext b v (name w) plain)
last (close c b v x) = early
last (tested c b v x) = ended c (ext b v x plain)
last (stepped c p) = ended c p
last (united k o n p) = early
last (either k o n d) = behind d

pub data Outcome : Type 0 where
  accepted : Path → Outcome
  refused : ℕ → ℕ → Outcome

-- what a token does within l levels, o steps outside and i inside
pub data Turn : Type 0 where
  stop : ℕ → ℕ → Turn
  go : State → ℕ → ℕ → ℕ → Turn

abbrev pub move : Move → ℕ → ℕ → ℕ → ℕ → Turn
move none a l o i = stop 4 a
move (to s) a l o i = go s l o i
move (down s) a zero o i = stop 5 a
move (down s) a (suc l) o i = go s l o i
move (up s) a l o i = go s (suc l) o i

abbrev pub turn : Act → ℕ → ℕ → ℕ → ℕ → Turn
turn (act m) a l o i = move m a l o i
turn (begins outer b m) a l zero i = stop 6 b
turn (begins outer b m) a l (suc o) i = move m a l o i
turn (begins inner b m) a l o zero = stop 6 b
turn (begins inner b m) a l o (suc i) = move m a l o i

-- the end or a faulty token, of code k at a
abbrev pub at_end : Last → ℕ → ℕ → Outcome
at_end (whole p) e i = accepted p
at_end early e i = refused 4 e
at_end (behind d) e zero = refused 6 d
at_end (behind d) e (suc i) = refused 4 e

abbrev pub at_fault : Last → ℕ → ℕ → ℕ → Outcome
at_fault (whole p) k a i = refused k a
at_fault early k a i = refused k a
at_fault (behind d) k a zero = refused 6 d
at_fault (behind d) k a (suc i) = refused k a

-- e is the place of the end
abbrev pub run : ℕ → State → ℕ → ℕ → ℕ → List Placed → Outcome
run e s l o i [] = at_end (last s) e i
run e s l o i (tokens.bad k a ∷ ts) = at_fault (last s) k a i
run e s l o i (token t a ∷ ts) = elim (turn (next s t a) a l o i) [ stop k b ↦ refused k b | go r m p j ↦ run e r m p j ts ]

abbrev pub outcome : List ℕ → Outcome
outcome bs = elim (nat_lt 512 (length bs)) [ true ↦ refused 1 512 | false ↦ run (length bs) (begin top) 12 16 23 (tokens_at bs 0) ]
