-- The program of a query.
use Rattle.std.specs.Prelude.{ℕ, suc, ◌+◌, List, [], ◌∷◌, ◌++◌, length, Some, None, Option}
use Rattle.grammar.specs.Syntax.{Axis, self, child, descendant, following_sibling, NodeTest, Path, more, Filter, plain, holds, Pred, some}
use Rattle.grammar.specs.Syntax as query
use Rattle.automata.specs.Program.{Formula, kind, label_is, true, first, next, here, and, or, not, Move, down, on, stay, mark, Rule, Program}
use Rattle.automata.specs.Program as program
use Rattle.names.specs.Store.{label_of}
use Rattle.selection.specs.Selects.{Store}

abbrev pub passing : Store → NodeTest → Formula
passing names query.element = kind program.element
passing names (query.name w) = and (kind program.element) (label_is (label_of names w))
passing names query.text = kind program.text
passing names query.node = true

-- where a step along the axis begins to look: state p, there
abbrev pub beginning : Axis → ℕ → Formula
beginning self p = here p
beginning child p = first p
beginning descendant p = first p
beginning following_sibling p = next p

-- the state p that looks for f along the axis
abbrev pub looking : Axis → ℕ → Formula → Formula
looking self p f = f
looking child p f = or f (next p)
looking descendant p f = or f (or (first p) (next p))
looking following_sibling p f = or f (next p)

abbrev pub both : Formula → Option Formula → Formula
both f None = f
both f (Some g) = and f g

-- what a predicate becomes: deciding states, numbered from a given number, and a formula that asks them
pub record Piece : Type 0 where
  pub states : List Formula
  pub asks : Formula

-- the same of what may be missing: a bracket, or the steps that follow one
pub record Part : Type 0 where
  pub states : List Formula
  pub asks : Option Formula

abbrev pub piece : List Formula → Formula → Piece
piece s f = record { states = s; asks = f }

abbrev pub missing : Part
missing = record { states = []; asks = None }

abbrev pub part : Piece → Part
part p = record { states = p.states; asks = Some p.asks }

-- A step in a bracket: the states of what follows it, those of its own bracket, and its own. Then each state asks of its
-- node only lower ones.
abbrev pub onto : Axis → Formula → Part → Part → ℕ → Piece
onto a f b c k =
    let ss = c.states ++ b.states in
    piece (ss ++ (looking a (k + length ss) (both (both f b.asks) c.asks) ∷ [])) (beginning a (k + length ss))

abbrev mutual
  -- the path, before the part c, whose states are numbered from k
  pub of_path : Store → Path → Part → ℕ → Piece
  of_path names (query.first s a t f) c k = onto a (passing names t) (of_filter names f (k + length c.states)) c k
  of_path names (more p a t f) c k = of_path names p (part (onto a (passing names t) (of_filter names f (k + length c.states)) c k)) k

  pub of_filter : Store → Filter → ℕ → Part
  of_filter names plain k = missing
  of_filter names (holds p) k = part (of_pred names p k)

  pub of_pred : Store → Pred → ℕ → Piece
  of_pred names (some p) k = of_path names p missing k
  of_pred names (query.not p) k = let b = of_pred names p k in piece b.states (not b.asks)
  of_pred names (query.and p q) k =
      let c = of_pred names q k in
      let b = of_pred names p (k + length c.states) in
      piece (c.states ++ b.states) (and b.asks c.asks)
  of_pred names (query.or p q) k =
      let c = of_pred names q k in
      let b = of_pred names p (k + length c.states) in
      piece (c.states ++ b.states) (or b.asks c.asks)

-- the steps of a path outside brackets, in order, and then others
pub record Step : Type 0 where
  pub axis : Axis
  pub test : NodeTest
  pub filter : Filter

abbrev pub step : Axis → NodeTest → Filter → Step
step a t f = record { axis = a; test = t; filter = f }

abbrev pub steps_onto : Path → List Step → List Step
steps_onto (query.first s a t f) ss = step a t f ∷ ss
steps_onto (more p a t f) ss = steps_onto p (step a t f ∷ ss)

abbrev pub steps_of : Path → List Step
steps_of p = steps_onto p []

-- The states of the steps' brackets, those of the last step first.
abbrev pub brackets : Store → List Step → List Formula
brackets names [] = []
brackets names (s ∷ ss) = let r = brackets names ss in r ++ (of_filter names s.filter (length r)).states

-- For each step a state that says whether a node passes its test and bracket.
abbrev pub matching : Store → List Step → List Formula
matching names [] = []
matching names (s ∷ ss) = both (passing names s.test) (of_filter names s.filter (length (brackets names ss))).asks ∷ matching names ss

-- all deciding states; between the two kinds one that holds everywhere
abbrev pub deciding : Store → List Step → List Formula
deciding names ss = brackets names ss ++ (true ∷ matching names ss)

-- the moves that begin a step, and those that keep looking
abbrev pub begin : Axis → ℕ → List Move
begin self q = stay q ∷ []
begin child q = down q ∷ []
begin descendant q = down q ∷ []
begin following_sibling q = on q ∷ []

abbrev pub keep : Axis → ℕ → List Move
keep self q = []
keep child q = on q ∷ []
keep descendant q = down q ∷ (on q ∷ [])
keep following_sibling q = on q ∷ []

abbrev pub rule : ℕ → List Move → Rule
rule p ms = record { when = p; moves = ms }

-- the deciding state m holds everywhere
abbrev pub keeping : Axis → ℕ → ℕ → List Rule
keeping self m j = []
keeping child m j = rule m (keep child j) ∷ []
keeping descendant m j = rule m (keep descendant j) ∷ []
keeping following_sibling m j = rule m (keep following_sibling j) ∷ []

-- what a state does where its step's deciding state holds: it begins the next step, or marks
abbrev pub going : ℕ → List Step → List Move
going j [] = mark ∷ []
going j (s ∷ ss) = begin s.axis (suc j)

-- The sending states from j on: state j looks along an axis, and the steps follow. Its step's deciding state is m + j.
abbrev pub sending : ℕ → ℕ → Axis → List Step → List (List Rule)
sending m j a [] = (keeping a m j ++ (rule (m + j) (going j []) ∷ [])) ∷ []
sending m j a (s ∷ ss) = (keeping a m j ++ (rule (m + j) (going j (s ∷ ss)) ∷ [])) ∷ sending m (suc j) s.axis ss

-- state 0 is that of the root, before the first step
abbrev pub of_steps : Store → List Step → Program
of_steps names ss = record { deciding = deciding names ss; sending = sending (length (brackets names ss)) 0 self ss }

abbrev pub translate : Store → Path → Program
translate names q = of_steps names (steps_of q)
