-- From a query straight to a settled selector, and to a tally.
use Rattle.std.specs.Prelude.{◌≡◌, ℕ, ◌-◌, Bool, cond, ◌&&◌, List, take, Some, None, Ok, Err, Option, Result, nat_le}
use Rattle.rows.specs.Rows.{Row, count_of}
use Rattle.query.specs.declared.parsed.Query.{Query}
use Rattle.query.specs.Queries.{query_of}
use Rattle.selection.specs.Selects.{Store, Selects}
use Rattle.tally.specs.Monoid.{marks_of}
use Rattle.tallying.specs.Nodes.{Lists}
use Rattle.translate.specs.Outcome.{Granted}
use Rattle.selector.specs.declared.phase.Phase.TheVariants.{Settled}
use Rattle.selector.specs.Steps.{State}
use Rattle.settle.specs.Settling.{swept, Ready}
use Rattle.select.specs.declared.fault.Fault.{Fault}
use Rattle.select.specs.declared.fault.Fault.TheVariants.{Memory, SmallWork, NoSpan}

-- the first refusal of two
abbrev pub before : Option Fault → Option Fault → Option Fault
before (Some f) o = Some f
before None o = o

abbrev pub unless_so : Bool → Fault → Option Fault
unless_so b f = cond b None (Some f)

-- refused below 2,048 bytes for the program, then below one word a node; n is the tree's count, p the bytes and w the words lent
abbrev pub prepare_refusal : ℕ → ℕ → ℕ → Option Fault
prepare_refusal n p w = before (unless_so (nat_le 2048 p) Memory) (unless_so (nat_le n w) SmallWork)

-- then where the span does not lie in the tree
abbrev pub select_refusal : ℕ → ℕ → ℕ → ℕ → ℕ → Option Fault
select_refusal n p w lo hi = before (prepare_refusal n p w) (unless_so (nat_le lo hi && nat_le hi n) NoSpan)

abbrev pub answered : Option Fault → Result (Unit {0}) Fault
answered (Some f) = Err f
answered None = Ok tt

-- Where a call is refused, selector, program buffer and work area are as before. Granted, the buffer begins with a translation
-- of the query, which is loaded and settled.
pub record Prepared (names : Store) (q : Query) (rows : List Row) (old new : List ℕ) (s : State) (ws vs : List ℕ) : Type 0 where
  pub size : ℕ
  pub translated : Granted names q old new size
  pub state : s ≡ record { bytes = take size new; count = count_of rows; phase = Settled }
  pub words : vs ≡ swept rows (take size new) ws
  pub ready : Ready names (query_of q) rows s vs

abbrev pub Prepares : Option Fault → Store → Query → List Row → List ℕ → List ℕ → State → State → List ℕ → List ℕ → Type 0
Prepares (Some f) names q rows old new s t ws vs = (new ≡ old) × (t ≡ s) × (vs ≡ ws)
Prepares None names q rows old new s t ws vs = Prepared names q rows old new t ws vs

-- a tally of the nodes of a span that the query selects: the join of their marks in document order
abbrev pub Tells : {V : Type 0} → V → (ℕ → V) → (V → V → V) → Store → Query → List Row → ℕ → ℕ → V → Type 0
Tells empty mark join names q rows lo hi v =
    (vs : List ℕ) × Lists (Selects names (query_of q) rows) lo (hi - lo) vs × (v ≡ marks_of empty mark join vs)
