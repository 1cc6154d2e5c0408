-- What each call does, by the phase and the call together.
use Rattle.std.specs.Prelude.{ℕ, ◌+◌, ◌-◌, Bool, true, false, cond, ◌&&◌, List, [], length, take, Some, None, Ok, Err, Option, Result, ◌==◌, nat_le}
use Rattle.selector.specs.Codes.{bad_program}
use Rattle.selector.specs.declared.phase.Phase.{Phase}
use Rattle.selector.specs.declared.phase.Phase.TheVariants.{Empty, Rising, Falling, Settled}
use Rattle.selector.specs.declared.fault.Fault.{Fault}
use Rattle.selector.specs.declared.fault.Fault.TheVariants.{NoProgram, OtherTree, SmallWork, WrongPhase, NoSpan}
use Rattle.selector.specs.declared.selector.Selector.{Selector}
use Rattle.selector.specs.Calls.{Call, load, rise, fall, tally, other}
use Rattle.rows.specs.Rows.{Row, count_of}
use Rattle.commands.specs.Commands.{commands_of}
use Rattle.commands.specs.Rules.{after_deciding}
use Rattle.commands.specs.Checked.{accepted}
use Rattle.sweep.specs.Rising.{risen}
use Rattle.sweep.specs.Falling.{fallen}
use Rattle.tallying.specs.Nodes.{marked_nodes}

-- a selector by what its calls depend on
pub record State : Type 0 where
  pub bytes : List ℕ
  pub count : ℕ
  pub phase : Phase

abbrev pub state_of : Selector → State
state_of s = record { bytes = take s.len s.program; count = s.count; phase = s.phase }

abbrev pub fresh : State
fresh = record { bytes = []; count = 0; phase = Empty }

-- the first refusal of two
abbrev pub before : Option Fault → Option Fault → Option Fault
before (Some f) o = Some f
before None o = o

abbrev pub unless_so : Bool → Fault → Option Fault
unless_so b f = cond b None (Some f)

abbrev pub is_loaded : Phase → Bool
is_loaded Empty = false
is_loaded (Rising l) = true
is_loaded (Falling l) = true
is_loaded Settled = true

abbrev pub is_rising : Phase → Bool
is_rising Empty = false
is_rising (Rising l) = true
is_rising (Falling l) = false
is_rising Settled = false

abbrev pub is_falling : Phase → Bool
is_falling Empty = false
is_falling (Rising l) = false
is_falling (Falling l) = true
is_falling Settled = false

abbrev pub is_settled : Phase → Bool
is_settled Empty = false
is_settled (Rising l) = false
is_settled (Falling l) = false
is_settled Settled = true

-- the codes that rise, fall and tally share, in checking order: n is the tree's count, w the words of the work area
abbrev pub unready : State → ℕ → ℕ → Bool → Option Fault
unready s n w due =
    before (unless_so (is_loaded s.phase) NoProgram)
    (before (unless_so (n == s.count) OtherTree)
    (before (unless_so (nat_le s.count w) SmallWork) (unless_so due WrongPhase)))

abbrev pub refusal : State → ℕ → ℕ → Call → Option Fault
refusal s n w (load p) = unless_so (accepted p) bad_program
refusal s n w (rise k) = unready s n w (is_rising s.phase)
refusal s n w (fall k) = unready s n w (is_falling s.phase)
refusal s n w (tally lo hi) = before (unready s n w (is_settled s.phase)) (unless_so (nat_le lo hi && nat_le hi s.count) NoSpan)
refusal s n w (other lo hi) = before (unready s n w (is_settled s.phase)) (unless_so (nat_le lo hi && nat_le hi s.count) NoSpan)

-- granted, the new value; refused, the old
abbrev pub granted_or : {A : Type 0} → Option Fault → A → A → A
granted_or (Some f) old new = old
granted_or None old new = new

abbrev pub outcome : {A : Type 0} → Option Fault → A → Result A Fault
outcome (Some f) a = Err f
outcome None a = Ok a

-- nodes left after a rise or a fall of k
abbrev pub left_over : Phase → ℕ → ℕ → ℕ
left_over Empty n k = 0
left_over (Rising l) n k = l - k
left_over (Falling v) n k = (n - v) - k
left_over Settled n k = 0

abbrev pub phase_after : Phase → ℕ → ℕ → Phase
phase_after Empty n k = Empty
phase_after (Rising l) n k = cond (l - k == 0) (Falling 0) (Rising (l - k))
phase_after (Falling v) n k = cond ((n - v) - k == 0) Settled (Falling (v + k))
phase_after Settled n k = Settled

abbrev pub moved : State → ℕ → Call → State
moved s n (load p) = record { bytes = p; count = n; phase = Rising n }
moved s n (rise k) = record { bytes = s.bytes; count = s.count; phase = phase_after s.phase s.count k }
moved s n (fall k) = record { bytes = s.bytes; count = s.count; phase = phase_after s.phase s.count k }
moved s n (tally lo hi) = s
moved s n (other lo hi) = s

abbrev pub state_after : List Row → State → List ℕ → Call → State
state_after rows s ws c = granted_or (refusal s (count_of rows) (length ws) c) s (moved s (count_of rows) c)

abbrev pub phase_words : List Row → List ℕ → ℕ → Phase → ℕ → List ℕ → List ℕ
phase_words rows b n Empty k ws = ws
phase_words rows b n (Rising l) k ws = risen rows (commands_of b) (l - k) (l - (l - k)) ws
phase_words rows b n (Falling v) k ws = fallen rows (after_deciding (commands_of b)) v ((n - ((n - v) - k)) - v) ws
phase_words rows b n Settled k ws = ws

abbrev pub rewritten : List Row → State → Call → List ℕ → List ℕ
rewritten rows s (load p) ws = ws
rewritten rows s (rise k) ws = phase_words rows s.bytes s.count s.phase k ws
rewritten rows s (fall k) ws = phase_words rows s.bytes s.count s.phase k ws
rewritten rows s (tally lo hi) ws = ws
rewritten rows s (other lo hi) ws = ws

abbrev pub words_after : List Row → State → List ℕ → Call → List ℕ
words_after rows s ws c = granted_or (refusal s (count_of rows) (length ws) c) ws (rewritten rows s c ws)

-- an outcome, by the value of what is granted
abbrev pub valued : {K V : Type 0} → (K → V) → Result K Fault → Result V Fault
valued f (Ok k) = Ok (f k)
valued f (Err e) = Err e

-- the nodes of a span that the words mark
abbrev pub told_nodes : State → List ℕ → ℕ → ℕ → List ℕ
told_nodes s ws lo hi = marked_nodes (after_deciding (commands_of s.bytes)) ws lo (hi - lo)
