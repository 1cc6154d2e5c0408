-- A list of calls and answers as one kind of tally sees it: tallies of other kinds are told of, without their values.
use Rattle.std.specs.Prelude.{ℕ, Bool, false, cond, List, [], ◌∷◌, ◌==◌, Ok, Err, Result}
use Rattle.selector.specs.declared.fault.Fault.{Fault}
use Rattle.selector.specs.Calls.{Call, load, rise, fall, tally, other, Answer, refused, loaded, left, value, told}
use Rattle.history.specs.History.{Turn}
use Rattle.history.specs.declared.calls.Call.{Call as Held}
use Rattle.history.specs.declared.calls.Call.TheVariants.{Load, Rise, Fall, Tally}
use Rattle.history.specs.declared.calls.Reply.{Reply}
use Rattle.history.specs.declared.calls.Reply.TheVariants.{Loaded, Left, Value}

-- an answer of the code
abbrev pub Given : Type 0 → Type 0
Given S = Result (Reply S) Fault

abbrev pub call_by : ℕ → Held → Call
call_by i (Load p) = load p.now
call_by i (Rise k) = rise k
call_by i (Fall k) = fall k
call_by i (Tally k lo hi) = cond (k == i) (tally lo hi) (other lo hi)

-- whether a call is a tally of kind i
abbrev pub of_kind : ℕ → Held → Bool
of_kind i (Load p) = false
of_kind i (Rise k) = false
of_kind i (Fall k) = false
of_kind i (Tally k lo hi) = k == i

abbrev pub answer_by : {S V : Type 0} → (S → V) → Bool → Given S → Answer V
answer_by f b (Err e) = refused e
answer_by f b (Ok Loaded) = loaded
answer_by f b (Ok (Left n)) = left n
answer_by f b (Ok (Value s)) = cond b (value (f s)) told

abbrev pub turn_by : {S V : Type 0} → ℕ → (S → V) → Held → Given S → Turn V
turn_by i f c a = record { call = call_by i c; answer = answer_by f (of_kind i c) a }

abbrev pub turns_by : {S V : Type 0} → ℕ → (S → V) → List Held → List (Given S) → List (Turn V)
turns_by i f [] gs = []
turns_by i f (c ∷ cs) [] = []
turns_by i f (c ∷ cs) (g ∷ gs) = turn_by i f c g ∷ turns_by i f cs gs
