-- Runs of calls from a new selector, and what their granted calls amount to.
use Rattle.std.specs.Prelude.{◌≡◌, ℕ, ◌+◌, Bool, true, false, List, [], ◌∷◌, length, Some, None, Option}
use Rattle.selector.specs.declared.fault.Fault.{Fault}
use Rattle.selector.specs.Calls.{Call, load, rise, fall, tally, other, Answer, refused, loaded, left, value, told}
use Rattle.selector.specs.Steps.{State, refusal, state_after, words_after, left_over, told_nodes}
use Rattle.rows.specs.Rows.{Row, count_of as count}
use Rattle.tally.specs.Monoid.{marks_of}

-- a call with its answer
pub record Turn (V : Type 0) : Type 0 where
  pub call : Call
  pub answer : Answer V

abbrev pub granted : {V : Type 0} → Answer V → Bool
granted (refused f) = false
granted loaded = true
granted (left n) = true
granted (value v) = true
granted told = true

-- the program of the last granted load, and the sums of the numbers k of the rises and of the falls granted since
pub record Progress : Type 0 where
  pub program : Option (List ℕ)
  pub risen : ℕ
  pub fallen : ℕ

abbrev pub start : Progress
start = record { program = None; risen = 0; fallen = 0 }

abbrev pub counted : Progress → Call → Bool → Progress
counted p c false = p
counted p (load b) true = record { program = Some b; risen = 0; fallen = 0 }
counted p (rise k) true = record { program = p.program; risen = p.risen + k; fallen = p.fallen }
counted p (fall k) true = record { program = p.program; risen = p.risen; fallen = p.fallen + k }
counted p (tally lo hi) true = p
counted p (other lo hi) true = p

abbrev pub after : {V : Type 0} → Progress → Turn V → Progress
after p t = counted p t.call (granted t.answer)

abbrev pub progress : {V : Type 0} → Progress → List (Turn V) → Progress
progress p [] = p
progress p (t ∷ ts) = progress (after p t) ts

module _ {V : Type 0} (empty : V) (mark : ℕ → V) (join : V → V → V) (rows : List Row) where
  abbrev pub reply_by : Option Fault → State → List ℕ → Call → Answer V
  reply_by (Some f) s ws c = refused f
  reply_by None s ws (load b) = loaded
  reply_by None s ws (rise k) = left (left_over s.phase s.count k)
  reply_by None s ws (fall k) = left (left_over s.phase s.count k)
  reply_by None s ws (tally lo hi) = value (marks_of empty mark join (told_nodes s ws lo hi))
  reply_by None s ws (other lo hi) = told

  abbrev pub reply : State → List ℕ → Call → Answer V
  reply s ws c = reply_by (refusal s (count rows) (length ws) c) s ws c

  -- each turn works on what the earlier left, and s' and ws' are left last
  abbrev pub Ran : State → List ℕ → List (Turn V) → State → List ℕ → Type 0
  Ran s ws [] s' ws' = (s' ≡ s) × (ws' ≡ ws)
  Ran s ws (t ∷ ts) s' ws' = (t.answer ≡ reply s ws t.call) × Ran (state_after rows s ws t.call) (words_after rows s ws t.call) ts s' ws'
