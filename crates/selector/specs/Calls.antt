-- Calls and their answers.
use Rattle.std.specs.Prelude.{ℕ, List}
use Rattle.selector.specs.declared.fault.Fault.{Fault}

pub data Call : Type 0 where
  load : List ℕ → Call
  rise : ℕ → Call
  fall : ℕ → Call
  tally : ℕ → ℕ → Call
  -- a tally of another kind than the one that is looked at
  other : ℕ → ℕ → Call

pub data Answer (V : Type 0) : Type 0 where
  refused : Fault → Answer V
  loaded : Answer V
  left : ℕ → Answer V
  value : V → Answer V
  -- the value of a tally of another kind
  told : Answer V
