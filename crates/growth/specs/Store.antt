-- What adding a name answers and leaves in the name store.
use Rattle.std.specs.Prelude.{ℕ, cond, List, length, take, Ok, Err, Result, nat_le, slice_set}
use Rattle.names.specs.Names.{is_name}
use Rattle.names.specs.Store.{holds_name}
use Rattle.growth.specs.declared.fault.Fault.{Fault}
use Rattle.growth.specs.declared.fault.Fault.TheVariants.{Slot, Memory}

-- a slot more after k: a new name, the 512th at most, and memory for it
abbrev pub name_check : ℕ → List (List ℕ) → List ℕ → Result (Unit {0}) Fault
name_check k slots s =
    cond (nat_le 512 k) (Err Slot)
    (cond (is_name s) (cond (holds_name (take k slots) s) (Err Slot) (cond (nat_le (length slots) k) (Err Memory) (Ok tt))) (Err Slot))

-- the store after it: a refusal changes nothing
abbrev pub stored : Result (Unit {0}) Fault → ℕ → List (List ℕ) → List ℕ → List (List ℕ)
stored (Ok x) k slots s = slice_set slots k s
stored (Err e) k slots s = slots
