-- The refusal of bytes that are no program, and its number.
use Rattle.std.specs.Prelude.{ℕ, cond, List, Ok, Err, Result}
use Rattle.commands.specs.Checked.{accepted}
use Rattle.program.specs.declared.fault.Fault.{Fault}
use Rattle.program.specs.declared.fault.Fault.TheVariants.{Broken}

abbrev pub code_of : Fault → ℕ
code_of Broken = 16

abbrev pub checked : List ℕ → Result (Unit {0}) Fault
checked bs = cond (accepted bs) (Ok tt) (Err Broken)
