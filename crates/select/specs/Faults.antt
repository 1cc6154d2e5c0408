-- The number of each refusal.
use Rattle.std.specs.Prelude.{ℕ}
use Rattle.select.specs.declared.fault.Fault.{Fault}
use Rattle.select.specs.declared.fault.Fault.TheVariants.{Memory, SmallWork, NoSpan}

abbrev pub code_of : Fault → ℕ
code_of Memory = 11
code_of SmallWork = 19
code_of NoSpan = 21
