-- The number of the refusal of a translation.
use Rattle.std.specs.Prelude.{ℕ}
use Rattle.translate.specs.declared.fault.Fault.{Fault}
use Rattle.translate.specs.declared.fault.Fault.TheVariants.{Memory}

abbrev pub code_of : Fault → ℕ
code_of Memory = 11
