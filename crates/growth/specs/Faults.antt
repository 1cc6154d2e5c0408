-- The number of each refusal of a feed.
use Rattle.std.specs.Prelude.{ℕ}
use Rattle.growth.specs.declared.fault.Fault.{Fault}
use Rattle.growth.specs.declared.fault.Fault.TheVariants.{Slot, Label, Full, Memory, RootOnly, StillOpen}

abbrev pub code_of : Fault → ℕ
code_of Slot = 8
code_of Label = 9
code_of Full = 10
code_of Memory = 11
code_of RootOnly = 12
code_of StillOpen = 13
