-- The code of each refusal.
use Rattle.std.specs.Prelude.{ℕ}
use Rattle.program.specs.declared.fault.Fault.TheVariants.{Broken}
use Rattle.program.specs.Faults.{code_of as program_code}
use Rattle.selector.specs.declared.fault.Fault.{Fault}
use Rattle.selector.specs.declared.fault.Fault.TheVariants.{Program, NoProgram, OtherTree, SmallWork, WrongPhase, NoSpan}

abbrev pub code_of : Fault → ℕ
code_of (Program f) = program_code f
code_of NoProgram = 17
code_of OtherTree = 18
code_of SmallWork = 19
code_of WrongPhase = 20
code_of NoSpan = 21

-- the refusal of bytes that are no program
abbrev pub bad_program : Fault
bad_program = Program Broken
