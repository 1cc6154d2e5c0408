-- The program that bytes are of.
use Rattle.std.specs.Prelude.{◌≡◌, ℕ, ◌<◌, ◌↔◌, List, Some}
use Rattle.automata.specs.Program.{Program, Proper, Every}
use Rattle.commands.specs.Decoded.{decoded}
use Rattle.commands.specs.Encoded.{encoded}

-- P keeps the rules for programs, and the bytes are those of its commands
abbrev pub Denotes : List ℕ → Program → Type 0
Denotes bs P = Proper P × (encoded P ≡ bs)

-- what is written is read back
abbrev pub ReadBack : Type 0
ReadBack = (P : Program) → Proper P → decoded (encoded P) ≡ Some P

-- bytes are of one program at most
abbrev pub OneProgram : Type 0
OneProgram = (bs : List ℕ) (P Q : Program) → Denotes bs P → Denotes bs Q → P ≡ Q

-- bytes are of the program that they are read as, if it keeps the rules, and of no other
abbrev pub Reading : Type 0
Reading = (bs : List ℕ) (P : Program) → Every (λ b. b < 256) bs → Denotes bs P ↔ (Proper P × (decoded bs ≡ Some P))
