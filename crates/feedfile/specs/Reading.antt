-- What reading a feed file answers and leaves.
use Rattle.std.specs.Prelude.{ℕ, zero, suc, ◌+◌, ◌-◌, ◌*◌, Bool, List, [], ◌∷◌, length, Some, None, Ok, Err, Option, Result}
use Rattle.scan.specs.Directory.{bytes}
use Rattle.scan.specs.Filling.{filled}
use Rattle.scan.specs.declared.block.Block.{Block}
use Rattle.growth.specs.declared.command.Command.{Command}
use Rattle.growth.specs.declared.fault.Fault.{Fault}
use Rattle.growth.specs.Steps.{Fed, seal_check, cleared}
use Rattle.growth.specs.Commands.{step_check, stepped, store_after}
use Rattle.feedfile.specs.declared.command.FileCommand.{FileCommand}
use Rattle.feedfile.specs.declared.command.FileCommand.TheVariants.{Feed, Seal}
use Rattle.feedfile.specs.declared.command.FileFault.{FileFault}
use Rattle.feedfile.specs.declared.command.FileFault.TheVariants.{Unknown, Refused}
use Rattle.feedfile.specs.Bytes.{command_of, width}

-- up to SEAL: its place or the fault, and the feed and the name store as the commands before left them
pub record Told : Type 0 where
  pub answer : Result ℕ FileFault
  pub feed : Fed
  pub store : List (List ℕ)

abbrev pub told : Result ℕ FileFault → Fed → List (List ℕ) → Told
told r f ss = record { answer = r; feed = f; store = ss }

-- a command's answer: a refusal ends the reading, and else it goes on past the operands
abbrev pub granted : (ℕ → Fed → List (List ℕ) → Told) → ℕ → Fed → List (List ℕ) → Command → Result (Unit {0}) Fault → Told
granted go p f ss c (Ok x) = go (width c) (stepped f c) (store_after (Ok x) f.names ss c)
granted go p f ss c (Err e) = told (Err (Refused e p)) f ss

-- the command at the place p
abbrev pub next : (ℕ → Fed → List (List ℕ) → Told) → ℕ → Fed → List (List ℕ) → Option FileCommand → Told
next go p f ss None = told (Err (Unknown p)) f ss
next go p f ss (Some Seal) = told (Ok p) f ss
next go p f ss (Some (Feed c)) = granted go p f ss c (step_check f ss c)

-- from the bytes left of a file of n bytes, of which the first k are operands, a feed and its name store
abbrev pub reading : ℕ → ℕ → List ℕ → Fed → List (List ℕ) → Told
reading n k [] f ss = told (Err (Unknown n)) f ss
reading n zero (b ∷ bs) f ss = next (λ (k : ℕ) (g : Fed) (us : List (List ℕ)). reading n k bs g us) (n - length (b ∷ bs)) f ss (command_of b bs)
reading n (suc k) (b ∷ bs) f ss = reading n k bs f ss

-- the reading of a whole file
abbrev pub read_file : List ℕ → Fed → List (List ℕ) → Told
read_file file f ss = reading (length file) 0 file f ss

-- sealing at the place p
abbrev pub sealed_at : ℕ → Result (Unit {0}) Fault → Result ℕ FileFault
sealed_at p (Ok x) = Ok (p + 1)
sealed_at p (Err e) = Err (Refused e p)

-- the answer to the whole file, with d blocks of directory lent: the place after SEAL, or the fault
abbrev pub sealing : Result ℕ FileFault → Fed → ℕ → Result ℕ FileFault
sealing (Ok p) f d = sealed_at p (seal_check f d)
sealing (Err e) f d = Err e

abbrev pub answer_of : Told → ℕ → Result ℕ FileFault
answer_of t d = sealing t.answer t.feed d

-- the parentheses left: sealing clears what is left of the last byte
abbrev pub bits_left : Result ℕ FileFault → Fed → List Bool
bits_left (Ok e) f = cleared f.bits f.written (8 * bytes f.nodes)
bits_left (Err e) f = f.bits

-- the directory left, over the bytes of the parentheses
abbrev pub directory_left : Result ℕ FileFault → Fed → List ℕ → List Block → List Block
directory_left (Ok e) f bits directory = filled bits f.nodes directory
directory_left (Err e) f bits directory = directory
