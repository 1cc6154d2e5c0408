-- What a feed file says: its commands one after another, and how it ends.
use Rattle.std.specs.Prelude.{◌≡◌, ℕ, ◌+◌, ◌-◌, List, [], ◌∷◌, length, Some, None, Ok, Err, Result}
use Rattle.rows.specs.Rows.{Row}
use Rattle.growth.specs.declared.command.Command.{Command}
use Rattle.growth.specs.Steps.{Fed}
use Rattle.growth.specs.Commands.{step_check, fed_rows, Granted}
use Rattle.growth.specs.Holding.{Names}
use Rattle.feedfile.specs.declared.command.FileCommand.TheVariants.{Feed, Seal}
use Rattle.feedfile.specs.declared.command.FileFault.{FileFault}
use Rattle.feedfile.specs.declared.command.FileFault.TheVariants.{Unknown, Refused}
use Rattle.feedfile.specs.Bytes.{taken}
use Rattle.feedfile.specs.Reading.{Told}

-- bytes are those of commands, one after another, and then of the rest
abbrev pub Decodes : List ℕ → List Command → List ℕ → Type 0
Decodes bs [] rest = bs ≡ rest
Decodes bs (c ∷ cs) rest = (mid : List ℕ) × (taken bs ≡ Some (Feed c, mid)) × Decodes mid cs rest

-- how the reading of a file of n bytes ends at its rest: at SEAL, where no command stands, or at a command that the feed refuses
abbrev pub Ends : ℕ → Result ℕ FileFault → List ℕ → Fed → List (List ℕ) → Type 0
Ends n (Ok p) rest g us = (p ≡ n - length rest) × ((after : List ℕ) × (taken rest ≡ Some (Seal, after)))
Ends n (Err (Unknown p)) rest g us = (p ≡ n - length rest) × (taken rest ≡ None)
Ends n (Err (Refused e p)) rest g us = (p ≡ n - length rest) × ((c : Command) × (after : List ℕ) × (taken rest ≡ Some (Feed c, after)) × (step_check g us c ≡ Err e))

-- what was told of the bytes of a file of n bytes: the commands read were granted one after another, and then it ended
pub record Tells (n : ℕ) (bs : List ℕ) (f : Fed) (ss : List (List ℕ)) (t : Told) : Type 0 where
  pub commands : List Command
  pub rest : List ℕ
  pub read : Decodes bs commands rest
  pub fed : Granted f ss commands t.feed t.store
  pub ends : Ends n t.answer rest t.feed t.store

-- a file up to the place e, after its SEAL, feeds rows, and k names to a store: the rows are exactly the root and the nodes fed
pub record Grown (file : List ℕ) (e : ℕ) (rows : List Row) (k : ℕ) (store : List (List ℕ)) : Type 0 where
  pub commands : List Command
  pub rest : List ℕ
  pub after : List ℕ
  pub read : Decodes file commands rest
  pub ends : taken rest ≡ Some (Seal, after)
  pub place : e + length after ≡ length file
  pub shown : rows ≡ fed_rows commands
  pub names : Names k store
