-- Sequences of commands, and the rows that they feed.
use Rattle.std.specs.Prelude.{◌≡◌, ℕ, ◌+◌, ◌-◌, List, [], ◌∷◌, Ok, Result}
use Rattle.rows.specs.Rows.{Row, row}
use Rattle.growth.specs.declared.fault.Fault.{Fault}
use Rattle.growth.specs.declared.command.Command.{Command}
use Rattle.growth.specs.declared.command.Command.TheVariants.{Open, Shut, Text, Name}
use Rattle.growth.specs.Steps.{Fed, open_check, opened, text_check, texted, shut_check, shut, named}
use Rattle.growth.specs.Store.{name_check, stored}

-- the rows that commands feed where d nodes are open: one for each OPEN and TEXT, as deep as there are open nodes
abbrev pub rows_fed : ℕ → List Command → List Row
rows_fed d [] = []
rows_fed d (Open c ∷ cs) = row d c ∷ rows_fed (d + 1) cs
rows_fed d (Shut ∷ cs) = rows_fed (d - 1) cs
rows_fed d (Text ∷ cs) = row d 1 ∷ rows_fed d cs
rows_fed d (Name s ∷ cs) = rows_fed d cs

-- the rows of a feed from its start: the root, then what the commands feed
abbrev pub fed_rows : List Command → List Row
fed_rows cs = row 0 0 ∷ rows_fed 1 cs

-- one command: its answer, and the feed and the name store that it leaves
abbrev pub step_check : Fed → List (List ℕ) → Command → Result (Unit {0}) Fault
step_check f ss (Open c) = open_check f c
step_check f ss Shut = shut_check f
step_check f ss Text = text_check f
step_check f ss (Name s) = name_check f.names ss s

abbrev pub stepped : Fed → Command → Fed
stepped f (Open c) = opened f c
stepped f Shut = shut f
stepped f Text = texted f
stepped f (Name s) = named f

abbrev pub store_after : Result (Unit {0}) Fault → ℕ → List (List ℕ) → Command → List (List ℕ)
store_after r k ss (Open c) = ss
store_after r k ss Shut = ss
store_after r k ss Text = ss
store_after r k ss (Name s) = stored r k ss s

-- commands, each granted, lead from a feed and its name store to a feed and its name store
abbrev pub Granted : Fed → List (List ℕ) → List Command → Fed → List (List ℕ) → Type 0
Granted f ss [] g us = (f ≡ g) × (ss ≡ us)
Granted f ss (c ∷ cs) g us = (step_check f ss c ≡ Ok tt) × Granted (stepped f c) (store_after (Ok tt) f.names ss c) cs g us
