-- What the words of the work area mean after any list of calls, by the progress of its granted calls.
use Rattle.std.specs.Prelude.{◌≡◌, ℕ, ◌-◌, ◌<◌, ◌≤◌, List, Some}
use Rattle.rows.specs.Rows.{Row, count_of}
use Rattle.automata.specs.Program.{Program}
use Rattle.commands.specs.Denotes.{Denotes}
use Rattle.tallying.specs.Bits.{RisenBits, FallenBits}
use Rattle.history.specs.History.{Progress}

-- with a program loaded: until all nodes have been risen over, the words of those risen over; from then on, all words of nodes
pub record WordsMean (rows : List Row) (p : Progress) (ws : List ℕ) : Type 0 where
  pub rising : (b : List ℕ) (P : Program) → p.program ≡ Some b → Denotes b P → p.risen < count_of rows → RisenBits P rows (count_of rows - p.risen) ws
  pub falling : (b : List ℕ) (P : Program) → p.program ≡ Some b → Denotes b P → count_of rows ≤ p.risen → FallenBits P rows p.fallen ws
