-- What holds of the words from load to tally, however the nodes are shared out among the rises and falls.
use Rattle.std.specs.Prelude.{◌≡◌, ℕ, ◌+◌, ◌-◌, ◌<◌, ◌≤◌, List, length, Some, slice_index}
use Rattle.rows.specs.Rows.{Row, count_of as count, Lawful}
use Rattle.automata.specs.Program.{Program, Proper, Decisions, Right, Marked}
use Rattle.commands.specs.declared.command.Command.{Command}
use Rattle.commands.specs.Commands.{commands_of}
use Rattle.commands.specs.Decoded.{decoded}
use Rattle.commands.specs.Rules.{after_deciding}
use Rattle.sweep.specs.Rising.{risen}
use Rattle.sweep.specs.Falling.{fallen}
use Rattle.sweep.specs.Claims.{Rose}
use Rattle.tallying.specs.Nodes.{marked_nodes, Lists}

-- a program that load grants, with its tree
pub record Loaded (bytes : List ℕ) (P : Program) (rows : List Row) : Type 0 where
  pub decodes : decoded bytes ≡ Some P
  pub proper : Proper P
  pub lawful : Lawful rows

-- the nodes from `left` on have been risen over
pub record Rising (bytes : List ℕ) (rows : List Row) (left : ℕ) (ws : List ℕ) : Type 0 where
  pub old : List ℕ
  pub room : count rows ≤ length old
  pub within : left ≤ count rows
  pub is : ws ≡ risen rows (commands_of bytes) left (count rows - left) old

-- all nodes have been risen over, and those before `next` fallen over
pub record Falling (bytes : List ℕ) (P : Program) (rows : List Row) (next : ℕ) (ws : List ℕ) : Type 0 where
  pub up : List ℕ
  pub rose : Rose P rows up
  pub room : count rows ≤ length up
  pub within : next ≤ count rows
  pub is : ws ≡ fallen rows (after_deciding (commands_of bytes)) 0 next up

pub record Stages (bytes : List ℕ) (P : Program) (rows : List Row) : Type 0 where
  pub begin : (ws : List ℕ) → count rows ≤ length ws → Rising bytes rows (count rows) ws
  pub rise : (left k : ℕ) (ws : List ℕ) → k ≤ left → Rising bytes rows left ws → Rising bytes rows (left - k) (risen rows (commands_of bytes) (left - k) k ws)
  pub turn : (ws : List ℕ) → Rising bytes rows 0 ws → Falling bytes P rows 0 ws
  pub fall : (next k : ℕ) (ws : List ℕ) → next + k ≤ count rows → Falling bytes P rows next ws → Falling bytes P rows (next + k) (fallen rows (after_deciding (commands_of bytes)) next k ws)
  -- the marked nodes of any span are those that the program marks, by decisions that are right
  pub settle : (ws : List ℕ) → Falling bytes P rows (count rows) ws
      → (D : Decisions) × Right P.deciding D rows
      × ((lo k : ℕ) → lo + k ≤ count rows → Lists (Marked P D rows) lo k (marked_nodes (after_deciding (commands_of bytes)) ws lo k))

abbrev pub StagesStand : Type 0
StagesStand = (bytes : List ℕ) (P : Program) (rows : List Row) → Loaded bytes P rows → Stages bytes P rows

-- words that are the same for all nodes
abbrev pub Agree : List Row → List ℕ → List ℕ → Type 0
Agree rows xs ys = (v : ℕ) → v < count rows → slice_index xs v ≡ slice_index ys v

-- The words after all rises, and after any falls then, depend on the program and the rows alone, and not on what the work area had.
pub record SettledWords (cs rules : List Command) (rows : List Row) : Type 0 where
  pub risen_same : (xs ys : List ℕ) → count rows ≤ length xs → count rows ≤ length ys → Agree rows (risen rows cs 0 (count rows) xs) (risen rows cs 0 (count rows) ys)
  pub fallen_same : (v k : ℕ) (xs ys : List ℕ) → v + k ≤ count rows → count rows ≤ length xs → count rows ≤ length ys → Agree rows xs ys
      → Agree rows (fallen rows rules v k xs) (fallen rows rules v k ys)

abbrev pub WordsSettle : Type 0
WordsSettle = (cs rules : List Command) (rows : List Row) → SettledWords cs rules rows
