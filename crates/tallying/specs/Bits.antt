-- What each bit of a word means.
use Rattle.std.specs.Prelude.{◌≡◌, ℕ, ◌+◌, ◌-◌, ◌<◌, ◌≤◌, T, ◌⊎◌, ◌↔◌, List, length, slice_index}
use Rattle.rows.specs.Rows.{Row, count_of, Lawful}
use Rattle.automata.specs.Program.{Program, Decides, Comes}
use Rattle.words.specs.Bit.{bit}
use Rattle.commands.specs.Commands.{commands_of}
use Rattle.commands.specs.Denotes.{Denotes}
use Rattle.commands.specs.Rules.{after_deciding}
use Rattle.sweep.specs.Rising.{risen}
use Rattle.sweep.specs.Falling.{fallen}

-- The nodes from `left` on have been risen over: bit i of their words is set exactly when the deciding state i holds, and no other bit but bit 40 at node 0.
pub record RisenBits (P : Program) (rows : List Row) (left : ℕ) (ws : List ℕ) : Type 0 where
  pub deciding : (i v : ℕ) → i < length P.deciding → left ≤ v → v < count_of rows → T (bit (slice_index ws v) i) ↔ Decides P rows i v
  pub others : (i v : ℕ) → length P.deciding ≤ i → left ≤ v → v < count_of rows → T (bit (slice_index ws v) i) ↔ ((i ≡ 40) × (v ≡ 0))

-- All nodes have been risen over and those before `next` fallen over: bit i is set exactly when the deciding state i holds, bit 40 + j exactly when the sending
-- state j enters the node by a move made before `next`, or is state 0 at the root, and no other bit.
pub record FallenBits (P : Program) (rows : List Row) (next : ℕ) (ws : List ℕ) : Type 0 where
  pub deciding : (i v : ℕ) → i < length P.deciding → v < count_of rows → T (bit (slice_index ws v) i) ↔ Decides P rows i v
  pub sending : (j v : ℕ) → v < count_of rows → T (bit (slice_index ws v) (40 + j)) ↔ Comes P rows next j v
  pub others : (i v : ℕ) → length P.deciding ≤ i → i < 40 → v < count_of rows → ¬ T (bit (slice_index ws v) i)

-- What a rise leaves; all other words keep their contents.
abbrev pub RiseBits : Type 0
RiseBits =
    (bytes : List ℕ) (P : Program) (rows : List Row) (ws : List ℕ) (left : ℕ) → Denotes bytes P → Lawful rows → count_of rows ≤ length ws → left ≤ count_of rows
    → let after = risen rows (commands_of bytes) left (count_of rows - left) ws in
    RisenBits P rows left after × ((u : ℕ) → (u < left) ⊎ (count_of rows ≤ u) → slice_index after u ≡ slice_index ws u)

-- What falls leave after a rise over all nodes; the words past the nodes keep their contents.
abbrev pub FallBits : Type 0
FallBits =
    (bytes : List ℕ) (P : Program) (rows : List Row) (ws : List ℕ) (next : ℕ) → Denotes bytes P → Lawful rows → count_of rows ≤ length ws → next ≤ count_of rows
    → let after = fallen rows (after_deciding (commands_of bytes)) 0 next (risen rows (commands_of bytes) 0 (count_of rows) ws) in
    FallenBits P rows next after × ((u : ℕ) → count_of rows ≤ u → slice_index after u ≡ slice_index ws u)
