-- What the words mean after the sweeps.
use Rattle.std.specs.Prelude.{◌≡◌, ℕ, ◌+◌, ◌<◌, ◌≤◌, false, T, ◌↔◌, List, length, Some, slice_index}
use Rattle.rows.specs.Rows.{Row, count_of as count, Lawful}
use Rattle.automata.specs.Program.{Program, Proper, Decisions, Right, Entered, Marked}
use Rattle.words.specs.Bit.{bit}
use Rattle.commands.specs.Commands.{commands_of}
use Rattle.commands.specs.Decoded.{decoded}
use Rattle.sweep.specs.Rising.{risen}
use Rattle.sweep.specs.Falling.{fallen, marking}
use Rattle.commands.specs.Rules.{after_deciding}

-- the bits of the words as decisions
abbrev pub decisions : List ℕ → Decisions
decisions ws p v = bit (slice_index ws v) p

-- Bit i of a word is set exactly where the deciding state i holds, and no other bit but bit 40 at node 0.
pub record Rose (P : Program) (rows : List Row) (ws : List ℕ) : Type 0 where
  pub right : Right P.deciding (decisions ws) rows
  pub clear : (i v : ℕ) → length P.deciding ≤ i → v < count rows → T (bit (slice_index ws v) i) ↔ ((i ≡ 40) × (v ≡ 0))

-- That is so after a rise over all nodes.
abbrev pub RisesRight : Type 0
RisesRight =
    (bytes : List ℕ) (P : Program) (rows : List Row) (ws : List ℕ) → decoded bytes ≡ Some P → Proper P → Lawful rows → count rows ≤ length ws
    → Rose P rows (risen rows (commands_of bytes) 0 (count rows) ws)

-- After falls over the nodes before v, by decisions D: the deciding bits are D's, and bit 40 + q of a word is set exactly where the state q enters the node by a move made before v, or is state 0 at the root.
pub record Fell (P : Program) (D : Decisions) (rows : List Row) (v : ℕ) (ws : List ℕ) : Type 0 where
  pub low : (i w : ℕ) → i < 40 → w < count rows → bit (slice_index ws w) i ≡ D i w
  pub high : (q w : ℕ) → w < count rows → T (bit (slice_index ws w) (40 + q)) ↔ Entered P.sending D rows v 0 q w

-- That is so from the rise on.
abbrev pub FallsRight : Type 0
FallsRight =
    (bytes : List ℕ) (P : Program) (rows : List Row) (ws : List ℕ) → decoded bytes ≡ Some P → Proper P → Lawful rows → count rows ≤ length ws → Rose P rows ws
    → (v : ℕ) → v ≤ count rows → Fell P (decisions ws) rows v (fallen rows (after_deciding (commands_of bytes)) 0 v ws)

-- After a rise and a fall over all nodes a word is marked exactly where the program marks its node.
abbrev pub MarksRight : Type 0
MarksRight =
    (bytes : List ℕ) (P : Program) (rows : List Row) (ws : List ℕ) → decoded bytes ≡ Some P → Proper P → Lawful rows → count rows ≤ length ws → Rose P rows ws
    → let rules = after_deciding (commands_of bytes) in
    (v : ℕ) → v < count rows → T (marking (slice_index (fallen rows rules 0 (count rows) ws) v) rules 0 false) ↔ Marked P (decisions ws) rows v
