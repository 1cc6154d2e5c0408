-- What is proved of the states of every program.
use Rattle.std.specs.Prelude.{◌≡◌, List, [], ◌↔◌, ◌⊎◌, ℕ, suc, ◌≤◌, ◌<◌, T, length, get_or}
use Rattle.rows.specs.Rows.{Row, count_of as count, Lawful}
use Rattle.automata.specs.Program.{Formula, Decisions, Right, Risen, TrueAt, true, Move, ProperStates, Proper, Enters, Entered, Makes, Leads, Marked, Marks, Decides, Comes, Program}

-- Formulas that name only what is defined settle which states hold where: there are such decisions, and no two differ.
abbrev pub Settled : Type 0
Settled =
    (states : List Formula) (rows : List Row) → ProperStates states
    → ((D : Decisions) × Right states D rows)
    × ((D E : Decisions) → Right states D rows → Right states E rows → (p v : ℕ) → p < length states → v < count rows → T (D p v) ↔ T (E p v))

-- A rise that goes through the nodes from the last down, and at each node through the states from 0 up, makes D right.
pub record Rises (states : List Formula) (rows : List Row) : Type 0 where
  pub none : (D : Decisions) (v : ℕ) → count rows ≤ suc v → Risen states D rows v 0
  -- E is D with the state p at v set to what its formula says by D
  pub more : (D E : Decisions) (v p : ℕ) → v < count rows → p < length states
      → ((q u : ℕ) → ¬ ((q ≡ p) × (u ≡ v)) → T (D q u) ↔ T (E q u))
      → T (E p v) ↔ TrueAt (get_or states p true) D rows v
      → Risen states D rows v p → Risen states E rows v (suc p)
  pub node : (D : Decisions) (v : ℕ) → Risen states D rows (suc v) (length states) → Risen states D rows v 0
  pub all : (D : Decisions) → Risen states D rows 0 (length states) → Right states D rows

abbrev pub Rising : Type 0
Rising = (states : List Formula) (rows : List Row) → ProperStates states → Rises states rows

-- A fall that goes through the nodes from the first up, and at each node through the states from 0 up, meets each state after all that enters it.
pub record Falls (P : Program) (D : Decisions) (rows : List Row) : Type 0 where
  pub none : (q w : ℕ) → Entered P.sending D rows 0 0 q w ↔ ((q ≡ 0) × (w ≡ 0))
  pub known : (v j : ℕ) → Enters P.sending D rows j v ↔ Entered P.sending D rows v j j v
  pub more : (v j q w : ℕ)
      → Entered P.sending D rows v (suc j) q w
      ↔ (Entered P.sending D rows v j q w
      ⊎ (Entered P.sending D rows v j j v × ((m : Move) × Makes (get_or P.sending j []) D v m × Leads m rows v q w)))
  pub node : (v j q w : ℕ) → length P.sending ≤ j → Entered P.sending D rows v j q w ↔ Entered P.sending D rows (suc v) 0 q w
  pub all : (v q w : ℕ) → count rows ≤ v → Entered P.sending D rows v 0 q w ↔ Enters P.sending D rows q w

abbrev pub Falling : Type 0
Falling = (P : Program) (D : Decisions) (rows : List Row) → Lawful rows → Proper P → Falls P D rows

-- What a program does depends on its right decisions alone, and they all say the same.
pub record Agrees (P : Program) (D : Decisions) (rows : List Row) : Type 0 where
  pub decides : (p v : ℕ) → p < length P.deciding → v < count rows → T (D p v) ↔ Decides P rows p v
  pub comes : (v q w : ℕ) → Entered P.sending D rows v 0 q w ↔ Comes P rows v q w
  pub marks : (v : ℕ) → Marked P D rows v ↔ Marks P rows v

abbrev pub Agreeing : Type 0
Agreeing = (P : Program) (D : Decisions) (rows : List Row) → Lawful rows → Proper P → Right P.deciding D rows → Agrees P D rows
