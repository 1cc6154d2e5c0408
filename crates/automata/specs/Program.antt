-- Programs, and which nodes they mark.
use Rattle.std.specs.Prelude.{◌≡◌, Bool, List, [], ◌∷◌, ◌⊎◌, ◌↔◌, ℕ, suc, ◌+◌, ◌≤◌, ◌<◌, max, T, length, get_or}
use Rattle.rows.specs.Rows.{Row, count_of as count, label_of as label, FirstChild, NextSibling}

pub data Kind : Type 0 where
  root text element : Kind

-- what a deciding state asks of a node
pub data Formula : Type 0 where
  kind : Kind → Formula
  label_is : ℕ → Formula
  true : Formula
  first next here : ℕ → Formula
  and or : Formula → Formula → Formula
  not : Formula → Formula

-- what a sending state does at a node
pub data Move : Type 0 where
  down on stay : ℕ → Move
  mark : Move

-- where the deciding state `when` holds, the moves are made
pub record Rule : Type 0 where
  pub when : ℕ
  pub moves : List Move

pub record Program : Type 0 where
  pub deciding : List Formula
  pub sending : List (List Rule)

-- Which deciding states hold at which nodes: a state, then a node.
abbrev pub Decisions : Type 0
Decisions = ℕ → ℕ → Bool

abbrev pub OfKind : List Row → Kind → ℕ → Type 0
OfKind rows root v = label rows v ≡ 0
OfKind rows text v = label rows v ≡ 1
OfKind rows element v = 2 ≤ label rows v

-- the formula holds at v, if the deciding states hold where D says
abbrev pub TrueAt : Formula → Decisions → List Row → ℕ → Type 0
TrueAt (kind k) D rows v = OfKind rows k v
TrueAt (label_is c) D rows v = label rows v ≡ c
TrueAt true D rows v = Unit {0}
TrueAt (first p) D rows v = (w : ℕ) × FirstChild rows v w × T (D p w)
TrueAt (next p) D rows v = (w : ℕ) × NextSibling rows v w × T (D p w)
TrueAt (here p) D rows v = T (D p v)
TrueAt (and f g) D rows v = TrueAt f D rows v × TrueAt g D rows v
TrueAt (or f g) D rows v = TrueAt f D rows v ⊎ TrueAt g D rows v
TrueAt (not f) D rows v = ¬ TrueAt f D rows v

-- D is right: each deciding state holds where its formula does
abbrev pub Right : List Formula → Decisions → List Row → Type 0
Right states D rows = (p v : ℕ) → p < length states → v < count rows → T (D p v) ↔ TrueAt (get_or states p true) D rows v

-- D is right at the nodes after v, and for the states below p at v
pub record Risen (states : List Formula) (D : Decisions) (rows : List Row) (v p : ℕ) : Type 0 where
  pub after : (q u : ℕ) → q < length states → v < u → u < count rows → T (D q u) ↔ TrueAt (get_or states q true) D rows u
  pub below : (q : ℕ) → q < p → T (D q v) ↔ TrueAt (get_or states q true) D rows v

-- every state that the formula names is one of n states, and one that it asks of the node itself is lower than p
abbrev pub Names : Formula → ℕ → ℕ → Type 0
Names (kind k) n p = Unit {0}
Names (label_is c) n p = Unit {0}
Names true n p = Unit {0}
Names (first q) n p = q < n
Names (next q) n p = q < n
Names (here q) n p = q < p
Names (and f g) n p = Names f n p × Names g n p
Names (or f g) n p = Names f n p × Names g n p
Names (not f) n p = Names f n p

abbrev pub ProperStates : List Formula → Type 0
ProperStates states = (p : ℕ) → p < length states → Names (get_or states p true) (length states) p

-- some element of the list is so
abbrev pub Some : {A : Type 0} → (A → Type 0) → List A → Type 0
Some P [] = ⊥
Some P (x ∷ xs) = P x ⊎ Some P xs

-- by the rules the move is made at v
abbrev pub Makes : List Rule → Decisions → ℕ → Move → Type 0
Makes rules D v m = Some (λ r. T (D r.when v) × Some (λ x. x ≡ m) r.moves) rules

-- the move at v makes w enter the state q
abbrev pub Leads : Move → List Row → ℕ → ℕ → ℕ → Type 0
Leads (down p) rows v q w = (p ≡ q) × FirstChild rows v w
Leads (on p) rows v q w = (p ≡ q) × NextSibling rows v w
Leads (stay p) rows v q w = (p ≡ q) × (v ≡ w)
Leads mark rows v q w = ⊥

-- the sending state q enters the node v
pub data Enters (sending : List (List Rule)) (D : Decisions) (rows : List Row) : ℕ → ℕ → Type 0 where
  start : Enters sending D rows 0 0
  sent : {q v r w : ℕ} (m : Move) → Enters sending D rows q v → Makes (get_or sending q []) D v m → Leads m rows v r w → Enters sending D rows r w

abbrev pub Marked : Program → Decisions → List Row → ℕ → Type 0
Marked P D rows v = (q : ℕ) × Enters P.sending D rows q v × Makes (get_or P.sending q []) D v mark

-- the deciding state p holds at v
abbrev pub Decides : Program → List Row → ℕ → ℕ → Type 0
Decides P rows p v = (D : Decisions) → Right P.deciding D rows → T (D p v)

-- the program marks v
abbrev pub Marks : Program → List Row → ℕ → Type 0
Marks P rows v = (D : Decisions) → Right P.deciding D rows → Marked P D rows v

-- the state q enters w by a move made at a node before v, or by a state below j at v, or is the first, at the root
abbrev pub Entered : List (List Rule) → Decisions → List Row → ℕ → ℕ → ℕ → ℕ → Type 0
Entered sending D rows v j q w =
    ((q ≡ 0) × (w ≡ 0))
    ⊎ ((r u : ℕ) × (m : Move) × ((u < v) ⊎ ((u ≡ v) × (r < j))) × Enters sending D rows r u × Makes (get_or sending r []) D u m × Leads m rows u q w)

-- the state q enters w by a move made at a node before v, or is state 0 at the root
abbrev pub Comes : Program → List Row → ℕ → ℕ → ℕ → Type 0
Comes P rows v q w = (D : Decisions) → Right P.deciding D rows → Entered P.sending D rows v 0 q w

-- every element of the list is so
abbrev pub Every : {A : Type 0} → (A → Type 0) → List A → Type 0
Every P [] = Unit {0}
Every P (x ∷ xs) = P x × Every P xs

-- of n sending states, the move names one, and if it stays, one higher than j
abbrev pub Goes : Move → ℕ → ℕ → Type 0
Goes (down q) n j = q < n
Goes (on q) n j = q < n
Goes (stay q) n j = (j < q) × (q < n)
Goes mark n j = Unit {0}

abbrev pub ProperRules : ℕ → ℕ → ℕ → List Rule → Type 0
ProperRules deciding sending j rules = Every (λ r. (r.when < deciding) × Every (λ m. Goes m sending j) r.moves) rules

-- how many values deep the formula's commands go
abbrev pub width : Formula → ℕ
width (kind k) = 1
width (label_is c) = 1
width true = 1
width (first q) = 1
width (next q) = 1
width (here q) = 1
width (and f g) = max (width f) (suc (width g))
width (or f g) = max (width f) (suc (width g))
width (not f) = width f

-- the bytes of the commands
abbrev pub formula_bytes : Formula → ℕ
formula_bytes (kind k) = 2
formula_bytes (label_is c) = 3
formula_bytes true = 1
formula_bytes (first q) = 2
formula_bytes (next q) = 2
formula_bytes (here q) = 2
formula_bytes (and f g) = suc (formula_bytes f + formula_bytes g)
formula_bytes (or f g) = suc (formula_bytes f + formula_bytes g)
formula_bytes (not f) = suc (formula_bytes f)

abbrev pub move_bytes : Move → ℕ
move_bytes (down q) = 2
move_bytes (on q) = 2
move_bytes (stay q) = 2
move_bytes mark = 1

abbrev pub total : {A : Type 0} → (A → ℕ) → List A → ℕ
total f [] = 0
total f (x ∷ xs) = f x + total f xs

abbrev pub bytes : Program → ℕ
bytes P =
    suc (total (λ f. suc (formula_bytes f)) P.deciding
    + total (λ rules. suc (total (λ r. 2 + total move_bytes r.moves) rules)) P.sending)

-- the rules for programs
pub record Proper (P : Program) : Type 0 where
  pub formulas : ProperStates P.deciding
  pub rules : (j : ℕ) → j < length P.sending → ProperRules (length P.deciding) (length P.sending) j (get_or P.sending j [])
  pub deciding_some : 0 < length P.deciding
  pub deciding_few : length P.deciding ≤ 40
  pub sending_some : 0 < length P.sending
  pub sending_few : length P.sending ≤ 24
  pub narrow : Every (λ f. width f ≤ 32) P.deciding
  pub short : bytes P ≤ 2048
