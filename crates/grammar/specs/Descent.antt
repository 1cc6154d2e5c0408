-- What a reader by recursive descent says of a call: which state the machine comes to, whatever surrounds the call.
-- e is the place of the end, l the levels left, o and i the steps left outside and inside, ts the tokens to come.
use Rattle.std.specs.Prelude.{◌≡◌, ℕ, List}
use Rattle.grammar.specs.Tokens.{Placed}
use Rattle.grammar.specs.Syntax.{Path, Pred}
use Rattle.grammar.specs.Machine.{Side, no, conj, disj, Context, unit, Opened, begin, stepped, united, Where, where_is, refused, run}

-- what was read, the steps left and the tokens after it; or a code and a place
pub data Read (X : Type 0) : Type 0 where
  ok : X → ℕ → ℕ → List Placed → Read X
  err : ℕ → ℕ → Read X

abbrev pub PathTold : Where → ℕ → ℕ → ℕ → ℕ → List Placed → Read Path → Type 0
PathTold w e l o i ts (ok p x y us) = (c : Context) → where_is c ≡ w → run e (begin c) l o i ts ≡ run e (stepped c p) l x y us
PathTold w e l o i ts (err k a) = (c : Context) → where_is c ≡ w → run e (begin c) l o i ts ≡ refused k a

abbrev pub UnitTold : ℕ → ℕ → ℕ → ℕ → List Placed → Read Pred → Type 0
UnitTold e l o i ts (ok p x y us) = (k : Opened) (s n : Side) → run e (begin (unit k s n)) l o i ts ≡ run e (united k s n p) l x y us
UnitTold e l o i ts (err c a) = (k : Opened) (s n : Side) → run e (begin (unit k s n)) l o i ts ≡ refused c a

-- units joined by `and`: the last of them, and the others on its left
abbrev pub ConjTold : ℕ → ℕ → ℕ → ℕ → List Placed → Read Pred → Type 0
ConjTold e l o i ts (ok p x y us) = (n : Side) × (u : Pred) × (conj n u ≡ p) × ((k : Opened) (s : Side) → run e (begin (unit k s no)) l o i ts ≡ run e (united k s n u) l x y us)
ConjTold e l o i ts (err c a) = (k : Opened) (s : Side) → run e (begin (unit k s no)) l o i ts ≡ refused c a

abbrev pub PredTold : ℕ → ℕ → ℕ → ℕ → List Placed → Read Pred → Type 0
PredTold e l o i ts (ok p x y us) = (s : Side) × (n : Side) × (u : Pred) × (disj s (conj n u) ≡ p) × ((k : Opened) → run e (begin (unit k no no)) l o i ts ≡ run e (united k s n u) l x y us)
PredTold e l o i ts (err c a) = (k : Opened) → run e (begin (unit k no no)) l o i ts ≡ refused c a

abbrev pub mapped : {X Y : Type 0} → (X → Y) → Read X → Read Y
mapped f (ok p x y us) = ok (f p) x y us
mapped f (err k a) = err k a
