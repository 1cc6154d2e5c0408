-- The law of the selector over any list of calls.
use Rattle.std.specs.Prelude.{◌≡◌, ℕ, ◌-◌, ◌≤◌, true, ◌⊎◌, ◌↔◌, List, [], ◌∷◌, ◌++◌, Some, ◌≢◌}
use Rattle.rows.specs.Rows.{Row, count_of as count}
use Rattle.automata.specs.Program.{Program, Marks}
use Rattle.grammar.specs.Syntax.{Path}
use Rattle.selection.specs.Selects.{Store, Selects}
use Rattle.translation.specs.Translation.{Translation}
use Rattle.commands.specs.Checked.{Loadable}
use Rattle.commands.specs.Denotes.{Denotes}
use Rattle.tally.specs.Monoid.{marks_of}
use Rattle.tallying.specs.Nodes.{Lists}
use Rattle.selector.specs.Calls.{load, tally, Answer, value}
use Rattle.history.specs.History.{Turn, Progress, granted, progress, start}

-- a tally of the span is due: it lies in the tree, a program is loaded, and every node has since been risen over and fallen over
pub record Due (n : ℕ) (p : Progress) (lo hi : ℕ) : Type 0 where
  pub ordered : lo ≤ hi
  pub inside : hi ≤ n
  pub program : (b : List ℕ) × (p.program ≡ Some b)
  pub risen : n ≤ p.risen
  pub fallen : n ≤ p.fallen

-- a bracketing of tallies, each with its span
pub data Bracketing (V : Type 0) : Type 0 where
  one : ℕ → ℕ → V → Bracketing V
  two : Bracketing V → Bracketing V → Bracketing V

abbrev pub first : {V : Type 0} → Bracketing V → ℕ
first (one lo hi v) = lo
first (two a b) = first a

abbrev pub last : {V : Type 0} → Bracketing V → ℕ
last (one lo hi v) = hi
last (two a b) = last b

abbrev pub total : {V : Type 0} → (V → V → V) → Bracketing V → V
total join (one lo hi v) = v
total join (two a b) = join (total join a) (total join b)

-- a granted tally of that span and value is among the turns
abbrev pub Among : {V : Type 0} → List (Turn V) → ℕ → ℕ → V → Type 0
Among [] lo hi v = ⊥
Among (t ∷ ts) lo hi v = ((t.call ≡ tally lo hi) × (t.answer ≡ value v)) ⊎ Among ts lo hi v

-- the tallies are granted ones of these turns, over adjoining spans
abbrev pub Adjoin : {V : Type 0} → List (Turn V) → Bracketing V → Type 0
Adjoin ts (one lo hi v) = Among ts lo hi v
Adjoin ts (two a b) = Adjoin ts a × Adjoin ts b × (last a ≡ first b)

-- no granted load is among the turns
abbrev pub NoLoad : {V : Type 0} → List (Turn V) → Type 0
NoLoad [] = Unit {0}
NoLoad (t ∷ ts) = ((b : List ℕ) → t.call ≡ load b → granted t.answer ≢ true) × NoLoad ts

module _ {V : Type 0} (empty : V) (mark : ℕ → V) (join : V → V → V) where
  -- the answer is the join of the marks of those of the k nodes from lo on that are so, in document order, each once
  pub record Told (Q : ℕ → Type 0) (lo k : ℕ) (a : Answer V) : Type 0 where
    pub nodes : List ℕ
    pub lists : Lists Q lo k nodes
    pub joins : a ≡ value (marks_of empty mark join nodes)

module _ {V : Type 0} (empty : V) (mark : ℕ → V) (join : V → V → V) (rows : List Row) where
  -- what the answer to a call has to be, after such progress
  pub record Fair (p : Progress) (t : Turn V) : Type 0 where
    -- a load of a translation of a query is granted
    pub load_translation : (names : Store) (q : Path) (b : List ℕ) → t.call ≡ load b → Translation names q b → granted t.answer ≡ true
    -- so is one of the bytes of any program that keeps the rules, and no other
    pub load_granted : (b : List ℕ) (P : Program) → t.call ≡ load b → Denotes b P → granted t.answer ≡ true
    pub load_only : (b : List ℕ) → t.call ≡ load b → granted t.answer ≡ true → Loadable b
    -- a tally is granted exactly when it is due
    pub tally_granted : (lo hi : ℕ) → t.call ≡ tally lo hi → (granted t.answer ≡ true) ↔ Due (count rows) p lo hi
    -- with a translation of a query loaded, its value joins the marks of the nodes that the query selects
    pub tally_selects : (names : Store) (q : Path) (lo hi : ℕ) (b : List ℕ) → t.call ≡ tally lo hi → granted t.answer ≡ true → p.program ≡ Some b → Translation names q b
        → Told empty mark join (Selects names q rows) lo (hi - lo) t.answer
    -- with any program loaded, it joins the marks of the nodes that the program marks
    pub tally_value : (lo hi : ℕ) (b : List ℕ) (P : Program) → t.call ≡ tally lo hi → granted t.answer ≡ true → p.program ≡ Some b → Denotes b P
        → Told empty mark join (Marks P rows) lo (hi - lo) t.answer

  -- the law: each answer is fair, and tallies of adjoining spans join to that of the whole
  pub record Lawful (ts : List (Turn V)) : Type 0 where
    pub fair : (earlier : List (Turn V)) (t : Turn V) (later : List (Turn V)) → ts ≡ earlier ++ (t ∷ later) → Fair (progress start earlier) t
    pub joins : (earlier some later : List (Turn V)) → ts ≡ earlier ++ (some ++ later) → NoLoad some →
        (b : Bracketing V) (v : V) → Adjoin some b → Among some (first b) (last b) v → total join b ≡ v
