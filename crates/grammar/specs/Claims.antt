use Rattle.std.specs.Prelude.{◌≡◌, ℕ, ◌<◌, ◌≤◌, List, [], ◌∷◌, ◌++◌, length, codes}
use Rattle.grammar.specs.declared.tokens.Symbol.TheVariants.{Slash, DoubleSlash, LeftBracket, RightBracket, LeftParen, RightParen, Star, DoubleColon}
use Rattle.grammar.specs.Tokens.{Token, symbol, word, Placed, token, bad, tokens_at}
use Rattle.grammar.specs.Syntax.{Path, own, in_path, not_word}
use Rattle.grammar.specs.Grammar.{IsPath}
use Rattle.grammar.specs.Machine.{outcome, accepted, refused}
use Rattle.grammar.specs.Spelling.{spell}

-- q is derived from the tokens of the text, within the limits
pub record Reads (bs : List ℕ) (q : Path) : Type 0 where
  pub derived : IsPath 12 (tokens_at bs 0) q []
  pub outside : own q ≤ 16
  pub inside : in_path q ≤ 23
  pub short : length bs ≤ 512

abbrev pub Sound : Type 0
Sound = (bs : List ℕ) (q : Path) → outcome bs ≡ accepted q → Reads bs q

abbrev pub Complete : Type 0
Complete = (bs : List ℕ) (q : Path) → Reads bs q → outcome bs ≡ accepted q

-- no text is read as two queries
abbrev pub Unambiguous : Type 0
Unambiguous = (bs : List ℕ) (p q : Path) → Reads bs p → Reads bs q → p ≡ q

-- the spelling of a query that was read is read as the query
abbrev pub ReadsBack : Type 0
ReadsBack = (bs : List ℕ) (q : Path) → outcome bs ≡ accepted q → outcome (spell q) ≡ accepted q

-- no text that is read as the query is shorter than its spelling
abbrev pub Shortest : Type 0
Shortest = (bs : List ℕ) (q : Path) → outcome bs ≡ accepted q → length (spell q) ≤ length bs

-- the tokens are of the grammar, with any number of levels and steps
abbrev pub Text : List Placed → Type 0
Text ts = (l : ℕ) × (q : Path) × IsPath l ts q []

-- the tokens begin a text of the grammar
abbrev pub Begins : List Placed → Type 0
Begins ts = (us : List Placed) × Text (ts ++ us)

-- Where the tokens ts, of a text that ends at e, leave the grammar: at a token through which they begin no text of
-- the grammar, and before which they begin one; or at the end.
pub data Leaves (ts : List Placed) (e a : ℕ) : Type 0 where
  at_token : (pre : List Placed) (t : Token) (us : List Placed) → ts ≡ pre ++ (token t a ∷ us) → Begins pre → ((vs : List Placed) → Text (pre ++ (token t a ∷ vs)) → ⊥) → Leaves ts e a
  at_end : a ≡ e → Begins ts → (Text ts → ⊥) → Leaves ts e a

abbrev pub Code4 : Type 0
Code4 = (bs : List ℕ) (a : ℕ) → outcome bs ≡ refused 4 a → Leaves (tokens_at bs 0) (length bs) a

-- the number of levels is a bound
abbrev pub Wider : Type 0
Wider = (l m : ℕ) (ts : List Placed) (q : Path) → l ≤ m → IsPath l ts q [] → IsPath m ts q []

-- no tokens are of two queries, with any number of levels
abbrev pub OneQuery : Type 0
OneQuery = (l m : ℕ) (ts : List Placed) (p q : Path) → IsPath l ts p [] → IsPath m ts q [] → p ≡ q

-- no `(` stands first
abbrev pub NotParen : List Placed → Type 0
NotParen [] = Unit {0}
NotParen (bad k a ∷ ts) = Unit {0}
NotParen (token (symbol Slash) a ∷ ts) = Unit {0}
NotParen (token (symbol DoubleSlash) a ∷ ts) = Unit {0}
NotParen (token (symbol LeftBracket) a ∷ ts) = Unit {0}
NotParen (token (symbol RightBracket) a ∷ ts) = Unit {0}
NotParen (token (symbol LeftParen) a ∷ ts) = ⊥
NotParen (token (symbol RightParen) a ∷ ts) = Unit {0}
NotParen (token (symbol Star) a ∷ ts) = Unit {0}
NotParen (token (symbol DoubleColon) a ∷ ts) = Unit {0}
NotParen (token (word w) a ∷ ts) = Unit {0}

-- Why the tokens ts are refused, by code and place. A faulty token: those before it begin a text of the grammar.
-- A level: those through it begin one, and none of 12 levels. A step: those through it begin one, and none of 16 steps
-- outside and 23 inside; of `not`, none that goes on without `(`.
pub data Why (ts : List Placed) : ℕ → ℕ → Type 0 where
  faulty : (pre us : List Placed) (k a : ℕ) → ts ≡ pre ++ (bad k a ∷ us) → Begins pre → Why ts k a
  grammatical : (a : ℕ) → Why ts 4 a
  deep : (pre : List Placed) (t : Token) (us : List Placed) (a : ℕ) → ts ≡ pre ++ (token t a ∷ us) → ((vs : List Placed) × Text (pre ++ (token t a ∷ vs))) → ((vs : List Placed) (q : Path) → IsPath 12 (pre ++ (token t a ∷ vs)) q [] → ⊥) → Why ts 5 a
  many : (pre : List Placed) (t : Token) (us : List Placed) (a : ℕ) → ts ≡ pre ++ (token t a ∷ us) → ((vs : List Placed) × Text (pre ++ (token t a ∷ vs))) → ((l : ℕ) (vs : List Placed) (q : Path) → (t ≡ word not_word → NotParen vs) → IsPath l (pre ++ (token t a ∷ vs)) q [] → own q ≤ 16 → in_path q ≤ 23 → ⊥) → Why ts 6 a

abbrev pub Limits : Type 0
Limits = (bs : List ℕ) (k a : ℕ) → length bs ≤ 512 → outcome bs ≡ refused k a → Why (tokens_at bs 0) k a

abbrev pub Long : Type 0
Long = (bs : List ℕ) → 512 < length bs → outcome bs ≡ refused 1 512

pub record Worked : Type 0 where
  pub empty : outcome [] ≡ refused 4 0
  pub colon : outcome (codes "a:b") ≡ refused 2 1
  pub foo : outcome (codes "foo::b") ≡ refused 4 3
  pub deep : outcome (codes "a//self::b") ≡ refused 4 7
  pub early : outcome (codes "//a[b") ≡ refused 4 5
