-- What a reader by recursive descent knows when it looks at the next token: which states are then the same.
use Rattle.std.proofs.Common.{◌≡◌, ℕ, suc, true, false, List, [], ◌∷◌, refl, arith}
use Rattle.grammar.specs.declared.tokens.Symbol.TheVariants.{Slash, DoubleSlash, LeftBracket, RightBracket, LeftParen, RightParen, Star, DoubleColon}
use Rattle.grammar.specs.Tokens.{Token, symbol, word, Placed, token, tokens_at}
use Rattle.grammar.specs.Tokens as tokens
use Rattle.grammar.specs.Syntax.{Axis, child, NodeTest, name, Path, plain, some, not_word}
use Rattle.grammar.specs.Machine.{Before, start, ext, Side, Context, unit, Opened, pend, named, tested, stepped, united, either, refused, run}
use Rattle.grammar.specs.Glances.{next_is}

nope : {X : Type 0} → true ≡ false → X
nope h = let z : ◌≡◌ {A = ℕ} 0 1 = cc in absurd (omega arith)

module _ (e : ℕ) where
  pub plain_step : (c : Context) (b : Before) (v : Axis) (t : NodeTest) (l o i : ℕ) (ts : List Placed) → next_is LeftBracket ts ≡ false → run e (tested c b v t) l o i ts ≡ run e (stepped c (ext b v t plain)) l o i ts
  plain_step c b v t l o i [] h0 = refl
  plain_step c b v t l o i (tokens.bad x a ∷ ts) h0 = refl
  plain_step c b v t l o i (token (symbol Slash) a ∷ ts) h0 = refl
  plain_step c b v t l o i (token (symbol DoubleSlash) a ∷ ts) h0 = refl
  plain_step c b v t l o i (token (symbol LeftBracket) a ∷ ts) h0 = nope h0
  plain_step c b v t l o i (token (symbol RightBracket) a ∷ ts) h0 = refl
  plain_step c b v t l o i (token (symbol LeftParen) a ∷ ts) h0 = refl
  plain_step c b v t l o i (token (symbol RightParen) a ∷ ts) h0 = refl
  plain_step c b v t l o i (token (symbol Star) a ∷ ts) h0 = refl
  plain_step c b v t l o i (token (symbol DoubleColon) a ∷ ts) h0 = refl
  plain_step c b v t l o i (token (word x) a ∷ ts) h0 = refl

  pub name_test : (c : Context) (b : Before) (v : Axis) (w : List ℕ) (l o i : ℕ) (ts : List Placed) → next_is LeftParen ts ≡ false → run e (named c b v w) l o i ts ≡ run e (tested c b v (name w)) l o i ts
  name_test c b v w l o i [] h0 = refl
  name_test c b v w l o i (tokens.bad x a ∷ ts) h0 = refl
  name_test c b v w l o i (token (symbol Slash) a ∷ ts) h0 = refl
  name_test c b v w l o i (token (symbol DoubleSlash) a ∷ ts) h0 = refl
  name_test c b v w l o i (token (symbol LeftBracket) a ∷ ts) h0 = refl
  name_test c b v w l o i (token (symbol RightBracket) a ∷ ts) h0 = refl
  name_test c b v w l o i (token (symbol LeftParen) a ∷ ts) h0 = nope h0
  name_test c b v w l o i (token (symbol RightParen) a ∷ ts) h0 = refl
  name_test c b v w l o i (token (symbol Star) a ∷ ts) h0 = refl
  name_test c b v w l o i (token (symbol DoubleColon) a ∷ ts) h0 = refl
  name_test c b v w l o i (token (word x) a ∷ ts) h0 = refl

  pub child_step : (c : Context) (b : Before) (w : List ℕ) (l o i : ℕ) (ts : List Placed) → next_is DoubleColon ts ≡ false → run e (pend c b w) l o i ts ≡ run e (named c b child w) l o i ts
  child_step c b w l o i [] h0 = refl
  child_step c b w l o i (tokens.bad x a ∷ ts) h0 = refl
  child_step c b w l o i (token (symbol Slash) a ∷ ts) h0 = refl
  child_step c b w l o i (token (symbol DoubleSlash) a ∷ ts) h0 = refl
  child_step c b w l o i (token (symbol LeftBracket) a ∷ ts) h0 = refl
  child_step c b w l o i (token (symbol RightBracket) a ∷ ts) h0 = refl
  child_step c b w l o i (token (symbol LeftParen) a ∷ ts) h0 = refl
  child_step c b w l o i (token (symbol RightParen) a ∷ ts) h0 = refl
  child_step c b w l o i (token (symbol Star) a ∷ ts) h0 = refl
  child_step c b w l o i (token (symbol DoubleColon) a ∷ ts) h0 = nope h0
  child_step c b w l o i (token (word x) a ∷ ts) h0 = refl

  pub unit_done : (k : Opened) (s n : Side) (p : Path) (l o i : ℕ) (ts : List Placed) → next_is Slash ts ≡ false → next_is DoubleSlash ts ≡ false → run e (stepped (unit k s n) p) l o i ts ≡ run e (united k s n (some p)) l o i ts
  unit_done k s n p l o i [] h0 h1 = refl
  unit_done k s n p l o i (tokens.bad x a ∷ ts) h0 h1 = refl
  unit_done k s n p l o i (token (symbol Slash) a ∷ ts) h0 h1 = nope h0
  unit_done k s n p l o i (token (symbol DoubleSlash) a ∷ ts) h0 h1 = nope h1
  unit_done k s n p l o i (token (symbol LeftBracket) a ∷ ts) h0 h1 = refl
  unit_done k s n p l o i (token (symbol RightBracket) a ∷ ts) h0 h1 = refl
  unit_done k s n p l o i (token (symbol LeftParen) a ∷ ts) h0 h1 = refl
  unit_done k s n p l o i (token (symbol RightParen) a ∷ ts) h0 h1 = refl
  unit_done k s n p l o i (token (symbol Star) a ∷ ts) h0 h1 = refl
  unit_done k s n p l o i (token (symbol DoubleColon) a ∷ ts) h0 h1 = refl
  unit_done k s n p l o i (token (word x) a ∷ ts) h0 h1 = refl

  pub not_name : (k : Opened) (s n : Side) (d : ℕ) (l o i : ℕ) (ts : List Placed) → next_is LeftParen ts ≡ false → run e (either k s n d) l o (suc i) ts ≡ run e (pend (unit k s n) (start false) not_word) l o i ts
  not_name k s n d l o i [] h0 = refl
  not_name k s n d l o i (tokens.bad x a ∷ ts) h0 = refl
  not_name k s n d l o i (token (symbol Slash) a ∷ ts) h0 = refl
  not_name k s n d l o i (token (symbol DoubleSlash) a ∷ ts) h0 = refl
  not_name k s n d l o i (token (symbol LeftBracket) a ∷ ts) h0 = refl
  not_name k s n d l o i (token (symbol RightBracket) a ∷ ts) h0 = refl
  not_name k s n d l o i (token (symbol LeftParen) a ∷ ts) h0 = nope h0
  not_name k s n d l o i (token (symbol RightParen) a ∷ ts) h0 = refl
  not_name k s n d l o i (token (symbol Star) a ∷ ts) h0 = refl
  not_name k s n d l o i (token (symbol DoubleColon) a ∷ ts) h0 = refl
  not_name k s n d l o i (token (word x) a ∷ ts) h0 = refl

  pub not_many : (k : Opened) (s n : Side) (d : ℕ) (l o i : ℕ) (ts : List Placed) → next_is LeftParen ts ≡ false → run e (either k s n d) l o 0 ts ≡ refused 6 d
  not_many k s n d l o i [] h0 = refl
  not_many k s n d l o i (tokens.bad x a ∷ ts) h0 = refl
  not_many k s n d l o i (token (symbol Slash) a ∷ ts) h0 = refl
  not_many k s n d l o i (token (symbol DoubleSlash) a ∷ ts) h0 = refl
  not_many k s n d l o i (token (symbol LeftBracket) a ∷ ts) h0 = refl
  not_many k s n d l o i (token (symbol RightBracket) a ∷ ts) h0 = refl
  not_many k s n d l o i (token (symbol LeftParen) a ∷ ts) h0 = nope h0
  not_many k s n d l o i (token (symbol RightParen) a ∷ ts) h0 = refl
  not_many k s n d l o i (token (symbol Star) a ∷ ts) h0 = refl
  not_many k s n d l o i (token (symbol DoubleColon) a ∷ ts) h0 = refl
  not_many k s n d l o i (token (word x) a ∷ ts) h0 = refl
