-- What a query text is cut into.
use Rattle.std.specs.Prelude.{ℕ, zero, suc, ◌+◌, ◌-◌, Bool, true, false, cond, List, [], ◌∷◌, take, drop, ◌==◌, nat_le}
use Rattle.std.specs.List.{prefix_len}
use Rattle.grammar.specs.Bytes.{white, begins, named}
use Rattle.grammar.specs.declared.tokens.Symbol.{Symbol}
use Rattle.grammar.specs.declared.tokens.Symbol.TheVariants.{Slash, DoubleSlash, LeftBracket, RightBracket, LeftParen, RightParen, Star, DoubleColon}

-- a token by itself, without its place
pub data Token : Type 0 where
  symbol : Symbol → Token
  word : List ℕ → Token

-- what stands at the front of a list of bytes
pub data Front : Type 0 where
  found : Token → ℕ → Front
  done : Front
  strange : Front
  long : Front

abbrev pub first_is : ℕ → List ℕ → Bool
first_is b [] = false
first_is b (x ∷ xs) = x == b

abbrev pub name_of : List ℕ → Front
name_of bs = cond (nat_le (prefix_len named bs) 32) (found (word (take (prefix_len named bs) bs)) (prefix_len named bs)) long

-- the token that begins with the byte b, before the bytes bs
abbrev pub front_of : ℕ → List ℕ → Front
front_of b bs =
    cond (b == 47) (cond (first_is 47 bs) (found (symbol DoubleSlash) 2) (found (symbol Slash) 1))
    (cond (b == 91) (found (symbol LeftBracket) 1)
    (cond (b == 93) (found (symbol RightBracket) 1)
    (cond (b == 40) (found (symbol LeftParen) 1)
    (cond (b == 41) (found (symbol RightParen) 1)
    (cond (b == 42) (found (symbol Star) 1)
    (cond (b == 58) (cond (first_is 58 bs) (found (symbol DoubleColon) 2) strange)
    (cond (begins b) (name_of (b ∷ bs)) strange)))))))

-- a token with its place, or a refusal with its code and place
pub data Placed : Type 0 where
  token : Token → ℕ → Placed
  bad : ℕ → ℕ → Placed

-- The tokens of the bytes bs, of which the first is at the place p and the first k belong to a token that has been told.
abbrev pub cut : List ℕ → ℕ → ℕ → List Placed
cut [] k p = []
cut (b ∷ bs) (suc k) p = cut bs k (p + 1)
cut (b ∷ bs) zero p = elim (white b) [ true ↦ cut bs 0 (p + 1) | false ↦ elim (front_of b bs) [ found t n ↦ token t p ∷ cut bs (n - 1) (p + 1) | done ↦ [] | strange ↦ bad 2 p ∷ [] | long ↦ bad 3 p ∷ [] ] ]

-- the tokens of a text from a place on
abbrev pub tokens_at : List ℕ → ℕ → List Placed
tokens_at bs p = cut (drop p bs) 0 p
