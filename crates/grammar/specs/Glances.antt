-- What stands next.
use Rattle.std.specs.Prelude.{ℕ, Bool, true, false, ◌&&◌, List, [], ◌∷◌, ◌==◌}
use Rattle.grammar.specs.declared.tokens.Symbol.{Symbol}
use Rattle.grammar.specs.declared.tokens.Symbol.TheVariants.{Slash, DoubleSlash, LeftBracket, RightBracket, LeftParen, RightParen, Star, DoubleColon}
use Rattle.grammar.specs.Tokens.{Token, symbol, word, Placed, token}
use Rattle.grammar.specs.Tokens as tokens
use Rattle.grammar.specs.Syntax.{not_word}
use Rattle.grammar.specs.Machine.{same}

abbrev pub number : Symbol → ℕ
number Slash = 0
number DoubleSlash = 1
number LeftBracket = 2
number RightBracket = 3
number LeftParen = 4
number RightParen = 5
number Star = 6
number DoubleColon = 7

abbrev pub next_is : Symbol → List Placed → Bool
next_is m [] = false
next_is m (tokens.bad k a ∷ ts) = false
next_is m (token (symbol k) a ∷ ts) = number m == number k
next_is m (token (word w) a ∷ ts) = false

-- a name
abbrev pub next_name : List Placed → Bool
next_name [] = false
next_name (tokens.bad k a ∷ ts) = false
next_name (token (symbol k) a ∷ ts) = false
next_name (token (word w) a ∷ ts) = true

-- the word x
abbrev pub next_word : List ℕ → List Placed → Bool
next_word x [] = false
next_word x (tokens.bad k a ∷ ts) = false
next_word x (token (symbol k) a ∷ ts) = false
next_word x (token (word w) a ∷ ts) = same w x

-- `not` and `(`
abbrev pub next_not : List Placed → Bool
next_not [] = false
next_not (tokens.bad k a ∷ ts) = false
next_not (token (symbol k) a ∷ ts) = false
next_not (token (word w) a ∷ ts) = same w not_word && next_is LeftParen ts

-- nothing
abbrev pub next_end : List Placed → Bool
next_end [] = true
next_end (tokens.bad k a ∷ ts) = false
next_end (token t a ∷ ts) = false

-- How what stands next is refused where it may not stand, in a text that ends at e.
abbrev pub fault_code : List Placed → ℕ
fault_code [] = 4
fault_code (tokens.bad k a ∷ ts) = k
fault_code (token t a ∷ ts) = 4

abbrev pub fault_place : ℕ → List Placed → ℕ
fault_place e [] = e
fault_place e (tokens.bad k a ∷ ts) = a
fault_place e (token t a ∷ ts) = a
