-- The short spelling: the tokens that a query needs, and a space only between two names that meet.
use Rattle.std.specs.Prelude.{ℕ, Bool, true, false, List, [], ◌∷◌, ◌++◌}
use Rattle.grammar.specs.declared.tokens.Symbol.{Symbol}
use Rattle.grammar.specs.declared.tokens.Symbol.TheVariants.{Slash, DoubleSlash, LeftBracket, RightBracket, LeftParen, RightParen, Star, DoubleColon}
use Rattle.grammar.specs.Tokens.{Token, symbol, word}
use Rattle.grammar.specs.Syntax.{Axis, self, child, descendant, following_sibling, NodeTest, element, name, text, node, Path, first, more, Filter, plain, holds, Pred, some, not, and, or, axis_word, text_word, node_word, not_word, or_word, and_word}

-- where a predicate stands: alone, beside `or`'s right or `and`'s left, beside `and`'s right
pub data Place : Type 0 where
  low : Place
  mid : Place
  high : Place

abbrev pub or_wraps : Place → Bool
or_wraps low = false
or_wraps mid = true
or_wraps high = true

abbrev pub and_wraps : Place → Bool
and_wraps low = false
and_wraps mid = false
and_wraps high = true

abbrev pub wrap : Bool → (List Token → List Token) → List Token → List Token
wrap true f us = symbol LeftParen ∷ f (symbol RightParen ∷ us)
wrap false f us = f us

abbrev pub axis_t : Axis → List Token → List Token
axis_t self us = word (axis_word self) ∷ symbol DoubleColon ∷ us
axis_t child us = us
axis_t descendant us = word (axis_word descendant) ∷ symbol DoubleColon ∷ us
axis_t following_sibling us = word (axis_word following_sibling) ∷ symbol DoubleColon ∷ us

abbrev pub slash_t : Axis → List Token → List Token
slash_t self us = symbol Slash ∷ word (axis_word self) ∷ symbol DoubleColon ∷ us
slash_t child us = symbol Slash ∷ us
slash_t descendant us = symbol DoubleSlash ∷ us
slash_t following_sibling us = symbol Slash ∷ word (axis_word following_sibling) ∷ symbol DoubleColon ∷ us

abbrev pub test_t : NodeTest → List Token → List Token
test_t element us = symbol Star ∷ us
test_t (name w) us = word w ∷ us
test_t text us = word text_word ∷ symbol LeftParen ∷ symbol RightParen ∷ us
test_t node us = word node_word ∷ symbol LeftParen ∷ symbol RightParen ∷ us

-- the tokens of a query, before the tokens us
abbrev mutual
  pub path_t : Path → List Token → List Token
  path_t (first true v t f) us = slash_t v (test_t t (filter_t f us))
  path_t (first false v t f) us = axis_t v (test_t t (filter_t f us))
  path_t (more p v t f) us = path_t p (slash_t v (test_t t (filter_t f us)))

  pub filter_t : Filter → List Token → List Token
  filter_t plain us = us
  filter_t (holds p) us = symbol LeftBracket ∷ pred_t p low (symbol RightBracket ∷ us)

  pub pred_t : Pred → Place → List Token → List Token
  pred_t (some p) k us = path_t p us
  pred_t (not p) k us = word not_word ∷ symbol LeftParen ∷ pred_t p low (symbol RightParen ∷ us)
  pred_t (and p q) k us = wrap (and_wraps k) (λ vs. pred_t p mid (word and_word ∷ pred_t q high vs)) us
  pred_t (or p q) k us = wrap (or_wraps k) (λ vs. pred_t p low (word or_word ∷ pred_t q mid vs)) us

abbrev pub glyph : Symbol → List ℕ
glyph Slash = 47 ∷ []
glyph DoubleSlash = 47 ∷ 47 ∷ []
glyph LeftBracket = 91 ∷ []
glyph RightBracket = 93 ∷ []
glyph LeftParen = 40 ∷ []
glyph RightParen = 41 ∷ []
glyph Star = 42 ∷ []
glyph DoubleColon = 58 ∷ 58 ∷ []

abbrev pub bytes : Token → List ℕ
bytes (symbol m) = glyph m
bytes (word w) = w

abbrev pub gap : Token → List Token → List ℕ
gap (symbol m) ts = []
gap (word w) [] = []
gap (word w) (symbol m ∷ ts) = []
gap (word w) (word x ∷ ts) = 32 ∷ []

abbrev pub write : List Token → List ℕ
write [] = []
write (t ∷ ts) = bytes t ++ (gap t ts ++ write ts)

abbrev pub spell : Path → List ℕ
spell q = write (path_t q [])
