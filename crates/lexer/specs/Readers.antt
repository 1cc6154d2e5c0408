-- What a reader has still to give, and what its calls take of that.
use Rattle.std.specs.Prelude.{◌≡◌, ℕ, ◌+◌, ◌<◌, ◌≤◌, Bool, true, false, List, [], ◌∷◌, length, take, drop, Some, None, Ok, Err, Option, Result}
use Rattle.grammar.specs.declared.tokens.Symbol.{Symbol}
use Rattle.grammar.specs.declared.tokens.Symbol.TheVariants.{LeftParen}
use Rattle.grammar.specs.Tokens.{Placed, token, bad, symbol, word, tokens_at}
use Rattle.grammar.specs.Syntax.{not_word}
use Rattle.grammar.specs.Glances.{next_is, next_name, next_word, next_not, next_end}
use Rattle.query.specs.declared.fault.Fault.{Fault}
use Rattle.query.specs.Faults.{code_of, place_of}
use Rattle.lexer.specs.declared.tokens.Token.{Token}
use Rattle.lexer.specs.declared.tokens.Token.TheVariants as seen
use Rattle.lexer.specs.declared.tokens.Reach.{Reach}
use Rattle.lexer.specs.declared.tokens.Word.{Word}
use Rattle.lexer.specs.declared.Reader.{Reader}

abbrev pub tokens_of : Reader → List Placed
tokens_of r = tokens_at r.text.now r.place

-- the place of the end
abbrev pub end_of : Reader → ℕ
end_of r = length r.text.now

-- a token from a to q, found from p on in n bytes
pub record Lies (p a q n : ℕ) : Type 0 where
  pub from : p ≤ a
  pub some : a < q
  pub fits : q ≤ n

-- the bytes w of a name at a, in the bytes bs
pub record Spans (bs : List ℕ) (a : ℕ) (w : List ℕ) : Type 0 where
  pub fits : a + length w ≤ length bs
  pub short : length w ≤ 32
  pub is : w ≡ take (length w) (drop a bs)

abbrev pub SeesToken : List ℕ → ℕ → Token → ℕ → ℕ → Type 0
SeesToken bs p (seen.Symbol m) a q = (tokens_at bs p ≡ token (symbol m) a ∷ tokens_at bs q) × Lies p a q (length bs)
SeesToken bs p (seen.Name w) a q = (tokens_at bs p ≡ token (word w.now) a ∷ tokens_at bs q) × Lies p a q (length bs) × Spans bs a w.now
SeesToken bs p seen.End a q = (tokens_at bs p ≡ []) × (a ≡ length bs)

abbrev pub Sees : List ℕ → ℕ → Result Reach Fault → Type 0
Sees bs p (Ok s) = SeesToken bs p s.token s.at s.end
Sees bs p (Err f) = tokens_at bs p ≡ bad (code_of f) (place_of f) ∷ []

-- the reader r has gone on to q
pub record Moved (r q : Reader) : Type 0 where
  pub text : q.text ≡ r.text
  pub on : r.place < q.place
  pub fits : q.place ≤ end_of r

abbrev pub Accepts : Symbol → Option ℕ → Reader → Reader → Type 0
Accepts m (Some a) r q = (tokens_of r ≡ token (symbol m) a ∷ tokens_of q) × Moved r q
Accepts m None r q = (q ≡ r) × (next_is m (tokens_of r) ≡ false)

abbrev pub Words : Option Word → Reader → Reader → Type 0
Words (Some w) r q = (tokens_of r ≡ token (word w.bytes.now) w.at ∷ tokens_of q) × Moved r q × Spans r.text.now w.at w.bytes.now
Words None r q = (q ≡ r) × (next_name (tokens_of r) ≡ false)

abbrev pub Keywords : List ℕ → Bool → Reader → Reader → Type 0
Keywords w true r q = (a : ℕ) × (tokens_of r ≡ token (word w) a ∷ tokens_of q) × Moved r q
Keywords w false r q = (q ≡ r) × (next_word w (tokens_of r) ≡ false)

abbrev pub Negates : Option ℕ → Reader → Reader → Type 0
Negates (Some b) r q = (a : ℕ) × (tokens_of r ≡ token (word not_word) a ∷ token (symbol LeftParen) b ∷ tokens_of q) × Moved r q
Negates None r q = (q ≡ r) × (next_not (tokens_of r) ≡ false)

abbrev pub Ends : Bool → Reader → Reader → Type 0
Ends true r q = (q ≡ r) × (tokens_of r ≡ [])
Ends false r q = (q ≡ r) × (next_end (tokens_of r) ≡ false)
