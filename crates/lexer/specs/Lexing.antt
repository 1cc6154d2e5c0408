-- One token of a text at a time.
use Rattle.std.specs.Prelude.{◌≡◌, ℕ, ◌+◌, Bool, true, false, List, [], ◌∷◌, drop, Ok, Err, Result}
use Rattle.std.specs.List.{prefix_len}
use Rattle.grammar.specs.Bytes.{white}
use Rattle.grammar.specs.Tokens.{Front, found, done, strange, long, front_of, Placed, token, bad, symbol, word, tokens_at}
use Rattle.grammar.specs.Tokens as tokens
use Rattle.query.specs.declared.fault.Fault.{Fault}
use Rattle.query.specs.Faults.{code_of, place_of}
use Rattle.lexer.specs.declared.tokens.Token.{Token}
use Rattle.lexer.specs.declared.tokens.Token.TheVariants.{Symbol, Name, End}
use Rattle.lexer.specs.declared.tokens.Reach.{Reach}

-- calls that answer with the test p of a byte
abbrev pub Tests : (ℕ → Bool) → (ℕ → Bool → Type 0) → Type 0
Tests p called = (b : ℕ) (r : Bool) → called b r → r ≡ p b

abbrev pub front : List ℕ → Front
front [] = done
front (b ∷ bs) = front_of b bs

-- a token, its place and the place after it; the end; or a code and a place
pub data Found : Type 0 where
  read : tokens.Token → ℕ → ℕ → Found
  ended : Found
  refused : ℕ → ℕ → Found

abbrev pub placed : ℕ → Front → Found
placed p (found t n) = read t p (p + n)
placed p done = ended
placed p strange = refused 2 p
placed p long = refused 3 p

-- the token that is read from a place on
abbrev pub next_from : List ℕ → ℕ → Found
next_from bs p = placed (p + prefix_len white (drop p bs)) (front (drop (p + prefix_len white (drop p bs)) bs))

abbrev pub seen : Token → ℕ → ℕ → Found
seen (Symbol m) = read (symbol m)
seen (Name w) = read (word w.now)
seen End = λ a q. ended

abbrev pub reached : Result Reach Fault → Found
reached (Ok s) = seen s.token s.at s.end
reached (Err f) = refused (code_of f) (place_of f)

-- the end of the text is at its length
abbrev pub is_end : Token → Bool
is_end (Symbol m) = false
is_end (Name w) = false
is_end End = true

abbrev pub EndsReach : Result Reach Fault → ℕ → Type 0
EndsReach (Ok s) n = is_end s.token ≡ true → s.at ≡ n
EndsReach (Err f) n = Unit {0}

-- the place goes past the token, and stays at a refusal
abbrev pub After : Result Reach Fault → ℕ → ℕ → Type 0
After (Ok s) before after = after ≡ s.end
After (Err f) before after = after ≡ before

abbrev pub grow : List ℕ → Found → List Placed
grow bs (read t a q) = token t a ∷ tokens_at bs q
grow bs ended = []
grow bs (refused k a) = bad k a ∷ []
