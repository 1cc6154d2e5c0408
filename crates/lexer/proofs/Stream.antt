-- The tokens of a text, one reading at a time.
use Rattle.std.proofs.Common.{◌≡◌, ℕ, zero, suc, ◌+◌, ◌-◌, ◌<◌, ◌≤◌, Bool, true, false, cond, eqb, leb, List, [], ◌∷◌, length, take, drop, Ok, Err, Result, sym, refl, ap, ◌∙◌, subst, add-zero, one-add, arith, lit<, length-drop, length-take, drop-drop}
use Rattle.std.specs.List.{prefix_len}
use Rattle.grammar.specs.Bytes.{white, begins, named}
use Rattle.std.proofs.lemmas.Bool.Decides.{nat_tests}
use Rattle.std.proofs.lemmas.Bool.{cond_both, leb-true}
use Rattle.std.proofs.lemmas.List.Sums.{prefix_len-le-length}
use Rattle.query.specs.declared.fault.Fault.{Fault}
use Rattle.lexer.specs.declared.tokens.Token as seen
use Rattle.lexer.specs.declared.tokens.Token.TheVariants.{Symbol, Name, End}
use Rattle.lexer.specs.declared.tokens.Reach.{Reach}
use Rattle.lexer.specs.Lexing.{reached, EndsReach, is_end}
use Rattle.lexer.specs.Lexing as lexing
use Rattle.lexer.specs.Readers.{Lies, Spans, SeesToken, Sees}
use Rattle.grammar.specs.declared.tokens.Symbol.TheVariants.{Slash, DoubleSlash, LeftBracket, RightBracket, LeftParen, RightParen, Star, DoubleColon}
use Rattle.lexer.specs.Lexing.{Found, read, ended, refused, next_from, placed, front, grow}
use Rattle.grammar.specs.Tokens.{symbol, word, first_is, name_of, Front, found, done, strange, long, Placed, token, bad, cut, tokens_at, front_of}

-- what a byte brings, by its tests
abbrev turn : Bool → Front → List ℕ → ℕ → List Placed
turn w f bs p = elim w [ true ↦ cut bs 0 (p + 1) | false ↦ elim f [ found t n ↦ token t p ∷ cut bs (n - 1) (p + 1) | done ↦ [] | strange ↦ bad 2 p ∷ [] | long ↦ bad 3 p ∷ [] ] ]

cut_turn : (w : Bool) (b : ℕ) (bs : List ℕ) (p : ℕ) → white b ≡ w → cut (b ∷ bs) 0 p ≡ turn w (front_of b bs) bs p
cut_turn w b bs p e = ap (λ x. turn x (front_of b bs) bs p) e

lead : (w : Bool) (b : ℕ) (bs : List ℕ) → white b ≡ w → prefix_len white (b ∷ bs) ≡ cond w (1 + prefix_len white bs) 0
lead w b bs e = ap (λ x. cond x (1 + prefix_len white bs) 0) e

-- the bytes of a token are passed
pub cut_skip : (k : ℕ) (xs : List ℕ) (p : ℕ) → cut xs k p ≡ cut (drop k xs) 0 (p + k)
cut_skip zero xs p = ap (cut xs 0) (sym (add-zero p))
cut_skip (suc k) [] p = refl
cut_skip (suc k) (x ∷ xs) p = cut_skip k xs (p + 1) ∙ ap (cut (drop k xs) 0) (omega arith)

pub skip : (xs : List ℕ) (p : ℕ) → cut xs 0 p ≡ cut (drop (prefix_len white xs) xs) 0 (p + prefix_len white xs)
skip [] p = refl
skip (b ∷ bs) p = go (white b) refl (skip bs (p + 1))
  where
    go : (w : Bool) → white b ≡ w → cut bs 0 (p + 1) ≡ cut (drop (prefix_len white bs) bs) 0 (p + 1 + prefix_len white bs) → cut (b ∷ bs) 0 p ≡ cut (drop (prefix_len white (b ∷ bs)) (b ∷ bs)) 0 (p + prefix_len white (b ∷ bs))
    go true e ih = cut_turn true b bs p e ∙ ih ∙ ap (cut (drop (prefix_len white bs) bs) 0) (omega arith) ∙ ap (λ n. cut (drop n (b ∷ bs)) 0 (p + n)) (sym (one-add (prefix_len white bs)) ∙ sym (lead true b bs e))
    go false e ih = ap (cut (b ∷ bs) 0) (sym (add-zero p)) ∙ ap (λ n. cut (drop n (b ∷ bs)) 0 (p + n)) (sym (lead false b bs e))

-- past the white space no byte is white
abbrev Solid : List ℕ → Type 0
Solid [] = Unit {0}
Solid (b ∷ bs) = white b ≡ false

solid : (xs : List ℕ) → Solid (drop (prefix_len white xs) xs)
solid [] = tt
solid (b ∷ bs) = go (white b) refl (solid bs)
  where
    go : (w : Bool) → white b ≡ w → Solid (drop (prefix_len white bs) bs) → Solid (drop (prefix_len white (b ∷ bs)) (b ∷ bs))
    go true e ih = subst (λ n. Solid (drop n (b ∷ bs))) (sym (one-add (prefix_len white bs)) ∙ sym (lead true b bs e)) ih
    go false e ih = subst (λ n. Solid (drop n (b ∷ bs))) (sym (lead false b bs e)) e

-- a token has a byte
abbrev Some : Front → Type 0
Some (found t n) = 0 < n
Some done = ⊥
Some strange = Unit {0}
Some long = Unit {0}

either : (t : Bool) (x y : Front) → Some x → Some y → Some (cond t x y)
either true x y h k = h
either false x y h k = k

some_name : (b : ℕ) (bs : List ℕ) → begins b ≡ true → 0 < prefix_len named (b ∷ bs)
some_name b bs e = grind (arith, nat_tests)

some_front : (b : ℕ) (bs : List ℕ) → Some (front_of b bs)
some_front b bs =
    either (eqb b 47) _ _ (either (first_is 47 bs) (found (symbol DoubleSlash) 2) (found (symbol Slash) 1) (lit< tt) (lit< tt))
    (either (eqb b 91) (found (symbol LeftBracket) 1) _ (lit< tt)
    (either (eqb b 93) (found (symbol RightBracket) 1) _ (lit< tt)
    (either (eqb b 40) (found (symbol LeftParen) 1) _ (lit< tt)
    (either (eqb b 41) (found (symbol RightParen) 1) _ (lit< tt)
    (either (eqb b 42) (found (symbol Star) 1) _ (lit< tt)
    (either (eqb b 58) _ _ (either (first_is 58 bs) (found (symbol DoubleColon) 2) strange (lit< tt) tt)
    (cond_both (begins b) (name_of (b ∷ bs)) strange Some
    (λ e. either (leb (prefix_len named (b ∷ bs)) 32) (found (word (take (prefix_len named (b ∷ bs)) (b ∷ bs))) (prefix_len named (b ∷ bs))) long (some_name b bs e) tt)
    (λ e. tt))))))))

at_front : (bs : List ℕ) (q b : ℕ) (r : List ℕ) → drop q bs ≡ b ∷ r → (f : Front) → Some f → turn false f r q ≡ grow bs (placed q f)
at_front bs q b r e (found t zero) h = absurd (omega arith)
at_front bs q b r e (found t (suc m)) h =
    ap (λ l. token t q ∷ l)
    (ap (λ k. cut r k (q + 1)) (omega arith) ∙ cut_skip m r (q + 1) ∙ ap (cut (drop m r) 0) (omega arith)
    ∙ ap (λ l. cut l 0 (q + suc m)) (ap (drop (suc m)) (sym e) ∙ drop-drop (suc m) q bs))
at_front bs q b r e done h = absurd h
at_front bs q b r e strange h = refl
at_front bs q b r e long h = refl

at_solid : (bs : List ℕ) (q : ℕ) (l : List ℕ) → drop q bs ≡ l → Solid l → cut l 0 q ≡ grow bs (placed q (front l))
at_solid bs q [] e s = refl
at_solid bs q (b ∷ r) e s = cut_turn false b r q s ∙ at_front bs q b r e (front_of b r) (some_front b r)

-- the tokens from a place on are the next one and those after it
pub stream : (bs : List ℕ) (p : ℕ) → tokens_at bs p ≡ grow bs (next_from bs p)
stream bs p =
    let n = prefix_len white (drop p bs) in
    let over = drop-drop n p bs in
    skip (drop p bs) p ∙ ap (λ l. cut l 0 (p + n)) over ∙ at_solid bs (p + n) (drop (p + n) bs) refl (subst Solid over (solid (drop p bs)))

pub from_next : (bs : List ℕ) (p : ℕ) (o : Found) → o ≡ next_from bs p → grow bs o ≡ tokens_at bs p
from_next bs p o e = ap (grow bs) e ∙ sym (stream bs p)

-- a token lies in the text, and a name is its part of the text
abbrev Good : List ℕ → Front → Type 0
Good l (found (symbol m) n) = (0 < n) × (n ≤ length l)
Good l (found (word w) n) = (0 < n) × (n ≤ length l) × (n ≤ 32) × (w ≡ take n l)
Good l done = Unit {0}
Good l strange = Unit {0}
Good l long = Unit {0}

two : (b c : ℕ) (bs : List ℕ) → first_is b bs ≡ true → 2 ≤ length (c ∷ bs)
two b c [] h = let z : ◌≡◌ {A = ℕ} 0 1 = cc in absurd (omega arith)
two b c (x ∷ xs) h = omega arith

good_name : (b : ℕ) (bs : List ℕ) → begins b ≡ true → Good (b ∷ bs) (name_of (b ∷ bs))
good_name b bs e =
    let l = b ∷ bs in
    cond_both (leb (prefix_len named l) 32) (found (word (take (prefix_len named l) l)) (prefix_len named l)) long (Good l)
    (λ h. (some_name b bs e, prefix_len-le-length named l, leb-true _ _ h, refl)) (λ h. tt)

good_front : (b : ℕ) (bs : List ℕ) → Good (b ∷ bs) (front_of b bs)
good_front b bs =
    let l = b ∷ bs in
    let one : 1 ≤ length l = omega arith in
    cond_both (eqb b 47) _ _ (Good l) (λ _. cond_both (first_is 47 bs) (found (symbol DoubleSlash) 2) (found (symbol Slash) 1) (Good l) (λ h. (lit< tt, two 47 b bs h)) (λ _. (lit< tt, one))) (λ _.
    cond_both (eqb b 91) (found (symbol LeftBracket) 1) _ (Good l) (λ _. (lit< tt, one)) (λ _.
    cond_both (eqb b 93) (found (symbol RightBracket) 1) _ (Good l) (λ _. (lit< tt, one)) (λ _.
    cond_both (eqb b 40) (found (symbol LeftParen) 1) _ (Good l) (λ _. (lit< tt, one)) (λ _.
    cond_both (eqb b 41) (found (symbol RightParen) 1) _ (Good l) (λ _. (lit< tt, one)) (λ _.
    cond_both (eqb b 42) (found (symbol Star) 1) _ (Good l) (λ _. (lit< tt, one)) (λ _.
    cond_both (eqb b 58) _ _ (Good l) (λ _. cond_both (first_is 58 bs) (found (symbol DoubleColon) 2) strange (Good l) (λ h. (lit< tt, two 58 b bs h)) (λ _. tt)) (λ _.
    cond_both (begins b) (name_of l) strange (Good l) (λ h. good_name b bs h) (λ _. tt))))))))

good_at : (l : List ℕ) → Good l (front l)
good_at [] = tt
good_at (b ∷ bs) = good_front b bs

-- what is known of a token that is read from p on, when p is past the white space
abbrev Known : List ℕ → ℕ → Found → Type 0
Known bs p (read (symbol m) a q) = Lies p a q (length bs)
Known bs p (read (word w) a q) = Lies p a q (length bs) × Spans bs a w
Known bs p ended = Unit {0}
Known bs p (refused k a) = Unit {0}

known_at : (bs : List ℕ) (p n : ℕ) (f : Front) → Good (drop (p + n) bs) f → Known bs p (placed (p + n) f)
known_at bs p n (found (symbol m) k) g = record { from = omega arith; some = omega (arith, g.0); fits = omega (arith, g.0, g.1, length-drop (p + n) bs) }
known_at bs p n (found (word w) k) g =
    let l : k ≤ length bs - (p + n) = omega (arith, g.1, length-drop (p + n) bs) in
    let len : length w ≡ k = ap length g.3 ∙ length-take k (drop (p + n) bs) ∙ omega (arith, g.1) in (
      record { from = omega arith; some = omega (arith, g.0); fits = omega (arith, g.0) },
      record { fits = omega (arith, g.0); short = omega (arith, g.2); is = g.3 ∙ ap (λ j. take j (drop (p + n) bs)) (sym len) },
    )
known_at bs p n done g = tt
known_at bs p n strange g = tt
known_at bs p n long g = tt

known : (bs : List ℕ) (p : ℕ) → Known bs p (next_from bs p)
known bs p = let n = prefix_len white (drop p bs) in known_at bs p n (front (drop (p + n) bs)) (good_at (drop (p + n) bs))

-- what a reading says of the tokens
sees_token : (bs : List ℕ) (p : ℕ) (t : seen.Token) (a q : ℕ) → lexing.seen t a q ≡ next_from bs p → (is_end t ≡ true → a ≡ length bs) → SeesToken bs p t a q
sees_token bs p (Symbol m) a q e h = (stream bs p ∙ ap (grow bs) (sym e), subst (Known bs p) (sym e) (known bs p))
sees_token bs p (Name w) a q e h = let k = subst (Known bs p) (sym e) (known bs p) in (stream bs p ∙ ap (grow bs) (sym e), k.0, k.1)
sees_token bs p End a q e h = (stream bs p ∙ ap (grow bs) (sym e), h refl)

pub sees : (bs : List ℕ) (p : ℕ) (r : Result Reach Fault) → reached r ≡ next_from bs p → EndsReach r (length bs) → Sees bs p r
sees bs p (Ok s) e h = sees_token bs p s.token s.at s.end e h
sees bs p (Err f) e h = stream bs p ∙ ap (grow bs) (sym e)
