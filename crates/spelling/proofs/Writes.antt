-- How what is written joins.
use Rattle.std.proofs.Common.{◌≡◌, ℕ, ◌+◌, ◌<◌, ◌≤◌, Bool, true, false, List, [], ◌∷◌, ◌++◌, length, get_or, take, sym, refl, ap, ◌∙◌, subst, append_assoc, arith, length-append, length-take}
use Rattle.std.proofs.lemmas.List.{take_more, take_all}
use Rattle.grammar.specs.declared.tokens.Symbol.{Symbol}
use Rattle.grammar.specs.Tokens.{Token, symbol, word}
use Rattle.grammar.specs.Spelling.{glyph, gap, write}
use Rattle.spelling.specs.declared.writer.Writer.{Writer}
use Rattle.spelling.specs.Writing.{gapped, total, Emits, Puts, gap_of}

append-nil : {A : Type 0} (l : List A) → l ++ [] ≡ l
append-nil [] = refl
append-nil (x ∷ xs) = ap (λ z. x ∷ z) (append-nil xs)

pub puts_nil : (v : Writer) → Puts [] v v
puts_nil v = (λ h. (omega arith, sym (append-nil (take v.len v.bytes))), refl)

written : (v : Writer) → length (take v.len v.bytes) ≡ v.len
written v = length-take v.len v.bytes ∙ omega (arith, v.whole, v.fits)

-- one after the other
pub emits : (f g : List Token → List Token) (v w x : Writer) → Emits f v w → Emits g w x → Emits (λ us. f (g us)) v x
emits f g v w x p q us h = let e = p (g us) h in e ∙ q us (subst (λ l. length l ≤ 512) e h)

pub emits_none : (v : Writer) → Emits (λ us. us) v v
emits_none v us h = refl

mutual
  gapped_write : (ts : List Token) → write ts ≡ gapped false ts
  gapped_write [] = refl
  gapped_write (symbol s ∷ ts) = ap (λ l. glyph s ++ l) (gapped_write ts)
  gapped_write (word w ∷ ts) = ap (λ l. w ++ l) (gapped_after w ts)

  gapped_after : (w : List ℕ) (ts : List Token) → gap (word w) ts ++ write ts ≡ gapped true ts
  gapped_after w [] = refl
  gapped_after w (symbol s ∷ ts) = ap (λ l. glyph s ++ l) (gapped_write ts)
  gapped_after w (word x ∷ ts) = ap (λ l. 32 ∷ (x ++ l)) (gapped_after x ts)

-- what is written of all tokens, from nothing
pub all_written : (ts : List Token) (v w : Writer) → v.len ≡ 0 → v.word ≡ false → length (write ts) ≤ 512 → ((us : List Token) → length (total v ts) ≤ 512 → total v ts ≡ total w []) → take w.len w.bytes ≡ write ts
all_written ts v w n k h e =
    let start : total v ts ≡ write ts = ap (λ i. take i v.bytes ++ gapped v.word ts) n ∙ ap (λ b. gapped b ts) k ∙ sym (gapped_write ts) in
    sym (append-nil (take w.len w.bytes)) ∙ sym (e [] (subst (λ l. length l ≤ 512) (sym start) h)) ∙ start
