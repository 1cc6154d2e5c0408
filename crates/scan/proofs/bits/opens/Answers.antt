use Rattle.std.proofs.Common.{◌≡◌, ℕ, ◌-◌, ◌/◌, ◌%◌, ◌^◌, Bool, false, eqb, List, Option, Some, None, MatchOption, Bor, get_or, sym, ap, ◌∙◌, arith, rules}
use Rattle.std.specs.Slice.{IsItemAt}
use Rattle.std.proofs.lemmas.List.{get_or_past}
use Rattle.shape.specs.Bits.{bits_of}
use Rattle.shape.proofs.Bytes.{bits_length, bit_at}
use Rattle.scan.proofs.bits.opens.Goals as goal

-- the bit of a byte that may be missing
bit : (xs : List ℕ) (p : ℕ) (o : Option (Bor ℕ)) (Q : Bor ℕ → Type 0) (r : Bool) → IsItemAt xs (p / 8) o → MatchOption o (r ≡ false) Q → ((b : Bor ℕ) → Q b → r ≡ eqb (b.now / 2 ^ (7 - p % 8) % 2) 1) →
    r ≡ get_or (bits_of xs) p false
bit xs p None Q r i m q = let past = i.3 in m ∙ sym (get_or_past (bits_of xs) p false (omega (arith, bits_length xs)))
bit xs p (Some b) Q r i m q =
    let here = i.3.0 in
    q b m ∙ ap (λ (x : ℕ). eqb (x / 2 ^ (7 - p % 8) % 2) 1) (i.4 (omega arith) 0) ∙ sym (bit_at xs p (omega arith))

pub returns : goal.returns
returns c = bit c.args.bits.now c.args.p c.get.result _ _ c.get.ensures.lookup c.is_some_and.ensures (λ b q. search rules)
