-- Bytes give back the bits that were packed into them.
use Rattle.std.proofs.Common.{◌≡◌, ℕ, zero, suc, ◌+◌, ◌-◌, ◌*◌, ◌/◌, ◌%◌, ◌^◌, ◌<◌, ◌≤◌, Bool, true, false, eqb, List, [], ◌∷◌, ◌++◌, length, get_or, drop, sym, refl, ap, ◌∙◌, arith, length-append}
use Rattle.std.proofs.lemmas.List.{get_or-drop, drop-drop, ext_get_or}
use Rattle.shape.specs.Bits.{bits_of}
use Rattle.shape.specs.Shape.{closing}
use Rattle.shape.specs.Packing.{digit, byte_of, packed}
use Rattle.shape.proofs.Bytes.{bits_length, bit_at}
use Rattle.shape.proofs.Lawful.{closing_length}

small : (b : Bool) → digit b ≤ 1
small true = omega arith
small false = omega arith

told : (b : Bool) → eqb (digit b) 1 ≡ b
told true = refl
told false = refl

-- eight digits of a byte
module _ (a b c d e f g h : ℕ) (a1 : a ≤ 1) (b1 : b ≤ 1) (c1 : c ≤ 1) (d1 : d ≤ 1) (e1 : e ≤ 1) (f1 : f ≤ 1) (g1 : g ≤ 1) (h1 : h ≤ 1) where
  number : ℕ
  number = 128 * a + 64 * b + 32 * c + 16 * d + 8 * e + 4 * f + 2 * g + h

  digits : (j : ℕ) → j < 8 → number / 2 ^ (7 - j) % 2 ≡ get_or (a ∷ b ∷ c ∷ d ∷ e ∷ f ∷ g ∷ h ∷ []) j 0
  unfolding number
  digits zero l = omega arith
  digits (suc zero) l = omega arith
  digits (suc (suc zero)) l = omega arith
  digits (suc (suc (suc zero))) l = omega arith
  digits (suc (suc (suc (suc zero)))) l = omega arith
  digits (suc (suc (suc (suc (suc zero))))) l = omega arith
  digits (suc (suc (suc (suc (suc (suc zero)))))) l = omega arith
  digits (suc (suc (suc (suc (suc (suc (suc zero))))))) l = omega arith
  digits (suc (suc (suc (suc (suc (suc (suc (suc j)))))))) l = absurd (omega arith)

  number_small : number < 256
  unfolding number
  number_small = omega arith

digit_at : (l : List Bool) (j : ℕ) → j < 8 →
    get_or (digit (get_or l 0 false) ∷ digit (get_or l 1 false) ∷ digit (get_or l 2 false) ∷ digit (get_or l 3 false) ∷ digit (get_or l 4 false) ∷ digit (get_or l 5 false) ∷ digit (get_or l 6 false) ∷ digit (get_or l 7 false) ∷ []) j 0 ≡ digit (get_or l j false)
digit_at l zero h = refl
digit_at l (suc zero) h = refl
digit_at l (suc (suc zero)) h = refl
digit_at l (suc (suc (suc zero))) h = refl
digit_at l (suc (suc (suc (suc zero)))) h = refl
digit_at l (suc (suc (suc (suc (suc zero))))) h = refl
digit_at l (suc (suc (suc (suc (suc (suc zero)))))) h = refl
digit_at l (suc (suc (suc (suc (suc (suc (suc zero))))))) h = refl
digit_at l (suc (suc (suc (suc (suc (suc (suc (suc j)))))))) h = absurd (omega arith)

byte_bit : (l : List Bool) (j : ℕ) → j < 8 → eqb (byte_of l / 2 ^ (7 - j) % 2) 1 ≡ get_or l j false
unfolding number
byte_bit l j h =
    ap (λ (x : ℕ). eqb x 1) (digits (digit (get_or l 0 false)) (digit (get_or l 1 false)) (digit (get_or l 2 false)) (digit (get_or l 3 false)) (digit (get_or l 4 false)) (digit (get_or l 5 false)) (digit (get_or l 6 false)) (digit (get_or l 7 false))
    (small _) (small _) (small _) (small _) (small _) (small _) (small _) (small _) j h ∙ digit_at l j h) ∙ told (get_or l j false)

byte_small : (l : List Bool) → byte_of l < 256
unfolding number
byte_small l = number_small (digit (get_or l 0 false)) (digit (get_or l 1 false)) (digit (get_or l 2 false)) (digit (get_or l 3 false)) (digit (get_or l 4 false)) (digit (get_or l 5 false)) (digit (get_or l 6 false)) (digit (get_or l 7 false))
    (small _) (small _) (small _) (small _) (small _) (small _) (small _) (small _)

pub packed_length : (n : ℕ) (bs : List Bool) → length (packed n bs) ≡ n
packed_length zero bs = refl
packed_length (suc n) bs = ap suc (packed_length n (drop 8 bs))

packed_at : (n : ℕ) (bs : List Bool) (i : ℕ) → i < n → get_or (packed n bs) i 0 ≡ byte_of (drop (8 * i) bs)
packed_at zero bs i h = absurd (omega arith)
packed_at (suc n) bs zero h = refl
packed_at (suc n) bs (suc i) h =
    let z : 8 + 8 * i ≡ 8 * suc i = omega arith in
    packed_at n (drop 8 bs) i (omega arith) ∙ ap byte_of (drop-drop (8 * i) 8 bs ∙ ap (λ (k : ℕ). drop k bs) z)

-- each is a byte
pub packed_small : (n : ℕ) (bs : List Bool) (i : ℕ) → get_or (packed n bs) i 0 < 256
packed_small zero bs i = omega arith
packed_small (suc n) bs zero = byte_small bs
packed_small (suc n) bs (suc i) = packed_small n (drop 8 bs) i

closing_none : (m i : ℕ) → get_or (closing m []) i false ≡ false
closing_none zero i = refl
closing_none (suc m) zero = refl
closing_none (suc m) (suc i) = closing_none m i

padded_at : (bs : List Bool) (m i : ℕ) → get_or (bs ++ closing m []) i false ≡ get_or bs i false
padded_at [] m i = closing_none m i
padded_at (b ∷ bs) m zero = refl
padded_at (b ∷ bs) m (suc i) = padded_at bs m i

-- the bits of the bytes are those packed, then spare closings
pub bits_packed : (n : ℕ) (bs : List Bool) → length bs ≤ 8 * n → bits_of (packed n bs) ≡ bs ++ closing (8 * n - length bs) []
bits_packed n bs h =
    let many = packed_length n bs in
    let long = bits_length (packed n bs) in
    let m = 8 * n - length bs in
    let spare = closing_length m [] in
    let all = length-append bs (closing m []) in
    ext_get_or false (bits_of (packed n bs)) (bs ++ closing m []) (omega arith) (λ p l.
    let z : 8 * (p / 8) + p % 8 ≡ p = omega arith in
    bit_at (packed n bs) p (omega arith) ∙ ap (λ (b : ℕ). eqb (b / 2 ^ (7 - p % 8) % 2) 1) (packed_at n bs (p / 8) (omega arith))
    ∙ byte_bit (drop (8 * (p / 8)) bs) (p % 8) (omega arith) ∙ get_or-drop (8 * (p / 8)) bs (p % 8) false ∙ ap (λ (k : ℕ). get_or bs k false) z ∙ sym (padded_at bs m p))
