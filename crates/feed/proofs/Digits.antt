-- One bit of a byte written.
use Rattle.std.proofs.Common.{◌≡◌, ℕ, zero, suc, ◌+◌, ◌-◌, ◌*◌, ◌/◌, ◌%◌, ◌^◌, ◌<◌, ◌≤◌, Bool, true, false, eqb, List, [], ◌∷◌, ◌++◌, length, get_or, take, drop, set, sym, refl, ap, ◌∙◌, ap₂, arith}
use lib.Bits.{bit_and, bit_or}
use Rattle.std.proofs.lemmas.Nat.{and_shr, or_shr, and_mod, or_mod, mod_below}
use Rattle.excess.specs.Excess.{bits}
use Rattle.shape.specs.Bits.{bits_of}
use Rattle.shape.specs.Shape.{closing}
use Rattle.growth.specs.Steps.{cleared}

either : Bool → Bool → Bool
either x true = true
either x false = x

both : Bool → Bool → Bool
both x true = x
both x false = false

paired : (Bool → Bool → Bool) → List Bool → List Bool → List Bool
paired f [] ys = []
paired f (x ∷ xs) [] = []
paired f (x ∷ xs) (y ∷ ys) = f x y ∷ paired f xs ys

or_digit : (x y : ℕ) → x < 2 → y < 2 → eqb (bit_or x y) 1 ≡ either (eqb x 1) (eqb y 1)
unfolding either
or_digit zero zero h k = refl
or_digit zero (suc zero) h k = refl
or_digit (suc zero) zero h k = refl
or_digit (suc zero) (suc zero) h k = refl
or_digit (suc (suc x)) y h k = absurd (omega arith)
or_digit zero (suc (suc y)) h k = absurd (omega arith)
or_digit (suc zero) (suc (suc y)) h k = absurd (omega arith)

and_digit : (x y : ℕ) → x < 2 → y < 2 → eqb (bit_and x y) 1 ≡ both (eqb x 1) (eqb y 1)
unfolding both
and_digit zero zero h k = refl
and_digit zero (suc zero) h k = refl
and_digit (suc zero) zero h k = refl
and_digit (suc zero) (suc zero) h k = refl
and_digit (suc (suc x)) y h k = absurd (omega arith)
and_digit zero (suc (suc y)) h k = absurd (omega arith)
and_digit (suc zero) (suc (suc y)) h k = absurd (omega arith)

or_bits : (n b m : ℕ) → bits n (bit_or b m) ≡ paired either (bits n b) (bits n m)
unfolding paired
or_bits zero b m = refl
or_bits (suc n) b m =
    let x = b / 2 ^ n in
    let y = m / 2 ^ n in
    let digit : bit_or b m / 2 ^ n % 2 ≡ bit_or (x % 2) (y % 2) = ap (λ (z : ℕ). z % 2) (or_shr b m n) ∙ or_mod x y 1 in
    ap₂ (λ (u : Bool) (us : List Bool). u ∷ us) (ap (λ (z : ℕ). eqb z 1) digit ∙ or_digit (x % 2) (y % 2) (mod_below x 2 (omega arith)) (mod_below y 2 (omega arith))) (or_bits n b m)

and_bits : (n b m : ℕ) → bits n (bit_and b m) ≡ paired both (bits n b) (bits n m)
unfolding paired
and_bits zero b m = refl
and_bits (suc n) b m =
    let x = b / 2 ^ n in
    let y = m / 2 ^ n in
    let digit : bit_and b m / 2 ^ n % 2 ≡ bit_and (x % 2) (y % 2) = ap (λ (z : ℕ). z % 2) (and_shr b m n) ∙ and_mod x y 1 in
    ap₂ (λ (u : Bool) (us : List Bool). u ∷ us) (ap (λ (z : ℕ). eqb z 1) digit ∙ and_digit (x % 2) (y % 2) (mod_below x 2 (omega arith)) (mod_below y 2 (omega arith))) (and_bits n b m)

-- a mask with one bit, over any eight bits
set_mask : (b j : ℕ) → j < 8 → paired either (bits 8 b) (bits 8 (128 / 2 ^ j)) ≡ set (bits 8 b) j true
unfolding paired either
set_mask b zero h = refl
set_mask b (suc zero) h = refl
set_mask b (suc (suc zero)) h = refl
set_mask b (suc (suc (suc zero))) h = refl
set_mask b (suc (suc (suc (suc zero)))) h = refl
set_mask b (suc (suc (suc (suc (suc zero))))) h = refl
set_mask b (suc (suc (suc (suc (suc (suc zero)))))) h = refl
set_mask b (suc (suc (suc (suc (suc (suc (suc zero))))))) h = refl
set_mask b (suc (suc (suc (suc (suc (suc (suc (suc j)))))))) h = absurd (omega arith)

clear_mask : (b j : ℕ) → j < 8 → paired both (bits 8 b) (bits 8 (255 - 128 / 2 ^ j)) ≡ set (bits 8 b) j false
unfolding paired both
clear_mask b zero h = refl
clear_mask b (suc zero) h = refl
clear_mask b (suc (suc zero)) h = refl
clear_mask b (suc (suc (suc zero))) h = refl
clear_mask b (suc (suc (suc (suc zero)))) h = refl
clear_mask b (suc (suc (suc (suc (suc zero))))) h = refl
clear_mask b (suc (suc (suc (suc (suc (suc zero)))))) h = refl
clear_mask b (suc (suc (suc (suc (suc (suc (suc zero))))))) h = refl
clear_mask b (suc (suc (suc (suc (suc (suc (suc (suc j)))))))) h = absurd (omega arith)

-- eight bits, a byte
set_over : (b j : ℕ) (v : Bool) (t : List Bool) → j < 8 → set (bits 8 b ++ t) j v ≡ set (bits 8 b) j v ++ t
set_over b zero v t h = refl
set_over b (suc zero) v t h = refl
set_over b (suc (suc zero)) v t h = refl
set_over b (suc (suc (suc zero))) v t h = refl
set_over b (suc (suc (suc (suc zero)))) v t h = refl
set_over b (suc (suc (suc (suc (suc zero))))) v t h = refl
set_over b (suc (suc (suc (suc (suc (suc zero)))))) v t h = refl
set_over b (suc (suc (suc (suc (suc (suc (suc zero))))))) v t h = refl
set_over b (suc (suc (suc (suc (suc (suc (suc (suc j)))))))) v t h = absurd (omega arith)

-- a byte written, where it differs in one bit
byte_set : (bs : List ℕ) (i j x : ℕ) (v : Bool) → i < length bs → j < 8 → bits 8 x ≡ set (bits 8 (get_or bs i 0)) j v →
    bits_of (set bs i x) ≡ set (bits_of bs) (8 * i + j) v
byte_set [] i j x v h k e = absurd (omega arith)
byte_set (b ∷ bs) zero j x v h k e =
    let z : 8 * 0 + j ≡ j = omega arith in
    ap (λ (l : List Bool). l ++ bits_of bs) e ∙ sym (set_over b j v (bits_of bs) k) ∙ ap (λ (n : ℕ). set (bits_of (b ∷ bs)) n v) (sym z)
byte_set (b ∷ bs) (suc i) j x v h k e =
    let z : 8 * suc i + j ≡ suc (suc (suc (suc (suc (suc (suc (suc (8 * i + j)))))))) = omega arith in
    ap (λ (l : List Bool). bits 8 b ++ l) (byte_set bs i j x v (omega arith) k e) ∙ ap (λ (n : ℕ). set (bits_of (b ∷ bs)) n v) (sym z)

place : (p : ℕ) → 8 * (p / 8) + p % 8 ≡ p
place p = omega arith

pub bit_set : (bs : List ℕ) (p : ℕ) → p < 8 * length bs → bits_of (set bs (p / 8) (bit_or (get_or bs (p / 8) 0) (128 / 2 ^ (p % 8)))) ≡ set (bits_of bs) p true
bit_set bs p h =
    let b = get_or bs (p / 8) 0 in
    byte_set bs (p / 8) (p % 8) _ true (omega arith) (omega arith) (or_bits 8 b (128 / 2 ^ (p % 8)) ∙ set_mask b (p % 8) (omega arith))
    ∙ ap (λ (n : ℕ). set (bits_of bs) n true) (place p)

pub bit_clear : (bs : List ℕ) (p : ℕ) → p < 8 * length bs → bits_of (set bs (p / 8) (bit_and (get_or bs (p / 8) 0) (255 - 128 / 2 ^ (p % 8)))) ≡ set (bits_of bs) p false
bit_clear bs p h =
    let b = get_or bs (p / 8) 0 in
    byte_set bs (p / 8) (p % 8) _ false (omega arith) (omega arith) (and_bits 8 b (255 - 128 / 2 ^ (p % 8)) ∙ clear_mask b (p % 8) (omega arith))
    ∙ ap (λ (n : ℕ). set (bits_of bs) n false) (place p)

-- bits cleared one by one
pub clear_none : (bs : List Bool) (p : ℕ) → cleared bs p p ≡ bs
clear_none bs zero = refl
clear_none [] (suc p) = let z : suc p - suc p ≡ 0 = omega arith in ap (λ (n : ℕ). closing n []) z
clear_none (b ∷ bs) (suc p) = let z : suc p - suc p ≡ p - p = omega arith in ap (λ (l : List Bool). b ∷ l) (ap (λ (n : ℕ). take p bs ++ closing n (drop p bs)) z ∙ clear_none bs p)

pub clear_more : (bs : List Bool) (p q : ℕ) → p ≤ q → q < length bs → set (cleared bs p q) q false ≡ cleared bs p (suc q)
clear_more [] p q h k = absurd (omega arith)
clear_more (b ∷ bs) zero zero h k = refl
clear_more (b ∷ bs) (suc p) zero h k = absurd (omega arith)
clear_more (b ∷ bs) zero (suc q) h k =
    let z : suc q - 0 ≡ suc (q - 0) = omega arith in
    let y : suc (suc q) - 0 ≡ suc (suc q - 0) = omega arith in
    ap (λ (n : ℕ). set (closing n (drop q bs)) (suc q) false) z ∙ ap (λ (l : List Bool). false ∷ l) (clear_more bs zero q (omega arith) (omega arith))
    ∙ ap (λ (n : ℕ). closing n (drop (suc q) bs)) (sym y)
clear_more (b ∷ bs) (suc p) (suc q) h k =
    let z : suc q - suc p ≡ q - p = omega arith in
    let y : suc (suc q) - suc p ≡ suc q - p = omega arith in
    ap (λ (n : ℕ). b ∷ set (take p bs ++ closing n (drop q bs)) q false) z ∙ ap (λ (l : List Bool). b ∷ l) (clear_more bs p q (omega arith) (omega arith))
    ∙ ap (λ (n : ℕ). b ∷ (take p bs ++ closing n (drop (suc q) bs))) (sym y)
