-- The bits of bytes, by their places.
use Rattle.std.proofs.Common.{◌≡◌, ℕ, zero, suc, ◌+◌, ◌-◌, ◌*◌, ◌/◌, ◌%◌, ◌^◌, ◌<◌, Bool, false, eqb, List, [], ◌∷◌, ◌++◌, length, get_or, take, drop, sym, refl, ap, ◌∙◌, arith}
use Rattle.std.proofs.lemmas.List.{get_or-drop, drop-drop, take-append-drop, get_or_append_left}
use Rattle.excess.specs.Excess.{bits}
use Rattle.shape.specs.Bits.{bits_of}

pub bits_length : (bs : List ℕ) → length (bits_of bs) ≡ 8 * length bs
bits_length [] = refl
bits_length (b ∷ bs) = let ih = bits_length bs in omega arith

-- from a byte on
pub byte_split : (bs : List ℕ) (i : ℕ) → i < length bs → drop (8 * i) (bits_of bs) ≡ bits 8 (get_or bs i 0) ++ drop (8 * (i + 1)) (bits_of bs)
byte_split [] i h = absurd (omega arith)
byte_split (b ∷ bs) zero h = refl
byte_split (b ∷ bs) (suc i) h =
    let x : 8 * suc i ≡ suc (suc (suc (suc (suc (suc (suc (suc (8 * i)))))))) = omega arith in
    let y : 8 * (suc i + 1) ≡ suc (suc (suc (suc (suc (suc (suc (suc (8 * (i + 1))))))))) = omega arith in
    ap (λ (n : ℕ). drop n (bits_of (b ∷ bs))) x ∙ byte_split bs i (omega arith) ∙ sym (ap (λ (n : ℕ). bits 8 (get_or bs i 0) ++ drop n (bits_of (b ∷ bs))) y)

-- the bits of the first bytes, and of those from a byte on
pub bits_take : (bs : List ℕ) (k : ℕ) → bits_of (take k bs) ≡ take (8 * k) (bits_of bs)
bits_take bs zero = refl
bits_take [] (suc k) = let z : 8 * suc k ≡ suc (8 * k + 7) = omega arith in sym (ap (λ (n : ℕ). take n []) z)
bits_take (b ∷ bs) (suc k) =
    let z : 8 * suc k ≡ suc (suc (suc (suc (suc (suc (suc (suc (8 * k)))))))) = omega arith in
    ap (λ (l : List Bool). bits 8 b ++ l) (bits_take bs k) ∙ sym (ap (λ (n : ℕ). take n (bits_of (b ∷ bs))) z)

pub bits_drop : (bs : List ℕ) (k : ℕ) → bits_of (drop k bs) ≡ drop (8 * k) (bits_of bs)
bits_drop bs zero = refl
bits_drop [] (suc k) = let z : 8 * suc k ≡ suc (8 * k + 7) = omega arith in sym (ap (λ (n : ℕ). drop n []) z)
bits_drop (b ∷ bs) (suc k) =
    let z : 8 * suc k ≡ suc (suc (suc (suc (suc (suc (suc (suc (8 * k)))))))) = omega arith in
    bits_drop bs k ∙ sym (ap (λ (n : ℕ). drop n (bits_of (b ∷ bs))) z)

bit_of : (b j : ℕ) → j < 8 → get_or (bits 8 b) j false ≡ eqb (b / 2 ^ (7 - j) % 2) 1
bit_of b zero h = refl
bit_of b (suc zero) h = refl
bit_of b (suc (suc zero)) h = refl
bit_of b (suc (suc (suc zero))) h = refl
bit_of b (suc (suc (suc (suc zero)))) h = refl
bit_of b (suc (suc (suc (suc (suc zero))))) h = refl
bit_of b (suc (suc (suc (suc (suc (suc zero)))))) h = refl
bit_of b (suc (suc (suc (suc (suc (suc (suc zero))))))) h = refl
bit_of b (suc (suc (suc (suc (suc (suc (suc (suc j)))))))) h = absurd (omega arith)

-- the bit at a place
pub bit_at : (bs : List ℕ) (p : ℕ) → p < 8 * length bs → get_or (bits_of bs) p false ≡ eqb (get_or bs (p / 8) 0 / 2 ^ (7 - p % 8) % 2) 1
bit_at bs p h =
    let b = get_or bs (p / 8) 0 in
    let z : p ≡ 8 * (p / 8) + p % 8 = omega arith in
    ap (λ (n : ℕ). get_or (bits_of bs) n false) z ∙ sym (get_or-drop (8 * (p / 8)) (bits_of bs) (p % 8) false)
    ∙ ap (λ (l : List Bool). get_or l (p % 8) false) (byte_split bs (p / 8) (omega arith))
    ∙ get_or_append_left (bits 8 b) (drop (8 * (p / 8 + 1)) (bits_of bs)) false (p % 8) (omega arith)
    ∙ bit_of b (p % 8) (omega arith)

-- a stretch of n places from p on, and what follows it
pub split : {A : Type 0} (xs : List A) (p n : ℕ) → drop p xs ≡ take n (drop p xs) ++ drop (p + n) xs
split xs p n = sym (take-append-drop n (drop p xs)) ∙ ap (λ l. take n (drop p xs) ++ l) (drop-drop n p xs)
