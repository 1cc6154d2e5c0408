-- The least excess, found from part to part.
use Rattle.std.proofs.Common.{◌≡◌, ℕ, zero, suc, ◌+◌, ◌-◌, ◌*◌, ◌/◌, ◌%◌, ◌^◌, ◌<◌, ◌≤◌, Bool, true, false, eqb, List, [], ◌∷◌, ◌++◌, length, get_or, take, drop, ℤ, pos, negsuc, ◌+ℤ◌, neg_ℤ, ◌≤ℤ◌, sym, refl, ap, ◌∙◌, arith, length-drop, length-take, w8, w32, SFits, to_z, of_z}
use lib.Signed.{mag}
use Rattle.std.proofs.lemmas.List.{drop_more, append-nil, drop-drop}
use Rattle.std.proofs.lemmas.Int.{ints, clamps}
use Rattle.std.specs.Int.{int_min}
use Rattle.excess.specs.Excess.{step, bits, total_bits, least_bits, total_of, least_of}
use Rattle.shape.specs.Bits.{bits_of, openings}
use Rattle.shape.specs.Stretch.{stretch, low}
use Rattle.shape.proofs.Bytes.{bits_take, bits_drop}
use Rattle.shape.proofs.Skips.{total_openings, openings_length}

pub low_same : (e f l m : ℤ) (t : List Bool) → e ≡ f → l ≡ m → low e l t ≡ low f m t
low_same e f l m t p q = ap (λ (x : ℤ). low x l t) p ∙ ap (λ (x : ℤ). low f x t) q

pub low_skip : (e l : ℤ) (b : Bool) (c t : List Bool) → low e l ((b ∷ c) ++ t) ≡ low (e +ℤ total_bits (b ∷ c)) (int_min l (e +ℤ least_bits (b ∷ c))) t
low_skip e l b [] t = low_same (e +ℤ step b) (e +ℤ (step b +ℤ pos 0)) (int_min l (e +ℤ step b)) (int_min l (e +ℤ (step b +ℤ int_min (pos 0) (pos 0)))) t (omega (arith, ints)) (omega (arith, ints, clamps))
low_skip e l b (x ∷ c) t =
    low_skip (e +ℤ step b) (int_min l (e +ℤ step b)) x c t
    ∙ low_same ((e +ℤ step b) +ℤ total_bits (x ∷ c)) (e +ℤ total_bits (b ∷ x ∷ c)) (int_min (int_min l (e +ℤ step b)) ((e +ℤ step b) +ℤ least_bits (x ∷ c))) (int_min l (e +ℤ least_bits (b ∷ x ∷ c))) t
    (omega (arith, ints)) (omega (arith, ints, clamps))

step_bound : (b : Bool) → step b ≤ℤ pos 1
step_bound true = omega (arith, ints)
step_bound false = omega (arith, ints)

-- the least excess of a stretch that is not empty
pub low_least : (c : List Bool) → 1 ≤ length c → low (pos 0) (pos 1) c ≡ least_bits c
low_least [] h = absurd (omega arith)
low_least (b ∷ c) h =
    let s = step_bound b in
    ap (low (pos 0) (pos 1)) (sym (append-nil (b ∷ c))) ∙ low_skip (pos 0) (pos 1) b c [] ∙ omega (arith, ints, clamps)

pub low_byte : (e l : ℤ) (b : ℕ) (t : List Bool) → low e l (bits 8 b ++ t) ≡ low (e +ℤ total_of b) (int_min l (e +ℤ least_of b)) t
unfolding total_of least_of
low_byte e l b t = low_skip e l (eqb (b / 2 ^ 7 % 2) 1) (bits 7 b) t

pub total_append : (c t : List Bool) → total_bits (c ++ t) ≡ total_bits c +ℤ total_bits t
total_append [] t = omega (arith, ints)
total_append (b ∷ c) t = let ih = total_append c t in omega (arith, ints)

pub total_byte : (b : ℕ) (t : List Bool) → total_bits (bits 8 b ++ t) ≡ total_of b +ℤ total_bits t
unfolding total_of
total_byte b t = total_append (bits 8 b) t

pub low_append : (e l : ℤ) (c t : List Bool) → low e l (c ++ t) ≡ low (e +ℤ total_bits c) (low e l c) t
low_append e l [] t = low_same e (e +ℤ pos 0) l l t (omega (arith, ints)) refl
low_append e l (b ∷ c) t =
    low_append (e +ℤ step b) (int_min l (e +ℤ step b)) c t
    ∙ low_same ((e +ℤ step b) +ℤ total_bits c) (e +ℤ (step b +ℤ total_bits c)) _ _ t (omega (arith, ints)) refl

-- stretches by places
pub stretch_none : (bs : List Bool) (p q : ℕ) → q ≤ p → stretch bs p q ≡ []
stretch_none bs p q h = let z : q - p ≡ 0 = omega arith in ap (λ (n : ℕ). take n (drop p bs)) z

pub stretch_bit : (bs : List Bool) (p q : ℕ) → p < q → p < length bs → stretch bs p q ≡ get_or bs p false ∷ stretch bs (p + 1) q
stretch_bit bs p q h l =
    let z : q - p ≡ suc (q - (p + 1)) = omega arith in
    ap (λ (n : ℕ). take n (drop p bs)) z ∙ ap (take (suc (q - (p + 1)))) (drop_more bs p false l)

-- the bits of the bytes from the place i up to the place j
pub stretch_bytes : (xs : List ℕ) (i j : ℕ) → bits_of (take (j - i) (drop i xs)) ≡ stretch (bits_of xs) (8 * i) (8 * j)
stretch_bytes xs i j =
    let z : 8 * (j - i) ≡ 8 * j - 8 * i = omega arith in
    bits_take (drop i xs) (j - i) ∙ ap (λ (n : ℕ). take n (bits_of (drop i xs))) z ∙ ap (take (8 * j - 8 * i)) (bits_drop xs i)

pub stretch_split : (bs : List Bool) (p q r : ℕ) → p ≤ q → q ≤ r → stretch bs p r ≡ stretch bs p q ++ stretch bs q r
stretch_split bs p q r h k =
    let z : r - p ≡ (q - p) + (r - q) = omega arith in
    let y : p + (q - p) ≡ q = omega arith in
    ap (λ (n : ℕ). take n (drop p bs)) z ∙ take_more (drop p bs) (q - p) (r - q)
    ∙ ap (λ (l : List Bool). take (q - p) (drop p bs) ++ take (r - q) l) (drop-drop (q - p) p bs ∙ ap (λ (n : ℕ). drop n bs) y) where
      take_more : (xs : List Bool) (a b : ℕ) → take (a + b) xs ≡ take a xs ++ take b (drop a xs)
      take_more xs zero b = ap (λ (n : ℕ). take n xs) (omega arith)
      take_more [] (suc a) zero = let z : suc a + 0 ≡ suc a = omega arith in ap (λ (n : ℕ). take n []) z
      take_more [] (suc a) (suc b) = let z : suc a + suc b ≡ suc (a + suc b) = omega arith in ap (λ (n : ℕ). take n []) z
      take_more (x ∷ xs) (suc a) b = let z : suc a + b ≡ suc (a + b) = omega arith in ap (λ (n : ℕ). take n (x ∷ xs)) z ∙ ap (λ l. x ∷ l) (take_more xs a b)

pub stretch_length : (bs : List Bool) (p q : ℕ) → q ≤ length bs → length (stretch bs p q) ≡ q - p
stretch_length bs p q h = length-take (q - p) (drop p bs) ∙ omega (arith, length-drop p bs)

-- its openings, by the excess after it
pub stretch_openings : (bs : List Bool) (p q : ℕ) → q ≤ length bs → total_bits (stretch bs p q) +ℤ pos (q - p) ≡ pos (2 * openings (stretch bs p q))
stretch_openings bs p q h = ap (λ (n : ℕ). total_bits (stretch bs p q) +ℤ pos n) (sym (stretch_length bs p q h)) ∙ total_openings (stretch bs p q)

pub stretch_bounds : (bs : List Bool) (p q : ℕ) → q ≤ length bs → (total_bits (stretch bs p q) ≤ℤ pos (q - p)) × (neg_ℤ (pos (q - p)) ≤ℤ total_bits (stretch bs p q))
stretch_bounds bs p q h =
    let o = stretch_openings bs p q h in
    let l = stretch_length bs p q h in
    let few = openings_length (stretch bs p q) in
    (omega (arith, ints), omega (arith, ints))

pub step_small : (b : Bool) → (step b ≤ℤ pos 1) × (negsuc 0 ≤ℤ step b)
step_small true = (omega (arith, ints), omega (arith, ints))
step_small false = (omega (arith, ints), omega (arith, ints))

-- signed numbers as the code holds them
pub min_same : (x y v w : ℤ) → x ≡ v → y ≡ w → int_min x y ≡ int_min v w
min_same x y v w p q = ap (λ (z : ℤ). int_min z y) p ∙ ap (int_min v) q

pub sum_small : (n : ℕ) (e y : ℤ) → to_z w32 n ≡ e → e ≤ℤ pos 16384 → neg_ℤ (pos 16384) ≤ℤ e → mag y < 128 → to_z w32 (of_z w32 (to_z w32 n +ℤ to_z w32 (of_z w32 (to_z w8 (of_z w8 y))))) ≡ e +ℤ y
sum_small n e y is high deep m =
    let f : SFits w8 y = record { sfits = m } in
    omega (arith, ints)

pub least_bounds : (c : List Bool) → (least_bits c ≤ℤ pos 1) × (neg_ℤ (pos (length c)) ≤ℤ least_bits c)
least_bounds [] = (omega (arith, ints), omega (arith, ints))
least_bounds (b ∷ c) =
    let ih = (least_bounds c).1 in
    let up = (step_small b).0 in
    let down = (step_small b).1 in
    (omega (arith, ints, clamps), omega (arith, ints, clamps))
