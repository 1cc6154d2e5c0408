-- One step of a search over the bits bs: from a place to the next bit or byte.
use Rattle.std.proofs.Common.{◌≡◌, ℕ, zero, suc, ◌+◌, ◌-◌, ◌*◌, ◌<◌, ◌≤◌, Bool, true, false, List, [], ◌∷◌, length, get_or, take, drop, pos, ◌+ℤ◌, ◌≤ℤ◌, refl, ap, ◌∙◌, add-one, arith}
use Rattle.std.proofs.lemmas.List.{drop_more, drop_all}
use Rattle.std.proofs.lemmas.Int.{ints, clamps}
use Rattle.excess.specs.Excess.{bits, total_bits, least_bits, total_of, least_of}
use Rattle.shape.specs.Bits.{bits_of, openings_of, select, close}
use Rattle.shape.proofs.Skips.{select_skip, close_skip, total_openings, openings_length}
use Rattle.shape.proofs.Bytes.{byte_split, split}

-- the closing sought is at a place p + close e (drop p bs) that no step changes
pub close_opened : (bs : List Bool) (p e : ℕ) → p < length bs → get_or bs p false ≡ true → p + close e (drop p bs) ≡ p + 1 + close (e + 1) (drop (p + 1) bs)
close_opened bs p e h b =
    let d : drop p bs ≡ true ∷ drop (p + 1) bs = drop_more bs p false h ∙ ap (λ (x : Bool). x ∷ drop (p + 1) bs) b in
    let c = ap (close e) d in
    let o = ap (λ (n : ℕ). close n (drop (p + 1) bs)) (add-one e) in
    omega arith

pub close_found : (bs : List Bool) (p e : ℕ) → p < length bs → get_or bs p false ≡ false → e ≡ 0 → p + close e (drop p bs) ≡ p
close_found bs p e h b z =
    let d : drop p bs ≡ false ∷ drop (p + 1) bs = drop_more bs p false h ∙ ap (λ (x : Bool). x ∷ drop (p + 1) bs) b in
    let c : close e (drop p bs) ≡ 0 = ap (λ (n : ℕ). close n (drop p bs)) z ∙ ap (close 0) d in
    omega arith

pub close_closed : (bs : List Bool) (p e : ℕ) → p < length bs → get_or bs p false ≡ false → (e ≡ 0 → ⊥) → p + close e (drop p bs) ≡ p + 1 + close (e - 1) (drop (p + 1) bs)
close_closed bs p zero h b z = absurd (z refl)
close_closed bs p (suc e) h b z =
    let d : drop p bs ≡ false ∷ drop (p + 1) bs = drop_more bs p false h ∙ ap (λ (x : Bool). x ∷ drop (p + 1) bs) b in
    let c = ap (close (suc e)) d in
    let one : e ≡ suc e - 1 = omega arith in
    let o = ap (λ (n : ℕ). close n (drop (p + 1) bs)) one in
    omega arith

pub close_end : (bs : List Bool) (p e : ℕ) → length bs ≤ p → p + close e (drop p bs) ≡ p
close_end bs p e h = let c = ap (close e) (drop_all p bs h) in omega arith

pub close_byte : (xs : List ℕ) (i e n : ℕ) → i < length xs → pos 0 ≤ℤ (pos e +ℤ least_of (get_or xs i 0)) → pos n ≡ pos e +ℤ total_of (get_or xs i 0) →
    8 * i + close e (drop (8 * i) (bits_of xs)) ≡ 8 * (i + 1) + close n (drop (8 * (i + 1)) (bits_of xs))
unfolding total_of least_of
close_byte xs i e n h l t =
    let s = ap (close e) (byte_split xs i h) ∙ close_skip e n (bits 8 (get_or xs i 0)) (drop (8 * (i + 1)) (bits_of xs)) l t in
    omega arith

-- a stretch of n places
pub close_stretch : (bs : List Bool) (p n e f : ℕ) → p + n ≤ length bs → pos 0 ≤ℤ (pos e +ℤ least_bits (take n (drop p bs))) → pos f ≡ pos e +ℤ total_bits (take n (drop p bs)) → length (take n (drop p bs)) ≡ n →
    p + close e (drop p bs) ≡ p + n + close f (drop (p + n) bs)
close_stretch bs p n e f h l t long =
    let s = ap (close e) (split bs p n) ∙ close_skip e f (take n (drop p bs)) (drop (p + n) bs) l t in
    omega arith

-- the opening sought likewise
pub select_found : (bs : List Bool) (p v : ℕ) → p < length bs → get_or bs p false ≡ true → v ≡ 0 → p + select v (drop p bs) ≡ p
select_found bs p v h b z =
    let d : drop p bs ≡ true ∷ drop (p + 1) bs = drop_more bs p false h ∙ ap (λ (x : Bool). x ∷ drop (p + 1) bs) b in
    let c : select v (drop p bs) ≡ 0 = ap (λ (n : ℕ). select n (drop p bs)) z ∙ ap (select 0) d in
    omega arith

pub select_opened : (bs : List Bool) (p v : ℕ) → p < length bs → get_or bs p false ≡ true → (v ≡ 0 → ⊥) → p + select v (drop p bs) ≡ p + 1 + select (v - 1) (drop (p + 1) bs)
select_opened bs p zero h b z = absurd (z refl)
select_opened bs p (suc v) h b z =
    let d : drop p bs ≡ true ∷ drop (p + 1) bs = drop_more bs p false h ∙ ap (λ (x : Bool). x ∷ drop (p + 1) bs) b in
    let c = ap (select (suc v)) d in
    let one : v ≡ suc v - 1 = omega arith in
    let o = ap (λ (n : ℕ). select n (drop (p + 1) bs)) one in
    omega arith

pub select_closed : (bs : List Bool) (p v : ℕ) → p < length bs → get_or bs p false ≡ false → p + select v (drop p bs) ≡ p + 1 + select v (drop (p + 1) bs)
select_closed bs p v h b =
    let d : drop p bs ≡ false ∷ drop (p + 1) bs = drop_more bs p false h ∙ ap (λ (x : Bool). x ∷ drop (p + 1) bs) b in
    let c = ap (select v) d in
    let o = passed v (drop (p + 1) bs) in
    omega arith where
      passed : (v : ℕ) (t : List Bool) → select v (false ∷ t) ≡ suc (select v t)
      passed zero t = refl
      passed (suc v) t = refl

pub select_end : (bs : List Bool) (p v : ℕ) → length bs ≤ p → p + select v (drop p bs) ≡ p
select_end bs p v h = let c = ap (select v) (drop_all p bs h) ∙ none v in omega arith where
  none : (v : ℕ) → select v [] ≡ 0
  none zero = refl
  none (suc v) = refl

pub select_byte : (xs : List ℕ) (i v : ℕ) → i < length xs → openings_of (get_or xs i 0) ≤ v →
    8 * i + select v (drop (8 * i) (bits_of xs)) ≡ 8 * (i + 1) + select (v - openings_of (get_or xs i 0)) (drop (8 * (i + 1)) (bits_of xs))
unfolding openings_of
select_byte xs i v h l =
    let s = ap (select v) (byte_split xs i h) ∙ select_skip v (bits 8 (get_or xs i 0)) (drop (8 * (i + 1)) (bits_of xs)) l in
    omega arith

pub byte_openings : (b : ℕ) → total_of b +ℤ pos 8 ≡ pos (2 * openings_of b)
unfolding total_of openings_of
byte_openings b = total_openings (bits 8 b)

-- the whole excess is not below the least, nor above the length
pub least_total : (c : List Bool) → least_bits c ≤ℤ total_bits c
least_total [] = omega (arith, ints)
least_total (b ∷ c) = let ih = least_total c in omega (arith, ints, clamps)

pub byte_least : (b : ℕ) → least_of b ≤ℤ total_of b
unfolding total_of least_of
byte_least b = least_total (bits 8 b)

pub byte_few : (b : ℕ) → openings_of b ≤ 8
unfolding openings_of
byte_few b = openings_length (bits 8 b)
