-- What a search may skip.
use Rattle.std.proofs.Common.{◌≡◌, ℕ, zero, suc, ◌+◌, ◌-◌, ◌*◌, ◌≤◌, Bool, true, false, List, [], ◌∷◌, ◌++◌, length, pos, ◌+ℤ◌, ◌≤ℤ◌, refl, ap, ◌∙◌, arith}
use Rattle.std.proofs.lemmas.Int.{ints, clamps}
use Rattle.excess.specs.Excess.{total_bits, least_bits}
use Rattle.shape.specs.Bits.{openings, select, close}

-- openings passed over
pub select_skip : (v : ℕ) (c t : List Bool) → openings c ≤ v → select v (c ++ t) ≡ length c + select (v - openings c) t
select_skip v [] t h = let z : v ≡ v - 0 = omega arith in ap (λ (n : ℕ). select n t) z ∙ omega arith
select_skip zero (true ∷ c) t h = absurd (omega arith)
select_skip (suc v) (true ∷ c) t h =
    let ih = select_skip v c t (omega arith) in
    let z : v - openings c ≡ suc v - suc (openings c) = omega arith in
    let e = ap (λ (n : ℕ). select n t) z in
    omega arith
select_skip zero (false ∷ c) t h = let ih = select_skip zero c t h in omega arith
select_skip (suc v) (false ∷ c) t h = let ih = select_skip (suc v) c t h in omega arith

-- a stretch over which the excess does not fall below 0
pub close_skip : (e n : ℕ) (c t : List Bool) → pos 0 ≤ℤ (pos e +ℤ least_bits c) → pos n ≡ pos e +ℤ total_bits c → close e (c ++ t) ≡ length c + close n t
close_skip e n [] t h s = let z : e ≡ n = omega (arith, ints) in ap (λ (x : ℕ). close x t) z ∙ omega arith
close_skip e n (true ∷ c) t h s = let ih = close_skip (suc e) n c t (omega (arith, ints, clamps)) (omega (arith, ints)) in omega arith
close_skip zero n (false ∷ c) t h s = absurd (omega (arith, ints, clamps))
close_skip (suc e) n (false ∷ c) t h s = let ih = close_skip e n c t (omega (arith, ints, clamps)) (omega (arith, ints)) in omega arith

-- the whole excess, by the openings
pub total_openings : (c : List Bool) → total_bits c +ℤ pos (length c) ≡ pos (2 * openings c)
total_openings [] = refl
total_openings (true ∷ c) = let ih = total_openings c in omega (arith, ints)
total_openings (false ∷ c) = let ih = total_openings c in omega (arith, ints)

pub openings_append : (c t : List Bool) → openings (c ++ t) ≡ openings c + openings t
openings_append [] t = omega arith
openings_append (true ∷ c) t = let ih = openings_append c t in omega arith
openings_append (false ∷ c) t = openings_append c t

pub openings_length : (c : List Bool) → openings c ≤ length c
openings_length [] = omega arith
openings_length (true ∷ c) = let ih = openings_length c in omega arith
openings_length (false ∷ c) = let ih = openings_length c in omega arith
