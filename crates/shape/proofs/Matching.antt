-- The closing that a search finds matches the opening.
use Rattle.std.proofs.Common.{◌≡◌, ℕ, zero, suc, ◌+◌, ◌-◌, ◌<◌, ◌≤◌, Bool, true, false, List, [], ◌∷◌, length, get_or, take, drop, pos, ◌+ℤ◌, ◌≤ℤ◌, sym, refl, ap, ◌∙◌, arith, length-drop}
use Rattle.std.proofs.lemmas.List.{get_or-drop, drop_more}
use Rattle.std.proofs.lemmas.Int.{ints}
use Rattle.excess.specs.Excess.{total_bits}
use Rattle.shape.specs.Bits.{close}
use Rattle.shape.specs.Stretch.{stretch}
use Rattle.shape.specs.Matching.{Matches}

-- what is at the place that the search gives, where e nodes were open
record Closed (e : ℕ) (bs : List Bool) : Type 0 where
  pub shut : get_or bs (close e bs) true ≡ false
  pub level : pos (suc e) +ℤ total_bits (take (suc (close e bs)) bs) ≡ pos 0
  pub above : (k : ℕ) → k ≤ close e bs → pos 0 ≤ℤ (pos e +ℤ total_bits (take k bs))

closed : (e : ℕ) (bs : List Bool) → close e bs < length bs → Closed e bs
closed e [] h = absurd (omega arith)
closed e (true ∷ bs) h = let i = closed (suc e) bs (omega arith) in record { shut = i.shut; level = let l = i.level in omega (arith, ints); above = up i }
  where
    up : Closed (suc e) bs → (k : ℕ) → k ≤ suc (close (suc e) bs) → pos 0 ≤ℤ (pos e +ℤ total_bits (take k (true ∷ bs)))
    up i zero l = omega (arith, ints)
    up i (suc k) l = let a = i.above k (omega arith) in omega (arith, ints)
closed zero (false ∷ bs) h = record { shut = refl; level = refl; above = none }
  where
    none : (k : ℕ) → k ≤ 0 → pos 0 ≤ℤ (pos 0 +ℤ total_bits (take k (false ∷ bs)))
    none zero l = omega (arith, ints)
    none (suc k) l = absurd (omega arith)
closed (suc e) (false ∷ bs) h = let i = closed e bs (omega arith) in record { shut = i.shut; level = let l = i.level in omega (arith, ints); above = down i }
  where
    down : Closed e bs → (k : ℕ) → k ≤ suc (close e bs) → pos 0 ≤ℤ (pos (suc e) +ℤ total_bits (take k (false ∷ bs)))
    down i zero l = omega (arith, ints)
    down i (suc k) l = let a = i.above k (omega arith) in omega (arith, ints)

-- the search from the place after an opening
pub matches : (bs : List Bool) (p q : ℕ) → p < length bs → get_or bs p false ≡ true → close 0 (drop (p + 1) bs) < length (drop (p + 1) bs) → q ≡ p + 1 + close 0 (drop (p + 1) bs) → Matches bs p q
matches bs p q h b l is =
    let rest = drop (p + 1) bs in
    let here : drop p bs ≡ true ∷ rest = drop_more bs p false h ∙ ap (λ (x : Bool). x ∷ rest) b in
    let c = closed 0 rest l in
    let low = c.level in
    let n = length-drop (p + 1) bs in
    let part : (k : ℕ) (j : ℕ) → k - p ≡ suc j → total_bits (stretch bs p k) ≡ pos 1 +ℤ total_bits (take j rest) =
    λ k j e. ap (λ (m : ℕ). total_bits (take m (drop p bs))) e ∙ ap (λ (x : List Bool). total_bits (take (suc j) x)) here in
    record {
      order = omega arith;
      within = omega arith;
      opens = b;
      closes = ap (λ (k : ℕ). get_or bs k true) is ∙ sym (get_or-drop (p + 1) bs (close 0 rest) true) ∙ c.shut;
      level = part (q + 1) (suc (close 0 rest)) (omega arith) ∙ low;
      inside = λ k a z. let e = part k (k - p - 1) (omega arith) in let up = c.above (k - p - 1) (omega arith) in omega (arith, ints);
    }
