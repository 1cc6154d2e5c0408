-- The first node after another that is no deeper.
use mathlib.Core.Path.{◌≡◌, subst}
use mathlib.Core.List.{List}
use mathlib.Core.Logic.{◌⊎◌, inl, inr}
use Prim.Native.Nat.{ℕ, zero, suc, ◌≤◌, ◌<◌}
use native.Mathlib.Decide.{dec_lt}
use native.Mathlib.Omega.{arith}
use Rattle.rows.specs.Rows.{Row, depth_of as depth}

-- one number more
extend : (P : ℕ → Type 0) (m : ℕ) → ((u : ℕ) → u ≤ m → P u) → P (suc m) → (u : ℕ) → u ≤ suc m → P u
extend P m all more u le = pick (dec_lt u (suc m))
  where
    pick : Dec (u < suc m) → P u
    pick (yes h) = all u (omega arith)
    pick (no h) = let e : suc m ≡ u = omega arith in subst P e more

module _ (rows : List Row) where
  abbrev pub Deeper : ℕ → ℕ → Type 0
  Deeper c w = (u : ℕ) → c < u → u ≤ w → depth rows c < depth rows u

  abbrev pub Low : ℕ → ℕ → Type 0
  Low c w = (s : ℕ) × (c < s) × (s ≤ w) × (depth rows s ≤ depth rows c) × ((u : ℕ) → c < u → u < s → depth rows c < depth rows u)

  -- the first node after c, as far as w, that is no deeper than c
  pub low : (c w : ℕ) → Deeper c w ⊎ Low c w
  low c zero = inl (λ u h k. absurd (omega arith))
  low c (suc w) = grow (low c w)
    where
      grow : Deeper c w ⊎ Low c w → Deeper c (suc w) ⊎ Low c (suc w)
      grow (inr l) = inr (l.0, l.1, omega arith, l.3, l.4)
      grow (inl all) = test (dec_lt (depth rows c) (depth rows (suc w))) (dec_lt c (suc w))
        where
          test : Dec (depth rows c < depth rows (suc w)) → Dec (c < suc w) → Deeper c (suc w) ⊎ Low c (suc w)
          test (yes h) y = inl (λ u lt le. extend (λ x. c < x → depth rows c < depth rows x) w (λ x b a. all x a b) (λ a. h) u le lt)
          test (no h) (yes k) = inr (suc w, k, omega arith, omega arith, λ u a b. all u a (omega arith))
          test (no h) (no k) = inl (λ u lt le. absurd (omega arith))
