-- Lists and lawful rows, from a place on.
use Rattle.std.proofs.Common.{◌≡◌, ℕ, zero, suc, ◌+◌, ◌≤◌, List, [], ◌∷◌, length, drop, ap, add-one, arith}
use Rattle.std.proofs.lemmas.Bool.Decides.{nat_tests}
use Rattle.rows.specs.Rows.{Row}
use Rattle.rows.specs.Lawful.{IsLawful}

pub drop_tail : {A : Type 0} (all : List A) (v : ℕ) (r : A) (rs : List A) → drop v all ≡ r ∷ rs → drop (v + 1) all ≡ rs
drop_tail all v r rs e = rw add-one (go all v e) where
  go : {A : Type 0} {r : A} {rs : List A} (all : List A) (v : ℕ) → drop v all ≡ r ∷ rs → drop (suc v) all ≡ rs
  go (x ∷ xs) zero e = cc
  go [] zero e = absurd (omega (arith, ap length e))
  go [] (suc v) e = absurd (omega (arith, ap length e))
  go (x ∷ xs) (suc v) e = go xs v e

pub lawful_length : (rs : List Row) → IsLawful rs → length rs ≤ 8192
lawful_length [] l = omega arith
lawful_length (r ∷ rs) l = grind (arith, nat_tests)
