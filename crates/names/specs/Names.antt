-- Names and the slots that hold them.
use Rattle.std.specs.Prelude.{◌≡◌, ℕ, ◌-◌, ◌<◌, ◌≤◌, Bool, true, cond, ◌&&◌, ◌||◌, List, [], ◌∷◌, ◌++◌, length, drop, replicate, Some, None, Option, ◌==◌, nat_le, nat_lt, slice_index}
use Rattle.std.specs.List.{list_all}

-- an ASCII letter or an underscore
abbrev pub begins : ℕ → Bool
begins b = (nat_le 65 b && nat_le b 90) || (nat_le 97 b && nat_le b 122) || b == 95

-- also a digit, a hyphen or a point
abbrev pub goes_on : ℕ → Bool
goes_on b = begins b || (nat_le 48 b && nat_le b 57) || b == 45 || b == 46

abbrev pub blank : List ℕ → Bool
blank bs = list_all (λ b. b == 0) bs

-- bytes that go on with a name, then 0 bytes
abbrev pub goes_on_all : List ℕ → Bool
goes_on_all [] = true
goes_on_all (b ∷ bs) = cond (b == 0) (blank (b ∷ bs)) (goes_on b && goes_on_all bs)

-- the test of a slot: a name, then 0 bytes
abbrev pub is_name : List ℕ → Bool
is_name s = begins (slice_index s 0) && goes_on_all (drop 1 s)

-- a name: 1 to 32 bytes, of which the first begins one and all go on with it
pub record Name (n : List ℕ) : Type 0 where
  pub some : 1 ≤ length n
  pub few : length n ≤ 32
  pub first : begins (slice_index n 0) ≡ true
  pub each : (i : ℕ) → i < length n → goes_on (slice_index n i) ≡ true

-- a name and then 0 bytes, 32 in all
abbrev pub padded : List ℕ → List ℕ
padded n = n ++ replicate (32 - length n) 0

-- the slot of a name; more than 32 bytes have none
abbrev pub slot_of : List ℕ → Option (List ℕ)
slot_of n = cond (nat_lt 32 (length n)) None (Some (padded n))
