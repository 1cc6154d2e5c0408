-- What a part of a search tells: where the sought parenthesis is, or from where and how the search goes on.
use Rattle.std.specs.Prelude.{◌≡◌, ℕ, ◌+◌, ◌≤◌, Bool, List, length, Some, None, Option}
use Rattle.std.specs.declared.ops.ControlFlow.{ControlFlow}
use Rattle.std.specs.declared.ops.ControlFlow.TheVariants.{Continue, Break}
use Rattle.shape.specs.Bits.{next_opening, next_closing}

-- from the place p with v openings to pass, to the place q with as many to pass as it goes on with
abbrev pub Selects : List Bool → ℕ → ℕ → ℕ → ControlFlow ℕ ℕ → Type 0
Selects bs p v q (Break i) = next_opening bs p v ≡ i
Selects bs p v q (Continue w) = next_opening bs p v ≡ next_opening bs q w

-- from the place p with the excess e, to the place q with the excess that it goes on with
abbrev pub Closes : List Bool → ℕ → ℕ → ℕ → ControlFlow ℕ ℕ → Type 0
Closes bs p e q (Break i) = next_closing bs p e ≡ i
Closes bs p e q (Continue f) = (next_closing bs p e ≡ next_closing bs q f) × (f ≤ q)

-- the excess after the n places from p on, where they are passed over at once
abbrev pub Skips : List Bool → ℕ → ℕ → ℕ → Option ℕ → Type 0
Skips bs p n e (Some f) = (next_closing bs p e ≡ next_closing bs (p + n) f) × (f ≤ p + n) × (p + n ≤ length bs)
Skips bs p n e None = Unit {0}
