-- Bytes that are written from their end on: the buffer's front holds them in reverse.
use Rattle.std.specs.Prelude.{◌≡◌, ℕ, zero, suc, ◌+◌, List, [], ◌∷◌, ◌++◌, reverse, length, take, drop, Some, None, Option}
use Rattle.grammar.specs.Syntax.{Axis, self, child, descendant, following_sibling}
use Rattle.grammar.specs.Machine.{outer}
use Rattle.query.specs.declared.table.Table.{Table}
use Rattle.query.specs.Shown.{axis_of, step_at}
use Rattle.automata.specs.Program.{Formula, Rule, formula_bytes, move_bytes, total}
use Rattle.commands.specs.declared.command.Command.TheVariants.{Done}
use Rattle.commands.specs.Encoded.{bytes_of, postfix, deciding_commands, rule_commands, sending_commands}

-- the bytes written so far
abbrev pub text_of : List ℕ → ℕ → List ℕ
text_of out at = reverse (take at out)

-- From the buffer `out`, with `at` bytes, to `end`, with `to` bytes: `bs` was written before the others, and nothing after them.
pub record Adds (out : List ℕ) (at : ℕ) (end : List ℕ) (to : ℕ) (bs : List ℕ) : Type 0 where
  pub text : text_of end to ≡ bs ++ text_of out at
  pub rest : drop to end ≡ drop to out
  pub many : to ≡ at + length bs

-- n times NOT
abbrev pub nots : ℕ → List ℕ
nots zero = []
nots (suc n) = 0x1a ∷ nots n

-- the bytes of a formula
unfoldable pub code : Formula → List ℕ
code f = bytes_of (postfix f [])

-- the bytes of deciding states, and of sending states with END
unfoldable pub states_code : List Formula → List ℕ
states_code fs = bytes_of (deciding_commands fs [])

unfoldable pub rules_code : List Rule → List ℕ
rules_code rs = bytes_of (rule_commands rs (Done ∷ []))

unfoldable pub sending_code : List (List Rule) → List ℕ
sending_code ss = bytes_of (sending_commands ss)

-- the bytes of sending states without END
abbrev pub rules_codes : List (List Rule) → List ℕ
rules_codes [] = []
rules_codes (rs ∷ ss) = rules_code rs ++ rules_codes ss

-- how many bytes they are
abbrev pub states_size : List Formula → ℕ
states_size fs = total (λ f. suc (formula_bytes f)) fs

abbrev pub rules_size : List Rule → ℕ
rules_size rs = suc (total (λ r. 2 + total move_bytes r.moves) rs)

abbrev pub sending_size : List (List Rule) → ℕ
sending_size ss = suc (total rules_size ss)

-- what follows a formula in one that looks further along an axis, and in one that asks more
abbrev pub looking_code : Axis → ℕ → List ℕ
looking_code self p = []
looking_code child p = 0x14 ∷ p ∷ 0x19 ∷ []
looking_code descendant p = 0x13 ∷ p ∷ 0x14 ∷ p ∷ 0x19 ∷ 0x19 ∷ []
looking_code following_sibling p = 0x14 ∷ p ∷ 0x19 ∷ []

abbrev pub both_code : Option Formula → List ℕ
both_code None = []
both_code (Some f) = code f ++ (0x18 ∷ [])

abbrev pub both_size : Option Formula → ℕ
both_size None = 0
both_size (Some f) = suc (formula_bytes f)

abbrev pub looking_size : Axis → ℕ
looking_size self = 0
looking_size child = 3
looking_size descendant = 6
looking_size following_sibling = 3

abbrev pub beginning_code : Axis → ℕ → List ℕ
beginning_code self p = 0x15 ∷ p ∷ []
beginning_code child p = 0x13 ∷ p ∷ []
beginning_code descendant p = 0x13 ∷ p ∷ []
beginning_code following_sibling p = 0x14 ∷ p ∷ []

-- The bytes `whole` are to be written from `out` on. In `end` all of them are but `left`, which stand first.
pub record Remains (whole : List ℕ) (out : List ℕ) (at : ℕ) (left : List ℕ) (end : List ℕ) (to : ℕ) : Type 0 where
  pub text : whole ++ text_of out at ≡ left ++ text_of end to
  pub rest : drop to end ≡ drop to out
  pub size : to + length left ≡ at + length whole

-- the bytes of the rules of a state
abbrev pub begin_code : Axis → ℕ → List ℕ
begin_code self q = 0x23 ∷ q ∷ []
begin_code child q = 0x21 ∷ q ∷ []
begin_code descendant q = 0x21 ∷ q ∷ []
begin_code following_sibling q = 0x22 ∷ q ∷ []

abbrev pub keeping_code : Axis → ℕ → ℕ → List ℕ
keeping_code self m j = []
keeping_code child m j = 0x20 ∷ m ∷ 0x22 ∷ j ∷ []
keeping_code descendant m j = 0x20 ∷ m ∷ 0x21 ∷ j ∷ 0x22 ∷ j ∷ []
keeping_code following_sibling m j = 0x20 ∷ m ∷ 0x22 ∷ j ∷ []

-- what the state j goes on to do, if n steps follow
abbrev pub going_code : Table → ℕ → ℕ → List ℕ
going_code q j zero = 0x24 ∷ []
going_code q j (suc n) = begin_code (axis_of (step_at outer q j).axis) (suc j)
