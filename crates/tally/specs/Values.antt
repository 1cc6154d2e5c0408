-- The values of the three kinds of tally.
use Rattle.std.specs.Prelude.{◌≡◌, ℕ, ◌+◌, ◌≤◌, min, Bool, false, ◌||◌, List, [], ◌++◌, length, take, nat_lt, refl}
use Rattle.std.proofs.Common.{sym, ap, subst, ◌∙◌, append_assoc, append-nil, arith, take_all}
use Rattle.std.proofs.Math.Bridge.{le_prop}
use Rattle.std.proofs.Math.Bool.{or-false}
use Rattle.tally.specs.Twelve.{take_front, take_back, flag_assoc, flag_right, few_of}

-- a number that stops at 65,535
pub record Capped : Type 0 where
  pub number : ℕ
  pub within : number ≤ 65535

abbrev pub cap : ℕ → Capped
cap n = record { number = min 65535 n; within = omega arith }

abbrev pub add : Capped → Capped → Capped
add a b = cap (a.number + b.number)

pub same_capped : (a b : Capped) → a.number ≡ b.number → a ≡ b
same_capped a b e =
    let P : ℕ → Type 0 = λ n. (h : n ≤ 65535) → a ≡ record { number = n; within = h } in
    subst P e (λ h. ap (λ (k : a.number ≤ 65535). let c : Capped = record { number = a.number; within = k } in c) (le_prop a.within h)) b.within

pub add_assoc : (a b c : Capped) → add (add a b) c ≡ add a (add b c)
add_assoc a b c = same_capped _ _ (omega arith)

pub add_left : (a : Capped) → add (cap 0) a ≡ a
add_left a = same_capped _ _ (omega (arith, a.within))

pub add_right : (a : Capped) → add a (cap 0) ≡ a
add_right a = same_capped _ _ (omega (arith, a.within))

-- nothing, or the first node and the last
pub data Extent : Type 0 where
  nowhere : Extent
  across : ℕ → ℕ → Extent

abbrev pub spanned : Extent → Extent → Extent
spanned nowhere b = b
spanned (across f l) nowhere = across f l
spanned (across f l) (across f' l') = across f l'

pub spanned_assoc : (a b c : Extent) → spanned (spanned a b) c ≡ spanned a (spanned b c)
spanned_assoc nowhere b c = refl
spanned_assoc (across f l) nowhere c = refl
spanned_assoc (across f l) (across g m) nowhere = refl
spanned_assoc (across f l) (across g m) (across h n) = refl

pub spanned_right : (a : Extent) → spanned a nowhere ≡ a
spanned_right nowhere = refl
spanned_right (across f l) = refl

-- the first twelve numbers, and whether more follow
pub record Leading : Type 0 where
  pub numbers : List ℕ
  pub few : length numbers ≤ 12
  pub more : Bool

abbrev pub leading : List ℕ → Bool → Leading
leading xs m = record { numbers = take 12 xs; few = few_of xs; more = m || nat_lt 12 (length xs) }

abbrev pub followed : Leading → Leading → Leading
followed a b = leading (a.numbers ++ b.numbers) (a.more || b.more)

pub same_leading : (a b : Leading) → a.numbers ≡ b.numbers → a.more ≡ b.more → a ≡ b
same_leading a b e f =
    let P : List ℕ → Type 0 = λ n. (h : length n ≤ 12) → a ≡ record { numbers = n; few = h; more = a.more } in
    subst P e (λ h. ap (λ (k : length a.numbers ≤ 12). let c : Leading = record { numbers = a.numbers; few = k; more = a.more } in c) (le_prop a.few h)) b.few
    ∙ ap (λ (m : Bool). let c : Leading = record { numbers = b.numbers; few = b.few; more = m } in c) f

pub followed_assoc : (a b c : Leading) → followed (followed a b) c ≡ followed a (followed b c)
followed_assoc a b c =
    same_leading _ _
    (take_front (a.numbers ++ b.numbers) c.numbers ∙ ap (take 12) (append_assoc a.numbers b.numbers c.numbers) ∙ sym (take_back a.numbers (b.numbers ++ c.numbers)))
    (flag_assoc a.more b.more c.more a.numbers b.numbers c.numbers)

pub followed_left : (a : Leading) → followed (leading [] false) a ≡ a
followed_left a = same_leading _ _ (take_all 12 a.numbers a.few) (flag_right a.more a.numbers a.few)

pub followed_right : (a : Leading) → followed a (leading [] false) ≡ a
followed_right a =
    let e : a.numbers ++ [] ≡ a.numbers = append-nil a.numbers in
    same_leading _ _ (ap (take 12) e ∙ take_all 12 a.numbers a.few)
    (ap (λ (xs : List ℕ). (a.more || false) || nat_lt 12 (length xs)) e ∙ ap (λ (m : Bool). m || nat_lt 12 (length a.numbers)) (or-false a.more) ∙ flag_right a.more a.numbers a.few)
