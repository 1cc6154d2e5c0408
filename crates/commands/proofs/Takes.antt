-- The first command of bytes of which the code has seen the first few.
use Rattle.std.proofs.Common.{◌≡◌, ℕ, ◌+◌, ◌-◌, ◌*◌, ◌≤◌, List, [], ◌∷◌, length, get_or, take, drop, Some, sym, refl, ap, ◌∙◌, arith, length-drop}
use Rattle.std.proofs.lemmas.List.{take_all}
use Rattle.commands.specs.declared.command.Command.{Command}
use Rattle.commands.specs.Bytes.{Taken, taken, operands, plain, one, two, kind, kind_of}

-- the bytes from n on
abbrev from : ℕ → List ℕ → List ℕ
from n bs = take (length bs - n) (drop n bs)

abbrev found : Command → List ℕ → Taken
found c bs = Some (c, bs)

all_from : (n : ℕ) (bs : List ℕ) → from n bs ≡ drop n bs
all_from n bs = take_all (length bs - n) (drop n bs) (omega (arith, length-drop n bs))

opcode : (op : ℕ) (bs : List ℕ) → get_or bs 0 0 ≡ op → 1 ≤ length bs → operands op (drop 1 bs) ≡ taken bs
opcode op [] e h = absurd (omega arith)
opcode op (b ∷ bs) e h = ap (λ (x : ℕ). operands x bs) (sym e)

pub plain_at : (op : ℕ) (c : Command) (bs : List ℕ) → get_or bs 0 0 ≡ op → 1 ≤ length bs → ((xs : List ℕ) → plain c xs ≡ operands op xs)
    → found c (from 1 bs) ≡ taken bs
plain_at op c bs e h f = ap (found c) (all_from 1 bs) ∙ f (drop 1 bs) ∙ opcode op bs e h

one_of : (f : ℕ → Command) (bs : List ℕ) → 2 ≤ length bs → found (f (get_or bs 1 0)) (drop 2 bs) ≡ one f (drop 1 bs)
one_of f [] h = absurd (omega arith)
one_of f (a ∷ []) h = absurd (omega arith)
one_of f (a ∷ (b ∷ bs)) h = refl

pub one_at : (op : ℕ) (f : ℕ → Command) (bs : List ℕ) → get_or bs 0 0 ≡ op → 2 ≤ length bs → ((xs : List ℕ) → one f xs ≡ operands op xs)
    → found (f (get_or bs 1 0)) (from 2 bs) ≡ taken bs
one_at op f bs e h g = ap (found (f (get_or bs 1 0))) (all_from 2 bs) ∙ one_of f bs h ∙ g (drop 1 bs) ∙ opcode op bs e (omega arith)

two_of : (f : ℕ → Command) (bs : List ℕ) → 3 ≤ length bs → found (f (get_or bs 1 0 * 256 + get_or bs 2 0)) (drop 3 bs) ≡ two f (drop 1 bs)
two_of f [] h = absurd (omega arith)
two_of f (a ∷ []) h = absurd (omega arith)
two_of f (a ∷ (b ∷ [])) h = absurd (omega arith)
two_of f (a ∷ (b ∷ (d ∷ bs))) h = refl

pub two_at : (op : ℕ) (f : ℕ → Command) (bs : List ℕ) → get_or bs 0 0 ≡ op → 3 ≤ length bs → ((xs : List ℕ) → two f xs ≡ operands op xs)
    → found (f (get_or bs 1 0 * 256 + get_or bs 2 0)) (from 3 bs) ≡ taken bs
two_at op f bs e h g = ap (found (f (get_or bs 1 0 * 256 + get_or bs 2 0))) (all_from 3 bs) ∙ two_of f bs h ∙ g (drop 1 bs) ∙ opcode op bs e (omega arith)

kind_found : (k : ℕ) (c : Command) (bs : List ℕ) → get_or bs 1 0 ≡ k → 2 ≤ length bs → ((xs : List ℕ) → found c xs ≡ kind_of k xs) → found c (drop 2 bs) ≡ kind (drop 1 bs)
kind_found k c [] e h f = absurd (omega arith)
kind_found k c (a ∷ []) e h f = absurd (omega arith)
kind_found k c (a ∷ (b ∷ bs)) e h f = f bs ∙ ap (λ (x : ℕ). kind_of x bs) (sym e)

pub kind_at : (k : ℕ) (c : Command) (bs : List ℕ) → get_or bs 0 0 ≡ 16 → get_or bs 1 0 ≡ k → 2 ≤ length bs → ((xs : List ℕ) → found c xs ≡ kind_of k xs)
    → found c (from 2 bs) ≡ taken bs
kind_at k c bs e g h f = ap (found c) (all_from 2 bs) ∙ kind_found k c bs g h f ∙ opcode 16 bs e (omega arith)
