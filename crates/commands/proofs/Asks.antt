-- Formulas say the same of a node as far as they see it.
use Rattle.std.proofs.Common.{◌≡◌, ℕ, ◌+◌, ◌^◌, ◌<◌, Bool, true, false, ◌&&◌, ◌||◌, List, [], ◌∷◌, sym, refl, ap, ◌∙◌, ⊎_elim}
use lib.Bits.{bit_and}
use Rattle.std.proofs.Math.Bool.{and-true}
use Rattle.std.proofs.lemmas.Bool.{cases_lt}
use Rattle.std.specs.List.{fold}
use Rattle.words.specs.Bit.{bit, with_bit, put_bit}
use Rattle.words.proofs.Bits.{bit_set, bit-or, bit-and, bit_past, with_bit_or}
use Rattle.commands.specs.declared.node.Node.{Node}
use Rattle.commands.specs.declared.node.Asked.{Asked}
use Rattle.commands.specs.declared.command.Atom.{Atom}
use Rattle.commands.specs.declared.command.Atom.TheVariants.{Kind as OfKind, Label, True, First, Next, Here}
use Rattle.commands.specs.declared.command.Kind.TheVariants.{Root, Text, Element}
use Rattle.commands.specs.declared.command.Command.{Command}
use Rattle.commands.specs.declared.command.Command.TheVariants.{Value, And, Or, Not, Define, When, Make, Done, End}
use Rattle.commands.specs.Stack.{push, top, both, either, neither}
use Rattle.commands.specs.Deciding.{holds_at, decide}
use Rattle.commands.specs.Asked.{with_atom, with_command, asked, seen, Fits}

-- b has every bit that a has
abbrev Within : ℕ → ℕ → Type 0
Within a b = (i : ℕ) → bit a i ≡ true → bit b i ≡ true

within_set : (a i : ℕ) → Within a (with_bit a i)
within_set a i j h = ap (λ (w : ℕ). bit w j) (with_bit_or a i) ∙ bit-or a (with_bit 0 i) j ∙ ap (λ (b : Bool). b || bit (with_bit 0 i) j) h

record Grows (a b : Asked) : Type 0 where
  first : Within a.first b.first
  next : Within a.next b.next

grows_atom : (x : Atom) (a : Asked) → Grows a (with_atom x a)
grows_atom (OfKind k) a = record { first = λ i h. h; next = λ i h. h }
grows_atom (Label c) a = record { first = λ i h. h; next = λ i h. h }
grows_atom True a = record { first = λ i h. h; next = λ i h. h }
grows_atom (First p) a = record { first = within_set a.first p; next = λ i h. h }
grows_atom (Next p) a = record { first = λ i h. h; next = within_set a.next p }
grows_atom (Here p) a = record { first = λ i h. h; next = λ i h. h }

grows_command : (c : Command) (a : Asked) → Grows a (with_command c a)
grows_command (Value x) a = grows_atom x a
grows_command And a = record { first = λ i h. h; next = λ i h. h }
grows_command Or a = record { first = λ i h. h; next = λ i h. h }
grows_command Not a = record { first = λ i h. h; next = λ i h. h }
grows_command Define a = record { first = λ i h. h; next = λ i h. h }
grows_command (When q) a = record { first = λ i h. h; next = λ i h. h }
grows_command (Make m) a = record { first = λ i h. h; next = λ i h. h }
grows_command Done a = record { first = λ i h. h; next = λ i h. h }
grows_command End a = record { first = λ i h. h; next = λ i h. h }

grows : (cs : List Command) (a : Asked) → Grows a (asked cs a)
grows [] a = record { first = λ i h. h; next = λ i h. h }
grows (c ∷ cs) a =
    let one = grows_command c a in
    let rest = grows cs (with_command c a) in
    record { first = λ i h. rest.first i (one.first i h); next = λ i h. rest.next i (one.next i h) }

-- what the atom asks is among a
abbrev Covers : Atom → Asked → Type 0
Covers (OfKind k) a = Unit {0}
Covers (Label c) a = Unit {0}
Covers True a = Unit {0}
Covers (First p) a = p < 64 → bit a.first p ≡ true
Covers (Next p) a = p < 64 → bit a.next p ≡ true
Covers (Here p) a = Unit {0}

covers : (x : Atom) (cs : List Command) (a : Asked) → Covers x (asked cs (with_atom x a))
covers (OfKind k) cs a = tt
covers (Label c) cs a = tt
covers True cs a = tt
covers (First p) cs a = λ h. (grows cs (with_atom (First p) a)).first p (bit_set a.first p h)
covers (Next p) cs a = λ h. (grows cs (with_atom (Next p) a)).next p (bit_set a.next p h)
covers (Here p) cs a = tt

-- a bit that the mask keeps
masked : (w m p : ℕ) → w < 2 ^ 64 → (p < 64 → bit m p ≡ true) → bit (bit_and w m) p ≡ bit w p
masked w m p fits has =
    bit-and w m p
    ∙ ⊎_elim
    (λ h. ap (λ (b : Bool). bit w p && b) (has h) ∙ and-true (bit w p))
    (λ h. let none = bit_past 64 w p fits h in ap (λ (b : Bool). b && bit m p) none ∙ sym none)
    (cases_lt p 64)

same_atom : (x : Atom) (a : Asked) (n : Node) (w : ℕ) → Fits n → Covers x a → holds_at x (seen a n) w ≡ holds_at x n w
same_atom (OfKind Root) a n w f c = refl
same_atom (OfKind Text) a n w f c = refl
same_atom (OfKind Element) a n w f c = refl
same_atom (Label l) a n w f c = refl
same_atom True a n w f c = refl
same_atom (First p) a n w f c = masked n.first a.first p f.first c
same_atom (Next p) a n w f c = masked n.next a.next p f.next c
same_atom (Here p) a n w f c = refl

pub decide_seen : (cs : List Command) (a : Asked) (n : Node) (s w p : ℕ) → Fits n → decide (seen (asked cs a) n) cs s w p ≡ decide n cs s w p
decide_seen [] a n s w p f = refl
decide_seen (Value x ∷ cs) a n s w p f =
    let b = asked cs (with_atom x a) in
    ap (λ (v : Bool). decide (seen b n) cs (push s v) w p) (same_atom x b n w f (covers x cs a))
    ∙ decide_seen cs (with_atom x a) n (push s (holds_at x n w)) w p f
decide_seen (And ∷ cs) a n s w p f = decide_seen cs a n (both s) w p f
decide_seen (Or ∷ cs) a n s w p f = decide_seen cs a n (either s) w p f
decide_seen (Not ∷ cs) a n s w p f = decide_seen cs a n (neither s) w p f
decide_seen (Define ∷ cs) a n s w p f = decide_seen cs a n 0 (put_bit w p (top s)) (p + 1) f
decide_seen (When q ∷ cs) a n s w p f = refl
decide_seen (Make m ∷ cs) a n s w p f = refl
decide_seen (Done ∷ cs) a n s w p f = refl
decide_seen (End ∷ cs) a n s w p f = refl

-- the commands are asked one after another
pub asked_fold : (cs : List Command) (a : Asked) → fold (λ (x : Asked) (c : Command). with_command c x) a cs ≡ asked cs a
asked_fold [] a = refl
asked_fold (c ∷ cs) a = asked_fold cs (with_command c a)
