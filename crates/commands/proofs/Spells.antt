-- The commands of bytes, one after another.
use Rattle.std.proofs.Common.{◌≡◌, ℕ, zero, suc, ◌+◌, ◌*◌, ◌<◌, ◌≤◌, Bool, true, false, cond, eqb, List, [], ◌∷◌, length, Some, None, sym, refl, ap, ◌∙◌, subst, arith}
use Rattle.commands.specs.declared.command.Atom.TheVariants.{Kind as OfKind, Label, True, First, Next, Here}
use Rattle.commands.specs.declared.command.Move.TheVariants.{Down, On, Stay, Mark}
use Rattle.commands.specs.declared.command.Command.{Command}
use Rattle.commands.specs.declared.command.Command.TheVariants.{Value, And, Or, Not, Define, When, Make, Done, End}
use Rattle.commands.specs.Bytes.{Taken, taken, operands, one, two, kind}
use Rattle.commands.specs.Decoded.{width, widths}
use Rattle.commands.specs.Commands.{spelled, commands, commands_of}

abbrev pub found : Command → List ℕ → Taken
found c bs = Some (c, bs)

-- the command and the bytes left make up n bytes and the opcode
abbrev Left : ℕ → Taken → Type 0
Left n None = Unit {0}
Left n (Some t) = suc n ≡ width t.0 + length t.1

either : (b : Bool) (n : ℕ) (x y : Taken) → Left n x → Left n y → Left n (cond b x y)
either true n x y l r = l
either false n x y l r = r

plain_left : (c : Command) (bs : List ℕ) → width c ≡ 1 → Left (length bs) (found c bs)
plain_left c bs e = omega arith

one_left : (f : ℕ → Command) (bs : List ℕ) → ((p : ℕ) → width (f p) ≡ 2) → Left (length bs) (one f bs)
one_left f [] e = tt
one_left f (b ∷ bs) e = omega (arith, e b)

two_left : (f : ℕ → Command) (bs : List ℕ) → ((p : ℕ) → width (f p) ≡ 3) → Left (length bs) (two f bs)
two_left f [] e = tt
two_left f (b ∷ []) e = tt
two_left f (b ∷ (c ∷ bs)) e = omega (arith, e (b * 256 + c))

kind_left : (bs : List ℕ) → Left (length bs) (kind bs)
kind_left [] = tt
kind_left (k ∷ bs) =
    let l : suc (suc (length bs)) ≡ 2 + length bs = omega arith in
    either (eqb k 0) _ _ _ l (either (eqb k 1) _ _ _ l (either (eqb k 2) _ _ _ l tt))

operands_left : (op : ℕ) (bs : List ℕ) → Left (length bs) (operands op bs)
operands_left op bs =
    either (eqb op 16) _ _ _ (kind_left bs)
    (either (eqb op 17) _ _ _ (two_left (λ c. Value (Label c)) bs (λ x. refl))
    (either (eqb op 18) _ _ _ (plain_left (Value True) bs refl)
    (either (eqb op 19) _ _ _ (one_left (λ p. Value (First p)) bs (λ x. refl))
    (either (eqb op 20) _ _ _ (one_left (λ p. Value (Next p)) bs (λ x. refl))
    (either (eqb op 21) _ _ _ (one_left (λ p. Value (Here p)) bs (λ x. refl))
    (either (eqb op 24) _ _ _ (plain_left And bs refl)
    (either (eqb op 25) _ _ _ (plain_left Or bs refl)
    (either (eqb op 26) _ _ _ (plain_left Not bs refl)
    (either (eqb op 31) _ _ _ (plain_left Define bs refl)
    (either (eqb op 32) _ _ _ (one_left When bs (λ x. refl))
    (either (eqb op 33) _ _ _ (one_left (λ q. Make (Down q)) bs (λ x. refl))
    (either (eqb op 34) _ _ _ (one_left (λ q. Make (On q)) bs (λ x. refl))
    (either (eqb op 35) _ _ _ (one_left (λ q. Make (Stay q)) bs (λ x. refl))
    (either (eqb op 36) _ _ _ (plain_left (Make Mark) bs refl)
    (either (eqb op 47) _ _ _ (plain_left Done bs refl)
    (either (eqb op 255) _ _ _ (plain_left End bs refl) tt))))))))))))))))

pub taken_width : (bs : List ℕ) (c : Command) (rest : List ℕ) → taken bs ≡ Some (c, rest) → length bs ≡ width c + length rest
taken_width [] c rest e = let z : ◌≡◌ {A = ℕ} 0 1 = cc in absurd (omega arith)
taken_width (op ∷ bs) c rest e = subst (Left (length bs)) e (operands_left op bs)

some_width : (c : Command) → 1 ≤ width c
some_width (Value (OfKind k)) = omega arith
some_width (Value (Label c)) = omega arith
some_width (Value True) = omega arith
some_width (Value (First p)) = omega arith
some_width (Value (Next p)) = omega arith
some_width (Value (Here p)) = omega arith
some_width And = omega arith
some_width Or = omega arith
some_width Not = omega arith
some_width Define = omega arith
some_width (When p) = omega arith
some_width (Make (Down q)) = omega arith
some_width (Make (On q)) = omega arith
some_width (Make (Stay q)) = omega arith
some_width (Make Mark) = omega arith
some_width Done = omega arith
some_width End = omega arith

pub taken_less : (bs : List ℕ) (c : Command) (rest : List ℕ) → taken bs ≡ Some (c, rest) → length rest < length bs
taken_less bs c rest e = omega (arith, taken_width bs c rest e, some_width c)

enough : (n m : ℕ) (bs : List ℕ) → length bs ≤ n → length bs ≤ m → commands n bs ≡ commands m bs
enough zero zero bs h k = refl
enough zero (suc m) [] h k = refl
enough zero (suc m) (b ∷ bs) h k = absurd (omega arith)
enough (suc n) zero [] h k = refl
enough (suc n) zero (b ∷ bs) h k = absurd (omega arith)
enough (suc n) (suc m) bs h k = go (λ rest l. enough n m rest (omega arith) (omega arith)) (taken bs) refl
  where
    go : ((rest : List ℕ) → length rest < length bs → commands n rest ≡ commands m rest) → (t : Taken) → taken bs ≡ t → spelled t (commands n) ≡ spelled t (commands m)
    go same None e = refl
    go same (Some t) e = ap (λ (cs : List Command). t.0 ∷ cs) (same t.1 (taken_less bs t.0 t.1 e))

pub commands_more : (bs : List ℕ) (c : Command) (rest : List ℕ) → taken bs ≡ Some (c, rest) → commands_of bs ≡ c ∷ commands_of rest
unfolding commands_of
commands_more [] c rest e = let z : ◌≡◌ {A = ℕ} 0 1 = cc in absurd (omega arith)
commands_more (op ∷ bs) c rest e =
    let l = taken_less (op ∷ bs) c rest e in
    ap (λ (t : Taken). spelled t (commands (length bs))) e ∙ ap (λ (cs : List Command). c ∷ cs) (enough (length bs) (length rest) rest (omega arith) (omega arith))

pub commands_none : (bs : List ℕ) → taken bs ≡ None → commands_of bs ≡ []
unfolding commands_of
commands_none [] e = refl
commands_none (op ∷ bs) e = ap (λ (t : Taken). spelled t (commands (length bs))) e

-- the commands take no more bytes than there are, and each takes some
spelled_widths : (n : ℕ) (bs : List ℕ) → ((rest : List ℕ) → widths (commands n rest) ≤ length rest) → (t : Taken) → taken bs ≡ t → widths (spelled t (commands n)) ≤ length bs
spelled_widths n bs short None e = omega arith
spelled_widths n bs short (Some t) e = omega (arith, short t.1, taken_width bs t.0 t.1 e)

within : (n : ℕ) (bs : List ℕ) → widths (commands n bs) ≤ length bs
within zero bs = omega arith
within (suc n) bs = spelled_widths n bs (λ rest. within n rest) (taken bs) refl

pub widths_short : (bs : List ℕ) → widths (commands_of bs) ≤ length bs
unfolding commands_of
widths_short bs = within (length bs) bs

pub length_widths : (cs : List Command) → length cs ≤ widths cs
length_widths [] = omega arith
length_widths (c ∷ cs) = let more = length_widths cs in omega (arith, some_width c)

pub commands_short : (bs : List ℕ) → length (commands_of bs) ≤ length bs
commands_short bs = omega (arith, length_widths (commands_of bs), widths_short bs)
