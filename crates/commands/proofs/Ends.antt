-- What is left after a command is the end of the bytes.
use Rattle.std.proofs.Common.{◌≡◌, ℕ, zero, suc, ◌+◌, ◌-◌, ◌<◌, ◌≤◌, Bool, true, false, cond, eqb, List, [], ◌∷◌, length, drop, Some, None, sym, refl, ap, ◌∙◌, subst, ⊎_elim, arith, length-drop}
use Rattle.std.proofs.lemmas.List.{drop-drop}
use Rattle.std.proofs.lemmas.List.Sums.{sum_by-cons, take_while-cons}
use Rattle.std.specs.List.{sum_by, take_while}
use Rattle.commands.specs.declared.command.Atom.TheVariants.{Label, True, First, Next, Here}
use Rattle.commands.specs.declared.command.Move.TheVariants.{Down, On, Stay, Mark}
use Rattle.commands.specs.declared.command.Command.{Command}
use Rattle.commands.specs.declared.command.Command.TheVariants.{Value, And, Or, Not, Define, When, Make, Done, End}
use Rattle.commands.specs.Bytes.{Taken, taken, one, two, kind, operands}
use Rattle.commands.specs.Begin.{lead, rules_at}
use Rattle.commands.specs.Commands.{commands_of}
use Rattle.commands.specs.Decoded.{width, widths}
use Rattle.commands.specs.Rules.{deciding, after_deciding}
use Rattle.std.proofs.lemmas.Bool.{cases_Bool, cond-true, cond-false}
use Rattle.commands.proofs.Spells.{found, taken_width, taken_less, commands_more, commands_none, widths_short}

-- the bytes left are those after the first k
abbrev Ends : List ℕ → Taken → Type 0
Ends all None = Unit {0}
Ends all (Some t) = (k : ℕ) × (1 ≤ k) × (k ≤ length all) × (t.1 ≡ drop k all)

either : (b : Bool) (all : List ℕ) (x y : Taken) → Ends all x → Ends all y → Ends all (cond b x y)
either true all x y l r = l
either false all x y l r = r

plain_ends : (op : ℕ) (c : Command) (bs : List ℕ) → Ends (op ∷ bs) (found c bs)
plain_ends op c bs = (1, omega arith, omega arith, refl)

one_ends : (op : ℕ) (f : ℕ → Command) (bs : List ℕ) → Ends (op ∷ bs) (one f bs)
one_ends op f [] = tt
one_ends op f (b ∷ bs) = (2, omega arith, omega arith, refl)

two_ends : (op : ℕ) (f : ℕ → Command) (bs : List ℕ) → Ends (op ∷ bs) (two f bs)
two_ends op f [] = tt
two_ends op f (b ∷ []) = tt
two_ends op f (b ∷ (c ∷ bs)) = (3, omega arith, omega arith, refl)

kind_ends : (op : ℕ) (bs : List ℕ) → Ends (op ∷ bs) (kind bs)
kind_ends op [] = tt
kind_ends op (k ∷ bs) =
    let l : (n : ℕ) × (1 ≤ n) × (n ≤ length (op ∷ (k ∷ bs))) × (bs ≡ drop n (op ∷ (k ∷ bs))) = (2, omega arith, omega arith, refl) in
    either (eqb k 0) (op ∷ (k ∷ bs)) _ _ l (either (eqb k 1) (op ∷ (k ∷ bs)) _ _ l (either (eqb k 2) (op ∷ (k ∷ bs)) _ _ l tt))

operands_ends : (op : ℕ) (bs : List ℕ) → Ends (op ∷ bs) (operands op bs)
operands_ends op bs =
    either (eqb op 16) (op ∷ bs) _ _ (kind_ends op bs)
    (either (eqb op 17) (op ∷ bs) _ _ (two_ends op (λ c. Value (Label c)) bs)
    (either (eqb op 18) (op ∷ bs) _ _ (plain_ends op (Value True) bs)
    (either (eqb op 19) (op ∷ bs) _ _ (one_ends op (λ p. Value (First p)) bs)
    (either (eqb op 20) (op ∷ bs) _ _ (one_ends op (λ p. Value (Next p)) bs)
    (either (eqb op 21) (op ∷ bs) _ _ (one_ends op (λ p. Value (Here p)) bs)
    (either (eqb op 24) (op ∷ bs) _ _ (plain_ends op And bs)
    (either (eqb op 25) (op ∷ bs) _ _ (plain_ends op Or bs)
    (either (eqb op 26) (op ∷ bs) _ _ (plain_ends op Not bs)
    (either (eqb op 31) (op ∷ bs) _ _ (plain_ends op Define bs)
    (either (eqb op 32) (op ∷ bs) _ _ (one_ends op When bs)
    (either (eqb op 33) (op ∷ bs) _ _ (one_ends op (λ q. Make (Down q)) bs)
    (either (eqb op 34) (op ∷ bs) _ _ (one_ends op (λ q. Make (On q)) bs)
    (either (eqb op 35) (op ∷ bs) _ _ (one_ends op (λ q. Make (Stay q)) bs)
    (either (eqb op 36) (op ∷ bs) _ _ (plain_ends op (Make Mark) bs)
    (either (eqb op 47) (op ∷ bs) _ _ (plain_ends op Done bs)
    (either (eqb op 255) (op ∷ bs) _ _ (plain_ends op End bs) tt))))))))))))))))

taken_ends : (bs : List ℕ) → Ends bs (taken bs)
taken_ends [] = tt
taken_ends (op ∷ bs) = operands_ends op bs

-- after a command that begins at n, and where the next begins
pub record After (all : List ℕ) (n : ℕ) (rest : List ℕ) : Type 0 where
  pub short : length rest ≤ length all
  pub further : n < length all - length rest
  pub within : length all - length rest ≤ length all
  pub is : rest ≡ drop (length all - length rest) all

pub after : (all : List ℕ) (n : ℕ) (c : Command) (rest : List ℕ) → n ≤ length all → taken (drop n all) ≡ Some (c, rest) → After all n rest
after all n c rest h e =
    let t = subst (Ends (drop n all)) e (taken_ends (drop n all)) in
    let k = t.0 in
    let one : 1 ≤ k = t.1 in
    let m : k ≤ length (drop n all) = t.2 in
    let d : length (drop n all) ≡ length all - n = length-drop n all in
    let is : rest ≡ drop (n + k) all = t.3 ∙ drop-drop k n all in
    let l : length rest ≡ length all - (n + k) = ap length is ∙ length-drop (n + k) all in
    let same : n + k ≡ length all - length rest = omega arith in
    record {
      short = omega arith;
      further = omega arith;
      within = omega arith;
      is = is ∙ ap (λ (j : ℕ). drop j all) same;
    }

-- the sending states are what the bytes from there on spell
begin_by : (n : ℕ) (bs : List ℕ) → length bs ≤ n → commands_of (drop (rules_at bs) bs) ≡ after_deciding (commands_of bs)
begin_by zero bs h = let e : length bs ≡ 0 = omega arith in nothing bs e
  where
    nothing : (l : List ℕ) → length l ≡ 0 → commands_of (drop (rules_at l) l) ≡ after_deciding (commands_of l)
    nothing [] e = let z = commands_none [] refl in ap (λ (k : ℕ). commands_of (drop k [])) (ap lead z) ∙ z ∙ sym (ap after_deciding z)
    nothing (x ∷ xs) e = absurd (omega arith)
begin_by (suc n) bs h = go (λ rest l. begin_by n rest (omega arith)) (taken bs) refl
  where
    none : commands_of bs ≡ [] → commands_of (drop (rules_at bs) bs) ≡ after_deciding (commands_of bs)
    none e = ap (λ (k : ℕ). commands_of (drop k bs)) (ap lead e) ∙ e ∙ sym (ap after_deciding e)

    go : ((rest : List ℕ) → length rest < length bs → commands_of (drop (rules_at rest) rest) ≡ after_deciding (commands_of rest)) → (t : Taken) → taken bs ≡ t →
        commands_of (drop (rules_at bs) bs) ≡ after_deciding (commands_of bs)
    go again None e = none (commands_none bs e)
    go again (Some t) e =
        let c = t.0 in
        let rest = t.1 in
        let is : commands_of bs ≡ c ∷ commands_of rest = commands_more bs c rest e in
        let l = taken_less bs c rest e in
        let w = taken_width bs c rest e in
        let a = after bs 0 c rest (omega arith) e in
        let at : length bs - length rest ≡ width c = omega arith in
        let ends : rest ≡ drop (width c) bs = a.is ∙ ap (λ (k : ℕ). drop k bs) at in
        ⊎_elim
        (λ y.
        let k : rules_at bs ≡ width c + rules_at rest = ap lead is ∙ cond-true (deciding c) (width c + lead (commands_of rest)) 0 y in
        ap (λ (j : ℕ). commands_of (drop j bs)) k ∙ ap commands_of (sym (drop-drop (rules_at rest) (width c) bs) ∙ ap (drop (rules_at rest)) (sym ends))
        ∙ again rest l ∙ sym (ap after_deciding is ∙ cond-true (deciding c) (after_deciding (commands_of rest)) (c ∷ commands_of rest) y))
        (λ y.
        let k : rules_at bs ≡ 0 = ap lead is ∙ cond-false (deciding c) (width c + lead (commands_of rest)) 0 y in
        ap (λ (j : ℕ). commands_of (drop j bs)) k ∙ is ∙ sym (ap after_deciding is ∙ cond-false (deciding c) (after_deciding (commands_of rest)) (c ∷ commands_of rest) y))
        (cases_Bool (deciding c))

pub rules_begin : (bs : List ℕ) → commands_of (drop (rules_at bs) bs) ≡ after_deciding (commands_of bs)
rules_begin bs = begin_by (length bs) bs (omega arith)

-- the commands before the first of a sending state take so many bytes
pub lead_sum : (cs : List Command) → sum_by width (take_while deciding cs) ≡ lead cs
lead_sum [] = refl
lead_sum (c ∷ cs) =
    let more = lead_sum cs in
    ap (sum_by width) (take_while-cons deciding c cs)
    ∙ elim (deciding c) as (λ b. sum_by width (cond b (c ∷ take_while deciding cs) []) ≡ cond b (width c + lead cs) 0) [ true ↦ sum_by-cons width c (take_while deciding cs) ∙ ap (λ (n : ℕ). width c + n) more | false ↦ refl ]

lead_within : (cs : List Command) → lead cs ≤ widths cs
lead_within [] = omega arith
lead_within (c ∷ cs) = let more = lead_within cs in elim (deciding c) as (λ b. cond b (width c + lead cs) 0 ≤ width c + widths cs) [ true ↦ omega arith | false ↦ omega arith ]

pub rules_within : (bs : List ℕ) → rules_at bs ≤ length bs
rules_within bs = omega (arith, lead_within (commands_of bs), widths_short bs)
