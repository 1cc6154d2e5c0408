-- Bytes that are read as a program that keeps the rules are the bytes of that program.
use Rattle.std.proofs.Common.{◌≡◌, ℕ, zero, suc, ◌+◌, ◌*◌, ◌/◌, ◌%◌, ◌<◌, ◌≤◌, Bool, true, false, cond, eqb, List, [], ◌∷◌, ◌++◌, length, get_or, Some, None, Option, sym, refl, ap, ◌∙◌, subst, arith, w8, Fits}
use Rattle.std.proofs.lemmas.Bool.{eqb-true}
use Rattle.automata.specs.Program.{Formula, Rule, Program, Proper, Every}
use Rattle.automata.specs.Program as program
use Rattle.commands.specs.declared.command.Kind.TheVariants.{Root, Text, Element}
use Rattle.commands.specs.declared.command.Atom.{Atom}
use Rattle.commands.specs.declared.command.Atom.TheVariants.{Kind as OfKind, Label, True, First, Next, Here}
use Rattle.commands.specs.declared.command.Move.{Move}
use Rattle.commands.specs.declared.command.Move.TheVariants.{Down, On, Stay, Mark}
use Rattle.commands.specs.declared.command.Command.{Command}
use Rattle.commands.specs.declared.command.Command.TheVariants.{Value, And, Or, Not, Define, When, Make, Done, End}
use Rattle.commands.specs.Bytes.{Taken, taken, operands, one, two, kind}
use Rattle.commands.specs.Commands.{commands_of}
use Rattle.commands.specs.Decoded.{formula, move, width, widths, decoded}
use Rattle.commands.specs.Encoded.{command_bytes, bytes_of, move_from, postfix, deciding_commands, move_commands, rule_commands, sending_commands, program_commands, encoded}
use Rattle.commands.specs.Checked.{Loadable}
use Rattle.commands.specs.Denotes.{Denotes, OneProgram, Reading}
use Rattle.commands.proofs.Spells.{found, taken_width, taken_less, commands_more, commands_none}
use Rattle.commands.proofs.Grammar.{Defines, Sends, Below, Decoded, decoded_reads}
use Rattle.commands.proofs.Grammar as reads
use Rattle.commands.proofs.Encodes.{read_back}

abbrev Byte : ℕ → Type 0
Byte b = b < 256

-- the bytes of the command and those left are all of them
abbrev Spelt : List ℕ → Taken → Type 0
Spelt all None = Unit {0}
Spelt all (Some t) = command_bytes t.0 ++ t.1 ≡ all

either : (op k : ℕ) (all : List ℕ) (x y : Taken) → (op ≡ k → Spelt all x) → Spelt all y → Spelt all (cond (eqb op k) x y)
either op k all x y l r = pick (eqb op k) refl
  where
    pick : (b : Bool) → eqb op k ≡ b → Spelt all (cond b x y)
    pick true e = l (eqb-true op k e)
    pick false e = r

plain_spelt : (op k : ℕ) (c : Command) (bs : List ℕ) → command_bytes c ≡ k ∷ [] → op ≡ k → Spelt (op ∷ bs) (found c bs)
plain_spelt op k c bs s e = ap (λ (h : List ℕ). h ++ bs) s ∙ ap (λ (x : ℕ). x ∷ bs) (sym e)

one_spelt : (op k : ℕ) (f : ℕ → Command) (bs : List ℕ) → ((p : ℕ) → command_bytes (f p) ≡ k ∷ p ∷ []) → op ≡ k → Spelt (op ∷ bs) (one f bs)
one_spelt op k f [] s e = tt
one_spelt op k f (p ∷ bs) s e = ap (λ (h : List ℕ). h ++ bs) (s p) ∙ ap (λ (x : ℕ). x ∷ p ∷ bs) (sym e)

label_spelt : (op : ℕ) (bs : List ℕ) → Every Byte bs → op ≡ 17 → Spelt (op ∷ bs) (two (λ c. Value (Label c)) bs)
label_spelt op [] s e = tt
label_spelt op (h ∷ []) s e = tt
label_spelt op (h ∷ (l ∷ bs)) s e =
    let low : l < 256 = s.1.0 in
    let a : (h * 256 + l) / 256 ≡ h = omega arith in
    let b : (h * 256 + l) % 256 ≡ l = omega arith in
    let c : 17 ≡ op = sym e in
    cc

kind_spelt : (op : ℕ) (bs : List ℕ) → op ≡ 16 → Spelt (op ∷ bs) (kind bs)
kind_spelt op [] e = tt
kind_spelt op (k ∷ bs) e =
    either k 0 (op ∷ (k ∷ bs)) _ _ (λ i. let a : 16 ≡ op = sym e in let b : 0 ≡ k = sym i in cc)
    (either k 1 (op ∷ (k ∷ bs)) _ _ (λ i. let a : 16 ≡ op = sym e in let b : 1 ≡ k = sym i in cc)
    (either k 2 (op ∷ (k ∷ bs)) _ _ (λ i. let a : 16 ≡ op = sym e in let b : 2 ≡ k = sym i in cc) tt))

operands_spelt : (op : ℕ) (bs : List ℕ) → Every Byte bs → Spelt (op ∷ bs) (operands op bs)
operands_spelt op bs s =
    either op 16 (op ∷ bs) _ _ (kind_spelt op bs)
    (either op 17 (op ∷ bs) _ _ (label_spelt op bs s)
    (either op 18 (op ∷ bs) _ _ (plain_spelt op 18 (Value True) bs refl)
    (either op 19 (op ∷ bs) _ _ (one_spelt op 19 (λ p. Value (First p)) bs (λ p. refl))
    (either op 20 (op ∷ bs) _ _ (one_spelt op 20 (λ p. Value (Next p)) bs (λ p. refl))
    (either op 21 (op ∷ bs) _ _ (one_spelt op 21 (λ p. Value (Here p)) bs (λ p. refl))
    (either op 24 (op ∷ bs) _ _ (plain_spelt op 24 And bs refl)
    (either op 25 (op ∷ bs) _ _ (plain_spelt op 25 Or bs refl)
    (either op 26 (op ∷ bs) _ _ (plain_spelt op 26 Not bs refl)
    (either op 31 (op ∷ bs) _ _ (plain_spelt op 31 Define bs refl)
    (either op 32 (op ∷ bs) _ _ (one_spelt op 32 When bs (λ p. refl))
    (either op 33 (op ∷ bs) _ _ (one_spelt op 33 (λ q. Make (Down q)) bs (λ p. refl))
    (either op 34 (op ∷ bs) _ _ (one_spelt op 34 (λ q. Make (On q)) bs (λ p. refl))
    (either op 35 (op ∷ bs) _ _ (one_spelt op 35 (λ q. Make (Stay q)) bs (λ p. refl))
    (either op 36 (op ∷ bs) _ _ (plain_spelt op 36 (Make Mark) bs refl)
    (either op 47 (op ∷ bs) _ _ (plain_spelt op 47 Done bs refl)
    (either op 255 (op ∷ bs) _ _ (plain_spelt op 255 End bs refl) tt))))))))))))))))

taken_spelt : (bs : List ℕ) → Every Byte bs → Spelt bs (taken bs)
taken_spelt [] s = tt
taken_spelt (op ∷ bs) s = operands_spelt op bs s.1

every_rest : (xs ys : List ℕ) → Every Byte (xs ++ ys) → Every Byte ys
every_rest [] ys e = e
every_rest (x ∷ xs) ys e = every_rest xs ys e.1

-- bytes that are all commands
written_by : (n : ℕ) (bs : List ℕ) → length bs ≤ n → Every Byte bs → widths (commands_of bs) ≡ length bs → bytes_of (commands_of bs) ≡ bs
written_by zero [] h s w = ap bytes_of (commands_none [] refl)
written_by zero (b ∷ bs) h s w = absurd (omega arith)
written_by (suc n) bs h s w = go (λ rest l t v. written_by n rest (omega arith) t v) (taken bs) refl
  where
    go : ((rest : List ℕ) → length rest < length bs → Every Byte rest → widths (commands_of rest) ≡ length rest → bytes_of (commands_of rest) ≡ rest) → (t : Taken) → taken bs ≡ t → bytes_of (commands_of bs) ≡ bs
    go again None e =
        let none : commands_of bs ≡ [] = commands_none bs e in
        let z : length bs ≡ 0 = omega (arith, ap widths none) in
        ap bytes_of none ∙ sym (empty bs z)
      where
        empty : (l : List ℕ) → length l ≡ 0 → l ≡ []
        empty [] i = refl
        empty (x ∷ l) i = absurd (omega arith)
    go again (Some t) e =
        let c = t.0 in
        let rest = t.1 in
        let is : commands_of bs ≡ c ∷ commands_of rest = commands_more bs c rest e in
        let all : command_bytes c ++ rest ≡ bs = subst (Spelt bs) e (taken_spelt bs s) in
        let left = every_rest (command_bytes c) rest (subst (Every Byte) (sym all) s) in
        let wide : width c + widths (commands_of rest) ≡ length bs = sym (ap widths is) ∙ w in
        let v : widths (commands_of rest) ≡ length rest = omega (arith, taken_width bs c rest e) in
        ap bytes_of is ∙ ap (λ (x : List ℕ). command_bytes c ++ x) (again rest (taken_less bs c rest e) left v) ∙ all

-- the commands of the formulas on the stack, and others after them
abbrev onto : List Formula → List Command → List Command
onto [] cs = cs
onto (f ∷ st) cs = onto st (postfix f cs)

atom_back : (a : Atom) (cs : List Command) → Value a ∷ cs ≡ postfix (formula a) cs
atom_back (OfKind Root) cs = refl
atom_back (OfKind Text) cs = refl
atom_back (OfKind Element) cs = refl
atom_back (Label c) cs = refl
atom_back True cs = refl
atom_back (First p) cs = refl
atom_back (Next p) cs = refl
atom_back (Here p) cs = refl

formulas_back : {cs rest : List Command} {st fs : List Formula} → Defines cs st fs rest → onto st cs ≡ deciding_commands fs rest
formulas_back (reads.value {a = a} {cs = cs} {st = st} l d) = ap (onto st) (atom_back a cs) ∙ formulas_back d
formulas_back (reads.and d) = formulas_back d
formulas_back (reads.or d) = formulas_back d
formulas_back (reads.not d) = formulas_back d
formulas_back (reads.define {f = f} d) = ap (λ (x : List Command). postfix f (Define ∷ x)) (formulas_back d)
formulas_back (reads.stop o) = refl

move_back : (m : Move) → m ≡ move_from (move m)
move_back (Down q) = refl
move_back (On q) = refl
move_back (Stay q) = refl
move_back Mark = refl

mutual
  rules_back : {cs : List Command} {ss : List (List Rule)} → Sends cs ss → cs ≡ sending_commands ss
  rules_back (reads.opened {p = p} b) = ap (λ (x : List Command). When p ∷ x) (below_back b)
  rules_back (reads.idle s) = ap (λ (x : List Command). Done ∷ x) (rules_back s)
  rules_back reads.ended = refl

  below_back : {cs : List Command} {ms : List program.Move} {rs : List Rule} {ss : List (List Rule)} → Below cs ms rs ss → cs ≡ move_commands ms (rule_commands rs (Done ∷ sending_commands ss))
  below_back (reads.again {p = p} b) = ap (λ (x : List Command). When p ∷ x) (below_back b)
  below_back (reads.made {m = m} {cs = cs} b) = ap (λ (x : Move). Make x ∷ cs) (move_back m) ∙ ap (λ (x : List Command). Make (move_from (move m)) ∷ x) (below_back b)
  below_back (reads.done s) = ap (λ (x : List Command). Done ∷ x) (rules_back s)

pub written : (bs : List ℕ) (P : Program) → Every Byte bs → decoded bs ≡ Some P → encoded P ≡ bs
unfolding encoded
written bs P s e =
    let d = decoded_reads bs P e in
    let same : commands_of bs ≡ program_commands P = formulas_back d.defined ∙ ap (deciding_commands P.deciding) (rules_back d.sent) in
    sym (ap bytes_of same) ∙ written_by (length bs) bs (omega arith) s d.whole

pub denoted : (bs : List ℕ) (P : Program) → Denotes bs P → decoded bs ≡ Some P
denoted bs P d = ap decoded (sym d.1) ∙ read_back P d.0

pub reading : Reading
reading bs P s = ((λ d. (d.0, denoted bs P d)), λ r. (r.0, written bs P s r.1))

pub one_program : OneProgram
one_program bs P Q d e = let a = denoted bs P d in let b = denoted bs Q e in let c : ◌≡◌ {A = Option Program} (Some P) (Some Q) = sym a ∙ b in cc

-- what is known of the bytes of a slice
pub all_bytes : (bs : List ℕ) → ((k : ℕ) → Fits w8 (get_or bs k 0)) → Every Byte bs
all_bytes [] f = tt
all_bytes (b ∷ bs) f = ((f 0).fits, all_bytes bs (λ k. f (suc k)))

pub loads : (bs : List ℕ) (P : Program) → Denotes bs P → Loadable bs
loads bs P d = (P, denoted bs P d, d.0)

pub loaded : (bs : List ℕ) → ((k : ℕ) → Fits w8 (get_or bs k 0)) → Loadable bs → (P : Program) × Denotes bs P
loaded bs f l = (l.0, (l.2, written bs l.0 (all_bytes bs f) l.1))
