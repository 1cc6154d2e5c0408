-- What is written is read back.
use Rattle.std.proofs.Common.{◌≡◌, ℕ, suc, ◌+◌, ◌*◌, ◌/◌, ◌%◌, ◌<◌, ◌≤◌, ◌&&◌, eqb, ltb, leb, List, [], ◌∷◌, ◌++◌, length, Some, None, Option, sym, refl, ap, ◌∙◌, arith, length-append}
use Rattle.std.proofs.lemmas.Bool.{cond-true, lt-ltb, le-leb, eq-eqb, and_from}
use Rattle.automata.specs.Program.{Formula, Rule, Program, Proper, Every, total, bytes, formula_bytes}
use Rattle.automata.specs.Program as program
use Rattle.commands.specs.declared.command.Kind.TheVariants.{Root, Text, Element}
use Rattle.commands.specs.declared.command.Atom.{Atom}
use Rattle.commands.specs.declared.command.Atom.TheVariants.{Kind as OfKind, Label, True, First, Next, Here}
use Rattle.commands.specs.declared.command.Move.TheVariants.{Down, On, Stay, Mark}
use Rattle.commands.specs.declared.command.Command.{Command}
use Rattle.commands.specs.declared.command.Command.TheVariants.{Value, And, Or, Not, Define, When, Make, Done, End}
use Rattle.commands.specs.Bytes.{taken}
use Rattle.commands.specs.Commands.{commands_of}
use Rattle.commands.specs.Decoded.{formula, mapped, deciding, states, below, with_sending, program_of, width, widths, decoded}
use Rattle.commands.specs.Encoded.{command_bytes, bytes_of, move_from, postfix, deciding_commands, move_commands, rule_commands, sending_commands, program_commands, encoded}
use Rattle.commands.specs.Denotes.{ReadBack}
use Rattle.commands.proofs.Spells.{found, commands_more, commands_none}

-- bytes
take_first : (c : Command) (bs : List ℕ) → taken (command_bytes c ++ bs) ≡ found c bs
take_first (Value (OfKind Root)) bs = refl
take_first (Value (OfKind Text)) bs = refl
take_first (Value (OfKind Element)) bs = refl
take_first (Value (Label c)) bs = let e : c / 256 * 256 + c % 256 ≡ c = omega arith in ap (λ (x : ℕ). found (Value (Label x)) bs) e
take_first (Value True) bs = refl
take_first (Value (First p)) bs = refl
take_first (Value (Next p)) bs = refl
take_first (Value (Here p)) bs = refl
take_first And bs = refl
take_first Or bs = refl
take_first Not bs = refl
take_first Define bs = refl
take_first (When p) bs = refl
take_first (Make (Down q)) bs = refl
take_first (Make (On q)) bs = refl
take_first (Make (Stay q)) bs = refl
take_first (Make Mark) bs = refl
take_first Done bs = refl
take_first End bs = refl

pub spelled_back : (cs : List Command) → commands_of (bytes_of cs) ≡ cs
spelled_back [] = commands_none [] refl
spelled_back (c ∷ cs) = commands_more (command_bytes c ++ bytes_of cs) c (bytes_of cs) (take_first c (bytes_of cs)) ∙ ap (λ (x : List Command). c ∷ x) (spelled_back cs)

command_width : (c : Command) → length (command_bytes c) ≡ width c
command_width (Value (OfKind Root)) = refl
command_width (Value (OfKind Text)) = refl
command_width (Value (OfKind Element)) = refl
command_width (Value (Label c)) = refl
command_width (Value True) = refl
command_width (Value (First p)) = refl
command_width (Value (Next p)) = refl
command_width (Value (Here p)) = refl
command_width And = refl
command_width Or = refl
command_width Not = refl
command_width Define = refl
command_width (When p) = refl
command_width (Make (Down q)) = refl
command_width (Make (On q)) = refl
command_width (Make (Stay q)) = refl
command_width (Make Mark) = refl
command_width Done = refl
command_width End = refl

bytes_width : (cs : List Command) → length (bytes_of cs) ≡ widths cs
bytes_width [] = refl
bytes_width (c ∷ cs) = length-append (command_bytes c) (bytes_of cs) ∙ omega (arith, command_width c, bytes_width cs)

-- formulas
pushed : (a : Atom) (cs : List Command) (st : List Formula) → length st + 1 ≤ 32 → deciding (Value a ∷ cs) st ≡ deciding cs (formula a ∷ st)
pushed a cs st h = cond-true (ltb (length st) 32) (deciding cs (formula a ∷ st)) None (lt-ltb (length st) 32 (omega arith))

read_postfix : (f : Formula) (cs : List Command) (st : List Formula) → length st + program.width f ≤ 32 → deciding (postfix f cs) st ≡ deciding cs (f ∷ st)
read_postfix (program.kind program.root) cs st h = pushed (OfKind Root) cs st h
read_postfix (program.kind program.text) cs st h = pushed (OfKind Text) cs st h
read_postfix (program.kind program.element) cs st h = pushed (OfKind Element) cs st h
read_postfix (program.label_is c) cs st h = pushed (Label c) cs st h
read_postfix program.true cs st h = pushed True cs st h
read_postfix (program.first p) cs st h = pushed (First p) cs st h
read_postfix (program.next p) cs st h = pushed (Next p) cs st h
read_postfix (program.here p) cs st h = pushed (Here p) cs st h
read_postfix (program.and f g) cs st h = read_postfix f (postfix g (And ∷ cs)) st (omega arith) ∙ read_postfix g (And ∷ cs) (f ∷ st) (omega arith)
read_postfix (program.or f g) cs st h = read_postfix f (postfix g (Or ∷ cs)) st (omega arith) ∙ read_postfix g (Or ∷ cs) (f ∷ st) (omega arith)
read_postfix (program.not f) cs st h = read_postfix f (Not ∷ cs) st h

abbrev Read : Type 0
Read = Option (List Formula × List Command)

read_states : (fs : List Formula) (cs : List Command) → Every (λ f. program.width f ≤ 32) fs → ◌≡◌ {A = Read} (deciding cs []) (Some ([], cs)) → ◌≡◌ {A = Read} (deciding (deciding_commands fs cs) []) (Some (fs, cs))
read_states [] cs e stop = stop
read_states (f ∷ fs) cs e stop =
    read_postfix f (Define ∷ deciding_commands fs cs) [] (omega arith)
    ∙ ap (mapped (λ (d : List Formula × List Command). (f ∷ d.0, d.1))) (read_states fs cs e.1 stop)

-- rules
abbrev Under : Type 0
Under = List program.Move × List Rule × List (List Rule)

abbrev held : List program.Move → List Rule → List (List Rule) → Option Under
held ms rs ss = Some (ms, rs, ss)

move_back : (m : program.Move) (cs : List Command) (ms : List program.Move) (rs : List Rule) (ss : List (List Rule)) → below cs ≡ held ms rs ss → below (Make (move_from m) ∷ cs) ≡ held (m ∷ ms) rs ss
move_back (program.down q) cs ms rs ss e = ap (mapped (λ (r : Under). (program.down q ∷ r.0, r.1, r.2))) e
move_back (program.on q) cs ms rs ss e = ap (mapped (λ (r : Under). (program.on q ∷ r.0, r.1, r.2))) e
move_back (program.stay q) cs ms rs ss e = ap (mapped (λ (r : Under). (program.stay q ∷ r.0, r.1, r.2))) e
move_back program.mark cs ms rs ss e = ap (mapped (λ (r : Under). (program.mark ∷ r.0, r.1, r.2))) e

read_moves : (ms : List program.Move) (cs : List Command) (rs : List Rule) (ss : List (List Rule)) → below cs ≡ held [] rs ss → below (move_commands ms cs) ≡ held ms rs ss
read_moves [] cs rs ss e = e
read_moves (m ∷ ms) cs rs ss e = move_back m (move_commands ms cs) ms rs ss (read_moves ms cs rs ss e)

read_rules : (rs : List Rule) (cs : List Command) (ss : List (List Rule)) → below cs ≡ held [] [] ss → below (rule_commands rs cs) ≡ held [] rs ss
read_rules [] cs ss e = e
read_rules (r ∷ rs) cs ss e =
    ap (mapped (λ (u : Under). ([], record { when = r.when; moves = u.0 } ∷ u.1, u.2))) (read_moves r.moves (rule_commands rs cs) rs ss (read_rules rs cs ss e))

read_sending : (ss : List (List Rule)) → states (sending_commands ss) ≡ Some ss
read_sending [] = refl
read_sending ([] ∷ ss) = ap (mapped (λ (x : List (List Rule)). [] ∷ x)) (read_sending ss)
read_sending ((r ∷ rs) ∷ ss) =
    let end : below (Done ∷ sending_commands ss) ≡ held [] [] ss = ap (mapped (λ (x : List (List Rule)). ([], [], x))) (read_sending ss) in
    ap (mapped (λ (u : Under). (record { when = r.when; moves = u.0 } ∷ u.1) ∷ u.2)) (read_moves r.moves (rule_commands rs (Done ∷ sending_commands ss)) rs ss (read_rules rs (Done ∷ sending_commands ss) ss end))

-- the sending part opens with a state
opens : (ss : List (List Rule)) → 0 < length ss → ◌≡◌ {A = Read} (deciding (sending_commands ss) []) (Some ([], sending_commands ss))
opens [] h = absurd (omega arith)
opens ([] ∷ ss) h = refl
opens ((r ∷ rs) ∷ ss) h = refl

read_program : (P : Program) → Proper P → program_of (program_commands P) ≡ Some P
read_program P proper =
    ap with_sending (read_states P.deciding (sending_commands P.sending) proper.narrow (opens P.sending proper.sending_some))
    ∙ ap (mapped (λ (ss : List (List Rule)). record { deciding = P.deciding; sending = ss })) (read_sending P.sending)

-- how long it is
postfix_width : (f : Formula) (cs : List Command) → widths (postfix f cs) ≡ formula_bytes f + widths cs
postfix_width (program.kind k) cs = refl
postfix_width (program.label_is c) cs = refl
postfix_width program.true cs = refl
postfix_width (program.first p) cs = refl
postfix_width (program.next p) cs = refl
postfix_width (program.here p) cs = refl
postfix_width (program.and f g) cs = omega (arith, postfix_width f (postfix g (And ∷ cs)), postfix_width g (And ∷ cs))
postfix_width (program.or f g) cs = omega (arith, postfix_width f (postfix g (Or ∷ cs)), postfix_width g (Or ∷ cs))
postfix_width (program.not f) cs = omega (arith, postfix_width f (Not ∷ cs))

deciding_width : (fs : List Formula) (cs : List Command) → widths (deciding_commands fs cs) ≡ total (λ f. suc (formula_bytes f)) fs + widths cs
deciding_width [] cs = omega arith
deciding_width (f ∷ fs) cs = omega (arith, postfix_width f (Define ∷ deciding_commands fs cs), deciding_width fs cs)

move_width : (m : program.Move) → width (Make (move_from m)) ≡ program.move_bytes m
move_width (program.down q) = refl
move_width (program.on q) = refl
move_width (program.stay q) = refl
move_width program.mark = refl

moves_width : (ms : List program.Move) (cs : List Command) → widths (move_commands ms cs) ≡ total program.move_bytes ms + widths cs
moves_width [] cs = omega arith
moves_width (m ∷ ms) cs = omega (arith, move_width m, moves_width ms cs)

rules_width : (rs : List Rule) (cs : List Command) → widths (rule_commands rs cs) ≡ total (λ r. 2 + total program.move_bytes r.moves) rs + widths cs
rules_width [] cs = omega arith
rules_width (r ∷ rs) cs = omega (arith, moves_width r.moves (rule_commands rs cs), rules_width rs cs)

sending_width : (ss : List (List Rule)) → widths (sending_commands ss) ≡ suc (total (λ rules. suc (total (λ r. 2 + total program.move_bytes r.moves) rules)) ss)
sending_width [] = refl
sending_width (rs ∷ ss) = omega (arith, rules_width rs (Done ∷ sending_commands ss), sending_width ss)

program_width : (P : Program) → widths (program_commands P) ≡ bytes P
program_width P = omega (arith, deciding_width P.deciding (sending_commands P.sending), sending_width P.sending)

pub read_back : ReadBack
unfolding decoded encoded
read_back P proper =
    let cs = program_commands P in
    let bs = encoded P in
    let same : commands_of bs ≡ cs = spelled_back cs in
    let long : length bs ≡ widths cs = bytes_width cs in
    let short : length bs ≤ 2048 = omega (arith, proper.short, program_width P) in
    let fits = and_from (leb (length bs) 2048) (eqb (widths (commands_of bs)) (length bs)) (le-leb (length bs) 2048 short)
    (eq-eqb (widths (commands_of bs)) (length bs) (ap widths same ∙ sym long)) in
    cond-true (leb (length bs) 2048 && eqb (widths (commands_of bs)) (length bs)) (program_of (commands_of bs)) None fits ∙ ap program_of same ∙ read_program P proper
