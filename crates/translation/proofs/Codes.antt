-- The bytes of formulas, states and programs, part by part.
use Rattle.std.proofs.Common.{◌≡◌, ℕ, zero, suc, ◌+◌, List, [], ◌∷◌, ◌++◌, length, Some, None, Option, sym, refl, ap, ◌∙◌, arith, length-append}
use Rattle.std.proofs.lemmas.List.{append_assoc}
use Rattle.grammar.specs.Syntax.{Axis, self, child, descendant, following_sibling}
use Rattle.automata.specs.Program.{Formula, Rule, Program, formula_bytes, total, bytes}
use Rattle.automata.specs.Program as program
use Rattle.commands.specs.declared.command.Command.{Command}
use Rattle.commands.specs.declared.command.Command.TheVariants.{And, Or, Not, Define, Done}
use Rattle.commands.specs.Encoded.{bytes_of, postfix, deciding_commands, move_from, move_bytes, move_commands, rule_commands, sending_commands, encoded}
use Rattle.selection.specs.Translate.{both, looking}
use Rattle.translation.specs.Table.{negated}
use Rattle.translation.specs.Written.{nots, code, states_code, rules_code, rules_codes, sending_code, states_size, rules_size, sending_size, looking_code, both_code, both_size, looking_size}

-- a formula's bytes stand before the others
pub code_before : (f : Formula) (cs : List Command) → bytes_of (postfix f cs) ≡ code f ++ bytes_of cs
unfolding code
code_before (program.kind program.root) cs = refl
code_before (program.kind program.text) cs = refl
code_before (program.kind program.element) cs = refl
code_before (program.label_is c) cs = refl
code_before program.true cs = refl
code_before (program.first p) cs = refl
code_before (program.next p) cs = refl
code_before (program.here p) cs = refl
code_before (program.and f g) cs =
    let a = code_before f (postfix g (And ∷ cs)) in
    let b = code_before g (And ∷ cs) in
    let d = code_before f (postfix g (And ∷ [])) in
    let e = code_before g (And ∷ []) in
    a ∙ ap (λ x. bytes_of (postfix f []) ++ x) b ∙ sym (ap (λ x. x ++ bytes_of cs) (d ∙ ap (λ x. bytes_of (postfix f []) ++ x) e) ∙ simp append_assoc)
code_before (program.or f g) cs =
    let a = code_before f (postfix g (Or ∷ cs)) in
    let b = code_before g (Or ∷ cs) in
    let d = code_before f (postfix g (Or ∷ [])) in
    let e = code_before g (Or ∷ []) in
    a ∙ ap (λ x. bytes_of (postfix f []) ++ x) b ∙ sym (ap (λ x. x ++ bytes_of cs) (d ∙ ap (λ x. bytes_of (postfix f []) ++ x) e) ∙ simp append_assoc)
code_before (program.not f) cs =
    let a = code_before f (Not ∷ cs) in
    let d = code_before f (Not ∷ []) in
    a ∙ sym (ap (λ x. x ++ bytes_of cs) d ∙ simp append_assoc)

pub code_and : (f g : Formula) → code (program.and f g) ≡ code f ++ (code g ++ (0x18 ∷ []))
unfolding code
code_and f g = code_before f (postfix g (And ∷ [])) ∙ ap (λ x. bytes_of (postfix f []) ++ x) (code_before g (And ∷ []))

pub code_or : (f g : Formula) → code (program.or f g) ≡ code f ++ (code g ++ (0x19 ∷ []))
unfolding code
code_or f g = code_before f (postfix g (Or ∷ [])) ∙ ap (λ x. bytes_of (postfix f []) ++ x) (code_before g (Or ∷ []))

pub code_not : (f : Formula) → code (program.not f) ≡ code f ++ (0x1a ∷ [])
unfolding code
code_not f = code_before f (Not ∷ [])

nots_last : (n : ℕ) → nots n ++ (0x1a ∷ []) ≡ nots (suc n)
nots_last zero = refl
nots_last (suc n) = ap (λ x. 0x1a ∷ x) (nots_last n)

pub code_negated : (n : ℕ) (f : Formula) → code (negated n f) ≡ code f ++ nots n
code_negated zero f = sym (append_none (code f))
  where
    append_none : (xs : List ℕ) → xs ++ [] ≡ xs
    append_none [] = refl
    append_none (x ∷ xs) = ap (λ y. x ∷ y) (append_none xs)
code_negated (suc n) f =
    code_not (negated n f) ∙ ap (λ x. x ++ (0x1a ∷ [])) (code_negated n f) ∙ append_assoc (code f) (nots n) (0x1a ∷ []) ∙ ap (λ x. code f ++ x) (nots_last n)

pub size_negated : (n : ℕ) (f : Formula) → formula_bytes (negated n f) ≡ formula_bytes f + n
size_negated zero f = omega arith
size_negated (suc n) f = let e = size_negated n f in omega arith

pub code_both : (f : Formula) (o : Option Formula) → code (both f o) ≡ code f ++ both_code o
code_both f None = sym (append_none (code f))
  where
    append_none : (xs : List ℕ) → xs ++ [] ≡ xs
    append_none [] = refl
    append_none (x ∷ xs) = ap (λ y. x ∷ y) (append_none xs)
code_both f (Some g) = code_and f g

pub size_both : (f : Formula) (o : Option Formula) → formula_bytes (both f o) ≡ formula_bytes f + both_size o
size_both f None = omega arith
size_both f (Some g) = omega arith

pub code_looking : (a : Axis) (p : ℕ) (f : Formula) → code (looking a p f) ≡ code f ++ looking_code a p
unfolding code
code_looking self p f = sym (append_none (code f))
  where
    append_none : (xs : List ℕ) → xs ++ [] ≡ xs
    append_none [] = refl
    append_none (x ∷ xs) = ap (λ y. x ∷ y) (append_none xs)
code_looking child p f = code_before f (postfix (program.next p) (Or ∷ []))
code_looking descendant p f = code_before f (postfix (program.first p) (postfix (program.next p) (Or ∷ Or ∷ [])))
code_looking following_sibling p f = code_before f (postfix (program.next p) (Or ∷ []))

pub size_looking : (a : Axis) (p : ℕ) (f : Formula) → formula_bytes (looking a p f) ≡ formula_bytes f + looking_size a
size_looking self p f = omega arith
size_looking child p f = omega arith
size_looking descendant p f = omega arith
size_looking following_sibling p f = omega arith

pub code_size : (f : Formula) → length (code f) ≡ formula_bytes f
unfolding code
code_size (program.kind program.root) = refl
code_size (program.kind program.text) = refl
code_size (program.kind program.element) = refl
code_size (program.label_is c) = refl
code_size program.true = refl
code_size (program.first p) = refl
code_size (program.next p) = refl
code_size (program.here p) = refl
code_size (program.and f g) =
    let a = code_size f in let b = code_size g in
    ap length (code_before f (postfix g (And ∷ [])) ∙ ap (λ x. bytes_of (postfix f []) ++ x) (code_before g (And ∷ []))) ∙ simp length-append (omega arith)
code_size (program.or f g) =
    let a = code_size f in let b = code_size g in
    ap length (code_before f (postfix g (Or ∷ [])) ∙ ap (λ x. bytes_of (postfix f []) ++ x) (code_before g (Or ∷ []))) ∙ simp length-append (omega arith)
code_size (program.not f) = let a = code_size f in ap length (code_before f (Not ∷ [])) ∙ simp length-append (omega arith)

-- states
states_before : (fs : List Formula) (cs : List Command) → bytes_of (deciding_commands fs cs) ≡ states_code fs ++ bytes_of cs
unfolding states_code
states_before [] cs = refl
states_before (f ∷ fs) cs =
    code_before f (Define ∷ deciding_commands fs cs)
    ∙ ap (λ x. code f ++ (0x1f ∷ x)) (states_before fs cs)
    ∙ sym (ap (λ x. x ++ bytes_of cs) (code_before f (Define ∷ deciding_commands fs [])) ∙ append_assoc (code f) (0x1f ∷ bytes_of (deciding_commands fs [])) (bytes_of cs))

pub states_more : (f : Formula) (fs : List Formula) → states_code (f ∷ fs) ≡ (code f ++ (0x1f ∷ [])) ++ states_code fs
unfolding states_code
states_more f fs = code_before f (Define ∷ deciding_commands fs []) ∙ sym (append_assoc (code f) (0x1f ∷ []) (bytes_of (deciding_commands fs [])))

pub states_append : (fs gs : List Formula) → states_code (fs ++ gs) ≡ states_code fs ++ states_code gs
unfolding states_code
states_append [] gs = refl
states_append (f ∷ fs) gs =
    code_before f (Define ∷ deciding_commands (fs ++ gs) [])
    ∙ ap (λ x. code f ++ (0x1f ∷ x)) (states_append fs gs)
    ∙ sym (ap (λ x. x ++ bytes_of (deciding_commands gs [])) (code_before f (Define ∷ deciding_commands fs [])) ∙ append_assoc (code f) (0x1f ∷ bytes_of (deciding_commands fs [])) (bytes_of (deciding_commands gs [])))

pub states_none : states_code [] ≡ []
unfolding states_code
states_none = refl

pub states_true : (fs : List Formula) → states_code (program.true ∷ fs) ≡ 0x12 ∷ 0x1f ∷ states_code fs
unfolding states_code
states_true fs = refl

pub states_length : (fs : List Formula) → length (states_code fs) ≡ states_size fs
states_length [] = ap length states_none
states_length (f ∷ fs) =
    let e = states_length fs in let g = code_size f in
    ap length (states_more f fs) ∙ simp length-append (omega arith)

-- sending states
move_before : (ms : List program.Move) (cs : List Command) → bytes_of (move_commands ms cs) ≡ bytes_of (move_commands ms []) ++ bytes_of cs
move_before [] cs = refl
move_before (m ∷ ms) cs = ap (λ x. move_bytes (move_from m) ++ x) (move_before ms cs) ∙ sym (append_assoc (move_bytes (move_from m)) (bytes_of (move_commands ms [])) (bytes_of cs))

rule_before : (rs : List Rule) (cs : List Command) → bytes_of (rule_commands rs cs) ≡ bytes_of (rule_commands rs []) ++ bytes_of cs
rule_before [] cs = refl
rule_before (r ∷ rs) cs =
    ap (λ x. 0x20 ∷ r.when ∷ x)
    (move_before r.moves (rule_commands rs cs) ∙ ap (λ x. bytes_of (move_commands r.moves []) ++ x) (rule_before rs cs)
    ∙ sym (ap (λ x. x ++ bytes_of cs) (move_before r.moves (rule_commands rs [])) ∙ append_assoc (bytes_of (move_commands r.moves [])) (bytes_of (rule_commands rs [])) (bytes_of cs)))

pub sending_more : (rs : List Rule) (ss : List (List Rule)) → sending_code (rs ∷ ss) ≡ rules_code rs ++ sending_code ss
unfolding sending_code rules_code
sending_more rs ss =
    rule_before rs (Done ∷ sending_commands ss)
    ∙ sym (ap (λ x. x ++ bytes_of (sending_commands ss)) (rule_before rs (Done ∷ [])) ∙ append_assoc (bytes_of (rule_commands rs [])) (0x2f ∷ []) (bytes_of (sending_commands ss)))

pub sending_none : sending_code [] ≡ 0xff ∷ []
unfolding sending_code
sending_none = refl

pub sending_end : (ss : List (List Rule)) → sending_code ss ≡ rules_codes ss ++ (0xff ∷ [])
sending_end [] = sending_none
sending_end (rs ∷ ss) = sending_more rs ss ∙ ap (λ x. rules_code rs ++ x) (sending_end ss) ∙ sym (append_assoc (rules_code rs) (rules_codes ss) (0xff ∷ []))

move_length : (m : program.Move) → length (move_bytes (move_from m)) ≡ program.move_bytes m
move_length (program.down q) = refl
move_length (program.on q) = refl
move_length (program.stay q) = refl
move_length program.mark = refl

moves_length : (ms : List program.Move) (cs : List Command) → length (bytes_of (move_commands ms cs)) ≡ total program.move_bytes ms + length (bytes_of cs)
moves_length [] cs = omega arith
moves_length (m ∷ ms) cs = let e = moves_length ms cs in let g = move_length m in simp length-append (omega arith)

rule_length : (rs : List Rule) (cs : List Command) → length (bytes_of (rule_commands rs cs)) ≡ total (λ r. 2 + total program.move_bytes r.moves) rs + length (bytes_of cs)
rule_length [] cs = omega arith
rule_length (r ∷ rs) cs =
    let e = moves_length r.moves (rule_commands rs cs) in
    let g = rule_length rs cs in
    omega arith

pub rules_length : (rs : List Rule) → length (rules_code rs) ≡ rules_size rs
unfolding rules_code
rules_length rs = let e = rule_length rs (Done ∷ []) in omega arith

pub sending_length : (ss : List (List Rule)) → length (sending_code ss) ≡ sending_size ss
sending_length [] = ap length sending_none
sending_length (rs ∷ ss) =
    let e = sending_length ss in let g = rules_length rs in
    ap length (sending_more rs ss) ∙ simp length-append (omega arith)

pub encoded_is : (P : Program) → encoded P ≡ states_code P.deciding ++ sending_code P.sending
unfolding encoded sending_code
encoded_is P = states_before P.deciding (sending_commands P.sending)

pub encoded_length : (P : Program) → length (encoded P) ≡ bytes P
encoded_length P =
    let a = states_length P.deciding in
    let b = sending_length P.sending in
    ap length (encoded_is P) ∙ simp length-append (omega arith)
