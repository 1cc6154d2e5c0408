-- Sequences of commands: the rows that a feed then holds, its names, and what its tree shows.
use Rattle.std.proofs.Common.{◌≡◌, ℕ, zero, suc, ◌+◌, ◌<◌, true, false, List, [], ◌∷◌, ◌++◌, length, get_or, take, set, Ok, sym, ap, ◌∙◌, subst, ⊎_elim, append_assoc, append-nil, arith, length-set}
use Rattle.std.specs.Str.{bytes_eq}
use Rattle.std.proofs.lemmas.Bool.Decides.{nat_tests}
use Rattle.std.proofs.lemmas.Slice.Eq.{bytes_eq-Decides}
use Rattle.std.proofs.lemmas.Bool.{or_parts, both_ways, cases_eq}
use Rattle.std.proofs.lemmas.List.{get_or-set_same, get_or-set_other, get_or-take, length-take}
use Rattle.rows.specs.Rows.{Row, row, lone}
use Rattle.names.specs.Names.{is_name}
use Rattle.names.specs.Store.{holds_name}
use Rattle.growth.specs.declared.command.Command.{Command}
use Rattle.growth.specs.declared.command.Command.TheVariants.{Open, Shut, Text, Name}
use Rattle.growth.specs.Steps.{Fed, begun, opened, texted, shut, named}
use Rattle.growth.specs.Store.{name_check}
use Rattle.growth.specs.Commands.{rows_fed, fed_rows, Granted}
use Rattle.growth.specs.Holding.{Holds, Names}
use Rattle.growth.specs.Claims.{CommandsHold, FeedsShow, NamesStand}
use Rattle.growth.proofs.Growth.{begun_holds, opened_holds, texted_holds, shut_holds, named_holds}
use Rattle.growth.proofs.Shown.{sealed_shows}

pub commands_hold : CommandsHold
commands_hold [] f g ss us rs h e = subst (λ (l : List Row). Holds l g) (sym (append-nil rs)) (subst (λ (x : Fed). Holds rs x) e.0 h)
commands_hold (Open c ∷ cs) f g ss us rs h e =
    subst (λ (l : List Row). Holds l g) (append_assoc rs (row f.due c ∷ []) (rows_fed (f.due + 1) cs))
    (commands_hold cs (opened f c) g ss us (rs ++ row f.due c ∷ []) (opened_holds rs f c h e.0) e.1)
commands_hold (Shut ∷ cs) f g ss us rs h e = commands_hold cs (shut f) g ss us rs (shut_holds rs f h e.0) e.1
commands_hold (Text ∷ cs) f g ss us rs h e =
    subst (λ (l : List Row). Holds l g) (append_assoc rs (row f.due 1 ∷ []) (rows_fed f.due cs))
    (commands_hold cs (texted f) g ss us (rs ++ row f.due 1 ∷ []) (texted_holds rs f h e.0) e.1)
commands_hold (Name s ∷ cs) f g ss us rs h e = commands_hold cs (named f) g _ us rs (named_holds rs f ss s h e.0) e.1

pub feeds_show : FeedsShow
feeds_show cs bits labels ss us g new directory ok granted sealed is =
    sealed_shows (fed_rows cs) g new directory (commands_hold cs (begun bits labels) g ss us lone (begun_holds bits labels ok) granted) sealed is

-- a slot that is not among some differs from each of them
not_among : (xs : List (List ℕ)) (s : List ℕ) (i : ℕ) → holds_name xs s ≡ false → i < length xs → get_or xs i [] ≡ s → ⊥
not_among [] s i e h same = omega arith
not_among (x ∷ xs) s zero e h same = both_ways (bytes_eq x s) (or_parts (bytes_eq x s) _ e).0 ((bytes_eq-Decides x s).1 same)
not_among (x ∷ xs) s (suc i) e h same = not_among xs s i (or_parts (bytes_eq x s) _ e).1 (omega arith) same

record Fresh (k : ℕ) (ss : List (List ℕ)) (s : List ℕ) : Type 0 where
  pub few : k < length ss
  pub name : is_name s ≡ true
  pub other : holds_name (take k ss) s ≡ false

fresh : (k : ℕ) (ss : List (List ℕ)) (s : List ℕ) → name_check k ss s ≡ Ok tt → Fresh k ss s
fresh k ss s e = record { few = grind (arith, nat_tests); name = grind (arith, nat_tests); other = grind (arith, nat_tests) }

more_names : (k : ℕ) (ss : List (List ℕ)) (s : List ℕ) → Names k ss → name_check k ss s ≡ Ok tt → Names (k + 1) (set ss k s)
more_names k ss s h e =
    let w = fresh k ss s e in
    let few : k < length ss = w.few in
    let here : get_or (set ss k s) k [] ≡ s = get_or-set_same ss k s [] few in
    let old : (i : ℕ) → i < k → get_or (set ss k s) i [] ≡ get_or ss i [] = λ i low. get_or-set_other ss k i s [] (omega arith) in
    record {
      stand = omega (arith, length-set ss k s);
      named = λ i low.
          ⊎_elim
          (λ (at : i ≡ k). subst (λ (l : List ℕ). is_name l ≡ true) (sym (ap (λ (j : ℕ). get_or (set ss k s) j []) at ∙ here)) w.name)
          (λ (off : i ≡ k → ⊥). let below : i < k = omega arith in subst (λ (l : List ℕ). is_name l ≡ true) (sym (old i below)) (h.named i below))
          (cases_eq i k);
      apart = λ i j less low same.
          ⊎_elim
          (λ (at : j ≡ k).
          let below : i < k = omega arith in
          not_among (take k ss) s i w.other (omega (arith, length-take k ss))
          (get_or-take k ss i [] below ∙ sym (old i below) ∙ same ∙ ap (λ (x : ℕ). get_or (set ss k s) x []) at ∙ here))
          (λ (off : j ≡ k → ⊥).
          let below : j < k = omega arith in
          h.apart i j less below (sym (old i (omega arith)) ∙ same ∙ old j below))
          (cases_eq j k);
    }

names_hold : (cs : List Command) (f g : Fed) (ss us : List (List ℕ)) → Names f.names ss → Granted f ss cs g us → Names g.names us
names_hold [] f g ss us h e = subst (λ (x : Fed). Names x.names us) e.0 (subst (Names f.names) e.1 h)
names_hold (Open c ∷ cs) f g ss us h e = names_hold cs (opened f c) g ss us h e.1
names_hold (Shut ∷ cs) f g ss us h e = names_hold cs (shut f) g ss us h e.1
names_hold (Text ∷ cs) f g ss us h e = names_hold cs (texted f) g ss us h e.1
names_hold (Name s ∷ cs) f g ss us h e = names_hold cs (named f) g (set ss f.names s) us (more_names f.names ss s h e.0) e.1

pub names_stand : NamesStand
names_stand cs bits labels ss us g granted =
    names_hold cs (begun bits labels) g ss us (record { stand = omega arith; named = λ i h. absurd (omega arith); apart = λ i j h k e. omega arith }) granted
