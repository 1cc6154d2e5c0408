-- A load, a rise and a fall over all nodes settle a selector.
use Rattle.std.proofs.Common.{◌≡◌, ℕ, ◌+◌, ◌-◌, ◌≤◌, Bool, true, false, cond, eqb, leb, List, [], length, Some, None, Ok, Err, Option, Result, refl, ap, ◌∙◌, arith}
use Rattle.std.proofs.lemmas.Bool.{eq-eqb, le-leb}
use Rattle.program.specs.declared.fault.Fault.{Fault as BrokenFault}
use Rattle.program.specs.declared.fault.Fault.TheVariants.{Broken}
use Rattle.rows.specs.Rows.{Row, count_of, Lawful}
use Rattle.grammar.specs.Syntax.{Path}
use Rattle.automata.specs.Program.{Marks}
use Rattle.selection.specs.Selects.{Store, Selects}
use Rattle.translation.specs.Translation.{Translation}
use Rattle.commands.specs.Commands.{commands_of}
use Rattle.commands.specs.Checked.{accepted}
use Rattle.sweep.specs.Rising.{risen}
use Rattle.sweep.specs.Falling.{fallen}
use Rattle.sweep.proofs.Risen.{length_risen}
use Rattle.sweep.proofs.Lengths.{length_fallen}
use Rattle.tally.specs.Monoid.{Laws}
use Rattle.tallying.specs.Nodes.{marked_nodes}
use Rattle.tallying.proofs.Lists.{lists_over}
use Rattle.selector.specs.Codes.{bad_program}
use Rattle.selector.specs.declared.fault.Fault.{Fault}
use Rattle.selector.specs.declared.fault.Fault.TheVariants.{SmallWork}
use Rattle.selector.specs.declared.phase.Phase.TheVariants.{Rising, Falling, Settled}
use Rattle.selector.specs.Calls.{load, rise, fall}
use Rattle.selector.specs.Steps.{State, refusal, unless_so, before, outcome, granted_or, moved, rewritten, state_after, words_after}
use Rattle.history.specs.History.{Progress}
use Rattle.history.proofs.Stages.{mk, rules, unready_is, SettledSo}
use Rattle.history.proofs.Laws.{selected, due_none}
use Rattle.settle.specs.Settling.{settle_refusal, swept, Ready}

-- what a granted call leaves
granted_is : {A : Type 0} (o : Option Fault) (old new : A) → o ≡ None → granted_or o old new ≡ new
granted_is (Some f) old new e = let z : ◌≡◌ {A = ℕ} 0 1 = cc in absurd (omega arith)
granted_is None old new e = refl

-- bytes that the check takes
pub ok_so : (t : Bool) (u : Unit {0}) → ◌≡◌ {A = Result (Unit {0}) BrokenFault} (Ok u) (cond t (Ok tt) (Err Broken)) → t ≡ true
ok_so true u e = refl
ok_so false u e = let z : ◌≡◌ {A = ℕ} 0 1 = cc in absurd (omega arith)

-- a granted call does not err
pub granted_so : {A : Type 0} (r : Result A Fault) (o : Option Fault) (a : A) (f : Fault) → r ≡ outcome o a → o ≡ None → r ≡ Err f → ⊥
granted_so r (Some e) a f p q w = let z : ◌≡◌ {A = ℕ} 0 1 = cc in omega arith
granted_so r None a f p q w = let z : ◌≡◌ {A = ℕ} 0 1 = cc in omega arith

module _ (rows : List Row) (b : List ℕ) where
  load_leaves : (s : State) (ws : List ℕ) → accepted b ≡ true → state_after rows s ws (load b) ≡ mk b (count_of rows) (Rising (count_of rows))
  load_leaves s ws e = granted_is (unless_so (accepted b) bad_program) s (moved s (count_of rows) (load b)) (ap (λ (t : Bool). unless_so t bad_program) e)

  none_left : eqb (count_of rows - count_of rows) 0 ≡ true
  none_left = eq-eqb (count_of rows - count_of rows) 0 (omega arith)

  rise_asks : (ws : List ℕ) → count_of rows ≤ length ws → refusal (mk b (count_of rows) (Rising (count_of rows))) (count_of rows) (length ws) (rise (count_of rows)) ≡ None
  rise_asks ws fit = unready_is b (count_of rows) (Rising (count_of rows)) (count_of rows) (length ws) true refl fit refl

  rise_leaves : (ws : List ℕ) → count_of rows ≤ length ws → state_after rows (mk b (count_of rows) (Rising (count_of rows))) ws (rise (count_of rows)) ≡ mk b (count_of rows) (Falling 0)
  rise_leaves ws fit =
      granted_is (refusal (mk b (count_of rows) (Rising (count_of rows))) (count_of rows) (length ws) (rise (count_of rows))) (mk b (count_of rows) (Rising (count_of rows))) (moved (mk b (count_of rows) (Rising (count_of rows))) (count_of rows) (rise (count_of rows))) (rise_asks ws fit)
      ∙ ap (λ (t : Bool). mk b (count_of rows) (cond t (Falling 0) (Rising (count_of rows - count_of rows)))) none_left

  rise_words : (ws : List ℕ) → count_of rows ≤ length ws → words_after rows (mk b (count_of rows) (Rising (count_of rows))) ws (rise (count_of rows)) ≡ risen rows (commands_of b) 0 (count_of rows) ws
  rise_words ws fit =
      let z : count_of rows - count_of rows ≡ 0 = omega arith in
      let y : count_of rows - 0 ≡ count_of rows = omega arith in
      granted_is (refusal (mk b (count_of rows) (Rising (count_of rows))) (count_of rows) (length ws) (rise (count_of rows))) ws (rewritten rows (mk b (count_of rows) (Rising (count_of rows))) (rise (count_of rows)) ws) (rise_asks ws fit)
      ∙ ap (λ (k : ℕ). risen rows (commands_of b) k (count_of rows - k) ws) z
      ∙ ap (λ (k : ℕ). risen rows (commands_of b) 0 k ws) y

  fall_asks : (ws : List ℕ) → count_of rows ≤ length ws → refusal (mk b (count_of rows) (Falling 0)) (count_of rows) (length ws) (fall (count_of rows)) ≡ None
  fall_asks ws fit = unready_is b (count_of rows) (Falling 0) (count_of rows) (length ws) true refl fit refl

  fall_leaves : (ws : List ℕ) → count_of rows ≤ length ws → state_after rows (mk b (count_of rows) (Falling 0)) ws (fall (count_of rows)) ≡ mk b (count_of rows) Settled
  fall_leaves ws fit =
      granted_is (refusal (mk b (count_of rows) (Falling 0)) (count_of rows) (length ws) (fall (count_of rows))) (mk b (count_of rows) (Falling 0)) (moved (mk b (count_of rows) (Falling 0)) (count_of rows) (fall (count_of rows))) (fall_asks ws fit)
      ∙ ap (λ (t : Bool). mk b (count_of rows) (cond t Settled (Falling (0 + count_of rows)))) (eq-eqb ((count_of rows - 0) - count_of rows) 0 (omega arith))

  fall_words : (ws : List ℕ) → count_of rows ≤ length ws → words_after rows (mk b (count_of rows) (Falling 0)) ws (fall (count_of rows)) ≡ fallen rows (rules b) 0 (count_of rows) ws
  fall_words ws fit =
      let y : (count_of rows - ((count_of rows - 0) - count_of rows)) - 0 ≡ count_of rows = omega arith in
      granted_is (refusal (mk b (count_of rows) (Falling 0)) (count_of rows) (length ws) (fall (count_of rows))) ws (rewritten rows (mk b (count_of rows) (Falling 0)) (fall (count_of rows)) ws) (fall_asks ws fit)
      ∙ ap (λ (k : ℕ). fallen rows (rules b) 0 k ws) y

  -- three calls in a row
  pub all_swept : (s s1 s2 s3 : State) (ws w2 w3 : List ℕ) → accepted b ≡ true → count_of rows ≤ length ws
      → s1 ≡ state_after rows s [] (load b)
      → s2 ≡ state_after rows s1 ws (rise (count_of rows)) → w2 ≡ words_after rows s1 ws (rise (count_of rows))
      → s3 ≡ state_after rows s2 w2 (fall (count_of rows)) → w3 ≡ words_after rows s2 w2 (fall (count_of rows))
      → (s3 ≡ mk b (count_of rows) Settled) × (w3 ≡ swept rows b ws)
  all_swept s s1 s2 s3 ws w2 w3 ok fit e1 e2 f2 e3 f3 =
      let a1 : s1 ≡ mk b (count_of rows) (Rising (count_of rows)) = e1 ∙ load_leaves s [] ok in
      let a2 : s2 ≡ mk b (count_of rows) (Falling 0) = e2 ∙ ap (λ (x : State). state_after rows x ws (rise (count_of rows))) a1 ∙ rise_leaves ws fit in
      let b2 : w2 ≡ risen rows (commands_of b) 0 (count_of rows) ws = f2 ∙ ap (λ (x : State). words_after rows x ws (rise (count_of rows))) a1 ∙ rise_words ws fit in
      let up = risen rows (commands_of b) 0 (count_of rows) ws in
      let long : count_of rows ≤ length up = omega (arith, length_risen rows (commands_of b) 0 (count_of rows) ws) in (
        e3 ∙ ap (λ (x : State). state_after rows x w2 (fall (count_of rows))) a2 ∙ ap (λ (l : List ℕ). state_after rows (mk b (count_of rows) (Falling 0)) l (fall (count_of rows))) b2 ∙ fall_leaves up long,
        f3 ∙ ap (λ (x : State). words_after rows x w2 (fall (count_of rows))) a2 ∙ ap (λ (l : List ℕ). words_after rows (mk b (count_of rows) (Falling 0)) l (fall (count_of rows))) b2 ∙ fall_words up long,
      )

  -- the rise and the fall are granted
  pub rise_granted : (s s1 : State) (ws : List ℕ) → accepted b ≡ true → count_of rows ≤ length ws → s1 ≡ state_after rows s [] (load b) → refusal s1 (count_of rows) (length ws) (rise (count_of rows)) ≡ None
  rise_granted s s1 ws ok fit e1 = ap (λ (x : State). refusal x (count_of rows) (length ws) (rise (count_of rows))) (e1 ∙ load_leaves s [] ok) ∙ rise_asks ws fit

  pub fall_granted : (s s1 s2 : State) (ws w2 : List ℕ) → accepted b ≡ true → count_of rows ≤ length ws → s1 ≡ state_after rows s [] (load b) → s2 ≡ state_after rows s1 ws (rise (count_of rows))
      → length w2 ≡ length ws → refusal s2 (count_of rows) (length w2) (fall (count_of rows)) ≡ None
  fall_granted s s1 s2 ws w2 ok fit e1 e2 same =
      ap (λ (x : State). refusal x (count_of rows) (length w2) (fall (count_of rows)))
      (e2 ∙ ap (λ (x : State). state_after rows x ws (rise (count_of rows))) (e1 ∙ load_leaves s [] ok) ∙ rise_leaves ws fit)
      ∙ fall_asks w2 (omega arith)

  -- granted
  pub asks_none : (ws : List ℕ) → accepted b ≡ true → count_of rows ≤ length ws → settle_refusal rows b ws ≡ None
  asks_none ws ok fit =
      ap (λ (t : Bool). before (unless_so t bad_program) (unless_so (leb (count_of rows) (length ws)) SmallWork)) ok
      ∙ ap (λ (t : Bool). unless_so t SmallWork) (le-leb (count_of rows) (length ws) fit)

  -- what settled words mean
  full : Progress
  full = record { program = Some b; risen = count_of rows; fallen = count_of rows }

  settled_so : (ws : List ℕ) → accepted b ≡ true → count_of rows ≤ length ws → SettledSo rows full b (count_of rows) (swept rows b ws)
  unfolding full
  settled_so ws ok fit =
      let z : count_of rows ≡ count_of rows - 0 = omega arith in
      record {
        on = record { program = refl; accepts = ok; whole = refl };
        all = omega arith;
        both = omega arith;
        words = record {
          up = risen rows (commands_of b) 0 (count_of rows) ws;
          rose = record { old = ws; room = fit; within = omega arith; is = ap (λ (k : ℕ). risen rows (commands_of b) 0 k ws) z };
          is = refl;
        };
      }

-- any laws serve, since what is told does not depend on the kind
one_value : Laws {V = Unit {0}} tt (λ x y. tt)
one_value = record { assoc = λ x y z. refl; left = λ x. refl; right = λ x. refl }

pub ready : (rows : List Row) (b ws : List ℕ) → Lawful rows → accepted b ≡ true → count_of rows ≤ length ws → (names : Store) (q : Path) → Translation names q b
    → Ready names q rows (mk b (count_of rows) Settled) (swept rows b ws)
unfolding full
ready rows b ws tree ok fit names q t lo hi le in_tree =
    let so = settled_so rows b ws ok fit in
    let long : count_of rows ≤ length (swept rows b ws) = omega (arith, length_fallen rows (rules b) 0 (count_of rows) (risen rows (commands_of b) 0 (count_of rows) ws), length_risen rows (commands_of b) 0 (count_of rows) ws) in (
      due_none one_value (λ v. tt) rows tree (full rows b) b (count_of rows) Settled (swept rows b ws) lo hi long so
          (record { ordered = le; inside = in_tree; program = (b, refl); risen = omega arith; fallen = omega arith }),
      lists_over (Marks t.0 rows) (Selects names q rows) lo (hi - lo) (marked_nodes (rules b) (swept rows b ws) lo (hi - lo)) (λ v x y. t.2 rows tree v)
          (selected one_value (λ v. tt) rows tree (full rows b) b (count_of rows) (swept rows b ws) lo hi t.0 t.1 so le in_tree),
    )
