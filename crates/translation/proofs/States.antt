-- The bytes of states, one more at a time.
use Rattle.std.proofs.Common.{◌≡◌, ℕ, zero, suc, ◌+◌, ◌-◌, ◌<◌, ◌≤◌, List, [], ◌∷◌, ◌++◌, length, sym, refl, ap, ◌∙◌, subst, arith, length-append}
use native.Mathlib.Decide.{dec_lt}
use Rattle.std.proofs.lemmas.List.{append_assoc}
use Rattle.grammar.specs.Syntax.{Axis, self, child, descendant, following_sibling}
use Rattle.grammar.specs.Machine.{outer}
use Rattle.query.specs.declared.table.Table.{Table}
use Rattle.query.specs.Shown.{axis_of, step_at}
use Rattle.automata.specs.Program.{Formula, Rule, Program}
use Rattle.automata.specs.Program as program
use Rattle.commands.specs.Encoded.{encoded}
use Rattle.selection.specs.Selects.{Store}
use Rattle.selection.specs.Translate.{keeping, rule, begin}
use Rattle.translation.specs.Table.{inside_says, outside_says, insides, outsides, axis_before, goes_on, state_rules, sends, program_of}
use Rattle.translation.specs.Written.{code, states_code, rules_code, rules_codes, sending_code, begin_code, keeping_code, going_code}
use Rattle.translation.proofs.Codes.{states_more, states_append, states_true, sending_end, encoded_is}

module _ (names : Store) (bs : List ℕ) (q : Table) where
  pub insides_more : (i : ℕ) → states_code (insides names bs q 0 (i + 1)) ≡ (code (inside_says names bs q i) ++ (0x1f ∷ [])) ++ states_code (insides names bs q 0 i)
  insides_more i =
      let e : i + 1 ≡ suc i = omega arith in
      let z : 0 + i ≡ i = omega arith in
      ap (λ n. states_code (insides names bs q 0 n)) e ∙ states_more (inside_says names bs q (0 + i)) (insides names bs q 0 i)
      ∙ ap (λ n. (code (inside_says names bs q n) ++ (0x1f ∷ [])) ++ states_code (insides names bs q 0 i)) z

  insides_long : (i : ℕ) → length (states_code (insides names bs q 0 (suc i))) ≡ suc (length (code (inside_says names bs q i))) + length (states_code (insides names bs q 0 i))
  insides_long i =
      let e : suc i ≡ i + 1 = omega arith in
      ap (λ n. length (states_code (insides names bs q 0 n))) e ∙ ap length (insides_more i) ∙ simp length-append (omega arith)

  -- there is room for one more where there is for all
  pub insides_room : (m i : ℕ) → i < m → suc (length (code (inside_says names bs q i))) + length (states_code (insides names bs q 0 i)) ≤ length (states_code (insides names bs q 0 m))
  insides_room zero i h = absurd (omega arith)
  insides_room (suc m) i h = pick (dec_lt i m) (λ k. insides_room m i k)
    where
      pick : Dec (i < m) → (i < m → suc (length (code (inside_says names bs q i))) + length (states_code (insides names bs q 0 i)) ≤ length (states_code (insides names bs q 0 m)))
          → suc (length (code (inside_says names bs q i))) + length (states_code (insides names bs q 0 i)) ≤ length (states_code (insides names bs q 0 (suc m)))
      pick (yes k) ih = let g = ih k in let l = insides_long m in omega arith
      pick (no k) ih =
          let e : i ≡ m = omega arith in
          let l = insides_long m in
          subst (λ x. suc (length (code (inside_says names bs q x))) + length (states_code (insides names bs q 0 x)) ≤ length (states_code (insides names bs q 0 (suc m)))) (sym e) (omega arith)

  -- by what is left of k steps
  pub outsides_more : (i k : ℕ) → i < k → states_code (outsides names bs q i (k - i)) ≡ (code (outside_says names bs q i) ++ (0x1f ∷ [])) ++ states_code (outsides names bs q (i + 1) (k - (i + 1)))
  outsides_more i k h =
      let e : k - i ≡ suc (k - (i + 1)) = omega arith in
      let o : suc i ≡ i + 1 = omega arith in
      ap (λ n. states_code (outsides names bs q i n)) e ∙ states_more (outside_says names bs q i) (outsides names bs q (suc i) (k - (i + 1)))
      ∙ ap (λ n. (code (outside_says names bs q i) ++ (0x1f ∷ [])) ++ states_code (outsides names bs q n (k - (i + 1)))) o

  pub outsides_long : (i k : ℕ) → i < k → length (states_code (outsides names bs q i (k - i))) ≡ suc (length (code (outside_says names bs q i))) + length (states_code (outsides names bs q (i + 1) (k - (i + 1))))
  outsides_long i k h = ap length (outsides_more i k h) ∙ simp length-append (omega arith)

  pub outsides_room : (i k : ℕ) → i ≤ k → length (states_code (outsides names bs q i (k - i))) ≤ length (states_code (outsides names bs q 0 k))
  outsides_room zero k h = let e : k - 0 ≡ k = omega arith in rw e (omega arith)
  outsides_room (suc i) k h =
      let g = outsides_room i k (omega arith) in
      let l = outsides_long i k h in
      let o : i + 1 ≡ suc i = omega arith in
      let l' : length (states_code (outsides names bs q i (k - i))) ≡ suc (length (code (outside_says names bs q i))) + length (states_code (outsides names bs q (suc i) (k - suc i)))
      = l ∙ ap (λ x. suc (length (code (outside_says names bs q i))) + length (states_code (outsides names bs q x (k - x)))) o in
      omega arith

  pub sends_more : (j k : ℕ) → j < k → rules_codes (sends q j (k - j)) ≡ rules_code (state_rules q j (k - (j + 1))) ++ rules_codes (sends q (j + 1) (k - (j + 1)))
  sends_more j k h =
      let e : k - j ≡ suc (k - (j + 1)) = omega arith in
      let o : suc j ≡ j + 1 = omega arith in
      ap (λ n. rules_codes (sends q j n)) e
      ∙ ap (λ n. rules_code (state_rules q j (k - (j + 1))) ++ rules_codes (sends q n (k - (j + 1)))) o

  pub sends_long : (j k : ℕ) → j < k → length (rules_codes (sends q j (k - j))) ≡ length (rules_code (state_rules q j (k - (j + 1)))) + length (rules_codes (sends q (j + 1) (k - (j + 1))))
  sends_long j k h = ap length (sends_more j k h) ∙ simp length-append refl

  pub sends_room : (j k : ℕ) → j ≤ k → length (rules_codes (sends q j (k - j))) ≤ length (rules_codes (sends q 0 k))
  sends_room zero k h = let e : k - 0 ≡ k = omega arith in rw e (omega arith)
  sends_room (suc j) k h =
      let g = sends_room j k (omega arith) in
      let l = sends_long j k h in
      let o : j + 1 ≡ suc j = omega arith in
      let l' : length (rules_codes (sends q j (k - j))) ≡ length (rules_code (state_rules q j (k - (j + 1)))) + length (rules_codes (sends q (suc j) (k - suc j)))
      = l ∙ ap (λ x. length (rules_code (state_rules q j (k - (j + 1)))) + length (rules_codes (sends q x (k - x)))) o in
      omega arith

  -- By the row before a number i, which is not 0.
  pub outsides_before : (i k : ℕ) → 0 < i → i ≤ k
      → (states_code (outsides names bs q (i - 1) (k - (i - 1))) ≡ (code (outside_says names bs q (i - 1)) ++ (0x1f ∷ [])) ++ states_code (outsides names bs q i (k - i)))
      × (suc (length (code (outside_says names bs q (i - 1)))) + length (states_code (outsides names bs q i (k - i))) ≤ length (states_code (outsides names bs q 0 k)))
  outsides_before i k h l =
      let b : i - 1 + 1 ≡ i = omega arith in
      let m = outsides_more (i - 1) k (omega arith) in
      let r = outsides_room (i - 1) k (omega arith) in
      let e = m ∙ ap (λ x. (code (outside_says names bs q (i - 1)) ++ (0x1f ∷ [])) ++ states_code (outsides names bs q x (k - x))) b in
      let n : length (states_code (outsides names bs q (i - 1) (k - (i - 1)))) ≡ suc (length (code (outside_says names bs q (i - 1)))) + length (states_code (outsides names bs q i (k - i))) = ap length e ∙ simp length-append (omega arith) in
      (e, omega arith)

  -- the same of the sending states, of which there are k + 1
  pub sends_before : (i k : ℕ) → 0 < i → i ≤ k + 1
      → (rules_codes (sends q (i - 1) (k + 1 - (i - 1))) ≡ rules_code (state_rules q (i - 1) (k - (i - 1))) ++ rules_codes (sends q i (k + 1 - i)))
      × (length (rules_code (state_rules q (i - 1) (k - (i - 1)))) + length (rules_codes (sends q i (k + 1 - i))) ≤ length (rules_codes (sends q 0 (k + 1))))
  sends_before i k h l =
      let b : i - 1 + 1 ≡ i = omega arith in
      let d : k + 1 - i ≡ k - (i - 1) = omega arith in
      let m = sends_more (i - 1) (k + 1) (omega arith) in
      let r = sends_room (i - 1) (k + 1) (omega arith) in
      let e : rules_codes (sends q (i - 1) (k + 1 - (i - 1))) ≡ rules_code (state_rules q (i - 1) (k - (i - 1))) ++ rules_codes (sends q i (k + 1 - i))
      = m ∙ ap (λ x. rules_code (state_rules q (i - 1) (k + 1 - x)) ++ rules_codes (sends q x (k + 1 - x))) b ∙ ap (λ x. rules_code (state_rules q (i - 1) x) ++ rules_codes (sends q i (k + 1 - i))) d in
      let n : length (rules_codes (sends q (i - 1) (k + 1 - (i - 1)))) ≡ length (rules_code (state_rules q (i - 1) (k - (i - 1)))) + length (rules_codes (sends q i (k + 1 - i))) = ap length e ∙ simp length-append refl in
      (e, omega arith)

  -- the whole program
  pub program_code : encoded (program_of names bs q)
      ≡ states_code (insides names bs q 0 q.inside_count) ++ (0x12 ∷ 0x1f ∷ (states_code (outsides names bs q 0 q.outside_count) ++ (rules_codes (sends q 0 (q.outside_count + 1)) ++ (0xff ∷ []))))
  unfolding program_of
  program_code =
      let is = insides names bs q 0 q.inside_count in
      let os = outsides names bs q 0 q.outside_count in
      let ss = sending_code (sends q 0 (suc q.outside_count)) in
      let one : suc q.outside_count ≡ q.outside_count + 1 = omega arith in
      encoded_is (record { deciding = is ++ (program.true ∷ os); sending = sends q 0 (suc q.outside_count) })
      ∙ ap (λ x. x ++ ss) (states_append is (program.true ∷ os) ∙ ap (λ x. states_code is ++ x) (states_true os))
      ∙ append_assoc (states_code is) (0x12 ∷ 0x1f ∷ states_code os) ss
      ∙ ap (λ x. states_code is ++ (0x12 ∷ 0x1f ∷ (states_code os ++ x))) (sending_end (sends q 0 (suc q.outside_count)) ∙ ap (λ x. rules_codes (sends q 0 x) ++ (0xff ∷ [])) one)

begin_rules : (a : Axis) (p j : ℕ) → rules_code (rule p (begin a j) ∷ []) ≡ 0x20 ∷ p ∷ (begin_code a j ++ (0x2f ∷ []))
unfolding rules_code
begin_rules self p j = refl
begin_rules child p j = refl
begin_rules descendant p j = refl
begin_rules following_sibling p j = refl

keep_rules : (a : Axis) (m j : ℕ) (rs : List Rule) → rules_code (keeping a m j ++ rs) ≡ keeping_code a m j ++ rules_code rs
unfolding rules_code
keep_rules self m j rs = refl
keep_rules child m j rs = refl
keep_rules descendant m j rs = refl
keep_rules following_sibling m j rs = refl

go_rules : (q : Table) (p j n : ℕ) → rules_code (rule p (goes_on q j n) ∷ []) ≡ 0x20 ∷ p ∷ (going_code q j n ++ (0x2f ∷ []))
unfolding rules_code
go_rules q p j zero = refl
go_rules q p j (suc n) = begin_rules (axis_of (step_at outer q j).axis) p (suc j)

pub state_code : (q : Table) (j n : ℕ) (a : Axis) → a ≡ axis_before q j
    → rules_code (state_rules q j n) ≡ keeping_code a q.inside_count j ++ (0x20 ∷ (q.inside_count + j) ∷ (going_code q j n ++ (0x2f ∷ [])))
state_code q j n a e =
    keep_rules (axis_before q j) q.inside_count j (rule (q.inside_count + j) (goes_on q j n) ∷ [])
    ∙ ap (λ x. keeping_code x q.inside_count j ++ rules_code (rule (q.inside_count + j) (goes_on q j n) ∷ [])) (sym e)
    ∙ ap (λ x. keeping_code a q.inside_count j ++ x) (go_rules q (q.inside_count + j) j n)

pub state_long : (q : Table) (j n : ℕ) (a : Axis) → a ≡ axis_before q j
    → length (rules_code (state_rules q j n)) ≡ length (keeping_code a q.inside_count j) + (3 + length (going_code q j n))
state_long q j n a e = ap length (state_code q j n a e) ∙ simp length-append (omega arith)
