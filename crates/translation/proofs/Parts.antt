-- The bytes of the parts of a step.
use Rattle.std.proofs.Common.{◌≡◌, ℕ, suc, ◌+◌, ◌/◌, ◌%◌, ◌<◌, ◌≤◌, List, [], ◌∷◌, ◌++◌, length, take, drop, Some, Option, sym, refl, ap, ◌∙◌, subst, arith, length-append, length-drop}
use lib.Seq.{take-append-le, drop-append-le}
use Rattle.std.proofs.lemmas.List.{append_assoc, take-append-drop}
use Rattle.grammar.specs.Machine.{inner}
use Rattle.query.specs.declared.table.Step.{Step}
use Rattle.query.specs.declared.table.Table.{Table}
use Rattle.query.specs.declared.table.NodeTest.{NodeTest}
use Rattle.query.specs.declared.table.NodeTest.TheVariants.{Element, Name, Text, Node}
use Rattle.query.specs.Shown.{axis_of, step_at}
use Rattle.names.specs.Store.{label_of}
use Rattle.selection.specs.Selects.{Store}
use Rattle.selection.specs.Translate.{both}
use Rattle.translation.specs.Table.{state_of, asks_at, said, Reaching, test_says, bracket_says, next_says, step_says, inside_says, GoodTest, GoodBracket, GoodNext}
use Rattle.translation.specs.Written.{code, both_code, looking_code}
use Rattle.translation.proofs.Codes.{code_both, code_looking}
use Rattle.translation.proofs.Chains.{asks_length}

-- a part of the front of a list is a part of the list
pub part_of_front : (from len n : ℕ) (xs : List ℕ) → from + len ≤ length (take n xs) → take len (drop from xs) ≡ take len (drop from (take n xs))
part_of_front from len n xs h =
    let a = take n xs in
    let b = drop n xs in
    let l = length-drop from a in
    let d : drop from xs ≡ drop from a ++ b = ap (drop from) (sym (take-append-drop n xs)) ∙ drop-append-le from a b (omega arith) in
    ap (take len) d ∙ take-append-le len (drop from a) b (omega arith)

module _ (names : Store) (bs : List ℕ) (q : Table) where
  pub step_code : (w : Step) → code (step_says names bs q w) ≡ code (test_says names bs w.test) ++ both_code (bracket_says q w.bracket)
  step_code w = code_both (test_says names bs w.test) (bracket_says q w.bracket)

  pub inside_code : (i : ℕ) → code (inside_says names bs q i)
      ≡ code (step_says names bs q (step_at inner q i)) ++ (both_code (next_says q (step_at inner q i).next) ++ looking_code (axis_of (step_at inner q i).axis) (state_of q i))
  inside_code i =
      let w = step_at inner q i in
      code_looking (axis_of w.axis) (state_of q i) (both (step_says names bs q w) (next_says q w.next))
      ∙ ap (λ x. x ++ looking_code (axis_of w.axis) (state_of q i)) (code_both (step_says names bs q w) (next_says q w.next))
      ∙ append_assoc (code (step_says names bs q w)) (both_code (next_says q w.next)) (looking_code (axis_of w.axis) (state_of q i))

  -- the same by a copy of the row
  pub inside_by : (i : ℕ) (w : Step) (p : ℕ) → w ≡ step_at inner q i → p ≡ state_of q i
      → code (inside_says names bs q i) ≡ code (step_says names bs q w) ++ (both_code (next_says q w.next) ++ looking_code (axis_of w.axis) p)
  inside_by i w p e f =
      inside_code i
      ∙ ap (λ x. code (step_says names bs q (step_at inner q i)) ++ (both_code (next_says q (step_at inner q i).next) ++ looking_code (axis_of (step_at inner q i).axis) x)) (sym f)
      ∙ ap (λ x. code (step_says names bs q x) ++ (both_code (next_says q x.next) ++ looking_code (axis_of x.axis) p)) (sym e)

  pub inside_long : (i : ℕ) (w : Step) (p : ℕ) → w ≡ step_at inner q i → p ≡ state_of q i
      → length (code (inside_says names bs q i)) ≡ length (code (step_says names bs q w)) + (length (both_code (next_says q w.next)) + length (looking_code (axis_of w.axis) p))
  inside_long i w p e f = ap length (inside_by i w p e f) ∙ simp length-append refl

module _ (q : Table) (o : Option ℕ) (i : ℕ) (e : o ≡ Some i) where
  pub bracket_is : code (said q i) ++ (0x18 ∷ []) ≡ both_code (bracket_says q o)
  bracket_is = sym (ap (λ x. both_code (bracket_says q x)) e)

  pub bracket_long : length (both_code (bracket_says q o)) ≡ suc (length (code (said q i)))
  bracket_long = ap (λ x. length (both_code (bracket_says q x))) e ∙ simp length-append (omega arith)

  pub bracket_good : GoodBracket q o → Reaching q i
  bracket_good g = subst (GoodBracket q) e g

  pub next_is : code (asks_at q i) ++ (0x18 ∷ []) ≡ both_code (next_says q o)
  next_is = sym (ap (λ x. both_code (next_says q x)) e)

  pub next_long : length (both_code (next_says q o)) ≡ 3
  next_long = let a = asks_length q i in ap (λ x. length (both_code (next_says q x))) e ∙ simp length-append (omega arith)

  pub next_good : GoodNext q o → i < q.inside_count
  next_good g = subst (GoodNext q) e g

module _ (names : Store) (bs : List ℕ) (t : NodeTest) where
  pub element_is : t ≡ Element → 0x10 ∷ 2 ∷ [] ≡ code (test_says names bs t)
  unfolding code
  element_is e = sym (ap (λ x. code (test_says names bs x)) e)

  pub text_is : t ≡ Text → 0x10 ∷ 1 ∷ [] ≡ code (test_says names bs t)
  unfolding code
  text_is e = sym (ap (λ x. code (test_says names bs x)) e)

  pub node_is : t ≡ Node → 0x12 ∷ [] ≡ code (test_says names bs t)
  unfolding code
  node_is e = sym (ap (λ x. code (test_says names bs x)) e)

  pub name_is : (from len : ℕ) → t ≡ Name from len
      → 0x10 ∷ 2 ∷ 0x11 ∷ label_of names (take len (drop from bs)) / 256 ∷ label_of names (take len (drop from bs)) % 256 ∷ 0x18 ∷ [] ≡ code (test_says names bs t)
  unfolding code
  name_is from len e = sym (ap (λ x. code (test_says names bs x)) e)

  pub name_good : (from len : ℕ) → t ≡ Name from len → GoodTest bs t → from + len ≤ length bs
  name_good from len e g = subst (GoodTest bs) e g
