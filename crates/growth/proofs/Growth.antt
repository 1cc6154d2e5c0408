-- What each command keeps of the rows that a feed holds.
use Rattle.std.proofs.Common.{◌≡◌, ℕ, zero, suc, ◌+◌, ◌-◌, ◌<◌, ◌≤◌, Bool, true, false, cond, eqb, List, [], ◌∷◌, ◌++◌, length, take, set, Ok, sym, refl, ap, ◌∙◌, append_assoc, arith, length-set}
use Rattle.std.proofs.lemmas.Bool.Decides.{nat_tests}
use Rattle.std.proofs.lemmas.Bool.{and_parts, and_from}
use Rattle.std.proofs.lemmas.List.{take_more_set, map_push, length_push}
use Rattle.rows.specs.Rows.{Row, row}
use Rattle.rows.specs.Lawful.{IsLawful, follow, reach, inner_label}
use Rattle.shape.specs.Shape.{closing, parens_onto, labels_of}
use Rattle.growth.specs.Steps.{Fed, room}
use Rattle.growth.specs.Holding.{until, deepest_from, deepest, Holds}
use Rattle.growth.specs.Claims.{ThenDue, BegunHolds, OpenedHolds, TextedHolds, ShutHolds, NamedHolds}
use Rattle.growth.proofs.Room.{roomy}

pub closing_append : (n : ℕ) (s t : List Bool) → closing n s ++ t ≡ closing n (s ++ t)
closing_append zero s t = refl
closing_append (suc n) s t = ap (λ (l : List Bool). false ∷ l) (closing_append n s t)

pub closing_more : (a b n : ℕ) (t : List Bool) → a + b ≡ n → closing a (closing b t) ≡ closing n t
closing_more zero b n t e = ap (λ (k : ℕ). closing k t) (omega arith)
closing_more (suc a) b zero t e = absurd (omega arith)
closing_more (suc a) b (suc n) t e = ap (λ (l : List Bool). false ∷ l) (closing_more a b n t (omega arith))

-- how many are open after rows
end : ℕ → List Row → ℕ
end k [] = k
end k (r ∷ rs) = end (suc r.depth) rs

deepest_end : (p : Row) (rs : List Row) → deepest_from p rs ≤ end (suc p.depth) rs
unfolding end
deepest_end p [] = grind (arith, nat_tests)
deepest_end p (r ∷ rs) = deepest_end r rs

due_end : (rs : List Row) (d : ℕ) → d ≤ deepest rs → d ≤ end 0 rs
unfolding end
due_end [] d h = omega arith
due_end (r ∷ rs) d h = omega (arith, deepest_end r rs)

until_push : (k : ℕ) (rs : List Row) (r : Row) (d : ℕ) → until k (rs ++ r ∷ []) d ≡ until k rs r.depth ++ true ∷ closing (suc r.depth - d) []
until_push k [] r d = sym (closing_append (k - r.depth) [] (true ∷ closing (suc r.depth - d) []))
until_push k (x ∷ xs) r d =
    ap (λ (l : List Bool). closing (k - x.depth) (true ∷ l)) (until_push (suc x.depth) xs r d)
    ∙ sym (closing_append (k - x.depth) (true ∷ until (suc x.depth) xs r.depth) (true ∷ closing (suc r.depth - d) []))

until_close : (k : ℕ) (rs : List Row) (d : ℕ) → suc d ≤ end k rs → until k rs d ≡ until k rs (suc d) ++ false ∷ []
unfolding end
until_close k [] d h =
    let z : (k - suc d) + 1 ≡ k - d = omega arith in
    sym (closing_more (k - suc d) 1 (k - d) [] z) ∙ sym (closing_append (k - suc d) [] (false ∷ []))
until_close k (x ∷ xs) d h =
    ap (λ (l : List Bool). closing (k - x.depth) (true ∷ l)) (until_close (suc x.depth) xs d h)
    ∙ sym (closing_append (k - x.depth) (true ∷ until (suc x.depth) xs (suc d)) (false ∷ []))

until_onto : (k : ℕ) (rs : List Row) (d : ℕ) (t : List Bool) → d ≤ end k rs → until k rs d ++ closing d t ≡ parens_onto k rs t
unfolding end
until_onto k [] d t h = closing_append (k - d) [] (closing d t) ∙ closing_more (k - d) d k t (omega arith)
until_onto k (x ∷ xs) d t h =
    closing_append (k - x.depth) (true ∷ until (suc x.depth) xs d) (closing d t)
    ∙ ap (λ (l : List Bool). closing (k - x.depth) (true ∷ l)) (until_onto (suc x.depth) xs d t h)

pub then_due : ThenDue
then_due rs f t h =
    ap (λ (l : List Bool). l ++ closing f.due t) h.parentheses ∙ until_onto 0 rs f.due t (due_end rs f.due h.may_follow)

deepest_push_from : (p : Row) (rs : List Row) (r : Row) → deepest_from p (rs ++ r ∷ []) ≡ reach r
deepest_push_from p [] r = refl
deepest_push_from p (x ∷ xs) r = deepest_push_from x xs r

deepest_push : (rs : List Row) (r : Row) → deepest (rs ++ r ∷ []) ≡ reach r
deepest_push [] r = refl
deepest_push (x ∷ xs) r = deepest_push_from x xs r

follow_push : (p : Row) (rs : List Row) (r : Row) → follow p rs ≡ true → 1 ≤ r.depth → r.depth ≤ deepest_from p rs → inner_label r.label ≡ true → follow p (rs ++ r ∷ []) ≡ true
follow_push p [] r f a b l = grind (arith, nat_tests)
follow_push p (x ∷ xs) r f a b l = and_from _ _ (and_parts _ _ f).0 (follow_push x xs r (and_parts _ _ f).1 a b l)

lawful_push : (rs : List Row) (r : Row) → IsLawful rs → length rs < 8192 → 1 ≤ r.depth → r.depth ≤ deepest rs → inner_label r.label ≡ true → IsLawful (rs ++ r ∷ [])
lawful_push [] r l n a b i = let z : ◌≡◌ {A = ℕ} 0 1 = cc in absurd (omega arith)
lawful_push (x ∷ xs) r l n a b i =
    let long = length_push xs r in
    and_from _ _ (grind (arith, nat_tests)) (follow_push x xs r (and_parts _ _ l).1 a b i)

-- the root
pub begun_holds : BegunHolds
begun_holds bits labels ok =
    let wide : 2 ≤ length bits = grind (arith, nat_tests) in
    let long : 1 ≤ length labels = grind (arith, nat_tests) in
    record {
      lawful = refl;
      count = refl;
      root_open = omega arith;
      may_follow = omega arith;
      parentheses = take_more_set bits 0 true (omega arith);
      each_label = take_more_set labels 0 0 (omega arith);
      paired = refl;
      few_names = omega arith;
    }

-- a node more
module _ (rs : List Row) (f : Fed) (c : ℕ) (h : Holds rs f) (ok : room f ≡ Ok tt) (inner : inner_label c ≡ true) where
  more_lawful : IsLawful (rs ++ row f.due c ∷ [])
  more_lawful = let r = roomy f ok in lawful_push rs (row f.due c) h.lawful (omega (arith, h.count)) h.root_open h.may_follow inner

  more_count : f.nodes + 1 ≡ length (rs ++ row f.due c ∷ [])
  more_count = omega (arith, h.count, length_push rs (row f.due c))

  more_labels : take (f.nodes + 1) (set f.labels f.nodes c) ≡ labels_of (rs ++ row f.due c ∷ [])
  more_labels =
      let r = roomy f ok in
      take_more_set f.labels f.nodes c r.2 ∙ ap (λ (l : List ℕ). l ++ c ∷ []) h.each_label ∙ sym (map_push (λ (x : Row). x.label) rs (row f.due c))

  more_opening : take (f.written + 1) (set f.bits f.written true) ≡ until 0 rs f.due ++ true ∷ []
  more_opening = let r = roomy f ok in take_more_set f.bits f.written true (omega arith) ∙ ap (λ (l : List Bool). l ++ true ∷ []) h.parentheses

  more_reach : deepest (rs ++ row f.due c ∷ []) ≡ cond (eqb c 1) f.due (suc f.due)
  more_reach = deepest_push rs (row f.due c)

pub opened_holds : OpenedHolds
opened_holds rs f c h ok =
    let names = h.few_names in
    let low : 2 ≤ c = grind (arith, nat_tests) in
    let high : c ≤ f.names + 1 = grind (arith, nat_tests) in
    let fits : room f ≡ Ok tt = grind (arith, nat_tests) in
    let inner : inner_label c ≡ true = grind (arith, nat_tests) in
    let open-due : suc f.due - (f.due + 1) ≡ 0 = omega arith in
    let far = more_reach rs f c h fits inner in
    record {
      lawful = more_lawful rs f c h fits inner;
      count = more_count rs f c h fits inner;
      root_open = omega arith;
      may_follow = grind (arith, nat_tests);
      parentheses = more_opening rs f c h fits inner ∙ sym (until_push 0 rs (row f.due c) (f.due + 1) ∙ ap (λ (n : ℕ). until 0 rs f.due ++ true ∷ closing n []) open-due);
      each_label = more_labels rs f c h fits inner;
      paired = omega (arith, h.paired);
      few_names = names;
    }

pub texted_holds : TextedHolds
texted_holds rs f h ok =
    let r = roomy f ok in
    let shut-due : suc f.due - f.due ≡ 1 = omega arith in
    let two : f.written + 2 ≡ f.written + 1 + 1 = omega arith in
    let far = more_reach rs f 1 h ok refl in
    record {
      lawful = more_lawful rs f 1 h ok refl;
      count = more_count rs f 1 h ok refl;
      root_open = h.root_open;
      may_follow = omega (arith, far);
      parentheses =
          ap (λ (n : ℕ). take n (set (set f.bits f.written true) (f.written + 1) false)) two
          ∙ take_more_set (set f.bits f.written true) (f.written + 1) false (omega (arith, length-set f.bits f.written true))
          ∙ ap (λ (l : List Bool). l ++ false ∷ []) (more_opening rs f 1 h ok refl)
          ∙ append_assoc (until 0 rs f.due) (true ∷ []) (false ∷ [])
          ∙ sym (until_push 0 rs (row f.due 1) f.due ∙ ap (λ (n : ℕ). until 0 rs f.due ++ true ∷ closing n []) shut-due);
      each_label = more_labels rs f 1 h ok refl;
      paired = omega (arith, h.paired);
      few_names = h.few_names;
    }

pub shut_holds : ShutHolds
shut_holds rs f h ok =
    let wide : f.written + f.due ≤ length f.bits = grind (arith, nat_tests) in
    let deep : 2 ≤ f.due = grind (arith, nat_tests) in
    let one : suc (f.due - 1) ≡ f.due = omega arith in
    let last = due_end rs f.due h.may_follow in
    record {
      lawful = h.lawful;
      count = h.count;
      root_open = omega arith;
      may_follow = omega (arith, h.may_follow);
      parentheses =
          take_more_set f.bits f.written false (omega arith) ∙ ap (λ (l : List Bool). l ++ false ∷ []) h.parentheses
          ∙ sym (until_close 0 rs (f.due - 1) (omega arith) ∙ ap (λ (n : ℕ). until 0 rs n ++ false ∷ []) one);
      each_label = h.each_label;
      paired = omega (arith, h.paired);
      few_names = h.few_names;
    }

pub named_holds : NamedHolds
named_holds rs f slots s h ok =
    let few : f.names < 512 = grind (arith, nat_tests) in
    record {
      lawful = h.lawful;
      count = h.count;
      root_open = h.root_open;
      may_follow = h.may_follow;
      parentheses = h.parentheses;
      each_label = h.each_label;
      paired = h.paired;
      few_names = omega arith;
    }
