-- The tallies of a list of nodes say how many there are, the first and the last, and the first twelve.
use Rattle.std.proofs.Common.{◌≡◌, ℕ, zero, suc, ◌+◌, ◌-◌, ◌≤◌, min, Bool, false, ◌||◌, ltb, leb, List, [], ◌∷◌, length, take, None, refl, ap, ◌∙◌, subst, inl, inr, arith, length-take}
use Rattle.std.proofs.lemmas.Bool.{le-leb}
use Rattle.std.proofs.lemmas.Bool.Decides.{nat_tests}
use Rattle.tally.specs.Monoid.{marks_of}
use Rattle.tally.specs.Values.{Capped, cap, add, Extent, spanned, Leading, leading, followed}
use Rattle.tally.specs.Values.Extent.{nowhere, across}
use Rattle.tally.specs.Twelve.{take_back}
use Rattle.rows.specs.Rows.{Row, count_of}
use Rattle.grammar.specs.Syntax.{Path}
use Rattle.selection.specs.Selects.{Store, Selects}
use Rattle.tallying.specs.Nodes.{Lists}
use Rattle.selector.specs.Steps.{State, told_nodes}
use Rattle.settle.specs.Settling.{Ready}
use Rattle.select.specs.declared.fault.Fault.TheVariants.{Memory, SmallWork}
use Rattle.select.specs.Selecting.{before, unless_so, prepare_refusal}
use Rattle.choosing.specs.Choosing.{Tells}
use Rattle.choosing.specs.Printed.{ends_of, report_text}

pub counted : (vs : List ℕ) → (marks_of (cap 0) (λ _. cap 1) add vs).number ≡ min 65535 (length vs)
counted [] = refl
counted (v ∷ vs) = omega (arith, counted vs)

pub spanning : (vs : List ℕ) → marks_of nowhere (λ v. across v v) spanned vs ≡ ends_of vs
spanning [] = refl
spanning (v ∷ []) = refl
spanning (v ∷ (w ∷ ws)) = ap (spanned (across v v)) (spanning (w ∷ ws))

pub led_numbers : (vs : List ℕ) → (marks_of (leading [] false) (λ v. leading (v ∷ []) false) followed vs).numbers ≡ take 12 vs
led_numbers [] = refl
led_numbers (v ∷ vs) = ap (λ l. take 12 (v ∷ l)) (led_numbers vs) ∙ take_back (v ∷ []) vs

pub led_more : (vs : List ℕ) → (marks_of (leading [] false) (λ v. leading (v ∷ []) false) followed vs).more ≡ ltb 12 (length vs)
led_more [] = refl
led_more (v ∷ vs) =
    let n = ap length (led_numbers vs) ∙ length-take 12 vs in
    let m = led_more vs in
    ap (λ (k : ℕ). (marks_of (leading [] false) (λ v. leading (v ∷ []) false) followed vs).more || ltb 12 (suc k)) n
    ∙ ap (λ (b : Bool). b || ltb 12 (suc (min 12 (length vs)))) m ∙ grows (length vs) where
      grows : (k : ℕ) → (ltb 12 k || ltb 12 (suc (min 12 k))) ≡ ltb 12 (suc k)
      grows k = grind (arith, nat_tests)

lists_length : (Q : ℕ → Type 0) (v k : ℕ) (vs : List ℕ) → Lists Q v k vs → length vs ≤ k
lists_length Q v zero vs e = omega (arith, ap length e)
lists_length Q v (suc k) vs (inl y) = let i = lists_length Q (v + 1) k y.1.0 y.1.2 in omega (arith, ap length y.1.1)
lists_length Q v (suc k) vs (inr y) = let i = lists_length Q (v + 1) k vs y.1 in omega arith

-- a report of the three tallies of all nodes tells of the nodes that the query selects
pub told_all : (names : Store) (q : Path) (rows : List Row) (n : ℕ) (s : State) (ws : List ℕ) (selected : ℕ) (ends : Extent) (lead : Leading) (text : List ℕ)
    → n ≡ count_of rows → count_of rows ≤ 8192 → Ready names q rows s ws
    → cap selected ≡ marks_of (cap 0) (λ _. cap 1) add (told_nodes s ws 0 n)
    → ends ≡ marks_of nowhere (λ v. across v v) spanned (told_nodes s ws 0 n)
    → lead ≡ marks_of (leading [] false) (λ v. leading (v ∷ []) false) followed (told_nodes s ws 0 n)
    → text ≡ report_text n selected ends lead.numbers lead.more → Tells names q rows text
told_all names q rows n s ws selected ends lead text e few ready a b c t =
    let vs = told_nodes s ws 0 n in
    let z : n - 0 ≡ count_of rows = omega arith in
    let lists : Lists (Selects names q rows) 0 (count_of rows) vs = subst (λ (k : ℕ). Lists (Selects names q rows) 0 k vs) z (ready 0 n (omega arith) (omega arith)).1 in
    let long = lists_length (Selects names q rows) 0 (count_of rows) vs lists in
    let count : selected ≡ length vs = omega (arith, ap (λ (x : Capped). x.number) a, counted vs) in
    let span : ends ≡ ends_of vs = b ∙ spanning vs in
    let numbers : lead.numbers ≡ take 12 vs = ap (λ (x : Leading). x.numbers) c ∙ led_numbers vs in
    let more : lead.more ≡ ltb 12 (length vs) = ap (λ (x : Leading). x.more) c ∙ led_more vs in (
      vs,
      lists,
      t ∙ ap (λ (k : ℕ). report_text k selected ends lead.numbers lead.more) e ∙ ap (λ (k : ℕ). report_text (count_of rows) k ends lead.numbers lead.more) count
          ∙ ap (λ (x : Extent). report_text (count_of rows) (length vs) x lead.numbers lead.more) span ∙ ap (λ (l : List ℕ). report_text (count_of rows) (length vs) (ends_of vs) l lead.more) numbers
          ∙ ap (λ (m : Bool). report_text (count_of rows) (length vs) (ends_of vs) (take 12 vs) m) more,
    )

-- memory enough is refused for nothing
pub asks : (n p w : ℕ) → 2048 ≤ p → n ≤ w → prepare_refusal n p w ≡ None
asks n p w a b =
    ap (λ (t : Bool). before (unless_so t Memory) (unless_so (leb n w) SmallWork)) (le-leb 2048 p a)
    ∙ ap (λ (t : Bool). unless_so t SmallWork) (le-leb n w b)
