-- The program of a query marks exactly the nodes that the query selects.
use Rattle.std.proofs.Common.{◌≡◌, ℕ, suc, ◌+◌, ◌<◌, T, List, [], ◌∷◌, length, add-zero, zero-add, arith}
use mathlib.Core.Logic.Iff
use Rattle.rows.specs.Rows.{Row, count_of as count, Lawful}
use Rattle.automata.specs.Program.{Decisions, Right, TrueAt}
use Rattle.automata.specs.Program as program
use Rattle.automata.proofs.Solutions.{settled}
use Rattle.selection.specs.Selects.{Store}
use Rattle.selection.specs.Translate.{Step, steps_of, brackets, matching, passing, of_filter, translate}
use Rattle.selection.specs.Claims.{MarksSelected, Translates}
use Rattle.selection.proofs.Deciding.{RightFrom, split, right_from, both_means, passing_means, filter_means}
use Rattle.selection.proofs.Sending.{Tell, marked_along, along_marked, along_reaches}
use Rattle.selection.proofs.Limits.{formulas_proper}

module _ (names : Store) (rows : List Row) (D : Decisions) (ok : Lawful rows) where
  -- the deciding states of steps outside brackets hold where the steps' tests and brackets do
  tells : (m : ℕ) (ss : List Step) (j : ℕ) → RightFrom (brackets names ss) D rows 0 → RightFrom (matching names ss) D rows (m + j) → Tell rows names D ok m ss j
  tells m [] j rb rm = tt
  tells m (s ∷ ss) j rb rm =
      let r = brackets names ss in
      let f = of_filter names s.filter (length r) in
      let parts = split rows D r f.states 0 rb in
      let rf : RightFrom f.states D rows (length r) = rw zero-add at parts.1 in
      let e : suc (m + j) ≡ m + suc j = omega arith in (
        λ v b. Iff.trans (rm.0 v b)
            (Iff.trans (both_means rows D (passing names s.test) f.asks v)
            (Iff.and (passing_means rows D names s.test v) (filter_means rows D ok names s.filter (length r) rf v b))),
        tells m ss (suc j) parts.0 (rw e at rm.1),
      )

pub marks_selected : MarksSelected
marks_selected names q rows ok D right v =
    let ss = steps_of q in
    let m = length (brackets names ss) in
    let parts = split rows D (brackets names ss) (program.true ∷ matching names ss) 0 (right_from rows D _ right) in
    let rest : RightFrom (program.true ∷ matching names ss) D rows m = rw zero-add at parts.1 in
    let e : suc m ≡ m + 1 = omega arith in
    let ts = tells names rows D ok m ss 1 parts.0 (rw e at rest.1) in
    let holds : (u : ℕ) → u < count rows → T (D m u) = λ u b. (rest.0 u b).1 tt in
    Iff.trans
    (marked_along rows names D ok m (λ u b. rw add-zero (holds u b)) ss ts v, along_marked rows names D ok m ss holds ts v)
    (along_reaches names q rows 0 v)

pub translates : Translates
translates names q rows ok v = (
  λ h. let s = (settled (translate names q).deciding rows (formulas_proper names (steps_of q))).0 in
      (marks_selected names q rows ok s.0 s.1 v).0 (h s.0 s.1),
  λ h D right. (marks_selected names q rows ok D right v).1 h,
)
