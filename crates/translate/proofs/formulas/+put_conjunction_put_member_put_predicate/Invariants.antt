use Rattle.std.proofs.Common.{ℕ, ◌+◌, ◌*◌, ◌≤◌}
use Rattle.query.specs.declared.table.Table.{Table}
use Rattle.query.specs.declared.table.Shape.{Shape}
use Rattle.query.specs.declared.table.Shape.TheVariants as shape
use Rattle.query.specs.Shown.{predicate_at}
use Rattle.translation.specs.Table.{said, Reaching}
use Rattle.translation.specs.Written.{code}
use Rattle.translate.specs.Writing.{Leaves}
use Rattle.translate.proofs.formulas.+put_conjunction_put_member_put_predicate.Given as goal

-- a predicate hands a row on to the conjunctions unless it is an `or`, which comes back
abbrev pub rank : Shape → ℕ
rank (shape.Path s) = 0
rank (shape.And l r) = 0
rank (shape.Or l r) = 2

abbrev pub weight : Table → ℕ → ℕ
weight q i = 3 * i + rank (predicate_at q i).shape

abbrev pub decreases-put_predicate : goal.decreases-put_predicate
decreases-put_predicate l = 3 * l.index + 1

abbrev pub decreases-put_conjunction : goal.decreases-put_conjunction
decreases-put_conjunction l = weight l.query.now.table l.index

abbrev pub decreases-put_member : goal.decreases-put_member
decreases-put_member l = 3 * l.index + 2

abbrev pub invariant-put_predicate-loop-first : goal.invariant-put_predicate-loop-first
invariant-put_predicate-loop-first l =
    Reaching l.query.table l.left
    × (l.left ≤ l.index)
    × Leaves (code (said l.query.table l.index)) l.initial.out (code (said l.query.table l.left)) l.out

abbrev pub decreases-put_predicate-loop-first : goal.decreases-put_predicate-loop-first
decreases-put_predicate-loop-first l = l.left

abbrev pub invariant-put_conjunction-loop-step : goal.invariant-put_conjunction-loop-step
invariant-put_conjunction-loop-step l =
    Reaching l.query.table l.left
    × (weight l.query.table l.left ≤ weight l.query.table l.index)
    × Leaves (code (said l.query.table l.index)) l.initial.out (code (said l.query.table l.left)) l.out

abbrev pub decreases-put_conjunction-loop-step : goal.decreases-put_conjunction-loop-step
decreases-put_conjunction-loop-step l = l.left
