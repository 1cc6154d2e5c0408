use Rattle.std.proofs.Common.{◌≡◌, ℕ, ◌+◌, ◌-◌, ◌*◌, ◌≤◌, List, length, Some, None, Option}
use Rattle.grammar.specs.Tokens.{Token}
use Rattle.query.specs.Queries.{text_of}
use Rattle.spelling.specs.Writing.{total}
use Rattle.spelling.specs.Spellings.{Part, rest_t, ShowsFrom, preds_parts}
use Rattle.query.specs.Shown.{where_of}
use Rattle.spelling.proofs.writer.Writer.+write_filter_write_negated_write_predicate_write_shape_write_steps.Given as goal

abbrev left_from : Option ℕ → ℕ
left_from None = 0
left_from (Some i) = 256 - i

abbrev pub decreases-write_filter : goal.decreases-write_filter
decreases-write_filter l = 1000 * l.limit

abbrev pub decreases-write_steps : goal.decreases-write_steps
decreases-write_steps l = 1000 * l.limit + 1

abbrev pub decreases-write_shape : goal.decreases-write_shape
decreases-write_shape l = 1000 * l.index + 299

abbrev pub decreases-write_negated : goal.decreases-write_negated
decreases-write_negated l = 1000 * l.index + 300 + l.negations

abbrev pub decreases-write_predicate : goal.decreases-write_predicate
decreases-write_predicate l = 1000 * l.index + 600

abbrev pub invariant-write_steps-loop-from : goal.invariant-write_steps-loop-from
invariant-write_steps-loop-from l = (ps : List Part) (s a c : ℕ) → ShowsFrom (where_of l.region) (text_of l.query) l.query.table l.initial.from ps s a c → c + preds_parts ps ≤ l.limit → l.limit ≤ 46 → (qs : List Part) × (x : ℕ) × (y : ℕ) × (z : ℕ) × ShowsFrom (where_of l.region) (text_of l.query) l.query.table l.from qs x y z × (z + preds_parts qs ≤ l.limit) × ((us : List Token) → length (total l.initial.self (rest_t l.initial.led ps us)) ≤ 512 → total l.initial.self (rest_t l.initial.led ps us) ≡ total l.self (rest_t l.led qs us))

abbrev pub decreases-write_steps-loop-from : goal.decreases-write_steps-loop-from
decreases-write_steps-loop-from l = left_from l.from
