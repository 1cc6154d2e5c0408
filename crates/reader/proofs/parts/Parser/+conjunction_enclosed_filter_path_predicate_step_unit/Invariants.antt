use Rattle.std.proofs.Common.{◌≡◌, ◌+◌, ◌-◌, ◌*◌, false, length}
use Rattle.grammar.specs.Syntax.{Pred, and_word}
use Rattle.grammar.specs.Glances.{next_word}
use Rattle.grammar.specs.Machine.{Before}
use Rattle.grammar.specs.Descent as descent
use Rattle.lexer.specs.Readers.{tokens_of, end_of}
use Rattle.reader.specs.declared.parts.Parser.{Parser}
use Rattle.query.specs.Shown.{where_of}
use Rattle.reader.specs.Heads.{outer_left, inner_left}
use Rattle.reader.specs.Parsing.{Fit, PredRead, Walked, told}
use Rattle.reader.proofs.parts.Parser.+conjunction_enclosed_filter_path_predicate_step_unit.Given as goal

abbrev pub decreases-predicate : goal.decreases-predicate
decreases-predicate l = 7 * l.levels + 6

abbrev pub decreases-conjunction : goal.decreases-conjunction
decreases-conjunction l = 7 * l.levels + 5

abbrev pub decreases-unit : goal.decreases-unit
decreases-unit l = 7 * l.levels + 4

abbrev pub decreases-path : goal.decreases-path
decreases-path l = 7 * l.levels + 3

abbrev pub decreases-step : goal.decreases-step
decreases-step l = 7 * l.levels + 2

abbrev pub decreases-filter : goal.decreases-filter
decreases-filter l = 7 * l.levels + 1

abbrev pub decreases-enclosed : goal.decreases-enclosed
decreases-enclosed l = 7 * l.levels

-- what was told of the left side, is told with all that has been joined to it
abbrev pub invariant-conjunction-loop-self : goal.invariant-conjunction-loop-self
invariant-conjunction-loop-self l = Fit l.self × ((p : Parser) (x : Pred) → Fit p → PredRead l.levels l.initial.left p l.initial.self x → descent.ConjTold (end_of p.reader) l.levels (outer_left p) (inner_left p) (tokens_of p.reader) (told l.initial.self x) → (y : Pred) × PredRead l.levels l.left p l.self y × descent.ConjTold (end_of p.reader) l.levels (outer_left p) (inner_left p) (tokens_of p.reader) (told l.self y))

abbrev pub decreases-conjunction-loop-self : goal.decreases-conjunction-loop-self
decreases-conjunction-loop-self l = length l.self.reader.text.now - l.self.reader.place

abbrev pub invariant-predicate-loop-self : goal.invariant-predicate-loop-self
invariant-predicate-loop-self l = Fit l.self × (next_word and_word (tokens_of l.self.reader) ≡ false) × ((p : Parser) (x : Pred) → Fit p → PredRead l.levels l.initial.left p l.initial.self x → descent.PredTold (end_of p.reader) l.levels (outer_left p) (inner_left p) (tokens_of p.reader) (told l.initial.self x) → (y : Pred) × PredRead l.levels l.left p l.self y × descent.PredTold (end_of p.reader) l.levels (outer_left p) (inner_left p) (tokens_of p.reader) (told l.self y))

abbrev pub decreases-predicate-loop-self : goal.decreases-predicate-loop-self
decreases-predicate-loop-self l = length l.self.reader.text.now - l.self.reader.place

abbrev pub invariant-path-loop-after : goal.invariant-path-loop-after
invariant-path-loop-after l = Fit l.self × ((p : Parser) (b : Before) → Walked (where_of l.region) l.levels l.initial.before l.initial.slash p l.initial.self b → (d : Before) × Walked (where_of l.region) l.levels l.before l.slash p l.self d)

abbrev pub decreases-path-loop-after : goal.decreases-path-loop-after
decreases-path-loop-after l = length l.self.reader.text.now - l.self.reader.place
