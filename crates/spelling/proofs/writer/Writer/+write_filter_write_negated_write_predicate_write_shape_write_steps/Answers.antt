use Rattle.std.proofs.Common.{rules, ◌≤◌, length, sym, ap, ◌∙◌, subst, arith}
use Rattle.query.specs.Shown.{predicate_at}
use Rattle.query.specs.Queries.{text_of}
use Rattle.spelling.specs.Spellings.{place_of}
use Rattle.query.specs.Shown.{where_of}
use Rattle.spelling.proofs.Shapes.{row, no_row, step_there, path_there, filter_some, filter_none, filter_past, step_next, step_last, nots_in, not_more, path_shape, and_shape, or_shape, and_below, or_below}
use Rattle.spelling.proofs.writer.Writer.+write_filter_write_negated_write_predicate_write_shape_write_steps.Goals as goal
use Rattle.spelling.proofs.writer.Writer.+write_filter_write_negated_write_predicate_write_shape_write_steps.Goals.{write_filter-in_default-via-in-None-1, write_filter-in_default-via-in-Some+else-inner-limit}

pub write_filter-returns-then-inner-limit : goal.write_filter-returns-then-inner-limit
write_filter-returns-then-inner-limit t c f a d h ha hc hl = filter_some (text_of c.args.query.now) c.args.query.now.table c.args.bracket c.in-Some.inner c.args.limit f a d c.args.self.now c.write_symbol.new.self c.write_predicate.new.self c.write_symbol-2.new.self c.in-Some.is h ha hc hl c.write_symbol.ensures c.write_predicate.ensures c.write_symbol-2.ensures

pub write_filter-returns-in_default : goal.write_filter-returns-in_default
write_filter-returns-in_default t c f a d h ha hc hl =
    let q = c.args.query.now in
    elim c.in_default.branch [
      | write_filter-in_default-via-in-None-1 w ↦ filter_none (text_of q) q.table c.args.bracket f a d c.args.self.now (search rules) h
      | write_filter-in_default-via-in-Some+else-inner-limit w ↦ filter_past (text_of q) q.table c.args.bracket w.in-Some.inner c.args.limit f a d c.args.self.now c.args.self.now w.in-Some.is w.if-inner-limit.false h hc
    ]

pub write_steps-loop-from-preserved : goal.write_steps-loop-from-preserved
write_steps-loop-from-preserved t c ps s a d h hc hl =
    let g = c.loop-from.invariant ps s a d h hc hl in
    let k = step_next (text_of c.args.query.now) c.args.query.now.table (where_of c.args.region) c.loop-from.from c.later-from.result c.in-Some.index c.args.limit c.loop-from.led c.in-Some-step_at.step g.0 g.1 g.2 g.3 c.loop-from.self c.write_axis.new.self c.write_test.new.self c.write_filter.new.self c.in-Some.is (row c.step_at.result c.in-Some-step_at.step _ c.in-Some-step_at.is c.step_at.ensures) g.4 g.5 hl c.write_axis.ensures c.write_test.ensures c.write_filter.ensures c.later-from.ensures in
    (k.0, k.1, k.2, k.3, k.4, k.5, λ us x. let e = g.6 us x in e ∙ k.6 us (subst (λ l. length l ≤ 512) e x))

pub write_steps-returns : goal.write_steps-returns
write_steps-returns t c ps s a d h hc hl us x =
    let g = c.loop-from.invariant ps s a d h hc hl in
    g.6 us x ∙ step_last (text_of c.args.query.now) c.args.query.now.table (where_of c.args.region) c.loop-from.from c.loop-from.led g.0 g.1 g.2 g.3 c.loop-from.self c.in_default.is g.4 us

pub write_predicate-returns : goal.write_predicate-returns
write_predicate-returns t c x a d e lt ha h =
    let q = c.args.query.now in
    let n = ap (λ z. z.negations) (row c.predicate_at.result c.in-Some.predicate _ c.in-Some.is c.predicate_at.ensures lt) ∙ ap (λ k. (predicate_at q.table k).negations) e ∙ nots_in (text_of q) q.table x 0 a d h ∙ omega arith in
    c.write_negated.ensures x 0 a d e lt ha n h

pub write_negated-returns : goal.write_negated-returns
write_negated-returns t c x n a d e lt ha en h = not_more (text_of c.args.query.now) c.args.query.now.table x n a d c.args.index c.args.negations (place_of c.args.place) c.args.self.now c.write_word.new.self c.write_symbol.new.self c.write_negated.new.self c.write_symbol-2.new.self c.if-negations-eq0.false e lt ha en h c.write_word.ensures c.write_symbol.ensures c.write_negated.ensures c.write_symbol-2.ensures

pub write_shape-returns-in-Some-step_at : goal.write_shape-returns-in-Some-step_at
write_shape-returns-in-Some-step_at t c x n a d e lt ha en h =
    let q = c.args.query.now in
    path_shape (text_of q) q.table x n a d c.args.index c.in-Path.first (place_of c.args.place) c.args.self.now c.write_steps.new.self c.in-Some-step_at.step.slash e lt ha en h (ap (λ z. z.shape) (sym (row c.predicate_at.result c.in-Some.predicate _ c.in-Some.is c.predicate_at.ensures lt)) ∙ c.in-Path.is) (λ k. ap (λ z. z.slash) (row c.step_at.result c.in-Some-step_at.step _ c.in-Some-step_at.is c.step_at.ensures k)) c.write_steps.ensures

pub write_shape-returns-then-max-index : goal.write_shape-returns-then-max-index
write_shape-returns-then-max-index t c x n a d e lt ha en h =
    let q = c.args.query.now in
    and_shape (text_of q) q.table x n a d c.args.index c.in-And.left c.in-And.right (place_of c.args.place) c.and_wraps-wrapped.result c.args.self.now c.write_if.new.self c.write_predicate.new.self c.write_word.new.self c.write_predicate-then-max-index.new.self c.write_if-then-max-index.new.self e lt ha en h (ap (λ z. z.shape) (sym (row c.predicate_at.result c.in-Some.predicate _ c.in-Some.is c.predicate_at.ensures lt)) ∙ c.in-And.is) c.and_wraps-wrapped.ensures c.write_if.ensures c.write_predicate.ensures c.write_word.ensures c.write_predicate-then-max-index.ensures c.write_if-then-max-index.ensures

pub write_shape-returns-else-max-index : goal.write_shape-returns-else-max-index
write_shape-returns-else-max-index t c x n a d e lt ha en h =
    let q = c.args.query.now in
    let k = and_below (text_of q) q.table x n a d c.args.index c.in-And.left c.in-And.right e en h (ap (λ z. z.shape) (sym (row c.predicate_at.result c.in-Some.predicate _ c.in-Some.is c.predicate_at.ensures lt)) ∙ c.in-And.is) in
    absurd (omega (arith, k.0, k.1, c.max.ensures, c.if-max-index.false))

pub write_shape-returns-then-max-index-2 : goal.write_shape-returns-then-max-index-2
write_shape-returns-then-max-index-2 t c x n a d e lt ha en h =
    let q = c.args.query.now in
    or_shape (text_of q) q.table x n a d c.args.index c.in-Or.left c.in-Or.right (place_of c.args.place) c.or_wraps-wrapped.result c.args.self.now c.write_if-then-max-index-2.new.self c.write_predicate-then-max-index-2.new.self c.write_word-then-max-index-2.new.self c.write_predicate-then-max-index-2-2.new.self c.write_if-then-max-index-2-2.new.self e lt ha en h (ap (λ z. z.shape) (sym (row c.predicate_at.result c.in-Some.predicate _ c.in-Some.is c.predicate_at.ensures lt)) ∙ c.in-Or.is) c.or_wraps-wrapped.ensures c.write_if-then-max-index-2.ensures c.write_predicate-then-max-index-2.ensures c.write_word-then-max-index-2.ensures c.write_predicate-then-max-index-2-2.ensures c.write_if-then-max-index-2-2.ensures

pub write_shape-returns-else-max-index-2 : goal.write_shape-returns-else-max-index-2
write_shape-returns-else-max-index-2 t c x n a d e lt ha en h =
    let q = c.args.query.now in
    let k = or_below (text_of q) q.table x n a d c.args.index c.in-Or.left c.in-Or.right e en h (ap (λ z. z.shape) (sym (row c.predicate_at.result c.in-Some.predicate _ c.in-Some.is c.predicate_at.ensures lt)) ∙ c.in-Or.is) in
    absurd (omega (arith, k.0, k.1, c.max-in-Or.ensures, c.if-max-index-2.false))

pub write_steps-returns-in_default-step_at : goal.write_steps-returns-in_default-step_at
write_steps-returns-in_default-step_at t c ps s a d h hc hl =
    let q = c.args.query.now in
    let g = c.loop-from.invariant ps s a d h hc hl in
    no_row c.step_at.result _ c.in_default-step_at.is c.step_at.ensures (step_there (text_of q) q.table (where_of c.args.region) c.loop-from.from c.in-Some.index g.0 g.1 g.2 g.3 c.in-Some.is g.4)

pub write_shape-returns-in_default-step_at : goal.write_shape-returns-in_default-step_at
write_shape-returns-in_default-step_at t c x n a d e lt ha en h =
    let q = c.args.query.now in
    no_row c.step_at.result _ c.in_default-step_at.is c.step_at.ensures (path_there (text_of q) q.table x n a d c.args.index c.in-Path.first e ha en h (ap (λ z. z.shape) (sym (row c.predicate_at.result c.in-Some.predicate _ c.in-Some.is c.predicate_at.ensures lt)) ∙ c.in-Path.is))
