use Rattle.std.proofs.Common.{◌≤◌, sym, arith}
use Rattle.query.specs.declared.table.Shape.{Shape}
use Rattle.query.specs.declared.table.Shape.TheVariants as shape
use Rattle.query.specs.Shown.{predicate_at}
use Rattle.translation.specs.Table.{asks_at}
use Rattle.translation.specs.Written.{code}
use Rattle.translation.proofs.Reaching.{reach_within}
use Rattle.translate.proofs.Writing.{leaves_less, leaves_none, puts_more, puts_as}
use Rattle.translation.proofs.Chains.{path_row, and_row, or_row, few_nots, nots_length}
use Rattle.translate.proofs.formulas.+put_conjunction_put_member_put_predicate.Invariants.{rank}
use Rattle.translate.proofs.formulas.+put_conjunction_put_member_put_predicate.Goals as goal

rank_few : (x : Shape) → rank x ≤ 2
rank_few (shape.Path s) = omega arith
rank_few (shape.And l r) = omega arith
rank_few (shape.Or l r) = omega arith

pub put_conjunction-bounds-query-left : goal.put_conjunction-bounds-query-left
put_conjunction-bounds-query-left t c = reach_within c.args.query.now.table c.loop-step.left c.loop-step.invariant.0

pub put_conjunction-put_nots-requires : goal.put_conjunction-put_nots-requires
put_conjunction-put_nots-requires t c =
    let f = few_nots c.args.query.now.table c.loop-step.left c.loop-step.invariant.0 in
    let s = c.loop-step.invariant.2.remains.size in
    let r = c.requires.room in
    omega arith

pub put_conjunction-put_asks-requires : goal.put_conjunction-put_asks-requires
put_conjunction-put_asks-requires t c =
    let w = path_row c.args.query.now.table c.loop-step.left c.in-Path.step c.loop-step.invariant.0 c.in-Path.is in
    let n = nots_length (predicate_at c.args.query.now.table c.loop-step.left).negations in
    let m = c.put_nots.ensures.adds.many in
    let s = c.loop-step.invariant.2.remains.size in
    let l = w.long in
    record { within = w.within; room = omega arith }

pub put_conjunction-returns-in-Path : goal.put_conjunction-returns-in-Path
put_conjunction-returns-in-Path t c =
    let w = path_row c.args.query.now.table c.loop-step.left c.in-Path.step c.loop-step.invariant.0 c.in-Path.is in
    leaves_none {left = code (asks_at c.args.query.now.table c.in-Path.step)} (leaves_less c.loop-step.invariant.2 w.is c.put_nots.ensures) c.put_asks.ensures

pub put_conjunction-put_nots-requires-in-And : goal.put_conjunction-put_nots-requires-in-And
put_conjunction-put_nots-requires-in-And t c =
    let f = few_nots c.args.query.now.table c.loop-step.left c.loop-step.invariant.0 in
    let s = c.loop-step.invariant.2.remains.size in
    let r = c.requires.room in
    omega arith

pub put_conjunction-put-requires : goal.put_conjunction-put-requires
put_conjunction-put-requires t c =
    let w = and_row c.args.query.now.table c.loop-step.left c.in-And.first c.in-And.second c.loop-step.invariant.0 c.in-And.is in
    let n = nots_length (predicate_at c.args.query.now.table c.loop-step.left).negations in
    let m = c.put_nots-in-And.ensures.adds.many in
    let s = c.loop-step.invariant.2.remains.size in
    let l = w.long in
    omega arith

pub put_conjunction-put_member-requires : goal.put_conjunction-put_member-requires
put_conjunction-put_member-requires t c =
    let w = and_row c.args.query.now.table c.loop-step.left c.in-And.first c.in-And.second c.loop-step.invariant.0 c.in-And.is in
    let n = nots_length (predicate_at c.args.query.now.table c.loop-step.left).negations in
    let m = c.put_nots-in-And.ensures.adds.many in
    let k = c.put.ensures.adds.many in
    let s = c.loop-step.invariant.2.remains.size in
    let l = w.long in
    (omega (arith, w.right_below, c.loop-step.invariant.1), (w.right, omega arith))

pub put_conjunction-loop-step-smaller : goal.put_conjunction-loop-step-smaller
put_conjunction-loop-step-smaller t c =
    (and_row c.args.query.now.table c.loop-step.left c.in-And.first c.in-And.second c.loop-step.invariant.0 c.in-And.is).left_below

pub put_conjunction-loop-step-preserved : goal.put_conjunction-loop-step-preserved
put_conjunction-loop-step-preserved t c =
    let w = and_row c.args.query.now.table c.loop-step.left c.in-And.first c.in-And.second c.loop-step.invariant.0 c.in-And.is in
    let d = rank_few (predicate_at c.args.query.now.table c.in-And.first).shape in
    (w.left, omega (arith, w.left_below, c.loop-step.invariant.1, d), leaves_less c.loop-step.invariant.2 w.is (puts_more (puts_more c.put_nots-in-And.ensures c.put.ensures) c.put_member.ensures))

pub put_conjunction-returns-in-Or : goal.put_conjunction-returns-in-Or
put_conjunction-returns-in-Or t c = leaves_none c.loop-step.invariant.2 c.put_predicate.ensures

pub put_predicate-bounds-query-left : goal.put_predicate-bounds-query-left
put_predicate-bounds-query-left t c = reach_within c.args.query.now.table c.loop-first.left c.loop-first.invariant.0

pub put_predicate-put_nots-requires : goal.put_predicate-put_nots-requires
put_predicate-put_nots-requires t c =
    let f = few_nots c.args.query.now.table c.loop-first.left c.loop-first.invariant.0 in
    let s = c.loop-first.invariant.2.remains.size in
    let r = c.requires.room in
    omega arith

pub put_predicate-put-requires : goal.put_predicate-put-requires
put_predicate-put-requires t c =
    let w = or_row c.args.query.now.table c.loop-first.left c.in-Or.first c.in-Or.second c.loop-first.invariant.0 c.in-Or.is in
    let n = nots_length (predicate_at c.args.query.now.table c.loop-first.left).negations in
    let m = c.put_nots.ensures.adds.many in
    let s = c.loop-first.invariant.2.remains.size in
    let l = w.long in
    omega arith

pub put_predicate-put_conjunction-requires : goal.put_predicate-put_conjunction-requires
put_predicate-put_conjunction-requires t c =
    let w = or_row c.args.query.now.table c.loop-first.left c.in-Or.first c.in-Or.second c.loop-first.invariant.0 c.in-Or.is in
    let n = nots_length (predicate_at c.args.query.now.table c.loop-first.left).negations in
    let m = c.put_nots.ensures.adds.many in
    let k = c.put.ensures.adds.many in
    let s = c.loop-first.invariant.2.remains.size in
    let l = w.long in
    let d = rank_few (predicate_at c.args.query.now.table c.in-Or.second).shape in
    (omega (arith, w.right_below, c.loop-first.invariant.1, d), (w.right, omega arith))

pub put_predicate-loop-first-smaller : goal.put_predicate-loop-first-smaller
put_predicate-loop-first-smaller t c =
    (or_row c.args.query.now.table c.loop-first.left c.in-Or.first c.in-Or.second c.loop-first.invariant.0 c.in-Or.is).left_below

pub put_predicate-loop-first-preserved : goal.put_predicate-loop-first-preserved
put_predicate-loop-first-preserved t c =
    let w = or_row c.args.query.now.table c.loop-first.left c.in-Or.first c.in-Or.second c.loop-first.invariant.0 c.in-Or.is in
    (w.left, omega (arith, w.left_below, c.loop-first.invariant.1), leaves_less c.loop-first.invariant.2 w.is (puts_more (puts_more c.put_nots.ensures c.put.ensures) c.put_conjunction.ensures))

pub put_predicate-returns-in_default : goal.put_predicate-returns-in_default
put_predicate-returns-in_default t c = leaves_none c.loop-first.invariant.2 c.put_conjunction-in_default.ensures

pub put_member-bounds-query-index : goal.put_member-bounds-query-index
put_member-bounds-query-index t c = reach_within c.args.query.now.table c.args.index c.requires.reaching

pub put_member-put_nots-requires : goal.put_member-put_nots-requires
put_member-put_nots-requires t c =
    let f = few_nots c.args.query.now.table c.args.index c.requires.reaching in
    let r = c.requires.room in
    omega arith

pub put_member-put_asks-requires : goal.put_member-put_asks-requires
put_member-put_asks-requires t c =
    let w = path_row c.args.query.now.table c.args.index c.in-Path.step c.requires.reaching c.in-Path.is in
    let n = nots_length (predicate_at c.args.query.now.table c.args.index).negations in
    let m = c.put_nots.ensures.adds.many in
    let r = c.requires.room in
    let l = w.long in
    record { within = w.within; room = omega arith }

pub put_member-returns-in-Path : goal.put_member-returns-in-Path
put_member-returns-in-Path t c =
    let w = path_row c.args.query.now.table c.args.index c.in-Path.step c.requires.reaching c.in-Path.is in
    puts_as (sym w.is) (puts_more c.put_nots.ensures c.put_asks.ensures)
