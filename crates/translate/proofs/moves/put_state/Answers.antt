use Rattle.std.proofs.Common.{◌-◌, sym, arith}
use Rattle.query.specs.Shown.{axis_of}
use Rattle.translation.proofs.States.{state_code, state_long}
use Rattle.translate.proofs.Sizes.{inside_few, outside_few}
use Rattle.translate.proofs.Writing.{puts_as, puts_more}
use Rattle.translate.proofs.moves.put_state.Goals as goal

pub put-requires : goal.put-requires
put-requires c =
    let q = c.args.query.now.table in
    let l = state_long q c.args.state (q.outside_count - c.args.state) (axis_of c.axis_before-axis.result) c.axis_before-axis.ensures in
    let r = c.requires.room in
    omega arith

pub put_going-requires-clause-room : goal.put_going-requires-clause-room
put_going-requires-clause-room c =
    let q = c.args.query.now.table in
    let l = state_long q c.args.state (q.outside_count - c.args.state) (axis_of c.axis_before-axis.result) c.axis_before-axis.ensures in
    let r = c.requires.room in
    let m = c.put.ensures.adds.many in
    omega (arith, c.put.ensures.long)

pub overflow_add-everywhere : goal.overflow_add-everywhere
overflow_add-everywhere c =
    let few = inside_few c.args.query.now in
    let least = outside_few c.args.query.now in
    omega (arith, c.requires.within)

pub put-requires-2 : goal.put-requires-2
put-requires-2 c =
    let q = c.args.query.now.table in
    let l = state_long q c.args.state (q.outside_count - c.args.state) (axis_of c.axis_before-axis.result) c.axis_before-axis.ensures in
    let r = c.requires.room in
    let m = c.put.ensures.adds.many in
    let n = c.put_going.ensures.adds.many in
    omega (arith, c.put.ensures.long, c.put_going.ensures.long)

pub put_keeping-requires : goal.put_keeping-requires
put_keeping-requires c =
    let q = c.args.query.now.table in
    let l = state_long q c.args.state (q.outside_count - c.args.state) (axis_of c.axis_before-axis.result) c.axis_before-axis.ensures in
    let r = c.requires.room in
    let m = c.put.ensures.adds.many in
    let n = c.put_going.ensures.adds.many in
    let o = c.put-2.ensures.adds.many in
    omega (arith, c.put.ensures.long, c.put_going.ensures.long, c.put-2.ensures.long)

pub returns : goal.returns
returns c =
    let q = c.args.query.now.table in
    puts_as (sym (state_code q c.args.state (q.outside_count - c.args.state) (axis_of c.axis_before-axis.result) c.axis_before-axis.ensures))
    (puts_more (puts_more (puts_more c.put.ensures c.put_going.ensures) c.put-2.ensures) c.put_keeping.ensures)
