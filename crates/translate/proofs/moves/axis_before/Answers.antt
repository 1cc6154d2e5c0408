use Rattle.std.proofs.Common.{arith}
use Rattle.translate.proofs.Sizes.{outside_few}
use Rattle.translate.proofs.moves.axis_before.Goals as goal

pub bounds-query-state : goal.bounds-query-state
bounds-query-state c = let few = outside_few c.args.query.now in omega arith
