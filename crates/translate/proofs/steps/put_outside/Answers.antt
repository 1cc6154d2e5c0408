use Rattle.std.proofs.Common.{arith}
use Rattle.translate.proofs.Sizes.{good, outside_few}
use Rattle.translate.proofs.Writing.{puts_more}
use Rattle.translate.proofs.steps.put_outside.Goals as goal

pub bounds-rows-i : goal.bounds-rows-i
bounds-rows-i c = let few = outside_few c.args.rows.now.query.now in omega (arith, c.requires.within)

pub put_step-requires-clause-good : goal.put_step-requires-clause-good
put_step-requires-clause-good c = (good c.args.rows.now.names.now c.args.rows.now.query.now).outside c.args.i c.requires.within

pub returns : goal.returns
returns c = puts_more c.put.ensures c.put_step.ensures
