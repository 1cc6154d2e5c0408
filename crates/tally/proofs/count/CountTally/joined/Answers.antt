use Rattle.std.proofs.Common.{arith}
use Rattle.tally.specs.Values.{same_capped}
use Rattle.tally.proofs.count.CountTally.joined.Goals as goal

pub returns : goal.returns
returns c = same_capped _ _ (omega arith)
