use Rattle.cases.proofs.Decided.{worked}
use Rattle.cases.proofs.laws_stand.Goals as goal

pub returns : goal.returns
returns c = worked
