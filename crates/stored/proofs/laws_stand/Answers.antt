use Rattle.stored.proofs.Kept.{rows_kept, trees_known}
use Rattle.stored.proofs.Passed.{pass_decides}
use Rattle.stored.proofs.laws_stand.Goals as goal

pub returns : goal.returns
returns c = record { kept = rows_kept; known = trees_known; decides = pass_decides }
