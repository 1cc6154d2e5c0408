use Rattle.std.proofs.Common.{[], sym}
use Rattle.stored.proofs.Kept.{rows_length}
use Rattle.row_tree.proofs.RowTreeTree.count.Goals as goal

pub returns : goal.returns
returns c = sym (rows_length [] c.args.self.now.rows.now)
