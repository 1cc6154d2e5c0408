use Rattle.std.proofs.Common.{◌≡◌, ◌++◌, take, drop}
use Rattle.stored.specs.Stored.{stored_of}
use Rattle.row_tree.proofs.write.write_rows.Given as goal

abbrev pub invariant-loop-v : goal.invariant-loop-v
invariant-loop-v g l = l.out ≡ take l.v (stored_of (g.T.Tree.rows l.tree)) ++ drop l.v l.initial.out
