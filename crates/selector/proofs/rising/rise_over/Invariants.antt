use Rattle.std.proofs.Common.{◌≡◌, ◌-◌, ◌≤◌}
use Rattle.commands.specs.Commands.{commands_of}
use Rattle.sweep.specs.Rising.{risen}
use Rattle.selector.proofs.rising.rise_over.Given as goal

abbrev pub invariant-loop-v : goal.invariant-loop-v
invariant-loop-v g l = record {
  above : l.lo ≤ l.v;
  words : l.work ≡ risen (g.T.Tree.rows l.tree) (commands_of l.program) l.v (l.hi - l.v) l.initial.work;
  tree : l.rise.tree.now ≡ l.tree;
  program : l.rise.words.program.now ≡ l.program;
}
