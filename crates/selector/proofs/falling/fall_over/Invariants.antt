use Rattle.std.proofs.Common.{◌≡◌, ◌-◌}
use Rattle.commands.specs.Commands.{commands_of}
use Rattle.sweep.specs.Falling.{fallen}
use Rattle.selector.proofs.falling.fall_over.Given as goal

abbrev pub invariant-loop-v : goal.invariant-loop-v
invariant-loop-v g l = record {
  words : fallen (g.T.Tree.rows l.tree) (commands_of l.rules) l.v (l.hi - l.v) l.work ≡ fallen (g.T.Tree.rows l.tree) (commands_of l.rules) l.lo (l.hi - l.lo) l.initial.work;
  tree : l.fall.tree.now ≡ l.tree;
  rules : l.fall.sendings.rules.now ≡ l.rules;
}
