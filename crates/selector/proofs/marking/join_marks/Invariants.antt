use Rattle.std.proofs.Common.{◌≡◌}
use Rattle.tally.specs.Monoid.{marks_of}
use Rattle.commands.specs.Commands.{commands_of}
use Rattle.tallying.specs.Nodes.{marked_nodes}
use Rattle.selector.proofs.marking.join_marks.Given as goal

abbrev pub invariant-loop-i : goal.invariant-loop-i
invariant-loop-i g l =
    let k = g.K.Tally in record {
      sum : k.value l.sum ≡ marks_of k.empty k.mark k.join (marked_nodes (commands_of l.rules) l.work l.lo l.i);
      rules : l.marks.rules.now ≡ l.rules;
    }
