use Rattle.std.proofs.Common.{refl}
use Rattle.rows.proofs.Laws.{of_lawful}
use Rattle.scan.proofs.Decided.{tree_few}
use Rattle.parens.proofs.paren_tree.ParenTree.load.Goals as goal

pub invariant_of-self : goal.invariant_of-self
invariant_of-self c =
    let t = c.if-not-of_tree.ensures.0 refl in
    record {
      few = tree_few _ _ _ _ t;
      labelled = t.each_label;
      padded = t.each_byte;
      law = of_lawful _ t.lawful;
      counted = t.count;
      shape = t.shape;
      blocks = t.blocks;
    }
