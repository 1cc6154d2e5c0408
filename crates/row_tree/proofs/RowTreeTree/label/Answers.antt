use Rattle.std.proofs.Common.{rules}
use Rattle.stored.specs.declared.row.StoredRow.{StoredRow}
use Rattle.stored.proofs.Questions.{label_at, label_past}
use Rattle.row_tree.proofs.Got.{of_tree, mapped}
use Rattle.row_tree.proofs.RowTreeTree.label.Goals as goal

pub returns : goal.returns
returns c =
    let t = c.args.self.now in
    mapped (λ (e : StoredRow). e.label) 65535 t.rows.now c.args.v c.get.result _ _ _ c.get.ensures.lookup c.map_or.ensures (λ e q. search rules) (label_at t.rows.now (of_tree t) c.args.v) (label_past t.rows.now (of_tree t) c.args.v)
