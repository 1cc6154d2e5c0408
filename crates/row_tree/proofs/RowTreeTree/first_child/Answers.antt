use Rattle.std.proofs.Common.{◌∙◌}
use Rattle.stored.proofs.Questions.{first_past}
use Rattle.row_tree.proofs.Got.{of_tree, first_told}
use Rattle.row_tree.proofs.RowTreeTree.first_child.Goals as goal

pub returns-in_err-row : goal.returns-in_err-row
returns-in_err-row c =
    let t = c.args.self.now in
    c.from_residual.ensures ∙ first_past t.rows.now (of_tree t) c.args.v c.in_err-row.ensures.lookup.3

pub returns : goal.returns
returns c = c.then_some.ensures ∙ first_told c.args.self.now c.args.v c.in_ok-row.row c.in_ok-row.ensures.lookup
