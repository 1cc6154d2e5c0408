use Rattle.std.proofs.Common.{◌∙◌}
use Rattle.stored.proofs.Questions.{next_past}
use Rattle.row_tree.proofs.Got.{of_tree, next_told, next_missed}
use Rattle.row_tree.proofs.RowTreeTree.next_sibling.Goals as goal

pub returns-in_err-row : goal.returns-in_err-row
returns-in_err-row c =
    let t = c.args.self.now in
    c.from_residual.ensures ∙ next_past t.rows.now (of_tree t) c.args.v c.in_err-row.ensures.lookup.3

pub returns-in_err-next : goal.returns-in_err-next
returns-in_err-next c = c.from_residual-in_err-next.ensures ∙ next_missed c.args.self.now c.args.v c.in_ok-row.row c.in_ok-row.ensures.lookup c.in_err-next.ensures.lookup

pub returns : goal.returns
returns c = c.then_some.ensures ∙ next_told c.args.self.now c.args.v c.in_ok-row.row c.in_ok-next.next c.in_ok-row.ensures.lookup c.in_ok-next.ensures.lookup
