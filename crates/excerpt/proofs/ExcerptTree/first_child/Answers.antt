use Rattle.std.proofs.Common.{ap, ◌∙◌, arith, rules}
use Rattle.rows.proofs.Excerpts.{excerpt_first, excerpt_fits, lower}
use Rattle.excerpt.proofs.Nodes.{as_many}
use Rattle.excerpt.proofs.ExcerptTree.first_child.Goals as goal

pub overflow_add-self : goal.overflow_add-self
overflow_add-self g c =
    let x = c.args.self.now in
    let f = excerpt_fits (g.T.Tree.rows x.tree.now) x.node c.args.v (g.T.Tree.lawful x.tree.now) (omega (arith, as_many (g.T.Tree.rows x.tree.now) x.node (g.T.Tree.lawful x.tree.now) x.inside)) in
    search rules

pub returns-in_err-w : goal.returns-in_err-w
returns-in_err-w g c =
    let x = c.args.self.now in
    c.from_residual.ensures ∙ ap (lower x.node) c.in_err-w.ensures
    ∙ excerpt_first (g.T.Tree.rows x.tree.now) x.node c.args.v (omega (arith, as_many (g.T.Tree.rows x.tree.now) x.node (g.T.Tree.lawful x.tree.now) x.inside))

pub returns : goal.returns
returns g c =
    let x = c.args.self.now in
    ap (lower x.node) c.in_ok-w.ensures ∙ excerpt_first (g.T.Tree.rows x.tree.now) x.node c.args.v (omega (arith, as_many (g.T.Tree.rows x.tree.now) x.node (g.T.Tree.lawful x.tree.now) x.inside))
