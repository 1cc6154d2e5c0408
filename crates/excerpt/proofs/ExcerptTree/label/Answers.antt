use Rattle.std.proofs.Common.{◌∙◌, arith, rules}
use Rattle.rows.proofs.Excerpts.{excerpt_label, excerpt_fits}
use Rattle.excerpt.proofs.Nodes.{as_many}
use Rattle.excerpt.proofs.ExcerptTree.label.Goals as goal

pub overflow_add-self : goal.overflow_add-self
overflow_add-self g c =
    let x = c.args.self.now in
    let f = excerpt_fits (g.T.Tree.rows x.tree.now) x.node c.args.v (g.T.Tree.lawful x.tree.now) (omega (arith, as_many (g.T.Tree.rows x.tree.now) x.node (g.T.Tree.lawful x.tree.now) x.inside)) in
    search rules

pub returns-then-v-count : goal.returns-then-v-count
returns-then-v-count g c =
    let x = c.args.self.now in
    c.label.ensures ∙ excerpt_label (g.T.Tree.rows x.tree.now) x.node c.args.v c.if-v-eq0.false (omega (arith, as_many (g.T.Tree.rows x.tree.now) x.node (g.T.Tree.lawful x.tree.now) x.inside))
