use Rattle.std.proofs.Common.{◌∙◌, arith, rules}
use Rattle.rows.proofs.Excerpts.{excerpt_size, excerpt_size_past, excerpt_root_size, excerpt_fits, excerpt_lawful}
use Rattle.excerpt.proofs.Nodes.{as_many}
use Rattle.excerpt.proofs.ExcerptTree.size.Goals as goal

pub overflow_add-self : goal.overflow_add-self
overflow_add-self g c =
    let x = c.args.self.now in
    let f = excerpt_fits (g.T.Tree.rows x.tree.now) x.node c.args.v (g.T.Tree.lawful x.tree.now) (omega (arith, as_many (g.T.Tree.rows x.tree.now) x.node (g.T.Tree.lawful x.tree.now) x.inside)) in
    search rules

pub returns-then-v-eq0 : goal.returns-then-v-eq0
returns-then-v-eq0 g c =
    let x = c.args.self.now in
    let root = excerpt_root_size (g.T.Tree.rows x.tree.now) x.node c.args.v c.if-v-eq0.true in
    let some = (excerpt_lawful (g.T.Tree.rows x.tree.now) x.node (g.T.Tree.lawful x.tree.now)).some in
    omega (arith, c.count-count.ensures, root, some, as_many (g.T.Tree.rows x.tree.now) x.node (g.T.Tree.lawful x.tree.now) x.inside)

pub returns-then-v-count : goal.returns-then-v-count
returns-then-v-count g c =
    let x = c.args.self.now in
    c.size.ensures ∙ excerpt_size (g.T.Tree.rows x.tree.now) x.node c.args.v (omega (arith, as_many (g.T.Tree.rows x.tree.now) x.node (g.T.Tree.lawful x.tree.now) x.inside))
