use Rattle.std.proofs.Common.{◌∙◌, sym}
use Rattle.excerpt.proofs.Nodes.{as_many}
use Rattle.excerpt.proofs.ExcerptTree.count.Goals as goal

pub returns : goal.returns
returns g c = let x = c.args.self.now in c.size.ensures ∙ sym (as_many (g.T.Tree.rows x.tree.now) x.node (g.T.Tree.lawful x.tree.now) x.inside)
