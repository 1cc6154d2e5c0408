use Rattle.std.proofs.Common.{sym, ap, ◌∙◌, arith, rules}
use Rattle.rows.proofs.Excerpts.{excerpt_next, excerpt_next_root, excerpt_next_past, excerpt_fits, next_later, lower}
use Rattle.excerpt.proofs.Nodes.{as_many}
use Rattle.excerpt.proofs.ExcerptTree.next_sibling.Goals.{then-v-eq0-via-then-v-eq0, then-v-eq0-via-else-v-eq0+then-v-count}
use Rattle.excerpt.proofs.ExcerptTree.next_sibling.Goals as goal

pub overflow_add-self : goal.overflow_add-self
overflow_add-self g c =
    let x = c.args.self.now in
    let f = excerpt_fits (g.T.Tree.rows x.tree.now) x.node c.args.v (g.T.Tree.lawful x.tree.now) (omega (arith, as_many (g.T.Tree.rows x.tree.now) x.node (g.T.Tree.lawful x.tree.now) x.inside)) in
    search rules

pub returns-then-v-eq0 : goal.returns-then-v-eq0
returns-then-v-eq0 g c =
    let x = c.args.self.now in
    elim c.then-v-eq0.branch [
      | then-v-eq0-via-then-v-eq0 w ↦ excerpt_next_root (g.T.Tree.rows x.tree.now) x.node c.args.v w.if-v-eq0.true
      | then-v-eq0-via-else-v-eq0+then-v-count w ↦ excerpt_next_past (g.T.Tree.rows x.tree.now) x.node c.args.v w.if-v-eq0.false (omega (arith, w.if-v-count.true, w.count.ensures, as_many (g.T.Tree.rows x.tree.now) x.node (g.T.Tree.lawful x.tree.now) x.inside))
    ]

pub returns-in_err-w : goal.returns-in_err-w
returns-in_err-w g c =
    let x = c.args.self.now in
    c.from_residual.ensures ∙ ap (lower x.node) c.in_err-w.ensures
    ∙ excerpt_next (g.T.Tree.rows x.tree.now) x.node c.args.v c.if-v-eq0.false (omega (arith, as_many (g.T.Tree.rows x.tree.now) x.node (g.T.Tree.lawful x.tree.now) x.inside))

pub overflow_sub-result : goal.overflow_sub-result
overflow_sub-result g c =
    let x = c.args.self.now in
    omega (arith, next_later (g.T.Tree.rows x.tree.now) _ _ (sym c.in_ok-w.ensures))

pub returns : goal.returns
returns g c =
    let x = c.args.self.now in
    ap (lower x.node) c.in_ok-w.ensures
    ∙ excerpt_next (g.T.Tree.rows x.tree.now) x.node c.args.v c.if-v-eq0.false (omega (arith, as_many (g.T.Tree.rows x.tree.now) x.node (g.T.Tree.lawful x.tree.now) x.inside))
