use Rattle.std.proofs.Common.{Bool, ap, ◌∙◌, ◌+◌, rules}
use Rattle.std.specs.Bool.{then_some}
use Rattle.parens.proofs.Facts.{first_at, opening_below, bytes_few}
use Rattle.parens.proofs.ParenTreeTree.first_child.Goals as goal

pub overflow_add-next : goal.overflow_add-next
overflow_add-next c =
    let t = c.args.self.now in
    let b = opening_below t c.args.v c.if-v-self.false c.opening-next.result c.opening-next.ensures in
    let f = bytes_few t in
    search rules

pub returns : goal.returns
returns c =
    c.then_some.ensures ∙ ap (λ (b : Bool). then_some b (c.args.v + 1)) c.opens.ensures
    ∙ first_at c.args.self.now c.args.v c.if-v-self.false c.opening-next.result c.opening-next.ensures
