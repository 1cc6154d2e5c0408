use Rattle.std.proofs.Common.{ℕ, Bool, false, get_or, ap, ◌∙◌, ◌+◌, rules}
use Rattle.std.specs.Bool.{then_some}
use Rattle.shape.specs.Bits.{bits_of}
use Rattle.parens.proofs.Facts.{next_at, closing_below, bytes_few}
use Rattle.parens.proofs.ParenTreeTree.next_sibling.Goals as goal

pub overflow_add-at : goal.overflow_add-at
overflow_add-at c =
    let t = c.args.self.now in
    let b = closing_below t c.args.v c.if-v-self.false c.pair-at.result.opening c.pair-at.ensures.opened c.pair-at.result.closing c.pair-at.ensures.closed in
    let f = bytes_few t in
    search rules

pub returns : goal.returns
returns c =
    c.then_some.ensures ∙ ap (λ (b : Bool). then_some b (c.args.v + c.nodes.result)) c.opens.ensures ∙ ap (λ (n : ℕ). then_some (get_or (bits_of c.args.self.now.bits.now) (c.pair-at.result.closing + 1) false) (c.args.v + n)) c.nodes.ensures
    ∙ next_at c.args.self.now c.args.v c.if-v-self.false c.pair-at.result.opening c.pair-at.ensures.opened c.pair-at.result.closing c.pair-at.ensures.closed
