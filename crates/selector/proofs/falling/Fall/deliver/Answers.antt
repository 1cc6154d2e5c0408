use Rattle.std.proofs.Common.{ℕ, Option, ap, ◌∙◌, rules}
use Rattle.rows.specs.Answers.{first_of, next_of}
use Rattle.sweep.specs.Sending.{entered_all}
use Rattle.selector.proofs.Asking.{enters_asked}
use Rattle.selector.proofs.falling.Fall.deliver.Goals as goal

pub returns : goal.returns
returns g c =
    let rows = g.T.Tree.rows c.args.self.now.tree.now in
    let v = c.args.v in
    let s = c.args.sent in
    let w1 = c.enter.new.work in
    let w2 = c.enter-2.new.work in
    c.enter-3.ensures
    ∙ ap (λ (o : Option ℕ). entered_all s.on o w2) c.flatten-2.ensures
    ∙ enters_asked s.on (next_of rows v) c.then-next.result w2 _ c.then-next.ensures.variant c.then-next.ensures.some (λ x q. search rules)
    ∙ ap (entered_all s.on (next_of rows v))
    (c.enter-2.ensures
    ∙ ap (λ (o : Option ℕ). entered_all s.down o w1) c.flatten.ensures
    ∙ enters_asked s.down (first_of rows v) c.then-first.result w1 _ c.then-first.ensures.variant c.then-first.ensures.some (λ x q. search rules)
    ∙ ap (entered_all s.down (first_of rows v)) c.enter.ensures)
