use Rattle.std.proofs.Common.{sym, ap, ◌∙◌}
use Rattle.commands.specs.Commands.{commands_of}
use Rattle.sweep.specs.declared.sending.Sending.{Sending}
use Rattle.sweep.specs.Falling.{place_at}
use Rattle.sweep.specs.Sending.{delivered}
use Rattle.sweep.proofs.Sends.{sent_whole, first_apart, next_apart}
use Rattle.selector.proofs.falling.Fall.send.Goals as goal

pub returns-clause-words : goal.returns-clause-words
returns-clause-words g c =
    let fall = c.args.self.now in
    let rows = g.T.Tree.rows fall.tree.now in
    let v = c.args.v in
    let ws = c.args.work.now in
    c.deliver.ensures ∙ ap (λ (s : Sending). delivered (place_at rows v) s ws) c.recall-sent.ensures.answer
    ∙ sym (sent_whole (place_at rows v) ws c.requires (first_apart rows v) (next_apart rows v) (commands_of fall.sendings.rules.now))
