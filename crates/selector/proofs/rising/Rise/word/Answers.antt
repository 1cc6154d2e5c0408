use Rattle.std.proofs.Common.{ℕ, eqb, ap, ◌∙◌}
use Rattle.words.specs.Bit.{put_bit}
use Rattle.commands.specs.declared.node.Node.{Node}
use Rattle.commands.specs.declared.node.Asked.{Asked}
use Rattle.commands.specs.Commands.{commands_of}
use Rattle.commands.specs.Deciding.{decide}
use Rattle.commands.specs.Asked.{nothing, seen}
use Rattle.commands.proofs.Asks.{decide_seen}
use Rattle.sweep.specs.Rising.{word_at, node_at}
use Rattle.selector.proofs.rising.Rise.word.Goals as goal

pub returns-clause-word : goal.returns-clause-word
unfolding word_at
returns-clause-word g c =
    let s = c.args.self.now in
    let cs = commands_of s.words.program.now in
    let n : Node = node_at (g.T.Tree.rows s.tree.now) c.args.work.now c.args.v in
    c.put_bit.ensures
    ∙ ap (λ (w : ℕ). put_bit w 40 (eqb c.args.v 0))
    (c.recall.ensures.answer
    ∙ ap (λ (m : Node). decide m cs 0 0 0) (c.seen-seen.ensures.exact ∙ ap (λ (a : Asked). seen a n) s.asks)
    ∙ decide_seen cs nothing n 0 0 0 c.seen-seen.ensures.fits)
