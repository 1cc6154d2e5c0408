use Rattle.std.proofs.Common.{◌≡◌, Ok, sym, subst}
use Rattle.selector.specs.Steps.{state_of}
use Rattle.history.specs.History.{reply}
use Rattle.history.specs.declared.calls.Call.{Call as Held}
use Rattle.history.specs.declared.calls.Reply.TheVariants.{Value}
use Rattle.history.specs.Views.{call_by, of_kind, answer_by}
use Rattle.history.proofs.Seen.{seen}
use Rattle.run.proofs.run.carry_out.Goals as goal

pub returns-in_ok-tally-in-Tally-clause-answer : goal.returns-in_ok-tally-in-Tally-clause-answer
returns-in_ok-tally-in-Tally-clause-answer g c = λ i.
    let k = g.S.Kinds in
    let rows = g.T.Tree.rows c.args.tree.now in
    let s = state_of c.args.selector.now in
    let ws = c.args.work.now in
    let t = c.in-Tally in
    let x = c.in_ok-tally-in-Tally.field-0 in
    subst (λ (h : Held). answer_by (k.value i) (of_kind i h) (Ok (Value x)) ≡ reply (k.empty i) (k.mark i) (k.join i) rows s ws (call_by i h)) (sym t.is)
    (seen k.value k.empty k.mark k.join rows t.kind i s ws t.lo t.hi x c.in_ok-tally-in-Tally.ensures)
