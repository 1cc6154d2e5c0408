use Rattle.std.proofs.Common.{length, string_bytes, Option, subst, arith}
use Rattle.std.proofs.lemmas.Result.{IfOk-weaker}
use Rattle.rows.specs.Rows.{count_of}
use Rattle.query.specs.Queries.{query_of}
use Rattle.tally.specs.Reaches.{reach, leading_of}
use Rattle.selector.specs.Steps.{state_of}
use Rattle.select.specs.declared.fault.Fault.{Fault}
use Rattle.select.specs.Selecting.{Prepares}
use Rattle.choosing.proofs.Tallied.{told_all, asks}
use Rattle.choosing.proofs.select_text.select_text.Goals as goal

pub returns : goal.returns
returns g c =
    let rows = g.T.Tree.rows c.args.tree.now in
    let names = c.args.names.now in
    let q = c.args.query.now in
    let few = (g.T.Tree.lawful c.args.tree.now).few in
    let s = state_of c.prepare.new.selector in
    let ws = c.prepare.new.work in
    let e = asks (count_of rows) (length c.args.program.now) (length c.args.work.now) c.requires.bytes (omega (arith, c.requires.words)) in
    let p = subst (λ (o : Option Fault). Prepares o names q rows c.args.program.now c.prepare.new.program (state_of c.new-selector.result) s c.args.work.now ws) e c.prepare.ensures.leaves in
    IfOk-weaker c.report.result _ _
    (λ t r. told_all names (query_of q) rows c.count-n.result s ws c.whole-selected.result.count (reach c.whole-extent.result) (leading_of c.whole-leading.result) (string_bytes t)
    c.count-n.ensures few p.ready c.whole-selected.ensures c.whole-extent.ensures c.whole-leading.ensures r)
    c.report.ensures
