use Rattle.std.proofs.Common.{ℕ, ◌≤◌, length, Option, Result, sym, ap, ◌∙◌, subst, rules, IsOk}
use Rattle.rows.specs.Rows.{count_of}
use Rattle.translate.specs.Outcome.{Translated}
use Rattle.translate.specs.declared.fault.Fault.{Fault as TranslateFault}
use Rattle.selector.specs.declared.fault.Fault.{Fault as SelectorFault}
use Rattle.selector.specs.Steps.{outcome}
use Rattle.select.proofs.Prepared.{settles}
use Rattle.select.proofs.prepare.Goals as goal

pub unwrap-requires : goal.unwrap-requires
unwrap-requires g c =
    let rows = g.T.Tree.rows c.args.tree.now in
    let names = c.args.names.now in
    let q = c.args.query.now in
    let old = c.args.program.now in
    let new = c.translate.new.out in
    let fit : count_of rows ≤ length c.args.work.now = search rules in
    let granted = subst (λ (r : Result ℕ TranslateFault). Translated names q old new r) c.unwrap-size.ensures c.translate.ensures in
    let none = settles names q rows old new c.args.work.now c.unwrap-size.result fit granted.1 in
    subst (λ (r : Result (Unit {0}) SelectorFault). IsOk r) (sym (c.settle.ensures.answer ∙ ap (λ (o : Option SelectorFault). outcome o tt) none)) (search rules)
