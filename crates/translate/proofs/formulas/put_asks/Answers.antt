use Rattle.std.proofs.Common.{◌≡◌, ◌+◌, ◌-◌, sym, ap, ◌∙◌, arith}
use Rattle.query.specs.Shown.{axis_of, step_at}
use Rattle.grammar.specs.Machine.{inner}
use Rattle.translation.specs.Table.{state_of}
use Rattle.translation.specs.Written.{beginning_code}
use Rattle.translation.proofs.Chains.{code_beginning}
use Rattle.translate.proofs.Sizes.{inside_few}
use Rattle.translate.proofs.Writing.{puts_as}
use Rattle.translate.proofs.formulas.put_asks.Goals as goal

pub bounds-query-step : goal.bounds-query-step
bounds-query-step c = let few = inside_few c.args.query.now in omega (arith, c.requires.within)

pub returns : goal.returns
returns c =
    let q = c.args.query.now.table in
    let i = c.args.step in
    let e : q.inside_count - (i + 1) ≡ state_of q i = omega arith in
    puts_as (ap (beginning_code (axis_of (step_at inner q i).axis)) e ∙ sym (code_beginning (axis_of (step_at inner q i).axis) (state_of q i))) c.put_beginning.ensures
