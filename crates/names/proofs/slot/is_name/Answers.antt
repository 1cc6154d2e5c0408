use Rattle.std.proofs.Common.{Bool, ◌&&◌, drop, ap, ◌∙◌, arith, length-drop}
use Rattle.std.proofs.lemmas.List.{take_all}
use Rattle.names.specs.Names.{goes_on_all}
use Rattle.names.proofs.slot.is_name.Goals as goal

pub returns-then-begins-clause-tested : goal.returns-then-begins-clause-tested
returns-then-begins-clause-tested c =
    let rest = drop 1 c.args.slot.now in
    c.goes_on_all.ensures ∙ ap goes_on_all (take_all 31 rest (omega (arith, length-drop 1 c.args.slot.now)))
    ∙ ap (λ (g : Bool). g && goes_on_all rest) c.if-begins.ensures
