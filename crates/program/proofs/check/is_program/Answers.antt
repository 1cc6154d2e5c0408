use Rattle.std.proofs.Common.{◌≡◌, leb, length, Decides, sym, subst, rules}
use Rattle.commands.specs.Checked.{accepted, Loadable}
use Rattle.commands.proofs.Checks.{accepted_decides}
use Rattle.program.proofs.check.is_program.Goals as goal

pub returns-then-program-le2048-clause-means : goal.returns-then-program-le2048-clause-means
returns-then-program-le2048-clause-means c =
    let bs = c.args.program.now in
    let exact : c.is_some_and.result ≡ accepted bs = search rules in
    subst (λ b. Decides b (Loadable bs)) (sym exact) (accepted_decides bs)

pub returns-else-program-le2048-clause-means : goal.returns-else-program-le2048-clause-means
returns-else-program-le2048-clause-means c =
    let bs = c.args.program.now in
    let exact : leb (length bs) 2048 ≡ accepted bs = search rules in
    subst (λ b. Decides b (Loadable bs)) (sym exact) (accepted_decides bs)
