use Rattle.std.proofs.Common.{sym, refl}
use Rattle.std.proofs.lemmas.Bool.{false≢true, cond-true, cond-false}
use Rattle.commands.proofs.Denotes.{loads, loaded}
use Rattle.program.proofs.check.check.Goals as goal

pub returns-then-is_program : goal.returns-then-is_program
returns-then-is_program c =
    let bs = c.args.program.now in
    record {
      exact = sym (cond-true _ _ _ (sym c.if-is_program.ensures.exact));
      means = (λ e. loaded bs c.type_inv.program (c.if-is_program.ensures.means.0 refl), λ d. refl);
    }

pub returns-else-is_program : goal.returns-else-is_program
returns-else-is_program c =
    let bs = c.args.program.now in
    record {
      exact = sym (cond-false _ _ _ (sym c.if-is_program.ensures.exact));
      means = (λ e. absurd (false≢true e), λ d. absurd (false≢true (c.if-is_program.ensures.means.1 (loads bs d.0 d.1))));
    }
