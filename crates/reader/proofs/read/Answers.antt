use Rattle.std.proofs.Common.{◌≡◌, true, sym, ap, ◌∙◌, subst}
use Rattle.grammar.specs.Machine.{accepted}
use Rattle.query.specs.Reads.{accepts_text, path_in}
use Rattle.query.specs.Shown.{shown_by}
use Rattle.query.proofs.Shown.{of_shows, of_reads, path_is}
use Rattle.reader.proofs.read.Goals as goal

pub invariant_of-result : goal.invariant_of-result
invariant_of-result c =
    let bs = c.args.text.now in
    let t = c.in_ok-table.table in
    let g = c.in_ok-table.ensures in
    let e = sym c.copied.ensures in
    record {
      reads = subst (λ z. accepts_text z ≡ true) e (of_reads bs g.0 g.2);
      shown = subst (λ z. shown_by z t (path_in z) ≡ true) e (subst (λ p. shown_by bs t p ≡ true) (sym (path_is bs g.0 g.2)) (of_shows bs t g.0 g.1));
    }

pub returns-clause-answer : goal.returns-clause-answer
returns-clause-answer c =
    let bs = c.args.text.now in
    let g = c.in_ok-table.ensures in
    (c.copied.ensures, g.2 ∙ ap accepted (sym (path_is bs g.0 g.2) ∙ ap path_in (sym c.copied.ensures)))
