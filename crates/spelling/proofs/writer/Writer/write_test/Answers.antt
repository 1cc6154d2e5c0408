use Rattle.std.proofs.Common.{sym, ap, ◌∙◌, subst, arith}
use Rattle.grammar.specs.Syntax.{name}
use Rattle.grammar.specs.Spelling.{test_t}
use Rattle.grammar.proofs.Reading.{sound}
use Rattle.query.specs.Shown.{ShowsTest}
use Rattle.query.specs.Reads.{path_in}
use Rattle.query.specs.Queries.{text_of}
use Rattle.query.proofs.Shown.{query_reads}
use Rattle.spelling.specs.Writing.{Emits}
use Rattle.spelling.proofs.Slices.{slice}
use Rattle.spelling.proofs.writer.Writer.write_test.Goals as goal

pub returns-in-Name : goal.returns-in-Name
returns-in-Name c t h =
    let q = c.args.query.now in
    let k = subst (λ x. ShowsTest (text_of q) x t) c.in-Name.is h in
    let at = c.in-Name.at in
    let len = c.in-Name.len in
    let short = (sound (text_of q) (path_in (text_of q)) (query_reads q)).short in
    let z = slice at len q.len q.text k.0 in
    subst (λ x. Emits (test_t x) c.args.self.now c.write_name.new.self) (sym (k.1 ∙ ap name z)) (c.write_name.ensures (omega (arith, k.0, short)))
