use Rattle.std.proofs.Common.{rules, sym, ap, ◌∙◌, subst, arith}
use Rattle.grammar.specs.Syntax.{name, text_word, node_word}
use Rattle.reader.proofs.Other.{other}
use Rattle.grammar.specs.Machine.{run, tested}
use Rattle.grammar.proofs.Glance.{name_test}
use Rattle.query.specs.Shown.{ShowsTest}
use Rattle.lexer.specs.Readers.{tokens_of, end_of}
use Rattle.reader.proofs.heads.named.Goals as goal

pub returns-in_default : goal.returns-in_default
returns-in_default c =
    let r = c.args.reader.now in
    let w = c.args.word.bytes.now in
    let sp = c.requires.spans in
    let same = c.in_default.ensures.0 in
    let is = c.name_test.ensures (omega (arith, sp.fits, c.requires.short)) (omega (arith, sp.short)) in (
      name w,
      subst (λ x. ShowsTest r.text.now x (name w)) (sym is) (sp.fits, ap name sp.is),
      record { text = ap (λ x. x.text) same; on = omega (arith, ap (λ x. x.place) same) },
      λ k b v l o i. name_test (end_of r) k b v w l o i (tokens_of r) c.in_default.ensures.1 ∙ ap (λ x. run (end_of r) (tested k b v (name w)) l o i (tokens_of x)) (sym same),
    )

pub returns-else-eq-2 : goal.returns-else-eq-2
returns-else-eq-2 c =
    let w = c.args.word.bytes.now in
    let s1 = other w text_word c.as_slice.ensures c.eq.ensures c.if-eq.false in
    let s2 = other w node_word c.as_slice-else-eq.ensures c.eq-else-eq.ensures c.if-eq-2.false in
    search (rules, s1, s2)
