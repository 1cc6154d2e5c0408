use Rattle.std.proofs.Common.{rules}
use Rattle.grammar.specs.Syntax.{axis_word, self, child, descendant, following_sibling}
use Rattle.reader.proofs.Other.{other}
use Rattle.reader.proofs.heads.axis_of.Goals as goal

pub returns-else-eq-4 : goal.returns-else-eq-4
returns-else-eq-4 c =
    let w = c.args.word.now in
    let s1 = other w (axis_word self) c.as_slice.ensures c.eq.ensures c.if-eq.false in
    let s2 = other w (axis_word child) c.as_slice-else-eq.ensures c.eq-else-eq.ensures c.if-eq-2.false in
    let s3 = other w (axis_word descendant) c.as_slice-else-eq-2.ensures c.eq-else-eq-2.ensures c.if-eq-3.false in
    let s4 = other w (axis_word following_sibling) c.as_slice-else-eq-3.ensures c.eq-else-eq-3.ensures c.if-eq-4.false in
    search (rules, s1, s2, s3, s4)
