use Rattle.std.proofs.Common.{◌≡◌, ◌*◌, pos, ◌+ℤ◌, ap, ◌∙◌, arith, rules}
use Rattle.std.proofs.lemmas.Int.{ints}
use Rattle.shape.specs.Bits.{openings_of}
use Rattle.shape.proofs.Steps.{byte_openings, byte_few}
use Rattle.parens.proofs.search.openings_in.Goals as goal

pub overflow_add-result : goal.overflow_add-result
overflow_add-result c =
    let e : c.total.result +ℤ pos 8 ≡ pos (2 * openings_of c.args.b) = ap (λ z. z +ℤ pos 8) c.total.ensures ∙ byte_openings c.args.b in
    let f = byte_few c.args.b in
    search (rules, ints)

pub overflow_cast-result : goal.overflow_cast-result
overflow_cast-result c =
    let e : c.total.result +ℤ pos 8 ≡ pos (2 * openings_of c.args.b) = ap (λ z. z +ℤ pos 8) c.total.ensures ∙ byte_openings c.args.b in
    let f = byte_few c.args.b in
    search (rules, ints)

pub returns : goal.returns
returns c =
    let e : c.total.result +ℤ pos 8 ≡ pos (2 * openings_of c.args.b) = ap (λ z. z +ℤ pos 8) c.total.ensures ∙ byte_openings c.args.b in
    let f = byte_few c.args.b in
    omega (arith, ints)
