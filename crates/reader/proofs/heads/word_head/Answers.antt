use Rattle.std.proofs.Common.{◌≡◌, false, Err, rules, sym, ap, ◌∙◌, subst}
use Rattle.std.proofs.lemmas.Result.{err_from_is_err_and}
use Rattle.grammar.specs.declared.tokens.Symbol.TheVariants.{DoubleColon}
use Rattle.grammar.specs.Glances.{next_is}
use Rattle.lexer.specs.Readers.{tokens_of}
use Rattle.reader.specs.Heads.{far_of, WordTells, NamedTells}
use Rattle.reader.proofs.Begin.{child_head, far_head}
use Rattle.reader.proofs.heads.word_head.Goals as goal
use Rattle.reader.proofs.heads.word_head.Goals.{else-not-is_far-via-else-not-is_far, else-not-is_far-via-then-not-is_far+in-None-1}

pub returns-in_err-test-2 : goal.returns-in_err-test-2
returns-in_err-test-2 c =
    let r = c.args.reader.now in
    let z = c.args.word.bytes.now in
    let q = c.named.new.reader in
    let f = c.in_err-test-2.field-0.0 in
    let b = err_from_is_err_and c.from_residual-in_err-test-2.result c.from_residual-in_err-test-2.ensures.1 in
    let is : c.from_residual-in_err-test-2.result ≡ Err f = b.1 ∙ ap Err b.2 in
    subst (λ x. WordTells (far_of c.args.lead) z x r q) (sym is) (elim c.else-not-is_far.branch [
      | else-not-is_far-via-else-not-is_far w ↦ subst (λ far. WordTells far z (Err f) r q) w.if-not-is_far.ensures (far_head r q z (Err f) (subst (λ x. NamedTells z (Err f) x q) w.reader-is c.in_err-test-2.ensures))
      | else-not-is_far-via-then-not-is_far+in-None-1 w ↦
          let none : (w.accept.new.self ≡ r) × (next_is DoubleColon (tokens_of r) ≡ false) = search rules in
          subst (λ far. WordTells far z (Err f) r q) w.if-not-is_far.ensures (child_head r q z (Err f) none.1 (subst (λ x. NamedTells z (Err f) x q) (w.reader-is ∙ none.0) c.in_err-test-2.ensures))
    ])
