use Rattle.std.proofs.Common.{◌∷◌}
use Rattle.grammar.specs.declared.tokens.Symbol.TheVariants.{LeftParen, RightParen}
use Rattle.grammar.specs.Tokens.{symbol, word}
use Rattle.spelling.proofs.Writes.{emits}
use Rattle.spelling.proofs.writer.Writer.write_type.Goals as goal

pub returns : goal.returns
returns c = emits (λ us. word c.args.name.now ∷ us) (λ us. symbol LeftParen ∷ symbol RightParen ∷ us) c.args.self.now c.write_word.new.self c.write_symbol-2.new.self c.write_word.ensures
    (emits (λ us. symbol LeftParen ∷ us) (λ us. symbol RightParen ∷ us) c.write_word.new.self c.write_symbol.new.self c.write_symbol-2.new.self c.write_symbol.ensures c.write_symbol-2.ensures)
