use Rattle.lexer.proofs.Stream.{sees}
use Rattle.lexer.proofs.Reader.peek.Goals as goal

pub returns-clause-sees : goal.returns-clause-sees
returns-clause-sees c = sees c.args.self.now.text.now c.args.self.now.place c.next_token.result c.next_token.ensures.value c.next_token.ensures.ends
