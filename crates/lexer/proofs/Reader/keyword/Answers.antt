use Rattle.std.proofs.Common.{sym, rules}
use Rattle.grammar.proofs.Words.{same_true}
use Rattle.lexer.proofs.Reader.keyword.Goals as goal

pub returns-in-Ok-Name : goal.returns-in-Ok-Name
returns-in-Ok-Name c =
    let is = same_true c.in-Ok-Name.bytes.now c.args.want.now (sym c.if-same_bytes.ensures) in
    search rules
