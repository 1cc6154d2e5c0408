use Rattle.std.proofs.Common.{Some, subst}
use Rattle.lexer.specs.Readers.{Words}
use Rattle.query.specs.Shown.{where_of}
use Rattle.reader.specs.Heads.{far_of}
use Rattle.reader.proofs.Begin.{head_from}
use Rattle.reader.proofs.parts.Parser.head.Goals as goal

pub returns : goal.returns
returns c =
    let wd = subst (λ x. Words (Some c.in-Some-word.word) x c.word.new.self) c.in_default.ensures.0 c.in-Some-word.ensures in
    let bg = c.in_ok-begin-2.ensures in
    head_from (where_of c.args.region) c.args.self.now c.in-Some-word.word.bytes.now c.in-Some-word.word.at c.word.new.self c.begin-2.new.table (record { tokens = wd.0; moved = wd.1; room = bg.0; table = bg.1 }) (far_of c.args.lead) c.word_head.result c.word_head.new.reader c.word_head.ensures
