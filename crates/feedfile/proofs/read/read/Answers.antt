use Rattle.std.proofs.Common.{sym, rules}
use Rattle.feedfile.proofs.read.read.Goals as goal

pub returns-in-Ok-seal : goal.returns-in-Ok-seal
returns-in-Ok-seal c = rw (sym c.in-Ok.ensures.reads, c.in-Ok-seal.ensures.answers.0 c.grow.new.labels) (search rules)

pub returns-in-Err-seal : goal.returns-in-Err-seal
returns-in-Err-seal c = rw (sym c.in-Ok.ensures.reads, c.in-Err-seal.ensures.answers.0 c.grow.new.labels) (search rules)
