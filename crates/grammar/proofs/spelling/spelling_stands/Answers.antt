use Rattle.std.proofs.Common.{arith}
use Rattle.grammar.proofs.Reading as r
use Rattle.grammar.proofs.Spelt as s
use Rattle.grammar.proofs.spelling.spelling_stands.Goals as goal

pub returns : goal.returns
returns c = record { most = λ bs q h. omega (arith, s.shortest bs q h, (r.sound bs q h).short); back = s.reads_back; shortest = s.shortest }
