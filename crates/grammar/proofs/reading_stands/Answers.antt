use Rattle.grammar.proofs.Reading as r
use Rattle.grammar.proofs.Refusals as s
use Rattle.grammar.proofs.Limits as l
use Rattle.grammar.proofs.Examples as x
use Rattle.grammar.proofs.reading_stands.Goals as goal

pub returns : goal.returns
returns c = record { most = λ bs q h. (r.sound bs q h).short; long = x.long; sound = r.sound; complete = r.complete; unambiguous = r.one_query; grammar = s.code4; limits = l.limits; worked = x.worked }
