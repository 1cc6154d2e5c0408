use Rattle.grammar.proofs.Reading as r
use Rattle.grammar.proofs.Wider as w
use Rattle.grammar.proofs.levels.levels_stand.Goals as goal

pub returns : goal.returns
returns c = record { most = λ bs q h. (r.sound bs q h).derived; wider = w.wider; one = w.one_query }
