use Rattle.automata.proofs.Solutions.{settled, rising}
use Rattle.automata.proofs.Agrees.{agreeing}
use Rattle.automata.proofs.Falls.{falling}
use Rattle.automata.proofs.laws_stand.Goals as goal

pub returns : goal.returns
returns c = record { settled = settled; agreeing = agreeing; rising = rising; falling = falling }
