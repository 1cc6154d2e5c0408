use Rattle.parens.proofs.Loaded.{held_loads, loaded_held, trees_held}
use Rattle.parens.proofs.lengths.laws_stand.Goals as goal

pub returns : goal.returns
returns c = record { shows = held_loads; holds = loaded_held; every = trees_held }
