use Rattle.std.proofs.Common.{◌<◌, refl, rules}
use Rattle.excess.specs.Excess.{least_of}
use Rattle.excess.proofs.Entries.{leasts}
use Rattle.excess.proofs.Rules.{at}
use Rattle.excess.proofs.least.Goals as goal

pub returns : goal.returns
unfolding least_of
returns c = let h : c.args.b < 256 = search rules in at least_of c.args.b leasts h refl refl
