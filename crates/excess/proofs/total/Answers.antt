use Rattle.std.proofs.Common.{◌<◌, refl, rules}
use Rattle.excess.specs.Excess.{total_of}
use Rattle.excess.proofs.Entries.{totals}
use Rattle.excess.proofs.Rules.{at}
use Rattle.excess.proofs.total.Goals as goal

pub returns : goal.returns
unfolding total_of
returns c = let h : c.args.b < 256 = search rules in at total_of c.args.b totals h refl refl
