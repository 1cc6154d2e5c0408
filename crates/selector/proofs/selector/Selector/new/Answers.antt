use Rattle.std.proofs.Common.{[], sym, refl, ap}
use Rattle.commands.specs.Begin.{lead}
use Rattle.commands.proofs.Spells.{commands_none}
use Rattle.selector.proofs.selector.Selector.new.Goals as goal

pub invariant_of-result-clause-begins : goal.invariant_of-result-clause-begins
invariant_of-result-clause-begins c = sym (ap lead (commands_none [] refl))
