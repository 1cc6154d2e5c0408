use Rattle.std.proofs.Common.{eqb, ◌∙◌, rules}
use borrow.Author.Tests.{tests}
use Rattle.std.proofs.lemmas.Iterator.{YieldsList-from_slice}
use Rattle.std.proofs.lemmas.Iterator.Adapters.{YieldsList-from_skip_while}
use Rattle.std.proofs.lemmas.Iterator.Search.{all_from_yields_List}
use Rattle.names.specs.Names.{goes_on}
use Rattle.names.proofs.Slots.{zeros_after}
use Rattle.names.proofs.slot.goes_on_all.Goals as goal

pub returns : goal.returns
returns c =
    all_from_yields_List (λ b. eqb b 0) _ _ _ c.all.ensures.ran
    (YieldsList-from_skip_while _ _ _ goes_on _ (λ x b q k. search (rules, tests)) (YieldsList-from_slice c.args.bytes.now cc) c.skip_while.ensures.closure c.skip_while.ensures.done_skipping)
    (λ x b q k. search (rules, tests))
    ∙ zeros_after c.args.bytes.now
