-- The bytes of the deciding commands, one after another.
use Rattle.std.proofs.Common.{◌≡◌, ℕ, drop, ap, ◌∙◌, arith, rules, tests}
use Rattle.std.proofs.lemmas.Iterator.{YieldsList-from_map}
use Rattle.std.proofs.lemmas.Iterator.Consumers.{YieldsList-from_first, YieldsList-at, sum_by_from_yields_List, fits_by_from_yields_list}
use Rattle.std.proofs.lemmas.Iterator.Search.{YieldsList-from_take_while}
use Rattle.std.specs.List.{take_while}
use Rattle.commands.specs.Begin.{rules_at}
use Rattle.commands.specs.Commands.{commands_of}
use Rattle.commands.specs.Decoded.{width}
use Rattle.commands.specs.Rules.{deciding}
use Rattle.commands.proofs.Ends.{lead_sum, rules_begin, rules_within}
use Rattle.program.specs.Commands.{left}
use Rattle.program.proofs.rules.rules_start.Goals as goal

pub sum-requires-clause-fits : goal.sum-requires-clause-fits
sum-requires-clause-fits c =
    fits_by_from_yields_list width (take_while deciding (commands_of c.args.program.now)) c.map.result _
    (YieldsList-from_map _ width
    (YieldsList-at c.map.ensures.source
    (YieldsList-from_take_while _ deciding
    (YieldsList-at c.take_while.ensures.source (YieldsList-from_first (λ x. x) left (commands_of c.args.program.now) c.new.ensures.all))
    c.take_while.ensures.closure c.take_while.ensures.done (λ x b q k. search (rules, tests))))
    c.map.ensures.closure (λ x r q k. search (rules, tests)))
    (omega (arith, lead_sum (commands_of c.args.program.now), rules_within c.args.program.now))

pub returns : goal.returns
returns c =
    let bs = c.args.program.now in
    let exact : c.sum.result ≡ rules_at bs =
    sum_by_from_yields_List width (take_while deciding (commands_of bs)) c.map.result c.sum.result c.sum.ensures.ran
    (YieldsList-from_map _ width
    (YieldsList-at c.map.ensures.source
    (YieldsList-from_take_while _ deciding
    (YieldsList-at c.take_while.ensures.source (YieldsList-from_first (λ x. x) left (commands_of bs) c.new.ensures.all))
    c.take_while.ensures.closure c.take_while.ensures.done (λ x b q k. search (rules, tests))))
    c.map.ensures.closure (λ x r q k. search (rules, tests)))
    ∙ lead_sum (commands_of bs) in
    record {
      inside = omega (arith, rules_within bs);
      exact = exact;
      begins = ap (λ (n : ℕ). commands_of (drop n bs)) exact ∙ rules_begin bs;
    }
