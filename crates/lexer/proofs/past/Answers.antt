use Rattle.std.proofs.Common.{◌+◌, ap, ◌∙◌, rules, tests}
use Rattle.std.specs.List.{prefix_len}
use Rattle.std.proofs.lemmas.Iterator.{YieldsList-from_slice}
use Rattle.std.proofs.lemmas.Iterator.Consumers.{YieldsList-at, count_from_yields_List}
use Rattle.std.proofs.lemmas.Iterator.Search.{YieldsList-from_take_while}
use Rattle.std.proofs.lemmas.List.Folds.{length-prefix_len}
use Rattle.lexer.proofs.past.Goals as goal

pub returns-clause-is : goal.returns-clause-is
returns-clause-is g c p h =
    let rest = c.rest_from.result.now in
    ap (λ k. c.args.from + k) (count_from_yields_List c.take_while.result _ c.count.ensures.ran
    (YieldsList-from_take_while _ p (YieldsList-at c.take_while.ensures.source (YieldsList-from_slice rest cc)) c.take_while.ensures.closure c.take_while.ensures.done (λ x b q k. search (h, rules, tests)))
    ∙ length-prefix_len p rest
    ∙ ap (prefix_len p) c.rest_from.ensures)
