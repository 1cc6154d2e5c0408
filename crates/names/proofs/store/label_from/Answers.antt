use Rattle.std.proofs.Common.{◌≡◌, ◌+◌, min, length, take, ◌∙◌, ap, arith, rules}
use borrow.Author.Tests.{tests}
use Rattle.std.proofs.lemmas.Iterator.{YieldsList-from_slice}
use Rattle.std.proofs.lemmas.Iterator.Adapters.{position_from-zero}
use Rattle.std.proofs.lemmas.Iterator.Search.{position_from_yields_List}
use Rattle.std.proofs.lemmas.List.{take_min}
use Rattle.std.specs.List.{position_from}
use Rattle.std.specs.Option.{option_map_or}
use Rattle.std.specs.Str.{bytes_eq}
use Rattle.names.specs.Store.{label_from}
use Rattle.names.proofs.Stores.{label_by_place}
use Rattle.names.proofs.store.label_from.Goals as goal

pub returns : goal.returns
returns c =
    let store = c.args.store.now in
    let slots = take c.min.result store in
    let s = c.args.slot.now in
    let place : c.position.result ≡ position_from (λ n. bytes_eq n s) 0 slots =
    position_from_yields_List (λ n. bytes_eq n s) _ _ _ c.position.ensures.ran (YieldsList-from_slice slots cc) (λ x b q k. search (rules, tests))
    ∙ position_from-zero (λ n. bytes_eq n s) slots in
    let label : c.map_or.result ≡ option_map_or (λ i. i + 2) c.position.result 65535 = search rules in
    let few : c.min.result ≡ min 512 (length store) = omega (arith, c.min.ensures) in
    let among : slots ≡ take 512 store = ap (λ k. take k store) few ∙ take_min 512 store in
    label ∙ ap (λ o. option_map_or (λ i. i + 2) o 65535) place ∙ label_by_place 2 0 slots s ∙ ap (λ l. label_from 2 l s) among
