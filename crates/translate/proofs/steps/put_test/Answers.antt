use Rattle.std.proofs.Common.{◌≡◌, ◌/◌, ◌%◌, [], ◌∷◌, length, take, drop, ap, ◌∙◌, arith, length-take}
use Rattle.names.specs.Store.{label_of}
use Rattle.translate.specs.Outcome.{text_in}
use Rattle.translate.proofs.Writing.{puts_as}
use Rattle.translation.proofs.Parts.{part_of_front, element_is, text_is, node_is, name_is, name_good}
use Rattle.translate.proofs.steps.put_test.Goals as goal

pub put_element-requires : goal.put_element-requires
put_element-requires c =
    let l = ap length (element_is c.args.rows.now.names.now (text_in c.args.rows.now.query.now) c.args.test c.in-Element.is) in
    let r = c.requires.room in
    omega arith

pub put-requires : goal.put-requires
put-requires c =
    let l = ap length (text_is c.args.rows.now.names.now (text_in c.args.rows.now.query.now) c.args.test c.in-Text.is) in
    let r = c.requires.room in
    omega arith

pub put-requires-in-Node : goal.put-requires-in-Node
put-requires-in-Node c =
    let l = ap length (node_is c.args.rows.now.names.now (text_in c.args.rows.now.query.now) c.args.test c.in-Node.is) in
    let r = c.requires.room in
    omega arith

pub put_named-requires : goal.put_named-requires
put_named-requires c =
    let l = ap length (name_is c.args.rows.now.names.now (text_in c.args.rows.now.query.now) c.args.test c.in-Name.from c.in-Name.len c.in-Name.is) in
    let r = c.requires.room in
    omega arith

pub returns-in-Element : goal.returns-in-Element
returns-in-Element c = puts_as (element_is c.args.rows.now.names.now (text_in c.args.rows.now.query.now) c.args.test c.in-Element.is) c.put_element.ensures

pub returns-in-Text : goal.returns-in-Text
returns-in-Text c = puts_as (text_is c.args.rows.now.names.now (text_in c.args.rows.now.query.now) c.args.test c.in-Text.is) c.put.ensures

pub returns-in-Node : goal.returns-in-Node
returns-in-Node c = puts_as (node_is c.args.rows.now.names.now (text_in c.args.rows.now.query.now) c.args.test c.in-Node.is) c.put-in-Node.ensures

pub returns-in-Name : goal.returns-in-Name
returns-in-Name c =
    let q = c.args.rows.now.query.now in
    let g = name_good c.args.rows.now.names.now (text_in q) c.args.test c.in-Name.from c.in-Name.len c.in-Name.is c.requires.good in
    let w : c.part.result.now ≡ take c.in-Name.len (drop c.in-Name.from (text_in q)) = c.part.ensures ∙ part_of_front c.in-Name.from c.in-Name.len q.len q.text g in
    let e = c.label_of-label.ensures.looked ∙ ap (label_of c.args.rows.now.names.now) w in
    puts_as (ap (λ x. 0x10 ∷ 2 ∷ 0x11 ∷ x / 256 ∷ x % 256 ∷ 0x18 ∷ []) e ∙ name_is c.args.rows.now.names.now (text_in q) c.args.test c.in-Name.from c.in-Name.len c.in-Name.is) c.put_named.ensures
