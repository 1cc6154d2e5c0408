use Rattle.std.proofs.Common.{length, Some, sym, ap, ◌∙◌, arith, rules}
use Rattle.std.proofs.lemmas.Bool.{cond-true, lt-ltb}
use Rattle.scan.specs.Trees.{rows_of}
use Rattle.parens.proofs.Facts.{opening_below, places_at, bytes_few}
use Rattle.parens.proofs.paren_tree.ParenTree.pair.Goals as goal

pub overflow_add-opening : goal.overflow_add-opening
overflow_add-opening c =
    let t = c.args.self.now in
    let b = opening_below t c.args.v c.requires c.opening-opening.result c.opening-opening.ensures in
    let f = bytes_few t in
    search rules

pub closing-closing-requires : goal.closing-closing-requires
closing-closing-requires c =
    let b = opening_below c.args.self.now c.args.v c.requires c.opening-opening.result c.opening-opening.ensures in
    omega arith

pub returns : goal.returns
returns c =
    let t = c.args.self.now in
    let p = c.opening-opening.result in
    let q = c.closing-closing.result in
    record {
      opened = c.opening-opening.ensures;
      closed = c.closing-closing.ensures;
      placed = ap Some (places_at t c.args.v c.requires p c.opening-opening.ensures q c.closing-closing.ensures)
          ∙ sym (cond-true _ _ _ (lt-ltb c.args.v (length (rows_of t.bits.now t.labels.now)) (omega (arith, t.counted, c.requires))));
    }
