use Rattle.std.proofs.Common.{◌≡◌, ℕ, ◌+◌, ◌<◌, length, drop, sym, refl, ap, ◌∙◌, arith, rules}
use Rattle.shape.specs.Bits.{bits_of, close}
use Rattle.shape.proofs.Bytes.{bits_length}
use Rattle.shape.proofs.Steps.{close_found, close_opened, close_closed}
use Rattle.parens.proofs.search.close_in_bits.Goals as goal
use Rattle.parens.proofs.search.close_in_bits.Goals.{then-opens, else-opens+else-excess-eq0}

pub loop-p-preserved : goal.loop-p-preserved
loop-p-preserved c =
    let xs = c.args.bits.now in
    let p = c.loop-p.p in
    let in-range : p < length (bits_of xs) = omega (arith, bits_length xs) in
    let to = λ (n : ℕ). p + 1 + close n (drop (p + 1) (bits_of xs)) in
    let low = c.loop-p.invariant.1 in
    elim c.if-opens.branch [
      | then-opens w ↦ (c.loop-p.invariant.0 ∙ close_opened (bits_of xs) p c.loop-p.excess in-range (sym c.opens.ensures ∙ w.if-opens.true) ∙ ap to (sym w.excess-is), omega (arith, w.excess-is))
      | else-opens+else-excess-eq0 w ↦ (c.loop-p.invariant.0 ∙ close_closed (bits_of xs) p c.loop-p.excess in-range (sym c.opens.ensures ∙ w.if-opens.false) w.if-excess-eq0.false ∙ ap to (sym w.excess-is), omega (arith, w.excess-is))
    ]
