use Rattle.std.proofs.Common.{◌≡◌, ℕ, ◌+◌, ◌<◌, length, drop, sym, refl, ap, ◌∙◌, arith}
use Rattle.shape.specs.Bits.{bits_of, select}
use Rattle.shape.proofs.Bytes.{bits_length}
use Rattle.shape.proofs.Steps.{select_found, select_opened, select_closed}
use Rattle.parens.proofs.search.open_in_bits.Goals as goal
use Rattle.parens.proofs.search.open_in_bits.Goals.{then-opens+else-left-eq0, else-opens}

pub loop-p-preserved : goal.loop-p-preserved
loop-p-preserved c =
    let xs = c.args.bits.now in
    let p = c.loop-p.p in
    let in-range : p < length (bits_of xs) = omega (arith, bits_length xs) in
    let to = λ (n : ℕ). p + 1 + select n (drop (p + 1) (bits_of xs)) in
    elim c.if-opens.branch [
      | then-opens+else-left-eq0 w ↦ c.loop-p.invariant ∙ select_opened (bits_of xs) p c.loop-p.left in-range (sym c.opens.ensures ∙ w.if-opens.true) w.if-left-eq0.false ∙ ap to (sym w.left-is)
      | else-opens w ↦ c.loop-p.invariant ∙ select_closed (bits_of xs) p c.loop-p.left in-range (sym c.opens.ensures ∙ w.if-opens.false) ∙ ap to (sym w.left-is)
    ]
