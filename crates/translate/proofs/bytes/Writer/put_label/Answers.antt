use Rattle.std.proofs.Common.{◌≡◌, ℕ, ◌/◌, ◌%◌, List, get_or, ap, arith}
use Rattle.translate.proofs.Writing.{puts_more}
use Rattle.translate.proofs.bytes.Writer.put_label.Goals as goal

pub returns : goal.returns
returns c =
    let high : get_or c.to_be_bytes.result 0 0 ≡ c.args.label / 256 = omega (arith, ap (λ (bs : List ℕ). get_or bs 0 0) c.to_be_bytes.ensures) in
    let low : get_or c.to_be_bytes.result 1 0 ≡ c.args.label % 256 = omega (arith, ap (λ (bs : List ℕ). get_or bs 1 0) c.to_be_bytes.ensures) in
    rw (← high, ← low) (puts_more c.put_byte.ensures c.put_operand.ensures)
