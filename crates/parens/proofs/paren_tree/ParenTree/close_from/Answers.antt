use Rattle.std.proofs.Common.{◌≡◌, ℕ, ◌+◌, ◌*◌, min, length, drop, sym, ap, subst, ◌∙◌, arith, rules}
use Rattle.shape.specs.Bits.{bits_of, close}
use Rattle.shape.proofs.Bytes.{bits_length}
use Rattle.parens.specs.Search.{Closes}
use Rattle.parens.proofs.Facts.{directory_long, bytes_few}
use Rattle.parens.proofs.paren_tree.ParenTree.close_from.Goals as goal
use Rattle.parens.proofs.paren_tree.ParenTree.close_from.Goals.{in_default+in_ok-excess-2, in-Some}

pub overflow_mul-j : goal.overflow_mul-j
overflow_mul-j c = let t = c.args.self.now in let d = directory_long t in let f = t.few in search rules

pub overflow_mul-j-in_default : goal.overflow_mul-j-in_default
overflow_mul-j-in_default c = let t = c.args.self.now in let d = directory_long t in let f = t.few in search rules

pub overflow_add-j : goal.overflow_add-j
overflow_add-j c = let t = c.args.self.now in let d = directory_long t in let f = t.few in search rules

pub close_in_bytes-requires-in_default : goal.close_in_bytes-requires-in_default
close_in_bytes-requires-in_default c =
    let t = c.args.self.now in
    let d = directory_long t in
    let p = t.padded in
    let m = c.min-in_default.ensures in
    record { order = omega arith; within = omega arith; few = bytes_few t; low = omega (arith, c.loop-j.invariant.1) }

pub returns-in_err-excess-2 : goal.returns-in_err-excess-2
returns-in_err-excess-2 c =
    let t = c.args.self.now in
    let bs = bits_of t.bits.now in
    let j = c.loop-j.j in
    let z : min (length t.bits.now) (32 * j) ≡ 32 * j = omega (arith, directory_long t, t.padded, c.loop-j-test.true) in
    subst (Closes bs c.args.from 0 (8 * length t.bits.now)) (sym c.from_residual-in_err-excess-2.ensures) (c.loop-j.invariant.0 ∙ ap (λ (n : ℕ). 8 * n + close c.loop-j.excess (drop (8 * n) bs)) z ∙ c.in_err-excess-2.ensures)

pub loop-j-preserved : goal.loop-j-preserved
loop-j-preserved c =
    let t = c.args.self.now in
    let bs = bits_of t.bits.now in
    let j = c.loop-j.j in
    let len = length t.bits.now in
    let z : min len (32 * j) ≡ 32 * j = omega (arith, directory_long t, t.padded, c.loop-j-test.true) in
    let at = λ (x : ℕ). 8 * min len (32 * (j + 1)) + close x (drop (8 * min len (32 * (j + 1))) bs) in
    let from = λ (n x : ℕ). n + close x (drop n bs) in
    let here = c.loop-j.invariant.0 ∙ ap (λ (n : ℕ). from (8 * n) c.loop-j.excess) z in
    elim c.match-skip.branch [
      | in-Some w ↦
          let k = w.in-Some.ensures in
          let start : 8 * (32 * j) ≡ 256 * j = omega arith in
          let to : 256 * j + 256 ≡ 8 * min len (32 * (j + 1)) = omega (arith, k.2, bits_length t.bits.now) in (
            here ∙ ap (λ (n : ℕ). from n c.loop-j.excess) start ∙ k.0 ∙ ap (λ (n : ℕ). from n w.in-Some.after) to ∙ ap at (sym w.excess-is),
            omega (arith, k.1, to, w.excess-is),
          )
      | in_default+in_ok-excess-2 w ↦
          let k = w.in_ok-excess-2.ensures in
          let to : w.min-in_default.result ≡ min len (32 * (j + 1)) = omega (arith, w.min-in_default.ensures) in (
            here ∙ k.0 ∙ ap (λ (n : ℕ). from (8 * n) w.in_ok-excess-2.excess) to ∙ ap at (sym w.excess-is),
            omega (arith, k.1, to, w.excess-is),
          )
    ]

pub returns : goal.returns
returns c =
    let t = c.args.self.now in
    let bs = bits_of t.bits.now in
    let len = length t.bits.now in
    let z : min len (32 * c.loop-j.j) ≡ len = omega (arith, directory_long t, t.padded, c.loop-j-test.false) in
    (c.loop-j.invariant.0 ∙ ap (λ (n : ℕ). 8 * n + close c.loop-j.excess (drop (8 * n) bs)) z, omega (arith, c.loop-j.invariant.1))
