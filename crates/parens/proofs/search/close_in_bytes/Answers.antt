use Rattle.std.proofs.Common.{◌≡◌, ℕ, ◌+◌, ◌-◌, ◌*◌, ◌<◌, ◌≤◌, get_or, take, drop, ℤ, pos, ◌+ℤ◌, ◌≤ℤ◌, nat_abs, sym, ap, subst, ◌∙◌, arith, rules, w8, w32, to_z, of_z}
use Rattle.std.proofs.lemmas.Int.{ints}
use Rattle.excess.specs.Excess.{total_of, least_of}
use Rattle.shape.specs.Bits.{bits_of, close}
use Rattle.shape.proofs.Steps.{close_byte, byte_least, byte_openings, byte_few}
use Rattle.parens.specs.Search.{Closes}
use Rattle.parens.proofs.Facts.{part_length, part_at}
use Rattle.parens.proofs.search.close_in_bytes.Goals as goal
use Rattle.parens.proofs.search.close_in_bytes.Goals.{then-here-least-lt0+in_ok-excess, else-here-least-lt0}

-- a byte opens 8 nodes at most
grown : (b e f : ℕ) → pos f ≡ pos e +ℤ total_of b → f ≤ e + 8
grown b e f h = let o = byte_openings b in let few = byte_few b in omega (arith, ints)

-- the excess f after a byte over which it stays 0 or more: the sum has not wrapped
summed : (b e f : ℕ) (r : ℤ) → e ≤ 16384 → r ≡ total_of b → pos 0 ≤ℤ (pos e +ℤ least_of b) →
    f ≡ nat_abs (to_z w32 (of_z w32 (to_z w32 e +ℤ to_z w32 (of_z w32 (to_z w8 (of_z w8 r)))))) → pos f ≡ pos e +ℤ total_of b
summed b e f r small is low h =
    let l = byte_least b in
    let o = byte_openings b in
    let few = byte_few b in
    omega (arith, ints)

pub overflow_cast-excess-else-here-least-lt0 : goal.overflow_cast-excess-else-here-least-lt0
overflow_cast-excess-else-here-least-lt0 c =
    let h = c.loop-i.invariant.1 in
    let long = part_length c.args.bits.now c.args.from c.args.to c.requires.order c.requires.within in
    let l = byte_least (get_or (take (c.args.to - c.args.from) (drop c.args.from c.args.bits.now)) c.loop-i.i 0) in
    let low = c.if-here-least-lt0.false in
    let a = c.least.ensures in
    let b = c.total.ensures in
    search (rules, ints)

pub loop-i-preserved : goal.loop-i-preserved
loop-i-preserved c =
    let xs = c.args.bits.now in
    let from = c.args.from in
    let to = c.args.to in
    let i = from + c.loop-i.i in
    let b = get_or (take (to - from) (drop from xs)) c.loop-i.i 0 in
    let e = c.loop-i.excess in
    let h = c.loop-i.invariant.1 in
    let long = part_length xs from to c.requires.order c.requires.within in
    let next : i + 1 ≡ from + (c.loop-i.i + 1) = omega arith in
    let at = λ (x p : ℕ). 8 * p + close x (drop (8 * p) (bits_of xs)) in
    elim c.if-here-least-lt0.branch [
      | then-here-least-lt0+in_ok-excess w ↦
          let k = w.in_ok-excess.ensures in
          let z : 8 * i + 8 ≡ 8 * (from + (c.loop-i.i + 1)) = omega arith in (
            c.loop-i.invariant.0 ∙ k.0 ∙ ap (λ (p : ℕ). p + close w.in_ok-excess.excess (drop p (bits_of xs))) z ∙ ap (λ (x : ℕ). at x (from + (c.loop-i.i + 1))) (sym w.excess-is),
            omega (arith, k.1, w.excess-is),
          )
      | else-here-least-lt0 w ↦
          let f = c.if-here-least-lt0.excess in
          let l = byte_least b in
          let low : pos 0 ≤ℤ (pos e +ℤ least_of b) = omega (arith, ints, c.least.ensures, w.if-here-least-lt0.false) in
          let small : e ≤ 16384 = omega arith in
          let new = summed b e f w.total.result (omega arith) w.total.ensures low w.excess-is in
          let here : c.loop-i.i < to - from = omega (arith, c.loop-i-test.true) in
          let is = part_at xs from to c.loop-i.i here in (
            c.loop-i.invariant.0 ∙ close_byte xs i e f (omega arith) (subst (λ (x : ℕ). pos 0 ≤ℤ (pos e +ℤ least_of x)) is low) (new ∙ ap (λ (x : ℕ). pos e +ℤ total_of x) is) ∙ ap (at f) next,
            omega (arith, grown b e f new),
          )
    ]
