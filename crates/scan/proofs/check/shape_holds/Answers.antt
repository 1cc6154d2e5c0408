use Rattle.std.proofs.Common.{◌≡◌, ℕ, ◌+◌, ◌-◌, ◌<◌, ◌≤◌, Bool, ◌&&◌, eqb, List, [], ◌∷◌, length, get_or, take, drop, sym, ap, ◌∙◌, arith, take_all}
use Rattle.std.proofs.lemmas.Bool.{and_left, eq-eqb, ne_eqb}
use Rattle.shape.specs.Bits.{bits_of}
use Rattle.shape.specs.Walk.{walk, walk_all}
use Rattle.shape.proofs.Bytes.{bits_length}
use Rattle.shape.proofs.Lawful.{walk_on, walk_closed, walk_ended, walk_same}
use Rattle.scan.proofs.check.shape_holds.Goals as goal
use Rattle.scan.proofs.check.shape_holds.Goals.{then-opens+in-len1-up+else-not-may_follow, else-opens}

-- a list by its first element and the rest
parted : (ls : List ℕ) → 1 ≤ length ls → ls ≡ get_or ls 0 0 ∷ take (length ls - 1) (drop 1 ls)
parted [] h = absurd (omega arith)
parted (l ∷ ls) h = ap (λ t. l ∷ t) (sym (take_all (length (l ∷ ls) - 1) ls (omega arith)))

pub loop-p-preserved : goal.loop-p-preserved
loop-p-preserved c =
    let bs = bits_of c.args.bits.now in
    let ls = c.loop-p.left.now in
    let k = c.loop-p.depth in
    let m = c.loop-p.deepest in
    let p = c.loop-p.p in
    let within : p < length bs = omega (arith, bits_length c.args.bits.now) in
    let low = c.loop-p.invariant.1 in
    elim c.if-opens.branch [
      | then-opens+in-len1-up+else-not-may_follow w ↦ (
        walk_same _ _ _ _ _ _ (drop (p + 1) bs) w.depth-is (w.deepest-is ∙ w.reach-deepest.ensures) (ap (λ (r : _). r.now) w.left-is)
            ∙ sym (ap (walk k m (drop p bs)) (parted ls w.in-len1-up.len_at_least)
            ∙ walk_on k m bs _ _ p within (sym c.opens-in-loop-p.ensures ∙ w.if-opens.true) (sym w.may_follow.ensures ∙ w.if-not-may_follow.false))
            ∙ c.loop-p.invariant.0,
        omega (arith, w.depth-is),
      )
      | else-opens w ↦ (
        walk_same _ _ _ _ _ _ (drop (p + 1) bs) (w.depth-is ∙ w.saturating_sub-depth.ensures) w.deepest-is (ap (λ (r : _). r.now) w.left-is)
            ∙ sym (walk_closed k m bs ls p within (sym c.opens-in-loop-p.ensures ∙ w.if-opens.false)) ∙ c.loop-p.invariant.0,
        omega (arith, w.depth-is, w.saturating_sub-depth.ensures),
      )
    ]

-- the walk is over
ended : (bs : List Bool) (ls left : List ℕ) (k m p : ℕ) → length bs ≤ p → walk k m (drop p bs) left ≡ walk_all bs ls → (eqb k 0 && eqb (length left) 0) ≡ walk_all bs ls
ended bs ls left k m p h e = sym (walk_ended k m bs left p h) ∙ e

pub returns-then-depth-eq0 : goal.returns-then-depth-eq0
returns-then-depth-eq0 c =
    let left = c.loop-p.left.now in
    let e = ended (bits_of c.args.bits.now) c.args.labels.now left c.loop-p.depth c.loop-p.deepest c.loop-p.p (omega (arith, bits_length c.args.bits.now)) c.loop-p.invariant.0 in
    c.is_empty.ensures ∙ sym (ap (λ (x : Bool). x && eqb (length left) 0) (eq-eqb c.loop-p.depth 0 c.if-depth-eq0.true)) ∙ e

pub returns-else-depth-eq0 : goal.returns-else-depth-eq0
returns-else-depth-eq0 c =
    let left = c.loop-p.left.now in
    let e = ended (bits_of c.args.bits.now) c.args.labels.now left c.loop-p.depth c.loop-p.deepest c.loop-p.p (omega (arith, bits_length c.args.bits.now)) c.loop-p.invariant.0 in
    let z = ne_eqb c.loop-p.depth 0 c.if-depth-eq0.false in
    z ∙ sym (and_left _ (eqb (length left) 0) z) ∙ e
