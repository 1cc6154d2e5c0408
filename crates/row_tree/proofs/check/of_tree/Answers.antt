use Rattle.std.proofs.Common.{◌≡◌, ℕ, true, false, ◌&&◌, eqb, length, sym, ◌∙◌, arith}
use Rattle.std.proofs.lemmas.Bool.{and_parts, and_from, eqb-true, eq-eqb}
use Rattle.std.proofs.lemmas.Bool.Decides.{not_from_Decides}
use Rattle.stored.specs.Stored.{at, OfTree}
use Rattle.stored.proofs.Passed.{pass_decides}
use Rattle.row_tree.proofs.Decided.{refuted, confirmed}
use Rattle.row_tree.proofs.check.of_tree.Goals as goal
use Rattle.row_tree.proofs.check.of_tree.Goals.{then-n-eq0-via-then-n-eq0, then-n-eq0-via-else-n-eq0+then-n-gt8192, then-n-eq0-via-else-n-eq0+else-n-gt8192+then-not-is_root}

pub returns-then-n-eq0 : goal.returns-then-n-eq0
returns-then-n-eq0 c =
    refuted (OfTree c.args.rows.now)
    (λ t. let f = (pass_decides c.args.rows.now).1 t in
    elim c.then-n-eq0.branch [
      | then-n-eq0-via-then-n-eq0 w ↦ omega (arith, w.if-n-eq0.true, f.some)
      | then-n-eq0-via-else-n-eq0+then-n-gt8192 w ↦ omega (arith, w.if-n-gt8192.true, f.few)
      | then-n-eq0-via-else-n-eq0+else-n-gt8192+then-not-is_root w ↦
          let r = and_from _ _ (and_from _ _ (eq-eqb _ _ f.root_label) (eq-eqb _ _ f.root_distance)) (eq-eqb _ _ f.root_size) in
          let e : false ≡ true = sym w.if-not-is_root.true ∙ w.is_root.ensures ∙ r in
          let z : ◌≡◌ {A = ℕ} 0 1 = cc in
          omega arith
    ])

pub returns-then-not-fits : goal.returns-then-not-fits
returns-then-not-fits c =
    refuted (OfTree c.args.rows.now)
    (λ t. let f = (pass_decides c.args.rows.now).1 t in
    not_from_Decides _ c.fits.ensures c.if-not-fits.true (f.fits c.loop-v.v (omega arith) c.loop-v-test.true))

pub returns : goal.returns
returns c =
    let es = c.args.rows.now in
    let r = sym c.is_root.ensures ∙ c.if-not-is_root.false in
    let h = and_parts (eqb (at es 0).label 0 && eqb (at es 0).distance 0) (eqb (at es 0).size (length es)) r in
    let k = and_parts (eqb (at es 0).label 0) (eqb (at es 0).distance 0) h.0 in
    confirmed (OfTree es)
    ((pass_decides es).0 (record {
      some = omega arith;
      few = omega arith;
      root_label = eqb-true _ _ k.0;
      root_distance = eqb-true _ _ k.1;
      root_size = eqb-true _ _ h.1;
      fits = λ v z b. c.loop-v.invariant v z (omega arith);
    }))
