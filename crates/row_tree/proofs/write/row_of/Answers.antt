use Rattle.std.proofs.Common.{◌≡◌, ℕ, refl, sym, ap, ◌∙◌, subst, arith, rules}
use Rattle.stored.specs.declared.row.StoredRow.{StoredRow}
use Rattle.stored.specs.Stored.{stored, distance_of}
use Rattle.row_tree.proofs.Written.{size_fits, fits_known, root_known, parent_known}
use Rattle.row_tree.proofs.write.row_of.Goals as goal
use Rattle.row_tree.proofs.write.row_of.Goals.{then-v-eq0, else-v-eq0}

pub parent-requires-clause-root : goal.parent-requires-clause-root
parent-requires-clause-root g c =
    root_known (g.T.Tree.rows c.args.tree.now) (g.T.Tree.lawful c.args.tree.now) c.args.v c.requires.within c.args.out.now c.requires.known (omega arith)

pub parent-requires-clause-earlier : goal.parent-requires-clause-earlier
parent-requires-clause-earlier g c =
    fits_known (g.T.Tree.rows c.args.tree.now) (g.T.Tree.lawful c.args.tree.now) c.args.v c.requires.within c.args.out.now c.requires.known

pub overflow_cast-result-2 : goal.overflow_cast-result-2
overflow_cast-result-2 g c =
    let f = size_fits (g.T.Tree.rows c.args.tree.now) c.args.v (g.T.Tree.lawful c.args.tree.now) c.requires.within in
    search rules

same_row : (a b d e f h : ℕ) → a ≡ b → d ≡ e → f ≡ h → ◌≡◌ {A = StoredRow} (stored a d f) (stored b e h)
same_row a b d e f h x y z = ap (λ (n : ℕ). stored n d f) x ∙ ap (λ (n : ℕ). stored b n f) y ∙ ap (stored b e) z

pub returns : goal.returns
returns g c =
    let t = g.T.Tree.rows c.args.tree.now in
    let v = c.args.v in
    let distance : c.if-v-eq0.distance ≡ distance_of t v =
    elim c.if-v-eq0.branch [
      | then-v-eq0 w ↦ w.distance-is ∙ subst (λ (n : ℕ). 0 ≡ distance_of t n) (sym w.if-v-eq0.true) refl
      | else-v-eq0 w ↦ let p = parent_known t (g.T.Tree.lawful c.args.tree.now) v c.requires.within c.args.out.now c.requires.known w.parent.result w.parent.ensures.before w.parent.ensures.goes_on w.parent.ensures.ended in omega (arith, w.distance-is)
    ] in
    same_row _ _ _ _ _ _ c.label.ensures distance c.size.ensures
