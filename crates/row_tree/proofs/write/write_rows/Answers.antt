use Rattle.std.proofs.Common.{◌≡◌, ℕ, List, ◌++◌, length, get_or, take, drop, set, Ok, sym, ap, ◌∙◌, subst, add-one, arith}
use Rattle.std.proofs.lemmas.List.{take_all}
use Rattle.std.proofs.lemmas.Bool.{cond-false, le-ltb}
use Rattle.rows.specs.Rows.{count_of}
use Rattle.stored.specs.declared.row.StoredRow.{StoredRow}
use Rattle.stored.specs.Stored.{blank, stored_of, rows_of, OfTree}
use Rattle.stored.proofs.Kept.{stored_length, stored_read}
use Rattle.row_tree.proofs.Written.{fill_more, fill_read, reloads}
use Rattle.row_tree.proofs.write.write_rows.Goals as goal

pub row_of-row-requires : goal.row_of-row-requires
row_of-row-requires g c =
    let t = g.T.Tree.rows c.args.tree.now in
    let n = stored_length t in
    record {
      within = omega arith;
      room = omega arith;
      known = λ j lt.
          ap (λ (l : List StoredRow). get_or l j blank) c.loop-v.invariant ∙ fill_read (stored_of t) c.args.out.now c.loop-v.v j blank (omega arith) lt ∙ stored_read t j (omega arith);
    }

pub loop-v-preserved : goal.loop-v-preserved
loop-v-preserved g c =
    let t = g.T.Tree.rows c.args.tree.now in
    let n = stored_length t in
    let v = c.loop-v.v in
    let same : c.row_of-row.result ≡ get_or (stored_of t) v blank = c.row_of-row.ensures ∙ sym (stored_read t v (omega arith)) in
    ap (λ (l : List StoredRow). set l v c.row_of-row.result) c.loop-v.invariant ∙ ap (set (take v (stored_of t) ++ drop v c.args.out.now) v) same
    ∙ fill_more (stored_of t) c.args.out.now v blank (omega arith) (omega arith) ∙ ap (λ (k : ℕ). take k (stored_of t) ++ drop k c.args.out.now) (sym (add-one v))

pub returns : goal.returns
returns g c =
    let t = g.T.Tree.rows c.args.tree.now in
    let out = c.args.out.now in
    let e = c.count-n.ensures in
    let n = stored_length t in
    let room = le-ltb (length out) (count_of t) (omega arith) in
    let v : c.loop-v.v ≡ count_of t = omega arith in
    let filled : c.loop-v.out ≡ stored_of t ++ drop (count_of t) out =
    c.loop-v.invariant ∙ ap (λ (k : ℕ). take k (stored_of t) ++ drop k out) v ∙ ap (λ (l : List StoredRow). l ++ drop (count_of t) out) (take_all (count_of t) (stored_of t) (omega arith)) in
    record {
      answers = ap Ok e ∙ sym (cond-false _ _ _ room);
      leaves = filled ∙ sym (cond-false _ _ _ room);
      reloads = subst (λ k. OfTree (take k c.loop-v.out) × (rows_of (take k c.loop-v.out) ≡ t)) (sym e) (reloads t c.loop-v.out (drop (count_of t) out) (g.T.Tree.lawful c.args.tree.now) filled);
    }
