-- Buffers are those of a tree exactly where the walk over them ends well and the directory is theirs.
use Rattle.std.proofs.Common.{◌≡◌, ℕ, ◌-◌, ◌*◌, ◌≤◌, Bool, true, List, [], length, sym, ap, ◌∙◌, subst, arith}
use Rattle.std.proofs.lemmas.List.{length-map}
use Rattle.rows.specs.Rows.{Row, Lawful}
use Rattle.rows.proofs.Laws.{to_lawful, of_lawful}
use Rattle.shape.specs.Bits.{bits_of}
use Rattle.shape.specs.Shape.{closing, parens_onto, rows_from}
use Rattle.shape.specs.Walk.{walk_all}
use Rattle.shape.proofs.Bytes.{bits_length}
use Rattle.shape.proofs.Lawful.{walk_sound, walk_complete, rows_back, parens_length, closing_length}
use Rattle.shape.proofs.Answers.{lawful_stepped}
use Rattle.scan.specs.Directory.{bytes, directory_of}
use Rattle.scan.specs.Trees.{rows_of, OfTree, RowsShown}
use Rattle.scan.specs.declared.block.Block.{Block}

pub tree_from : (xs ls : List ℕ) (ds : List Block) (n : ℕ) → length xs ≡ bytes n → length ls ≡ n → walk_all (bits_of xs) ls ≡ true → ds ≡ directory_of (bits_of xs) (2 * n) → OfTree xs ls ds n
tree_from xs ls ds n long labels w d =
    let s = walk_sound (bits_of xs) ls w in
    let spare : length (bits_of xs) - 2 * length ls ≡ 8 * length xs - 2 * n = omega (arith, bits_length xs) in
    record {
      lawful = to_lawful (rows_of xs ls) s.law;
      count = s.count ∙ labels;
      each_label = labels;
      each_byte = long;
      shape = s.is ∙ ap (λ (k : ℕ). parens_onto 0 (rows_of xs ls) (closing k [])) spare;
      blocks = d;
    }

pub tree_walks : (xs ls : List ℕ) (ds : List Block) (n : ℕ) → OfTree xs ls ds n → walk_all (bits_of xs) ls ≡ true
tree_walks xs ls ds n t = walk_complete (bits_of xs) ls (8 * length xs - 2 * n) (record { law = of_lawful (rows_of xs ls) t.lawful; count = t.count ∙ sym t.each_label; is = t.shape })

pub tree_few : (xs ls : List ℕ) (ds : List Block) (n : ℕ) → OfTree xs ls ds n → n ≤ 8192
tree_few xs ls ds n t = omega (arith, t.lawful.few, t.count)

-- the buffers of lawful rows are of a tree, and show these rows
pub tree_of_rows : RowsShown
tree_of_rows rs xs ls ds n s law count long is labels d =
    let st = lawful_stepped rs (of_lawful rs law) in
    let back : rows_of xs ls ≡ rs = ap (λ (b : List Bool). rows_from 0 b ls) is ∙ ap (rows_from 0 (parens_onto 0 rs (closing s []))) labels ∙ rows_back 0 s rs st in
    let many : length ls ≡ n = ap length labels ∙ length-map rs (λ (r : Row). r.label) ∙ count in
    let spare : s ≡ 8 * length xs - 2 * n = omega (arith, ap length is, parens_length 0 rs (closing s []) st, closing_length s [], bits_length xs) in (
      back,
      record {
        lawful = subst Lawful (sym back) law;
        count = ap length back ∙ count;
        each_label = many;
        each_byte = long;
        shape = is ∙ ap (λ (k : ℕ). parens_onto 0 rs (closing k [])) spare ∙ sym (ap (λ (q : List Row). parens_onto 0 q (closing (8 * length xs - 2 * n) [])) back);
        blocks = d;
      },
    )
