-- Buffers load exactly where they hold a tree.
use Rattle.std.proofs.Common.{◌≡◌, ℕ, ◌-◌, ◌*◌, ◌≤◌, Bool, List, [], ◌++◌, length, take, sym, refl, ap, ◌∙◌, arith, length-append, length-take}
use Rattle.std.proofs.lemmas.List.{length-map, take_all}
use Rattle.rows.specs.Rows.{Row, Lawful}
use Rattle.rows.proofs.Laws.{of_lawful}
use Rattle.shape.specs.Bits.{bits_of}
use Rattle.shape.specs.Shape.{closing, parens, labels_of}
use Rattle.shape.specs.Packing.{packed}
use Rattle.shape.proofs.Answers.{lawful_stepped}
use Rattle.shape.proofs.Bytes.{bits_length}
use Rattle.shape.proofs.Lawful.{rows_labels, parens_length, parens_append, closing_length}
use Rattle.shape.proofs.Packed.{bits_packed, packed_length}
use Rattle.scan.specs.Directory.{blocks, bytes, directory_of}
use Rattle.scan.proofs.Blocks.{directory_length, directory_front}
use Rattle.scan.proofs.Decided.{tree_of_rows}
use Rattle.parens.specs.Loading.{shown, HeldLoads, LoadedHeld, TreesHeld}

two_each : (rs : List Row) → Lawful rs → length (parens rs) ≡ 2 * length rs
two_each rs law = parens_length 0 rs [] (lawful_stepped rs (of_lawful rs law)) ∙ omega arith

label_each : (rs : List Row) → length (labels_of rs) ≡ length rs
label_each rs = length-map rs (λ (r : Row). r.label)

pub held_loads : HeldLoads
held_loads rs bits labels directory n law h =
    let xs = take (bytes n) bits in
    let s = 8 * bytes n - 2 * n in
    let count = h.count in
    let each = two_each rs law in
    let all = ap length h.nested ∙ length-append (parens rs) (closing s []) in
    let spare = closing_length s [] in
    let long : length xs ≡ bytes n = omega (arith, bits_length xs) in
    let have-bits : bytes n ≤ length bits = omega (arith, length-take (bytes n) bits) in
    let have-labels : n ≤ length labels = omega (arith, length-take n labels, ap length h.labelled, label_each rs) in
    let have-blocks : blocks (2 * n) ≤ length directory = omega (arith, length-take (blocks (2 * n)) directory, ap length h.indexed, directory_length (parens rs) (2 * n)) in
    let nested = h.nested ∙ sym (parens_append 0 rs (closing s [])) in
    let indexed = h.indexed ∙ sym (ap (λ (b : List Bool). directory_of b (2 * n)) h.nested ∙ directory_front (parens rs) (closing s []) (2 * n) (omega arith)) in
    let t = tree_of_rows rs xs (take n labels) (take (blocks (2 * n)) directory) n s law count long nested h.labelled indexed in
    (((have-bits, have-labels, have-blocks), t.1), t.0)

pub loaded_held : LoadedHeld
loaded_held bits labels directory n l =
    let t = l.1 in
    let rs = shown bits labels n in
    let xs = take (bytes n) bits in
    let ls = take n labels in
    let count = t.count in
    let each = two_each rs t.lawful in
    let spare : 8 * length xs - 2 * n ≡ 8 * bytes n - 2 * n = omega (arith, t.each_byte) in
    let nested : bits_of xs ≡ parens rs ++ closing (8 * bytes n - 2 * n) [] = t.shape ∙ parens_append 0 rs (closing (8 * length xs - 2 * n) []) ∙ ap (λ (k : ℕ). parens rs ++ closing k []) spare in (
      t.lawful,
      record {
        count = count;
        nested = nested;
        labelled = sym (rows_labels 0 (bits_of xs) ls ∙ take_all (length rs) ls (omega (arith, t.each_label)));
        indexed = t.blocks ∙ ap (λ (b : List Bool). directory_of b (2 * n)) nested ∙ directory_front (parens rs) (closing (8 * bytes n - 2 * n) []) (2 * n) (omega arith);
      },
    )

pub trees_held : TreesHeld
trees_held rs law =
    let n = length rs in
    let bs = parens rs in
    let each = two_each rs law in
    let spare : 8 * bytes n - length bs ≡ 8 * bytes n - 2 * n = omega arith in
    record {
      count = refl;
      nested = ap bits_of (take_all (bytes n) (packed (bytes n) bs) (omega (arith, packed_length (bytes n) bs))) ∙ bits_packed (bytes n) bs (omega arith) ∙ ap (λ (k : ℕ). bs ++ closing k []) spare;
      labelled = take_all n (labels_of rs) (omega (arith, label_each rs));
      indexed = take_all (blocks (2 * n)) (directory_of bs (2 * n)) (omega (arith, directory_length bs (2 * n)));
    }
