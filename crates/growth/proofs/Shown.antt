-- What the memory of a sealed feed shows.
use Rattle.std.proofs.Common.{◌≡◌, ℕ, zero, suc, ◌+◌, ◌-◌, ◌*◌, ◌≤◌, Bool, false, ◌||◌, ltb, List, [], ◌∷◌, ◌++◌, length, take, drop, sym, refl, ap, ◌∙◌, arith, length-append, length-take}
use lib.ListN.{length-map}
use Rattle.std.proofs.lemmas.Bool.Decides.{nat_tests}
use Rattle.std.proofs.lemmas.Bool.{cond-false}
use Rattle.std.proofs.lemmas.List.{take_at}
use Rattle.rows.specs.Rows.{Row}
use Rattle.rows.proofs.Laws.{to_lawful}
use Rattle.excess.specs.Excess.{bits}
use Rattle.shape.specs.Bits.{bits_of}
use Rattle.shape.specs.Shape.{closing, parens_onto, labels_of}
use Rattle.shape.proofs.Bytes.{bits_length, bits_take}
use Rattle.shape.proofs.Lawful.{closing_length}
use Rattle.scan.specs.Directory.{blocks, bytes, directory_of}
use Rattle.scan.specs.Filling.{short, filled}
use Rattle.scan.proofs.Blocks.{directory_length}
use Rattle.parens.proofs.Decided.{tree_of_rows}
use Rattle.growth.specs.Steps.{cleared}
use Rattle.growth.specs.Claims.{SealedShows}
use Rattle.growth.proofs.Growth.{then_due}

cleared_long : (bs : List Bool) (p q : ℕ) → p ≤ q → p ≤ length bs → q ≤ length (cleared bs p q)
cleared_long bs p q h k =
    let a = length-append (take p bs) (closing (q - p) (drop q bs)) in
    let b = length-take p bs in
    let c = closing_length (q - p) (drop q bs) in
    omega arith

closing_front : (n : ℕ) (t : List Bool) → closing n t ≡ closing n [] ++ t
closing_front zero t = refl
closing_front (suc n) t = ap (λ (l : List Bool). false ∷ l) (closing_front n t)

-- up to the place where clearing ends
cleared_front : (bs : List Bool) (p q : ℕ) → p ≤ q → p ≤ length bs → take q (cleared bs p q) ≡ take p bs ++ closing (q - p) []
cleared_front bs zero q h k =
    let z : q - 0 ≡ q = omega arith in
    ap (take q) (closing_front (q - 0) (drop q bs)) ∙ take_at (closing (q - 0) []) (drop q bs) q (closing_length (q - 0) [] ∙ omega arith)
cleared_front [] (suc p) q h k = absurd (omega arith)
cleared_front (b ∷ bs) (suc p) zero h k = absurd (omega arith)
cleared_front (b ∷ bs) (suc p) (suc q) h k =
    let z : suc q - suc p ≡ q - p = omega arith in
    ap (λ (n : ℕ). b ∷ take q (take p bs ++ closing n (drop q bs))) z ∙ ap (λ (l : List Bool). b ∷ l) (cleared_front bs p q (omega arith) (omega arith))
    ∙ ap (λ (n : ℕ). b ∷ (take p bs ++ closing n [])) (sym z)

closing_split : (n s : ℕ) → n ≡ suc s → closing n [] ≡ closing 1 (closing s [])
closing_split n s e = ap (λ (k : ℕ). closing k []) e

pub sealed_shows : SealedShows
sealed_shows rs f new directory h ok is =
    let n = f.nodes in
    let m = 8 * bytes n in
    let s = m - f.written - 1 in
    let paired : f.written + f.due ≡ 2 * n = h.paired in
    let open-one : 1 ≤ f.due = h.root_open in
    let wide : f.written + f.due ≤ length f.bits = grind (arith, nat_tests) in
    let made : blocks (2 * n) ≤ length directory = grind (arith, nat_tests) in
    let one : f.due ≤ 1 = grind (arith, nat_tests) in
    let exactly : 1 ≡ f.due = omega arith in
    let long-new = bits_length new in
    let inside : f.written ≤ length f.bits = omega arith in
    let before : f.written ≤ m = omega arith in
    let fits : bytes n ≤ length new = omega (arith, ap length is, cleared_long f.bits f.written m before inside) in
    let counted : n ≡ length rs = h.count in
    let each : take n f.labels ≡ labels_of rs = h.each_label in
    let some : n ≤ length f.labels = omega (arith, ap length each, length-take n f.labels, length-map rs (λ (r : Row). r.label)) in
    let front = take (bytes n) new in
    let bit-front : bits_of front ≡ parens_onto 0 rs (closing s []) =
    bits_take new (bytes n) ∙ ap (take m) is ∙ cleared_front f.bits f.written m before inside
    ∙ ap (λ (l : List Bool). take f.written f.bits ++ l) (closing_split (m - f.written) s (omega arith))
    ∙ ap (λ (k : ℕ). take f.written f.bits ++ closing k (closing s [])) exactly
    ∙ then_due rs f (closing s []) h in
    let few : n ≤ 8192 = omega (arith, (to_lawful rs h.lawful).few) in
    let whole : (short new n directory || ltb 8192 n) ≡ false = grind (arith, nat_tests) in
    let dir = filled new n directory in
    let dir-is : dir ≡ directory_of (bits_of front) (2 * n) ++ drop (blocks (2 * n)) directory = cond-false _ _ _ whole in
    let blocked : length (directory_of (bits_of front) (2 * n)) ≡ blocks (2 * n) = directory_length (bits_of front) (2 * n) in
    let dir-front : take (blocks (2 * n)) dir ≡ directory_of (bits_of front) (2 * n) =
    ap (take (blocks (2 * n))) dir-is ∙ take_at (directory_of (bits_of front) (2 * n)) (drop (blocks (2 * n)) directory) (blocks (2 * n)) blocked in
    let dir-long : blocks (2 * n) ≤ length dir =
    omega (arith, ap length dir-is, length-append (directory_of (bits_of front) (2 * n)) (drop (blocks (2 * n)) directory)) in
    let tree = tree_of_rows rs front (take n f.labels) (take (blocks (2 * n)) dir) n s (to_lawful rs h.lawful) (sym counted) (length-take (bytes n) new ∙ omega arith) bit-front each dir-front in
    ((fits, some, dir-long), tree.1, tree.0)
