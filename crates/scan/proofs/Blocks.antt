-- What the directory tells a search.
use Rattle.std.proofs.Common.{◌≡◌, ℕ, zero, suc, ◌+◌, ◌-◌, ◌*◌, ◌<◌, ◌≤◌, min, Bool, List, [], ◌∷◌, ◌++◌, length, get_or, take, drop, set, pos, ◌+ℤ◌, ◌≤ℤ◌, sym, refl, ap, ◌∙◌, arith, length-drop, length-take}
use Rattle.std.proofs.lemmas.List.{take-append-drop, take-append-le, drop-append-le, ext_get_or}
use Rattle.std.proofs.lemmas.List.FromFn.{length-map-range_with_len, get_or-map-range_with_len}
use Rattle.std.proofs.lemmas.Int.{ints}
use Rattle.excess.specs.Excess.{total_bits, least_bits}
use Rattle.shape.specs.Bits.{openings, select, close}
use Rattle.shape.proofs.Skips.{select_skip, openings_append, openings_length, total_openings}
use Rattle.shape.proofs.Steps.{close_stretch, least_total}
use Rattle.scan.specs.Directory.{part_of_block, block_at, blocks, directory_of}
use Rattle.scan.specs.declared.block.Block.{Block}

abbrev pub blank : Block
blank = record { before = 0; least = pos 0 }

pub directory_length : (bs : List Bool) (m : ℕ) → length (directory_of bs m) ≡ blocks m
directory_length bs m = length-map-range_with_len (block_at bs m) 0 (blocks m)

pub directory_at : (bs : List Bool) (m j : ℕ) → j < blocks m → get_or (directory_of bs m) j blank ≡ block_at bs m j
directory_at bs m j h = get_or-map-range_with_len (block_at bs m) 0 (blocks m) j j blank h (omega arith)

-- one stretch more
pub take_on : {A : Type 0} (xs : List A) (p n : ℕ) → take (p + n) xs ≡ take p xs ++ take n (drop p xs)
take_on xs zero n = ap (λ (k : ℕ). take k xs) (omega arith)
take_on [] (suc p) zero = let z : suc p + 0 ≡ suc p = omega arith in ap (λ (k : ℕ). take k []) z
take_on [] (suc p) (suc n) = let z : suc p + suc n ≡ suc (p + suc n) = omega arith in ap (λ (k : ℕ). take k []) z
take_on (x ∷ xs) (suc p) n = let z : suc p + n ≡ suc (p + n) = omega arith in ap (λ (k : ℕ). take k (x ∷ xs)) z ∙ ap (λ l. x ∷ l) (take_on xs p n)

pub stretch_length : {A : Type 0} (xs : List A) (p n : ℕ) → p + n ≤ length xs → length (take n (drop p xs)) ≡ n
stretch_length xs p n h = length-take n (drop p xs) ∙ omega (arith, length-drop p xs)

-- the search for an opening may begin at a block that has at most v openings before it
pub select_block : (bs : List Bool) (v p : ℕ) → p ≤ length bs → openings (take p bs) ≤ v → p + select (v - openings (take p bs)) (drop p bs) ≡ select v bs
select_block bs v p h le =
    let s = ap (select v) (sym (take-append-drop p bs)) ∙ select_skip v (take p bs) (drop p bs) le in
    omega (arith, length-take p bs)

-- block j, where another follows, with the openings that the directory has before the two
module _ (bs : List Bool) (m : ℕ) (long : m ≤ length bs) (j : ℕ) (more : j + 1 < blocks m) where
  pub whole : min 256 (m - 256 * j) ≡ 256
  whole = omega arith

  pub block_openings : openings (take (256 * (j + 1)) bs) ≡ openings (take (256 * j) bs) + openings (take 256 (drop (256 * j) bs))
  block_openings =
      let z : 256 * (j + 1) ≡ 256 * j + 256 = omega arith in
      ap (λ (k : ℕ). openings (take k bs)) z ∙ ap openings (take_on bs (256 * j) 256) ∙ openings_append (take (256 * j) bs) (take 256 (drop (256 * j) bs))

  part : List Bool
  part = take 256 (drop (256 * j) bs)

  least_is : (block_at bs m j).least ≡ least_bits part
  unfolding part
  least_is = ap (λ (k : ℕ). least_bits (take k (drop (256 * j) bs))) whole

  total_is : total_bits part +ℤ pos 256 ≡ pos (2 * openings part)
  unfolding part
  total_is = ap (λ (k : ℕ). total_bits (take 256 (drop (256 * j) bs)) +ℤ pos k) (sym (stretch_length bs (256 * j) 256 (omega arith))) ∙ total_openings (take 256 (drop (256 * j) bs))

  part_few : openings part ≤ 256
  unfolding part
  part_few = omega (arith, openings_length (take 256 (drop (256 * j) bs)), stretch_length bs (256 * j) 256 (omega arith))

  gain : openings (take (256 * (j + 1)) bs) ≡ openings (take (256 * j) bs) + openings part
  unfolding part
  gain = block_openings

  -- nothing is lost below 0, and the excess after the block is still small
  pub block_room : (e : ℕ) → pos 0 ≤ℤ (pos e +ℤ (block_at bs m j).least) → 256 ≤ e + 2 * ((block_at bs m (j + 1)).before - (block_at bs m j).before)
  block_room e low =
      let l = least_is in
      let t = total_is in
      let lt = least_total part in
      let g = gain in
      omega (arith, ints)

  pub block_skip : (e f : ℕ) → e ≤ 256 * j → pos 0 ≤ℤ (pos e +ℤ (block_at bs m j).least) → f ≡ e + 2 * ((block_at bs m (j + 1)).before - (block_at bs m j).before) - 256 →
      (256 * j + close e (drop (256 * j) bs) ≡ 256 * j + 256 + close f (drop (256 * j + 256) bs)) × (f ≤ 256 * j + 256)
  unfolding part
  block_skip e f small low is =
      let room = block_room e low in
      let l = least_is in
      let t = total_is in
      let g = gain in
      let few = part_few in
      (close_stretch bs (256 * j) 256 e f (omega arith) (omega (arith, ints)) (omega (arith, ints)) (stretch_length bs (256 * j) 256 (omega arith)), omega arith)

-- one more of a list written over another
pub fill_more : {A : Type 0} (es os : List A) (v : ℕ) (d : A) → v < length es → v < length os → set (take v es ++ drop v os) v (get_or es v d) ≡ take (suc v) es ++ drop (suc v) os
fill_more [] os v d a b = absurd (omega arith)
fill_more (x ∷ es) [] v d a b = absurd (omega arith)
fill_more (x ∷ es) (y ∷ os) zero d a b = refl
fill_more (x ∷ es) (y ∷ os) (suc v) d a b = ap (λ l. x ∷ l) (fill_more es os v d (omega arith) (omega arith))

-- the directory of m parentheses hangs on no later bits
block_front : (bs t : List Bool) (m j : ℕ) → m ≤ length bs → j < blocks m → block_at (bs ++ t) m j ≡ block_at bs m j
block_front bs t m j h l =
    let before : take (256 * j) (bs ++ t) ≡ take (256 * j) bs = take-append-le (256 * j) bs t (omega arith) in
    let n = length-drop (256 * j) bs in
    let part : part_of_block (bs ++ t) m j ≡ part_of_block bs m j =
    ap (take (min 256 (m - 256 * j))) (drop-append-le (256 * j) bs t (omega arith)) ∙ take-append-le (min 256 (m - 256 * j)) (drop (256 * j) bs) t (omega arith) in
    ap (λ (x : List Bool). record { before = openings x; least = least_bits (part_of_block (bs ++ t) m j) }) before
    ∙ ap (λ (x : List Bool). record { before = openings (take (256 * j) bs); least = least_bits x }) part

pub directory_front : (bs t : List Bool) (m : ℕ) → m ≤ length bs → directory_of (bs ++ t) m ≡ directory_of bs m
directory_front bs t m h =
    let a = directory_length (bs ++ t) m in
    let b = directory_length bs m in
    ext_get_or blank (directory_of (bs ++ t) m) (directory_of bs m) (omega arith)
    (λ j l. directory_at (bs ++ t) m j (omega arith) ∙ block_front bs t m j h (omega arith) ∙ sym (directory_at bs m j (omega arith)))
