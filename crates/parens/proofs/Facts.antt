-- What is known of a parenthesis tree.
use Rattle.std.proofs.Common.{◌≡◌, ℕ, zero, suc, ◌+◌, ◌-◌, ◌*◌, ◌/◌, ◌<◌, ◌≤◌, Bool, true, false, cond, List, [], ◌∷◌, length, get_or, take, drop, pos, ◌+ℤ◌, ◌≤ℤ◌, Some, None, sym, refl, ap, ◌∙◌, subst, arith, length-take, length-drop, get_or-take, get_or-drop}
use Rattle.std.specs.Bool.{then_some}
use Rattle.std.specs.List.Sorted.{IsNonDecreasingBy}
use Rattle.std.proofs.lemmas.List.{drop_all, get_or_default}
use Rattle.std.proofs.lemmas.List.Sorted.{IsNonDecreasingBy-from_all_adjacent}
use Rattle.rows.specs.Rows.{Row, label_of}
use Rattle.rows.specs.Answers.{first_here, first_of, next_here, next_of, size_here, size_of}
use Rattle.rows.specs.Lawful.{IsLawful}
use Rattle.shape.specs.Bits.{bits_of, openings, select, close}
use Rattle.shape.specs.Shape.{closing, rows_from}
use Rattle.shape.proofs.Bytes.{bits_length}
use Rattle.shape.proofs.Nodes.{opening_within, opening_told, closing_told, size_told, first_is, next_is}
use Rattle.scan.specs.Directory.{block_at}
use Rattle.scan.specs.Trees.{rows_of}
use Rattle.scan.specs.declared.block.Block.{Block}
use Rattle.shape.specs.Laws.{opening_place, closing_place}
use Rattle.parens.specs.declared.paren_tree.ParenTree.{ParenTree}
use Rattle.parens.specs.declared.places.Places.{Places}
use Rattle.scan.proofs.Blocks.{blank, directory_length, directory_at, select_block, block_room, block_skip, block_openings}

lawful_some : (rs : List Row) → IsLawful rs → 1 ≤ length rs
lawful_some [] l = let z : ◌≡◌ {A = ℕ} 0 1 = cc in absurd (omega arith)
lawful_some (r ∷ rs) l = omega arith

-- the label of a row is that of its number
labels_kept : (k v : ℕ) (bs : List Bool) (ls : List ℕ) → length ls ≡ length (rows_from k bs ls) → get_or ls v 65535 ≡ label_of (rows_from k bs ls) v
labels_kept k zero [] [] h = refl
labels_kept k (suc v) [] [] h = refl
labels_kept k v [] (l ∷ ls) h = absurd (omega arith)
labels_kept k zero (true ∷ bs) [] h = refl
labels_kept k (suc v) (true ∷ bs) [] h = refl
labels_kept k zero (true ∷ bs) (l ∷ ls) h = refl
labels_kept k (suc v) (true ∷ bs) (l ∷ ls) h = labels_kept (suc k) v bs ls (omega arith)
labels_kept k v (false ∷ bs) ls h = labels_kept (k - 1) v bs ls h

-- a node, if the test finds one
told : (b : Bool) (w : ℕ) → then_some b w ≡ cond b (Some w) None
told true w = refl
told false w = refl

spare_closes : (s : ℕ) → get_or (closing s []) 0 false ≡ false
spare_closes zero = refl
spare_closes (suc s) = refl

close_length : (e : ℕ) (bs : List Bool) → close e bs ≤ length bs
close_length e [] = omega arith
close_length e (true ∷ bs) = let ih = close_length (suc e) bs in omega arith
close_length zero (false ∷ bs) = omega arith
close_length (suc e) (false ∷ bs) = let ih = close_length e bs in omega arith

-- the bytes from one place to another
module _ (xs : List ℕ) (from to : ℕ) where
  pub part_length : from ≤ to → to ≤ length xs → length (take (to - from) (drop from xs)) ≡ to - from
  part_length order within = omega (arith, length-take (to - from) (drop from xs), length-drop from xs)

  pub part_at : (i : ℕ) → i < to - from → get_or (take (to - from) (drop from xs)) i 0 ≡ get_or xs (from + i) 0
  part_at i h = get_or-take (to - from) (drop from xs) i 0 h ∙ get_or-drop from xs i 0

module _ (t : ParenTree) where
  pub some : 1 ≤ t.count
  some = omega (arith, lawful_some (rows_of t.bits.now t.labels.now) t.law, t.counted)

  pub bytes_few : length t.bits.now ≤ 2048
  bytes_few = omega (arith, t.padded, t.few)

  pub bits_long : 2 * t.count ≤ length (bits_of t.bits.now)
  bits_long = omega (arith, t.padded, bits_length t.bits.now)

  pub directory_long : length t.directory.now ≡ (2 * t.count + 255) / 256
  directory_long = ap length t.blocks ∙ directory_length (bits_of t.bits.now) (2 * t.count)

  pub entry_at : (j : ℕ) → j < length t.directory.now → get_or t.directory.now j blank ≡ block_at (bits_of t.bits.now) (2 * t.count) j
  entry_at j h = ap (λ (d : List Block). get_or d j blank) t.blocks ∙ directory_at (bits_of t.bits.now) (2 * t.count) j (omega (arith, directory_long))

  pub before_first : (get_or t.directory.now 0 blank).before ≡ 0
  before_first = ap (λ (b : Block). b.before) (entry_at 0 (omega (arith, directory_long, some)))

  -- where the search for node v's opening begins
  pub select_from : (v j : ℕ) → j < length t.directory.now → (get_or t.directory.now j blank).before ≤ v →
      8 * (32 * j) + select (v - (get_or t.directory.now j blank).before) (drop (8 * (32 * j)) (bits_of t.bits.now)) ≡ select v (bits_of t.bits.now)
  select_from v j h le =
      let bs = bits_of t.bits.now in
      let at = ap (λ (b : Block). b.before) (entry_at j h) in
      let z : 8 * (32 * j) ≡ 256 * j = omega arith in
      let few : openings (take (256 * j) bs) ≤ v = omega arith in
      ap (λ (p : ℕ). p + select (v - (get_or t.directory.now j blank).before) (drop p bs)) z
      ∙ ap (λ (n : ℕ). 256 * j + select (v - n) (drop (256 * j) bs)) at
      ∙ select_block bs v (256 * j) (omega (arith, directory_long, bits_long)) few

  -- a block over which the excess e does not fall below 0
  module _ (j : ℕ) (more : j + 1 < length t.directory.now) where
    here : get_or t.directory.now j blank ≡ block_at (bits_of t.bits.now) (2 * t.count) j
    here = entry_at j (omega arith)

    next : get_or t.directory.now (j + 1) blank ≡ block_at (bits_of t.bits.now) (2 * t.count) (j + 1)
    next = entry_at (j + 1) more

    pub before_grows : (get_or t.directory.now j blank).before ≤ (get_or t.directory.now (j + 1) blank).before
    before_grows =
        let a = ap (λ (b : Block). b.before) here in
        let b = ap (λ (b : Block). b.before) next in
        let g = block_openings (bits_of t.bits.now) (2 * t.count) bits_long j (omega (arith, directory_long)) in
        omega arith

    pub skip_room : (e : ℕ) → pos 0 ≤ℤ (pos e +ℤ (get_or t.directory.now j blank).least) → 256 ≤ e + 2 * ((get_or t.directory.now (j + 1) blank).before - (get_or t.directory.now j blank).before)
    skip_room e low =
        let a = ap (λ (b : Block). b.before) here in
        let b = ap (λ (b : Block). b.before) next in
        let l = ap (λ (b : Block). b.least) here in
        let r = block_room (bits_of t.bits.now) (2 * t.count) bits_long j (omega (arith, directory_long)) e (subst (λ z. pos 0 ≤ℤ (pos e +ℤ z)) l low) in
        omega arith

    pub skip : (e f : ℕ) → e ≤ 256 * j → pos 0 ≤ℤ (pos e +ℤ (get_or t.directory.now j blank).least) →
        f ≡ e + 2 * ((get_or t.directory.now (j + 1) blank).before - (get_or t.directory.now j blank).before) - 256 →
        (256 * j + close e (drop (256 * j) (bits_of t.bits.now)) ≡ 256 * j + 256 + close f (drop (256 * j + 256) (bits_of t.bits.now))) × (f ≤ 256 * j + 256)
    skip e f small low is =
        let a = ap (λ (b : Block). b.before) here in
        let b = ap (λ (b : Block). b.before) next in
        let l = ap (λ (b : Block). b.least) here in
        block_skip (bits_of t.bits.now) (2 * t.count) bits_long j (omega (arith, directory_long)) e f small (subst (λ z. pos 0 ≤ℤ (pos e +ℤ z)) l low) (omega arith)

  pub label_is : (v : ℕ) → get_or t.labels.now v 65535 ≡ label_of (rows_of t.bits.now t.labels.now) v
  label_is v = labels_kept 0 v (bits_of t.bits.now) t.labels.now (omega (arith, t.labelled, t.counted))

  pub befores_grow : IsNonDecreasingBy (λ (b : Block). b.before) t.directory.now
  befores_grow =
      IsNonDecreasingBy-from_all_adjacent (λ (b : Block). b.before) t.directory.now
      (λ j d h. let a = ap (λ (b : Block). b.before) (get_or_default t.directory.now j d blank (omega arith)) in
      let b = ap (λ (b : Block). b.before) (get_or_default t.directory.now (j + 1) d blank (omega arith)) in
      let g = before_grows j (omega arith) in
      omega arith)

  -- the answers for a number that is no node
  module _ (v : ℕ) (past : t.count ≤ v) where
    none : drop v (rows_of t.bits.now t.labels.now) ≡ []
    none = drop_all v (rows_of t.bits.now t.labels.now) (omega (arith, t.counted))

    pub first_past : None ≡ first_of (rows_of t.bits.now t.labels.now) v
    first_past = sym (ap (first_here v) none)

    pub next_past : None ≡ next_of (rows_of t.bits.now t.labels.now) v
    next_past = sym (ap (next_here v) none)

    pub size_past : 0 ≡ size_of (rows_of t.bits.now t.labels.now) v
    size_past = sym (ap size_here none)

  -- and for a node
  module _ (v : ℕ) (node : v < t.count) where
    within : v < length (rows_of t.bits.now t.labels.now)
    within = omega (arith, t.counted)

    -- with its opening at the place p
    module _ (p : ℕ) (at_p : p ≡ select v (bits_of t.bits.now)) where
      pub opening_below : p < 8 * length t.bits.now
      opening_below = omega (arith, bits_length t.bits.now, opening_within (bits_of t.bits.now) (rows_of t.bits.now t.labels.now) _ t.shape t.law v within)

      pub first_at : then_some (get_or (bits_of t.bits.now) (p + 1) false) (v + 1) ≡ first_of (rows_of t.bits.now t.labels.now) v
      first_at =
          told (get_or (bits_of t.bits.now) (p + 1) false) (v + 1) ∙ ap (λ (x : ℕ). cond (get_or (bits_of t.bits.now) (x + 1) false) (Some (v + 1)) None) at_p
          ∙ first_is (bits_of t.bits.now) (rows_of t.bits.now t.labels.now) _ t.shape t.law v within

      -- and its closing at the place q
      module _ (q : ℕ) (at-q : q ≡ p + 1 + close 0 (drop (p + 1) (bits_of t.bits.now))) where
        pub closing_below : q ≤ 8 * length t.bits.now
        closing_below =
            let b = opening_below in
            let l = close_length 0 (drop (p + 1) (bits_of t.bits.now)) in
            omega (arith, bits_length t.bits.now, length-drop (p + 1) (bits_of t.bits.now))

        span : q - p + 1 ≡ 2 + close 0 (drop (select v (bits_of t.bits.now) + 1) (bits_of t.bits.now))
        span =
            let e = ap (λ (x : ℕ). close 0 (drop (x + 1) (bits_of t.bits.now))) at_p in
            omega arith

        pub size_at : (q - p + 1) / 2 ≡ size_of (rows_of t.bits.now t.labels.now) v
        size_at = ap (λ (n : ℕ). n / 2) span ∙ size_told (bits_of t.bits.now) (rows_of t.bits.now t.labels.now) _ t.shape t.law v within

        pub next_at : then_some (get_or (bits_of t.bits.now) (q + 1) false) (v + (q - p + 1) / 2) ≡ next_of (rows_of t.bits.now t.labels.now) v
        next_at =
            let bs = bits_of t.bits.now in
            let z : q + 1 ≡ select v bs + 1 + (close 0 (drop (select v bs + 1) bs) + 1) = omega (arith, span) in
            told (get_or bs (q + 1) false) (v + (q - p + 1) / 2) ∙ ap (λ (x : ℕ). cond (get_or bs x false) (Some (v + (q - p + 1) / 2)) None) z
            ∙ ap (λ (n : ℕ). cond (get_or bs (select v bs + 1 + (close 0 (drop (select v bs + 1) bs) + 1)) false) (Some (v + n)) None) size_at
            ∙ next_is bs (rows_of t.bits.now t.labels.now) _ t.shape t.law v within (spare_closes (8 * length t.bits.now - 2 * t.count))

        pub places_at : ◌≡◌ {A = Places} (record { opening = p; closing = q }) (record { opening = opening_place (rows_of t.bits.now t.labels.now) v; closing = closing_place (rows_of t.bits.now t.labels.now) v })
        places_at =
            let o = at_p ∙ opening_told (bits_of t.bits.now) (rows_of t.bits.now t.labels.now) _ t.shape t.law v within in
            let c = closing_told (bits_of t.bits.now) (rows_of t.bits.now t.labels.now) _ t.shape t.law v within in
            let s = span in
            let z : q ≡ closing_place (rows_of t.bits.now t.labels.now) v = omega arith in
            ap (λ (x : ℕ). record { opening = x; closing = q }) o ∙ ap (λ (x : ℕ). record { opening = opening_place (rows_of t.bits.now t.labels.now) v; closing = x }) z
