-- Parentheses and labels that are of a tree.
use Rattle.std.proofs.Common.{◌≡◌, ℕ, zero, suc, ◌+◌, ◌-◌, ◌*◌, ◌<◌, ◌≤◌, Bool, true, false, cond, ◌&&◌, eqb, leb, List, [], ◌∷◌, ◌++◌, map, length, get_or, take, drop, sym, refl, ap, ◌∙◌, subst, add-one, arith}
use Rattle.std.proofs.lemmas.List.{drop_more, drop_all, take_all}
use Rattle.std.proofs.lemmas.Bool.{and_parts, and_from, and_left, eqb-true, ne_eqb}
use Rattle.rows.specs.Rows.{Row}
use Rattle.rows.specs.Lawful.{IsLawful, follow, reach, inner_label}
use Rattle.shape.specs.Shape.{closing, parens_onto, rows_from, labels_of}
use Rattle.shape.specs.Walk.{reach_of, walk, walk_all}
use Rattle.shape.proofs.Answers.{Stepped, follow_stepped}

-- the rows that a walk reads
stepped_more : (k : ℕ) (rs : List Row) → Stepped (k - 1) rs → Stepped k rs
stepped_more k [] s = tt
stepped_more k (r ∷ rs) s = let h = s.0 in (omega arith, s.1)

pub rows_stepped : (k : ℕ) (bs : List Bool) (ls : List ℕ) → Stepped k (rows_from k bs ls)
rows_stepped k [] ls = tt
rows_stepped k (true ∷ bs) [] = tt
rows_stepped k (true ∷ bs) (l ∷ ls) = (omega arith, rows_stepped (suc k) bs ls)
rows_stepped k (false ∷ bs) ls = stepped_more k (rows_from (k - 1) bs ls) (rows_stepped (k - 1) bs ls)

pub rows_labels : (k : ℕ) (bs : List Bool) (ls : List ℕ) → map (λ (r : Row). r.label) (rows_from k bs ls) ≡ take (length (rows_from k bs ls)) ls
rows_labels k [] ls = refl
rows_labels k (true ∷ bs) [] = refl
rows_labels k (true ∷ bs) (l ∷ ls) = ap (λ xs. l ∷ xs) (rows_labels (suc k) bs ls)
rows_labels k (false ∷ bs) ls = rows_labels (k - 1) bs ls

-- one closing more before rows
onto_closing : (k : ℕ) (rs : List Row) (t : List Bool) → Stepped k rs → parens_onto (suc k) rs t ≡ false ∷ parens_onto k rs t
onto_closing k [] t s = refl
onto_closing k (r ∷ rs) t s =
    let h = s.0 in
    let z : suc k - r.depth ≡ suc (k - r.depth) = omega arith in
    ap (λ (n : ℕ). closing n (true ∷ parens_onto (suc r.depth) rs t)) z

-- where no node is open, only closings are left
walk_out : (m : ℕ) (bs : List Bool) (ls : List ℕ) → walk 0 m bs ls ≡ true → rows_from 0 bs ls ≡ []
walk_out m [] ls h = refl
walk_out m (true ∷ bs) [] h = refl
walk_out m (true ∷ bs) (l ∷ ls) h = let z : ◌≡◌ {A = ℕ} 0 1 = cc in absurd (omega arith)
walk_out m (false ∷ bs) ls h = walk_out m bs ls h

-- what a walk that ends well has read: rows that follow, all labels, and their parentheses before spare closings
pub record Read (k m : ℕ) (bs : List Bool) (ls : List ℕ) : Type 0 where
  pub spare : ℕ
  pub is : bs ≡ parens_onto k (rows_from k bs ls) (closing spare [])
  pub count : length (rows_from k bs ls) ≡ length ls
  pub follows : (p : Row) → reach p ≡ m → follow p (rows_from k bs ls) ≡ true

pub read : (k m : ℕ) (bs : List Bool) (ls : List ℕ) → walk k m bs ls ≡ true → Read k m bs ls
read k m [] ls h =
    let z : k ≡ 0 = eqb-true _ _ (and_parts _ _ h).0 in
    let n : length ls ≡ 0 = eqb-true _ _ (and_parts _ _ h).1 in
    record { spare = 0; is = ap (λ (x : ℕ). closing x []) (sym z); count = sym n; follows = λ p e. refl }
read k m (true ∷ bs) [] h = let z : ◌≡◌ {A = ℕ} 0 1 = cc in absurd (omega arith)
read k m (true ∷ bs) (l ∷ ls) h =
    let i = read (suc k) (reach_of k l) bs ls (and_parts _ _ h).1 in
    let z : 0 ≡ k - k = omega arith in
    record {
      spare = i.spare;
      is = ap (λ (x : List Bool). true ∷ x) i.is ∙ ap (λ (n : ℕ). closing n (true ∷ parens_onto (suc k) (rows_from (suc k) bs ls) (closing i.spare []))) z;
      count = ap suc i.count;
      follows = λ p e. and_from _ _ (subst (λ (x : ℕ). (leb 1 k && leb k x && inner_label l) ≡ true) (sym e) (and_parts _ _ h).0) (i.follows (record { depth = k; label = l }) refl);
    }
read zero m (false ∷ bs) ls h =
    let i = read 0 m bs ls h in
    let none = walk_out m bs ls h in
    let all : bs ≡ closing i.spare [] = i.is ∙ ap (λ (rs : List Row). parens_onto 0 rs (closing i.spare [])) none in
    record {
      spare = suc i.spare;
      is = ap (λ (x : List Bool). false ∷ x) all ∙ sym (ap (λ (rs : List Row). parens_onto 0 rs (closing (suc i.spare) [])) none);
      count = i.count;
      follows = i.follows;
    }
read (suc k) m (false ∷ bs) ls h =
    let one : suc k - 1 ≡ k = omega arith in
    let i = read k m bs ls (subst (λ (x : ℕ). walk x m bs ls ≡ true) one h) in
    let rows : rows_from (suc k - 1) bs ls ≡ rows_from k bs ls = ap (λ (x : ℕ). rows_from x bs ls) one in
    record {
      spare = i.spare;
      is = ap (λ (x : List Bool). false ∷ x) i.is ∙ sym (onto_closing k (rows_from k bs ls) (closing i.spare []) (rows_stepped k bs ls)) ∙ sym (ap (λ (rs : List Row). parens_onto (suc k) rs (closing i.spare [])) rows);
      count = ap length rows ∙ i.count;
      follows = λ p e. ap (follow p) rows ∙ i.follows p e;
    }

-- the other way: rows that follow are walked well
walk_closing : (n k m : ℕ) (bs : List Bool) (ls : List ℕ) → walk k m (closing n bs) ls ≡ walk (k - n) m bs ls
walk_closing zero k m bs ls = ap (λ (x : ℕ). walk x m bs ls) (omega arith)
walk_closing (suc n) k m bs ls =
    let z : k - 1 - n ≡ k - suc n = omega arith in
    walk_closing n (k - 1) m bs ls ∙ ap (λ (x : ℕ). walk x m bs ls) z

rows_closing : (n k : ℕ) (bs : List Bool) (ls : List ℕ) → rows_from k (closing n bs) ls ≡ rows_from (k - n) bs ls
rows_closing zero k bs ls = ap (λ (x : ℕ). rows_from x bs ls) (omega arith)
rows_closing (suc n) k bs ls =
    let z : k - 1 - n ≡ k - suc n = omega arith in
    rows_closing n (k - 1) bs ls ∙ ap (λ (x : ℕ). rows_from x bs ls) z

pub walked : (k s : ℕ) (p : Row) (rs : List Row) → Stepped k rs → follow p rs ≡ true → walk k (reach p) (parens_onto k rs (closing s [])) (labels_of rs) ≡ true
walked k s p [] st f =
    let e : walk k (reach p) (closing k (closing s [])) [] ≡ walk (k - k - s) (reach p) [] [] = walk_closing k k (reach p) (closing s []) [] ∙ walk_closing s (k - k) (reach p) [] [] in
    let z : k - k - s ≡ 0 = omega arith in
    e ∙ ap (λ (x : ℕ). walk x (reach p) [] []) z
walked k s p (r ∷ rs) st f =
    let h = st.0 in
    let z : k - (k - r.depth) ≡ r.depth = omega arith in
    let f2 = and_parts _ _ f in
    walk_closing (k - r.depth) k (reach p) (true ∷ parens_onto (suc r.depth) rs (closing s [])) (labels_of (r ∷ rs))
    ∙ ap (λ (x : ℕ). walk x (reach p) (true ∷ parens_onto (suc r.depth) rs (closing s [])) (labels_of (r ∷ rs))) z
    ∙ and_from _ _ f2.0 (walked (suc r.depth) s r rs st.1 f2.1)

-- rows come back from their parentheses and labels
pub rows_back : (k s : ℕ) (rs : List Row) → Stepped k rs → rows_from k (parens_onto k rs (closing s [])) (labels_of rs) ≡ rs
rows_back k s [] st = rows_closing k k (closing s []) [] ∙ rows_closing s (k - k) [] []
rows_back k s (r ∷ rs) st =
    let h = st.0 in
    let z : k - (k - r.depth) ≡ r.depth = omega arith in
    rows_closing (k - r.depth) k (true ∷ parens_onto (suc r.depth) rs (closing s [])) (labels_of (r ∷ rs))
    ∙ ap (λ (x : ℕ). rows_from x (true ∷ parens_onto (suc r.depth) rs (closing s [])) (labels_of (r ∷ rs))) z
    ∙ ap (λ (l : List Row). r ∷ l) (rows_back (suc r.depth) s rs st.1)

pub closing_length : (n : ℕ) (t : List Bool) → length (closing n t) ≡ n + length t
closing_length zero t = omega arith
closing_length (suc n) t = let ih = closing_length n t in omega arith

-- how many parentheses rows have
pub parens_length : (k : ℕ) (rs : List Row) (t : List Bool) → Stepped k rs → length (parens_onto k rs t) ≡ k + 2 * length rs + length t
parens_length k [] t s = closing_length k t ∙ omega arith
parens_length k (r ∷ rs) t s =
    let h = s.0 in
    let c = closing_length (k - r.depth) (true ∷ parens_onto (suc r.depth) rs t) in
    let ih = parens_length (suc r.depth) rs t s.1 in
    omega arith

-- what follows the parentheses of rows
closing_append : (n : ℕ) (u t : List Bool) → closing n u ++ t ≡ closing n (u ++ t)
closing_append zero u t = refl
closing_append (suc n) u t = ap (λ (l : List Bool). false ∷ l) (closing_append n u t)

pub parens_append : (k : ℕ) (rs : List Row) (t : List Bool) → parens_onto k rs t ≡ parens_onto k rs [] ++ t
parens_append k [] t = sym (closing_append k [] t)
parens_append k (r ∷ rs) t =
    ap (λ (l : List Bool). closing (k - r.depth) (true ∷ l)) (parens_append (suc r.depth) rs t)
    ∙ sym (closing_append (k - r.depth) (true ∷ parens_onto (suc r.depth) rs []) t)

-- a whole walk
pub record Whole (bs : List Bool) (ls : List ℕ) (spare : ℕ) : Type 0 where
  pub law : IsLawful (rows_from 0 bs ls)
  pub count : length (rows_from 0 bs ls) ≡ length ls
  pub is : bs ≡ parens_onto 0 (rows_from 0 bs ls) (closing spare [])

spare_is : (bs : List Bool) (ls : List ℕ) (s : ℕ) → bs ≡ parens_onto 0 (rows_from 0 bs ls) (closing s []) → s ≡ length bs - 2 * length (rows_from 0 bs ls)
spare_is bs ls s e =
    let n = parens_length 0 (rows_from 0 bs ls) (closing s []) (rows_stepped 0 bs ls) in
    omega (arith, ap length e, closing_length s [])

pub walk_sound : (bs : List Bool) (ls : List ℕ) → walk_all bs ls ≡ true → Whole bs ls (length bs - 2 * length ls)
walk_sound [] ls h = let z : ◌≡◌ {A = ℕ} 0 1 = cc in absurd (omega arith)
walk_sound (false ∷ bs) ls h = let z : ◌≡◌ {A = ℕ} 0 1 = cc in absurd (omega arith)
walk_sound (true ∷ bs) [] h = let z : ◌≡◌ {A = ℕ} 0 1 = cc in absurd (omega arith)
walk_sound (true ∷ bs) (l ∷ ls) h =
    let head = and_parts _ _ (and_parts _ _ h).0 in
    let zero-label : l ≡ 0 = eqb-true _ _ head.0 in
    let i = read 1 1 bs ls (and_parts _ _ h).1 in
    let root : Row = record { depth = 0; label = l } in
    let few : leb (length (rows_from 1 bs ls)) 8191 ≡ true = ap (λ (n : ℕ). leb n 8191) i.count ∙ head.1 in
    let reached : reach root ≡ 1 = ap (λ (x : ℕ). reach_of 0 x) zero-label in
    let n : length (rows_from 0 (true ∷ bs) (l ∷ ls)) ≡ length (l ∷ ls) = ap suc i.count in
    let e : true ∷ bs ≡ parens_onto 0 (rows_from 0 (true ∷ bs) (l ∷ ls)) (closing i.spare []) = ap (λ (x : List Bool). true ∷ x) i.is in
    let s : i.spare ≡ length (true ∷ bs) - 2 * length (l ∷ ls) = spare_is (true ∷ bs) (l ∷ ls) i.spare e ∙ ap (λ (x : ℕ). length (true ∷ bs) - 2 * x) n in
    record {
      law = and_from _ _ (and_from _ _ head.0 few) (i.follows root reached);
      count = n;
      is = e ∙ ap (λ (x : ℕ). parens_onto 0 (rows_from 0 (true ∷ bs) (l ∷ ls)) (closing x [])) s;
    }

-- the parentheses and labels of lawful rows pass
pub walk_lawful : (rs : List Row) (s : ℕ) → IsLawful rs → walk_all (parens_onto 0 rs (closing s [])) (labels_of rs) ≡ true
walk_lawful [] s l = let z : ◌≡◌ {A = ℕ} 0 1 = cc in absurd (omega arith)
walk_lawful (r ∷ rs) s l =
    let h = and_parts _ _ l in
    let head = and_parts _ _ h.0 in
    let deep : r.depth ≡ 0 = eqb-true _ _ (and_parts _ _ head.0).0 in
    let named : r.label ≡ 0 = eqb-true _ _ (and_parts _ _ head.0).1 in
    let many = map_length rs in
    let few : leb (length (labels_of rs)) 8191 ≡ true = ap (λ (n : ℕ). leb n 8191) many ∙ head.1 in
    let reached : reach r ≡ 1 = ap (λ (x : ℕ). cond (eqb x 1) r.depth (suc r.depth)) named ∙ ap suc deep in
    let z : 0 - r.depth ≡ 0 = omega arith in
    let open-one : suc r.depth ≡ 1 = ap suc deep in
    let body : walk (suc r.depth) (reach r) (parens_onto (suc r.depth) rs (closing s [])) (labels_of rs) ≡ true = walked (suc r.depth) s r rs (follow_stepped r rs h.1) h.1 in
    let body1 : walk 1 1 (parens_onto (suc r.depth) rs (closing s [])) (labels_of rs) ≡ true =
    ap (λ (x : ℕ). walk x 1 (parens_onto (suc r.depth) rs (closing s [])) (labels_of rs)) (sym open-one) ∙ ap (λ (x : ℕ). walk (suc r.depth) x (parens_onto (suc r.depth) rs (closing s [])) (labels_of rs)) (sym reached) ∙ body in
    ap (λ (n : ℕ). walk_all (closing n (true ∷ parens_onto (suc r.depth) rs (closing s []))) (labels_of (r ∷ rs))) z
    ∙ and_from _ _ (and_from _ _ (and_parts _ _ head.0).1 few) body1 where
      map_length : (rs : List Row) → length (labels_of rs) ≡ length rs
      map_length [] = refl
      map_length (r ∷ rs) = ap suc (map_length rs)

pub walk_complete : (bs : List Bool) (ls : List ℕ) (s : ℕ) → Whole bs ls s → walk_all bs ls ≡ true
walk_complete bs ls s w =
    let rs = rows_from 0 bs ls in
    let labels : labels_of rs ≡ ls = rows_labels 0 bs ls ∙ ap (λ (n : ℕ). take n ls) w.count ∙ take_all (length ls) ls (omega arith) in
    ap (λ (x : List Bool). walk_all x ls) w.is ∙ ap (walk_all (parens_onto 0 rs (closing s []))) (sym labels) ∙ walk_lawful rs s w.law

-- the steps of a walk, by places
walk_at_opening : (k m : ℕ) (bs : List Bool) (l : ℕ) (ls : List ℕ) (p : ℕ) → p < length bs → get_or bs p false ≡ true →
    walk k m (drop p bs) (l ∷ ls) ≡ ((leb 1 k && leb k m && inner_label l) && walk (suc k) (reach_of k l) (drop (p + 1) bs) ls)
walk_at_opening k m bs l ls p hp b = ap (λ (x : List Bool). walk k m x (l ∷ ls)) (drop_more bs p false hp ∙ ap (λ (x : Bool). x ∷ drop (p + 1) bs) b)

pub walk_on : (k m : ℕ) (bs : List Bool) (l : ℕ) (ls : List ℕ) (p : ℕ) → p < length bs → get_or bs p false ≡ true → (leb 1 k && leb k m && inner_label l) ≡ true →
    walk k m (drop p bs) (l ∷ ls) ≡ walk (k + 1) (reach_of k l) (drop (p + 1) bs) ls
walk_on k m bs l ls p hp b h =
    walk_at_opening k m bs l ls p hp b ∙ ap (λ (x : Bool). x && walk (suc k) (reach_of k l) (drop (p + 1) bs) ls) h ∙ sym (ap (λ (x : ℕ). walk x (reach_of k l) (drop (p + 1) bs) ls) (add-one k))

pub walk_closed : (k m : ℕ) (bs : List Bool) (ls : List ℕ) (p : ℕ) → p < length bs → get_or bs p false ≡ false → walk k m (drop p bs) ls ≡ walk (k - 1) m (drop (p + 1) bs) ls
walk_closed k m bs ls p hp b = ap (λ (x : List Bool). walk k m x ls) (drop_more bs p false hp ∙ ap (λ (x : Bool). x ∷ drop (p + 1) bs) b)

pub walk_ended : (k m : ℕ) (bs : List Bool) (ls : List ℕ) (p : ℕ) → length bs ≤ p → walk k m (drop p bs) ls ≡ (eqb k 0 && eqb (length ls) 0)
walk_ended k m bs ls p hp = ap (λ (x : List Bool). walk k m x ls) (drop_all p bs hp)

pub walk_same : (k i m n : ℕ) (ls qs : List ℕ) (bs : List Bool) → k ≡ i → m ≡ n → ls ≡ qs → walk k m bs ls ≡ walk i n bs qs
walk_same k i m n ls qs bs a b c = ap (λ (x : ℕ). walk x m bs ls) a ∙ ap (λ (x : ℕ). walk i x bs ls) b ∙ ap (walk i n bs) c
