-- What the sweeps leave does not depend on what the work area had.
use Rattle.std.proofs.Common.{◌≡◌, ℕ, zero, suc, ◌+◌, ◌<◌, ◌≤◌, Bool, true, false, cond, eqb, ◌⊎◌, List, [], ◌∷◌, length, get_or, set, Some, None, Option, sym, refl, ap, ◌∙◌, subst, inl, inr, arith, length-set, get_or-set_other, get_or-set_same}
use Rattle.std.proofs.lemmas.Bool.{cases_eq}
use Rattle.rows.specs.Rows.{Row, count_of as count, FirstChild, NextSibling}
use Rattle.rows.specs.Answers.{first_of as first_child, next_of as next_sibling}
use Rattle.rows.specs.Claims.{Answers}
use Rattle.rows.proofs.Questions.{questions}
use Rattle.words.specs.Bit.{put_bit, with_bit}
use Rattle.commands.specs.declared.node.Node.{Node}
use Rattle.commands.specs.declared.command.Move.{Move}
use Rattle.commands.specs.declared.command.Move.TheVariants.{Down, On, Stay, Mark}
use Rattle.commands.specs.declared.command.Command.{Command}
use Rattle.commands.specs.declared.command.Command.TheVariants.{Value, And, Or, Not, Define, When, Make, Done, End}
use Rattle.commands.specs.Deciding.{decide}
use Rattle.sweep.specs.Rising.{word_of, node_at, word_at, risen}
use Rattle.sweep.specs.Falling.{entered, made, acting, sent, place_at, fallen}
use Rattle.sweep.proofs.Risen.{length_risen}
use Rattle.tallying.specs.Stages.{Agree, WordsSettle}

-- one word written in both
set_same : (xs ys : List ℕ) (u x v : ℕ) → v < length xs → v < length ys → ((v ≡ u → ⊥) → get_or xs v 0 ≡ get_or ys v 0) → get_or (set xs u x) v 0 ≡ get_or (set ys u x) v 0
set_same xs ys u x v a b e = which (cases_eq v u)
  where
    which : (v ≡ u) ⊎ (v ≡ u → ⊥) → get_or (set xs u x) v 0 ≡ get_or (set ys u x) v 0
    which (inl h) =
        let a' : u < length xs = omega arith in
        let b' : u < length ys = omega arith in
        ap (λ (y : ℕ). get_or (set xs u x) y 0) h ∙ get_or-set_same xs u x 0 a' ∙ sym (ap (λ (y : ℕ). get_or (set ys u x) y 0) h ∙ get_or-set_same ys u x 0 b')
    which (inr h) = get_or-set_other xs u v x 0 h ∙ e h ∙ sym (get_or-set_other ys u v x 0 h)

module _ (rows : List Row) where
  word_same : (xs ys : List ℕ) (R : ℕ → Type 0) (o : Option ℕ) → Answers o R → ((w : ℕ) → R w → get_or xs w 0 ≡ get_or ys w 0) → word_of xs o ≡ word_of ys o
  word_same xs ys R None a e = refl
  word_same xs ys R (Some w) a e = e w a

  -- words that agree after v
  node_same : (cs : List Command) (xs ys : List ℕ) (v : ℕ) → v < count rows → ((w : ℕ) → v < w → w < count rows → get_or xs w 0 ≡ get_or ys w 0) → word_at rows cs xs v ≡ word_at rows cs ys v
  unfolding word_at
  node_same cs xs ys v h e =
      let q = questions rows v h in
      let a = word_same xs ys (FirstChild rows v) (first_child rows v) q.0 (λ w r. e w (let k = r.0 in omega arith) r.1) in
      let b = word_same xs ys (NextSibling rows v) (next_sibling rows v) q.1 (λ w r. e w r.0 r.1) in
      let same : node_at rows xs v ≡ node_at rows ys v = cc in
      ap (λ (n : Node). put_bit (decide n cs 0 0 0) 40 (eqb v 0)) same

  risen_same : (cs : List Command) (xs ys : List ℕ) → count rows ≤ length xs → count rows ≤ length ys → (lo k : ℕ) → lo + k ≡ count rows → (v : ℕ) → lo ≤ v → v < count rows
      → get_or (risen rows cs lo k xs) v 0 ≡ get_or (risen rows cs lo k ys) v 0
  risen_same cs xs ys rx ry lo zero all v a b = absurd (omega arith)
  risen_same cs xs ys rx ry lo (suc k) all v a b =
      let X = risen rows cs (suc lo) k xs in
      let Y = risen rows cs (suc lo) k ys in
      let after : (w : ℕ) → lo < w → w < count rows → get_or X w 0 ≡ get_or Y w 0 = λ w l m. risen_same cs xs ys rx ry (suc lo) k (omega arith) w l m in
      let word : word_at rows cs X lo ≡ word_at rows cs Y lo = node_same cs X Y lo (omega arith) after in
      ap (λ (x : ℕ). get_or (set X lo x) v 0) word
      ∙ set_same X Y lo (word_at rows cs Y lo) v (omega (arith, length_risen rows cs (suc lo) k xs)) (omega (arith, length_risen rows cs (suc lo) k ys)) (λ n. after v (later n) b)
    where
      later : (v ≡ lo → ⊥) → lo < v
      later n = omega arith

  record Both (xs ys : List ℕ) : Type 0 where
    room_x : count rows ≤ length xs
    room_y : count rows ≤ length ys
    same : Agree rows xs ys

  entered_same : (q : ℕ) (R : ℕ → Type 0) (o : Option ℕ) (xs ys : List ℕ) → Answers o R → ((w : ℕ) → R w → w < count rows) → Both xs ys → Both (entered q o xs) (entered q o ys)
  entered_same q R None xs ys a within b = b
  entered_same q R (Some w) xs ys a within b =
      let h = within w a in
      let x = with_bit (get_or xs w 0) (40 + q) in
      let y = with_bit (get_or ys w 0) (40 + q) in
      let e : x ≡ y = ap (λ (z : ℕ). with_bit z (40 + q)) (b.same w h) in
      record {
        room_x = let r = b.room_x in omega (arith, length-set xs w x);
        room_y = let r = b.room_y in omega (arith, length-set ys w y);
        same = λ v l. let rx = b.room_x in let ry = b.room_y in ap (λ (z : ℕ). get_or (set xs w z) v 0) e ∙ set_same xs ys w y v (omega arith) (omega arith) (λ n. b.same v l);
      }

  module _ (v : ℕ) (h : v < count rows) where
    made_same : (m : Move) (xs ys : List ℕ) → Both xs ys → Both (made m (place_at rows v) xs) (made m (place_at rows v) ys)
    made_same (Down q) xs ys b = entered_same q (FirstChild rows v) (first_child rows v) xs ys (questions rows v h).0 (λ w r. r.1) b
    made_same (On q) xs ys b = entered_same q (NextSibling rows v) (next_sibling rows v) xs ys (questions rows v h).1 (λ w r. r.1) b
    made_same (Stay q) xs ys b = entered_same q (λ w. v ≡ w) (Some v) xs ys refl (λ w r. subst (λ (x : ℕ). x < count rows) r h) b
    made_same Mark xs ys b = b

    maybe_same : (c : Bool) (m : Move) (xs ys : List ℕ) → Both xs ys → Both (cond c (made m (place_at rows v) xs) xs) (cond c (made m (place_at rows v) ys) ys)
    maybe_same true m xs ys b = made_same m xs ys b
    maybe_same false m xs ys b = b

    sent_same : (cs : List Command) (j : ℕ) (c : Bool) (xs ys : List ℕ) → Both xs ys → Both (sent (place_at rows v) cs j c xs) (sent (place_at rows v) cs j c ys)
    sent_same [] j c xs ys b = b
    sent_same (Value x ∷ cs) j c xs ys b = b
    sent_same (And ∷ cs) j c xs ys b = b
    sent_same (Or ∷ cs) j c xs ys b = b
    sent_same (Not ∷ cs) j c xs ys b = b
    sent_same (Define ∷ cs) j c xs ys b = b
    sent_same (When p ∷ cs) j c xs ys b =
        subst (λ (z : ℕ). Both (sent (place_at rows v) cs j (acting (get_or xs v 0) j p) xs) (sent (place_at rows v) cs j (acting z j p) ys)) (b.same v h) (sent_same cs j (acting (get_or xs v 0) j p) xs ys b)
    sent_same (Make m ∷ cs) j c xs ys b = sent_same cs j c (cond c (made m (place_at rows v) xs) xs) (cond c (made m (place_at rows v) ys) ys) (maybe_same c m xs ys b)
    sent_same (Done ∷ cs) j c xs ys b = sent_same cs (j + 1) false xs ys b
    sent_same (End ∷ cs) j c xs ys b = b

  fallen_same : (rules : List Command) (k v : ℕ) (xs ys : List ℕ) → v + k ≤ count rows → Both xs ys → Both (fallen rows rules v k xs) (fallen rows rules v k ys)
  fallen_same rules zero v xs ys fit b = b
  fallen_same rules (suc k) v xs ys fit b =
      fallen_same rules k (suc v) (sent (place_at rows v) rules 0 false xs) (sent (place_at rows v) rules 0 false ys) (omega arith) (sent_same v (omega arith) rules 0 false xs ys b)

pub words_settle : WordsSettle
words_settle cs rules rows = record {
  risen_same = λ xs ys rx ry v h. risen_same rows cs xs ys rx ry 0 (count rows) (omega arith) v (omega arith) h;
  fallen_same = λ v k xs ys fit rx ry e. (fallen_same rows rules k v xs ys fit (record { room_x = rx; room_y = ry; same = e })).same;
}
