-- The tokens of a text, and those of a spelling.
use Rattle.std.proofs.Common.{◌≡◌, ℕ, zero, suc, ◌+◌, ◌-◌, ◌<◌, ◌≤◌, Bool, true, false, cond, eqb, leb, List, [], ◌∷◌, ◌++◌, length, take, drop, sym, refl, ap, ◌∙◌, subst, add-zero, one-add, arith, lit≤, length-append, length-drop, length-take}
use Rattle.grammar.specs.declared.tokens.Symbol.TheVariants.{Slash, DoubleSlash, LeftBracket, RightBracket, LeftParen, RightParen, Star, DoubleColon}
use Rattle.grammar.specs.Tokens as tokens
use Rattle.grammar.specs.Syntax.{Axis, self, child, descendant, following_sibling, NodeTest, element, name, text, node, Path, first, more, Filter, plain, holds, Pred, some, not, and, or, axis_word, text_word, node_word, not_word, or_word, and_word}
use Rattle.grammar.specs.Grammar.{IsTest, is_any, is_name, is_text, is_node, IsPath, is_first, is_root, is_deep, is_more, is_far, IsStep, is_axis, is_child, IsTail, is_tail, IsFilter, is_plain, is_holds, IsPred, is_conj, is_or, IsConj, is_unit, is_and, IsUnit, is_not, is_group, is_some}
use lib.Seq.{take-append_seam, drop-append_seam}
use Rattle.std.specs.List.{prefix_len}
use Rattle.std.proofs.lemmas.List.Sums.{prefix_len-le-length}
use Rattle.std.proofs.lemmas.Bool.Decides.{nat_tests}
use Rattle.std.proofs.lemmas.Bool.{cond_both, cond-true, le-leb, leb-true, both_ways}
use Rattle.grammar.specs.declared.tokens.Symbol.{Symbol}
use Rattle.grammar.specs.Bytes.{white, begins, named}
use Rattle.grammar.specs.Tokens.{Token, symbol, word, Front, found, done, strange, long, first_is, name_of, front_of, Placed, token, cut, tokens_at}
use Rattle.grammar.specs.Spelling.{Place, low, mid, high, or_wraps, and_wraps, wrap, axis_t, slash_t, test_t, path_t, filter_t, pred_t, glyph, write}
use Rattle.grammar.proofs.Shortest.{weight, sw_p, weight_p}
use Rattle.grammar.proofs.Respell.{after, lay}

-- ---- words

abbrev starts_name : List ℕ → Bool
starts_name [] = false
starts_name (b ∷ bs) = begins b

abbrev starts_named : List ℕ → Bool
starts_named [] = false
starts_named (b ∷ bs) = named b

pub record Valid (w : List ℕ) : Type 0 where
  pub starts : starts_name w ≡ true
  pub whole : prefix_len named w ≡ length w
  pub fits : length w ≤ 32

never : {X : Type 0} → false ≡ true → X
never h = let z : ◌≡◌ {A = ℕ} 0 1 = cc in absurd (omega arith)

begins_named : (b : ℕ) → begins b ≡ true → named b ≡ true
begins_named b e = grind (arith, nat_tests)

begins_solid : (b : ℕ) → begins b ≡ true → white b ≡ false
begins_solid b e = grind (arith, nat_tests)

begins_slash : (b : ℕ) → begins b ≡ true → eqb b 47 ≡ false
begins_slash b e = grind (arith, nat_tests)

name_front : (b : ℕ) (bs : List ℕ) → begins b ≡ true → front_of b bs ≡ name_of (b ∷ bs)
name_front b bs e = grind (arith, nat_tests)

lead_yes : (b : ℕ) (bs : List ℕ) → named b ≡ true → prefix_len named (b ∷ bs) ≡ suc (prefix_len named bs)
lead_yes b bs e = ap (λ x. cond x (1 + prefix_len named bs) 0) e ∙ one-add (prefix_len named bs)

lead_no : (b : ℕ) (bs : List ℕ) → named b ≡ false → prefix_len named (b ∷ bs) ≡ 0
lead_no b bs e = ap (λ x. cond x (1 + prefix_len named bs) 0) e

by_bool : (b : Bool) (P : Type 0) → (b ≡ true → P) → (b ≡ false → P) → P
by_bool true P f g = f refl
by_bool false P f g = g refl

lead_take : (xs : List ℕ) → prefix_len named (take (prefix_len named xs) xs) ≡ length (take (prefix_len named xs) xs)
lead_take [] = refl
lead_take (x ∷ xs) = on (lead_take xs)
  where
    on : prefix_len named (take (prefix_len named xs) xs) ≡ length (take (prefix_len named xs) xs) → prefix_len named (take (prefix_len named (x ∷ xs)) (x ∷ xs)) ≡ length (take (prefix_len named (x ∷ xs)) (x ∷ xs))
    on ih = by_bool (named x) _
        (λ e. subst (λ n. prefix_len named (take n (x ∷ xs)) ≡ length (take n (x ∷ xs))) (sym (lead_yes x xs e)) (lead_yes x (take (prefix_len named xs) xs) e ∙ ap suc ih))
        (λ e. subst (λ n. prefix_len named (take n (x ∷ xs)) ≡ length (take n (x ∷ xs))) (sym (lead_no x xs e)) refl)

after_lead : (xs : List ℕ) → starts_named (drop (prefix_len named xs) xs) ≡ false
after_lead [] = refl
after_lead (x ∷ xs) = on (after_lead xs)
  where
    on : starts_named (drop (prefix_len named xs) xs) ≡ false → starts_named (drop (prefix_len named (x ∷ xs)) (x ∷ xs)) ≡ false
    on ih = by_bool (named x) _
        (λ e. subst (λ n. starts_named (drop n (x ∷ xs)) ≡ false) (sym (lead_yes x xs e)) ih)
        (λ e. subst (λ n. starts_named (drop n (x ∷ xs)) ≡ false) (sym (lead_no x xs e)) e)

-- ---- what stands at the front of a text

abbrev Good : ℕ → List ℕ → Front → Type 0
Good b bs (found (symbol m) n) = (length (glyph m) ≡ n) × (0 < n) × (n ≤ suc (length bs))
Good b bs (found (word w) n) = (length w ≡ n) × (0 < n) × (n ≤ suc (length bs)) × Valid w × (named b ≡ true) × (starts_named (drop (n - 1) bs) ≡ false)
Good b bs done = Unit {0}
Good b bs strange = Unit {0}
Good b bs long = Unit {0}

one_good : (b : ℕ) (bs : List ℕ) (m : Symbol) → length (glyph m) ≡ 1 → Good b bs (found (symbol m) 1)
one_good b bs m e = (e, omega arith, omega arith)

two_good : (b c : ℕ) (bs : List ℕ) (m : Symbol) → length (glyph m) ≡ 2 → first_is c bs ≡ true → Good b bs (found (symbol m) 2)
two_good b c [] m e f = never f
two_good b c (x ∷ bs) m e f = (e, omega arith, omega arith)

name_good : (b : ℕ) (bs : List ℕ) → begins b ≡ true → Good b bs (name_of (b ∷ bs))
name_good b bs e =
    let n = prefix_len named (b ∷ bs) in
    let y = begins_named b e in
    let is : n ≡ suc (prefix_len named bs) = lead_yes b bs y in
    let le : n ≤ length (b ∷ bs) = prefix_len-le-length named (b ∷ bs) in
    cond_both (leb n 32) (found (word (take n (b ∷ bs))) n) long (Good b bs)
    (λ h.
    let size : length (take n (b ∷ bs)) ≡ n = length-take n (b ∷ bs) ∙ omega arith in (
      size,
      omega arith,
      le,
      record {
        starts = subst (λ k. starts_name (take k (b ∷ bs)) ≡ true) (sym is) e;
        whole = lead_take (b ∷ bs);
        fits = omega (arith, leb-true n 32 h);
      },
      y,
      subst (λ k. starts_named (drop k bs) ≡ false) (omega arith) (after_lead bs),
    ))
    (λ h. tt)

front_good : (b : ℕ) (bs : List ℕ) → Good b bs (front_of b bs)
front_good b bs =
    cond_both (eqb b 47) _ _ (Good b bs) (λ _. cond_both (first_is 47 bs) (found (symbol DoubleSlash) 2) (found (symbol Slash) 1) (Good b bs) (λ h. two_good b 47 bs DoubleSlash refl h) (λ _. one_good b bs Slash refl)) (λ _.
    cond_both (eqb b 91) (found (symbol LeftBracket) 1) _ (Good b bs) (λ _. one_good b bs LeftBracket refl) (λ _.
    cond_both (eqb b 93) (found (symbol RightBracket) 1) _ (Good b bs) (λ _. one_good b bs RightBracket refl) (λ _.
    cond_both (eqb b 40) (found (symbol LeftParen) 1) _ (Good b bs) (λ _. one_good b bs LeftParen refl) (λ _.
    cond_both (eqb b 41) (found (symbol RightParen) 1) _ (Good b bs) (λ _. one_good b bs RightParen refl) (λ _.
    cond_both (eqb b 42) (found (symbol Star) 1) _ (Good b bs) (λ _. one_good b bs Star refl) (λ _.
    cond_both (eqb b 58) _ _ (Good b bs) (λ _. cond_both (first_is 58 bs) (found (symbol DoubleColon) 2) strange (Good b bs) (λ h. two_good b 58 bs DoubleColon refl h) (λ _. tt)) (λ _.
    cond_both (begins b) (name_of (b ∷ bs)) strange (Good b bs) (λ e. name_good b bs e) (λ _. tt))))))))

-- ---- the tokens of a text

abbrev pub Clean : List Placed → Type 0
Clean [] = Unit {0}
Clean (tokens.bad k a ∷ ts) = k < 4
Clean (token (symbol m) a ∷ ts) = Clean ts
Clean (token (word w) a ∷ ts) = Valid w × Clean ts

-- they take no more than the bytes, with a byte to spare before a word behind a word
pub record Light (ts : List Placed) (rest : List ℕ) : Type 0 where
  pub light : weight_p ts ≤ length rest
  pub clear : starts_named rest ≡ false → weight_p ts + sw_p ts ≤ length rest
  pub clean : Clean ts

sw_one : (us : List Placed) → sw_p us ≤ 1
sw_one [] = omega arith
sw_one (tokens.bad k a ∷ us) = omega arith
sw_one (token (symbol m) a ∷ us) = omega arith
sw_one (token (word w) a ∷ us) = omega arith

abbrev turned : Bool → Front → List ℕ → ℕ → List Placed
turned w f bs p = elim w [ true ↦ cut bs 0 (p + 1) | false ↦ elim f [ found t n ↦ token t p ∷ cut bs (n - 1) (p + 1) | done ↦ [] | strange ↦ tokens.bad 2 p ∷ [] | long ↦ tokens.bad 3 p ∷ [] ] ]

light_none : (rest : List ℕ) → Light [] rest
light_none rest = record { light = omega arith; clear = λ _. omega arith; clean = tt }

light_bad : (k a : ℕ) (rest : List ℕ) → k < 4 → Light (tokens.bad k a ∷ []) rest
light_bad k a rest h = record { light = omega arith; clear = λ _. omega arith; clean = h }

light_turn : (b : ℕ) (bs : List ℕ) (p : ℕ) → ((k q : ℕ) → Light (cut bs k q) (drop k bs)) → (w : Bool) (f : Front) → Good b bs f → Light (turned w f bs p) (b ∷ bs)
light_turn b bs p ih true f g =
    let r = ih 0 (p + 1) in
    record { light = omega (arith, r.light); clear = λ _. omega (arith, r.light, sw_one (cut bs 0 (p + 1))); clean = r.clean }
light_turn b bs p ih false (found (symbol m) n) g =
    let r = ih (n - 1) (p + 1) in
    let d = length-drop (n - 1) bs in
    record { light = omega (arith, r.light); clear = λ _. omega (arith, r.light); clean = r.clean }
light_turn b bs p ih false (found (word w) n) g =
    let r = ih (n - 1) (p + 1) in
    let d = length-drop (n - 1) bs in
    record { light = omega (arith, r.clear g.5); clear = λ z. absurd (both_ways (named b) z g.4); clean = (g.3, r.clean) }
light_turn b bs p ih false done g = light_none (b ∷ bs)
light_turn b bs p ih false strange g = light_bad 2 p (b ∷ bs) (omega arith)
light_turn b bs p ih false long g = light_bad 3 p (b ∷ bs) (omega arith)

pub lighter : (bs : List ℕ) (k p : ℕ) → Light (cut bs k p) (drop k bs)
lighter [] zero p = light_none []
lighter [] (suc k) p = light_none []
lighter (b ∷ bs) (suc k) p = lighter bs k (p + 1)
lighter (b ∷ bs) zero p = light_turn b bs p (lighter bs) (white b) (front_of b bs) (front_good b bs)

-- ---- the names of a query

abbrev SaneT : NodeTest → Type 0
SaneT element = Unit {0}
SaneT (name w) = Valid w
SaneT text = Unit {0}
SaneT node = Unit {0}

abbrev mutual
  pub SaneP : Path → Type 0
  SaneP (first r v t f) = SaneT t × SaneF f
  SaneP (more p v t f) = SaneP p × (SaneT t × SaneF f)

  pub SaneF : Filter → Type 0
  SaneF plain = Unit {0}
  SaneF (holds p) = SaneD p

  pub SaneD : Pred → Type 0
  SaneD (some p) = SaneP p
  SaneD (not p) = SaneD p
  SaneD (and p q) = SaneD p × SaneD q
  SaneD (or p q) = SaneD p × SaneD q

sane_test : {ts us : List Placed} {t : NodeTest} → IsTest ts t us → Clean ts → SaneT t × Clean us
sane_test is_any c = (tt, c)
sane_test is_name c = (c.0, c.1)
sane_test (is_text e) c = (tt, c.1)
sane_test (is_node e) c = (tt, c.1)

mutual
  pub sane_path : {l : ℕ} {ts us : List Placed} {p : Path} → IsPath l ts p us → Clean ts → SaneP p × Clean us
  sane_path (is_first d) c = sane_step d c
  sane_path (is_root d) c = sane_step d c
  sane_path (is_deep d) c = sane_tail d c
  sane_path (is_more x d) c = let r = sane_path x c in let s = sane_step d r.1 in ((r.0, s.0), s.1)
  sane_path (is_far x d) c = let r = sane_path x c in let s = sane_tail d r.1 in ((r.0, s.0), s.1)

  sane_step : {l : ℕ} {ts us : List Placed} {v : Axis} {t : NodeTest} {f : Filter} → IsStep l ts v t f us → Clean ts → (SaneT t × SaneF f) × Clean us
  sane_step (is_axis e d) c = sane_tail d c.1
  sane_step (is_child d) c = sane_tail d c

  sane_tail : {l : ℕ} {ts us : List Placed} {t : NodeTest} {f : Filter} → IsTail l ts t f us → Clean ts → (SaneT t × SaneF f) × Clean us
  sane_tail (is_tail x d) c = let r = sane_test x c in let s = sane_filter d r.1 in ((r.0, s.0), s.1)

  sane_filter : {l : ℕ} {ts us : List Placed} {f : Filter} → IsFilter l ts f us → Clean ts → SaneF f × Clean us
  sane_filter is_plain c = (tt, c)
  sane_filter (is_holds d) c = sane_pred d c

  sane_pred : {l : ℕ} {ts us : List Placed} {p : Pred} → IsPred l ts p us → Clean ts → SaneD p × Clean us
  sane_pred (is_conj d) c = sane_conj d c
  sane_pred (is_or e x d) c = let r = sane_pred x c in let s = sane_conj d r.1.1 in ((r.0, s.0), s.1)

  sane_conj : {l : ℕ} {ts us : List Placed} {p : Pred} → IsConj l ts p us → Clean ts → SaneD p × Clean us
  sane_conj (is_unit d) c = sane_unit d c
  sane_conj (is_and e x d) c = let r = sane_conj x c in let s = sane_unit d r.1.1 in ((r.0, s.0), s.1)

  sane_unit : {l : ℕ} {ts us : List Placed} {p : Pred} → IsUnit l ts p us → Clean ts → SaneD p × Clean us
  sane_unit (is_not e d) c = sane_pred d c.1
  sane_unit (is_group d) c = sane_pred d c
  sane_unit (is_some d) c = sane_path d c

-- ---- tokens that can be written side by side

abbrev NoSlash : List Token → Type 0
NoSlash [] = Unit {0}
NoSlash (symbol Slash ∷ ts) = ⊥
NoSlash (symbol DoubleSlash ∷ ts) = ⊥
NoSlash (symbol LeftBracket ∷ ts) = Unit {0}
NoSlash (symbol RightBracket ∷ ts) = Unit {0}
NoSlash (symbol LeftParen ∷ ts) = Unit {0}
NoSlash (symbol RightParen ∷ ts) = Unit {0}
NoSlash (symbol Star ∷ ts) = Unit {0}
NoSlash (symbol DoubleColon ∷ ts) = Unit {0}
NoSlash (word w ∷ ts) = Unit {0}

abbrev Neat : List Token → Type 0
Neat [] = Unit {0}
Neat (symbol Slash ∷ ts) = NoSlash ts × Neat ts
Neat (symbol DoubleSlash ∷ ts) = Neat ts
Neat (symbol LeftBracket ∷ ts) = Neat ts
Neat (symbol RightBracket ∷ ts) = Neat ts
Neat (symbol LeftParen ∷ ts) = Neat ts
Neat (symbol RightParen ∷ ts) = Neat ts
Neat (symbol Star ∷ ts) = Neat ts
Neat (symbol DoubleColon ∷ ts) = Neat ts
Neat (word w ∷ ts) = Valid w × Neat ts

valid_axis : (v : Axis) → Valid (axis_word v)
valid_axis self = record { starts = refl; whole = refl; fits = lit≤ tt }
valid_axis child = record { starts = refl; whole = refl; fits = lit≤ tt }
valid_axis descendant = record { starts = refl; whole = refl; fits = lit≤ tt }
valid_axis following_sibling = record { starts = refl; whole = refl; fits = lit≤ tt }

valid_text : Valid text_word
valid_text = record { starts = refl; whole = refl; fits = lit≤ tt }

valid_node : Valid node_word
valid_node = record { starts = refl; whole = refl; fits = lit≤ tt }

valid_not : Valid not_word
valid_not = record { starts = refl; whole = refl; fits = lit≤ tt }

valid_or : Valid or_word
valid_or = record { starts = refl; whole = refl; fits = lit≤ tt }

valid_and : Valid and_word
valid_and = record { starts = refl; whole = refl; fits = lit≤ tt }

neat_test : (t : NodeTest) (us : List Token) → SaneT t → Neat us → NoSlash (test_t t us) × Neat (test_t t us)
neat_test element us s h = (tt, h)
neat_test (name w) us s h = (tt, (s, h))
neat_test text us s h = (tt, (valid_text, h))
neat_test node us s h = (tt, (valid_node, h))

neat_slash : (v : Axis) (us : List Token) → NoSlash us × Neat us → Neat (slash_t v us)
neat_slash self us h = (tt, (valid_axis self, h.1))
neat_slash child us h = h
neat_slash descendant us h = h.1
neat_slash following_sibling us h = (tt, (valid_axis following_sibling, h.1))

neat_axis : (v : Axis) (us : List Token) → Neat us → Neat (axis_t v us)
neat_axis self us h = (valid_axis self, h)
neat_axis child us h = h
neat_axis descendant us h = (valid_axis descendant, h)
neat_axis following_sibling us h = (valid_axis following_sibling, h)

neat_wrap : (t : Bool) (f : List Token → List Token) → ((us : List Token) → Neat us → Neat (f us)) → (us : List Token) → Neat us → Neat (wrap t f us)
neat_wrap true f g us h = g (symbol RightParen ∷ us) h
neat_wrap false f g us h = g us h

mutual
  pub neat_path : (p : Path) (us : List Token) → SaneP p → Neat us → Neat (path_t p us)
  neat_path (first true v t f) us s h = neat_slash v (test_t t (filter_t f us)) (neat_test t (filter_t f us) s.0 (neat_filter f us s.1 h))
  neat_path (first false v t f) us s h = neat_axis v (test_t t (filter_t f us)) (neat_test t (filter_t f us) s.0 (neat_filter f us s.1 h)).1
  neat_path (more p v t f) us s h = neat_path p (slash_t v (test_t t (filter_t f us))) s.0 (neat_slash v (test_t t (filter_t f us)) (neat_test t (filter_t f us) s.1.0 (neat_filter f us s.1.1 h)))

  neat_filter : (f : Filter) (us : List Token) → SaneF f → Neat us → Neat (filter_t f us)
  neat_filter plain us s h = h
  neat_filter (holds p) us s h = neat_pred p low (symbol RightBracket ∷ us) s h

  neat_pred : (p : Pred) (k : Place) (us : List Token) → SaneD p → Neat us → Neat (pred_t p k us)
  neat_pred (some p) k us s h = neat_path p us s h
  neat_pred (not p) k us s h = (valid_not, neat_pred p low (symbol RightParen ∷ us) s h)
  neat_pred (and p q) k us s h = neat_wrap (and_wraps k) (λ vs. pred_t p mid (word and_word ∷ pred_t q high vs)) (λ vs n. neat_pred p mid (word and_word ∷ pred_t q high vs) s.0 (valid_and, neat_pred q high vs s.1 n)) us h
  neat_pred (or p q) k us s h = neat_wrap (or_wraps k) (λ vs. pred_t p low (word or_word ∷ pred_t q mid vs)) (λ vs n. neat_pred p low (word or_word ∷ pred_t q mid vs) s.0 (valid_or, neat_pred q mid vs s.1 n)) us h

-- ---- what was written is cut again

cut_skip : (k : ℕ) (xs : List ℕ) (p : ℕ) → cut xs k p ≡ cut (drop k xs) 0 (p + k)
cut_skip zero xs p = ap (cut xs 0) (sym (add-zero p))
cut_skip (suc k) [] p = refl
cut_skip (suc k) (x ∷ xs) p = cut_skip k xs (p + 1) ∙ ap (cut (drop k xs) 0) (omega arith)

lead_append : (w rest : List ℕ) → prefix_len named w ≡ length w → starts_named rest ≡ false → prefix_len named (w ++ rest) ≡ length w
lead_append [] [] e h = refl
lead_append [] (b ∷ rest) e h = lead_no b rest h
lead_append (x ∷ w) rest e h = on (lead_append w rest)
  where
    on : (prefix_len named w ≡ length w → starts_named rest ≡ false → prefix_len named (w ++ rest) ≡ length w) → prefix_len named (x ∷ (w ++ rest)) ≡ suc (length w)
    on ih = by_bool (named x) _
        (λ y. lead_yes x (w ++ rest) y ∙ ap suc (ih (omega (arith, lead_yes x w y)) h))
        (λ y. absurd (omega (arith, lead_no x w y)))

word_cut : (w rest : List ℕ) (p : ℕ) → Valid w → starts_named rest ≡ false → cut (w ++ rest) 0 p ≡ token (word w) p ∷ cut rest 0 (p + length w)
word_cut [] rest p v h = never v.starts
word_cut (b ∷ v) rest p g h =
    let w = b ∷ v in
    let l = prefix_len named (w ++ rest) in
    let n : l ≡ length w = lead_append w rest g.whole h in
    let is : front_of b (v ++ rest) ≡ found (word w) (length w) =
    name_front b (v ++ rest) g.starts
    ∙ cond-true (leb l 32) (found (word (take l (w ++ rest))) l) long (le-leb l 32 (omega (arith, g.fits)))
    ∙ ap (λ k. found (word (take k (w ++ rest))) k) n ∙ ap (λ x. found (word x) (length w)) (take-append_seam w rest) in
    ap (λ x. turned x (front_of b (v ++ rest)) (v ++ rest) p) (begins_solid b g.starts)
    ∙ ap (λ x. turned false x (v ++ rest) p) is
    ∙ ap (λ x. token (word w) p ∷ x) (ap (λ k. cut (v ++ rest) k (p + 1)) (omega arith) ∙ cut_skip (length v) (v ++ rest) (p + 1) ∙ ap (λ x. cut x 0 (p + 1 + length v)) (drop-append_seam v rest) ∙ ap (cut rest 0) (omega arith))

slash_cut : (rest : List ℕ) (p : ℕ) → first_is 47 rest ≡ false → cut (47 ∷ rest) 0 p ≡ token (symbol Slash) p ∷ cut rest 0 (p + 1)
slash_cut rest p h = ap (λ x. turned false (cond x (found (symbol DoubleSlash) 2) (found (symbol Slash) 1)) rest p) h

no_slash : (ts : List Token) → NoSlash ts → Neat ts → first_is 47 (write ts) ≡ false
no_slash [] s h = refl
no_slash (symbol Slash ∷ ts) s h = absurd s
no_slash (symbol DoubleSlash ∷ ts) s h = absurd s
no_slash (symbol LeftBracket ∷ ts) s h = refl
no_slash (symbol RightBracket ∷ ts) s h = refl
no_slash (symbol LeftParen ∷ ts) s h = refl
no_slash (symbol RightParen ∷ ts) s h = refl
no_slash (symbol Star ∷ ts) s h = refl
no_slash (symbol DoubleColon ∷ ts) s h = refl
no_slash (word [] ∷ ts) s h = never h.0.starts
no_slash (word (b ∷ w) ∷ ts) s h = begins_slash b h.0.starts

point_starts : (m : Symbol) (rest : List ℕ) → starts_named (glyph m ++ rest) ≡ false
point_starts Slash rest = refl
point_starts DoubleSlash rest = refl
point_starts LeftBracket rest = refl
point_starts RightBracket rest = refl
point_starts LeftParen rest = refl
point_starts RightParen rest = refl
point_starts Star rest = refl
point_starts DoubleColon rest = refl

-- the place after a token
moved : (ts : List Token) (p q : ℕ) → cut (write ts) 0 q ≡ lay q ts → q ≡ p → cut (write ts) 0 q ≡ lay p ts
moved ts p q h e = h ∙ ap (λ x. lay x ts) e

pub cut_write : (ts : List Token) (p : ℕ) → Neat ts → cut (write ts) 0 p ≡ lay p ts
cut_write [] p h = refl
cut_write (symbol Slash ∷ ts) p h = slash_cut (write ts) p (no_slash ts h.0 h.1) ∙ ap (λ x. token (symbol Slash) p ∷ x) (moved ts (after p (symbol Slash) ts) (p + 1) (cut_write ts (p + 1) h.1) (omega arith))
cut_write (symbol DoubleSlash ∷ ts) p h = ap (λ x. token (symbol DoubleSlash) p ∷ x) (moved ts (after p (symbol DoubleSlash) ts) (p + 1 + 1) (cut_write ts (p + 1 + 1) h) (omega arith))
cut_write (symbol LeftBracket ∷ ts) p h = ap (λ x. token (symbol LeftBracket) p ∷ x) (moved ts (after p (symbol LeftBracket) ts) (p + 1) (cut_write ts (p + 1) h) (omega arith))
cut_write (symbol RightBracket ∷ ts) p h = ap (λ x. token (symbol RightBracket) p ∷ x) (moved ts (after p (symbol RightBracket) ts) (p + 1) (cut_write ts (p + 1) h) (omega arith))
cut_write (symbol LeftParen ∷ ts) p h = ap (λ x. token (symbol LeftParen) p ∷ x) (moved ts (after p (symbol LeftParen) ts) (p + 1) (cut_write ts (p + 1) h) (omega arith))
cut_write (symbol RightParen ∷ ts) p h = ap (λ x. token (symbol RightParen) p ∷ x) (moved ts (after p (symbol RightParen) ts) (p + 1) (cut_write ts (p + 1) h) (omega arith))
cut_write (symbol Star ∷ ts) p h = ap (λ x. token (symbol Star) p ∷ x) (moved ts (after p (symbol Star) ts) (p + 1) (cut_write ts (p + 1) h) (omega arith))
cut_write (symbol DoubleColon ∷ ts) p h = ap (λ x. token (symbol DoubleColon) p ∷ x) (moved ts (after p (symbol DoubleColon) ts) (p + 1 + 1) (cut_write ts (p + 1 + 1) h) (omega arith))
cut_write (word w ∷ []) p h = word_cut w [] p h.0 refl
cut_write (word w ∷ symbol m ∷ ts) p h =
    word_cut w (write (symbol m ∷ ts)) p h.0 (point_starts m (write ts))
    ∙ ap (λ x. token (word w) p ∷ x) (moved (symbol m ∷ ts) (after p (word w) (symbol m ∷ ts)) (p + length w) (cut_write (symbol m ∷ ts) (p + length w) h.1) (omega arith))
cut_write (word w ∷ word x ∷ ts) p h =
    word_cut w (32 ∷ write (word x ∷ ts)) p h.0 refl
    ∙ ap (λ z. token (word w) p ∷ z) (moved (word x ∷ ts) (after p (word w) (word x ∷ ts)) (p + length w + 1) (cut_write (word x ∷ ts) (p + length w + 1) h.1) (omega arith))

pub length_write : (ts : List Token) → length (write ts) ≡ weight ts
length_write [] = refl
length_write (symbol m ∷ ts) = length-append (glyph m) (write ts) ∙ ap (λ n. length (glyph m) + n) (length_write ts)
length_write (word w ∷ []) = length-append w [] ∙ omega arith
length_write (word w ∷ symbol m ∷ ts) = length-append w (write (symbol m ∷ ts)) ∙ omega (arith, length_write (symbol m ∷ ts))
length_write (word w ∷ word x ∷ ts) = length-append w (32 ∷ write (word x ∷ ts)) ∙ omega (arith, length_write (word x ∷ ts))
