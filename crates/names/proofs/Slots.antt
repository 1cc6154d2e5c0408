-- The test of a slot decides whether it is a name and then 0 bytes.
use Rattle.std.proofs.Common.{◌≡◌, ℕ, zero, suc, ◌+◌, ◌-◌, ◌<◌, ◌≤◌, true, false, ◌&&◌, Bool, eqb, List, [], ◌∷◌, ◌++◌, length, get_or, drop, replicate, sym, refl, ap, ◌∙◌, subst, ⊎_elim, arith}
use Rattle.std.proofs.lemmas.Bool.{cases_Bool, cond-true, cond-false, and_parts, and_from, or_left, ne_eqb, eqb-true, both_ways}
use Rattle.std.proofs.lemmas.List.{length-append, length-replicate}
use Rattle.std.specs.List.{prefix_len}
use Rattle.names.specs.Names.{begins, goes_on, blank, goes_on_all, is_name, padded, Name}
use Rattle.names.specs.Claims.{NamesDecided, NamesApart}

abbrev AllOn : List ℕ → Type 0
AllOn m = (i : ℕ) → i < length m → goes_on (get_or m i 0) ≡ true

not_zero : (b : ℕ) → goes_on b ≡ true → b ≡ 0 → ⊥
not_zero b on e = both_ways (goes_on 0) refl (subst (λ (x : ℕ). goes_on x ≡ true) e on)

begins_on : (b : ℕ) → begins b ≡ true → goes_on b ≡ true
begins_on b h = or_left _ _ (or_left _ _ (or_left (begins b) _ h))

blank_zeros : (bs : List ℕ) → blank bs ≡ true → bs ≡ replicate (length bs) 0
blank_zeros [] e = refl
blank_zeros (b ∷ bs) e =
    let p = and_parts (eqb b 0) (blank bs) e in
    let z = eqb-true b 0 p.0 in
    let zs = blank_zeros bs p.1 in
    cc

zeros_blank : (k : ℕ) → blank (replicate k 0) ≡ true
zeros_blank zero = refl
zeros_blank (suc k) = zeros_blank k

record Parts (bs : List ℕ) : Type 0 where
  pub name : List ℕ
  pub zeros : ℕ
  pub on : AllOn name
  pub whole : bs ≡ name ++ replicate zeros 0

longer : (b : ℕ) (m : List ℕ) → goes_on b ≡ true → AllOn m → AllOn (b ∷ m)
longer b m on each zero h = on
longer b m on each (suc i) h = each i (omega arith)

split : (bs : List ℕ) → goes_on_all bs ≡ true → Parts bs
split [] e = record { name = []; zeros = 0; on = λ i h. absurd (omega arith); whole = refl }
split (b ∷ bs) e =
    ⊎_elim
    (λ (z : eqb b 0 ≡ true).
    record { name = []; zeros = length (b ∷ bs); on = λ i h. absurd (omega arith); whole = blank_zeros (b ∷ bs) (sym (cond-true _ _ _ z) ∙ e) })
    (λ (z : eqb b 0 ≡ false).
    let p = and_parts (goes_on b) (goes_on_all bs) (sym (cond-false _ _ _ z) ∙ e) in
    let rest = split bs p.1 in
    record { name = b ∷ rest.name; zeros = rest.zeros; on = longer b rest.name p.0 rest.on; whole = ap (λ (l : List ℕ). b ∷ l) rest.whole })
    (cases_Bool (eqb b 0))

join : (m : List ℕ) (k : ℕ) → AllOn m → goes_on_all (m ++ replicate k 0) ≡ true
join [] zero on = refl
join [] (suc k) on = zeros_blank (suc k)
join (b ∷ m) k on =
    let here : goes_on b ≡ true = on 0 (omega arith) in
    cond-false (eqb b 0) _ _ (ne_eqb b 0 (not_zero b here)) ∙ and_from (goes_on b) _ here (join m k (λ i h. on (suc i) (omega arith)))

to_name : (s : List ℕ) → length s ≡ 32 → is_name s ≡ true → (n : List ℕ) × Name n × (s ≡ padded n)
to_name [] long e = absurd (omega arith)
to_name (b ∷ bs) long e =
    let p = and_parts (begins b) (goes_on_all bs) e in
    let rest = split bs p.1 in
    let m = rest.name in
    let counted : length bs ≡ length m + rest.zeros = ap length rest.whole ∙ length-append m (replicate rest.zeros 0) ∙ ap (λ (k : ℕ). length m + k) (length-replicate rest.zeros 0) in
    let same : rest.zeros ≡ 32 - length (b ∷ m) = omega arith in (
      b ∷ m,
      record { some = omega arith; few = omega arith; first = p.0; each = longer b m (begins_on b p.0) rest.on },
      ap (λ (l : List ℕ). b ∷ l) rest.whole ∙ ap (λ (k : ℕ). b ∷ (m ++ replicate k 0)) same,
    )

of_name : (n : List ℕ) → Name n → is_name (padded n) ≡ true
of_name [] w = let h : 1 ≤ 0 = w.some in absurd (omega arith)
of_name (b ∷ m) w = and_from (begins b) _ w.first (join m (32 - length (b ∷ m)) (λ i h. w.each (suc i) (omega arith)))

pub names_decided : NamesDecided
names_decided s long = (to_name s long, λ x. subst (λ (l : List ℕ). is_name l ≡ true) (sym x.2) (of_name x.0 x.1))

zero_first : (b : ℕ) (n : List ℕ) (j : ℕ) (r : List ℕ) → AllOn (b ∷ n) → replicate j 0 ≡ b ∷ r → ⊥
zero_first b n zero r on e = let z : ◌≡◌ {A = ℕ} 0 1 = cc in omega arith
zero_first b n (suc j) r on e = let z : b ≡ 0 = cc in not_zero b (on 0 (omega arith)) z

same_names : (m n : List ℕ) (j k : ℕ) → AllOn m → AllOn n → m ++ replicate j 0 ≡ n ++ replicate k 0 → m ≡ n
same_names [] [] j k p q e = refl
same_names [] (b ∷ n) j k p q e = absurd (zero_first b n j (n ++ replicate k 0) q e)
same_names (a ∷ m) [] j k p q e = absurd (zero_first a m k (m ++ replicate j 0) p (sym e))
same_names (a ∷ m) (b ∷ n) j k p q e =
    let rest : m ++ replicate j 0 ≡ n ++ replicate k 0 = cc in
    let ih = same_names m n j k (λ i h. p (suc i) (omega arith)) (λ i h. q (suc i) (omega arith)) rest in
    cc

pub names_apart : NamesApart
names_apart m n p q e = same_names m n (32 - length m) (32 - length n) p.each q.each e

-- the bytes after the first that does not go on with a name are 0 exactly where bytes go on with a name and then are 0
pub zeros_after : (bs : List ℕ) → blank (drop (prefix_len goes_on bs) bs) ≡ goes_on_all bs
zeros_after [] = refl
zeros_after (b ∷ bs) =
    ⊎_elim
    (λ (on : goes_on b ≡ true).
    let k : prefix_len goes_on (b ∷ bs) ≡ suc (prefix_len goes_on bs) = cond-true (goes_on b) _ _ on ∙ omega arith in
    ap (λ (n : ℕ). blank (drop n (b ∷ bs))) k ∙ zeros_after bs
    ∙ ap (λ (g : Bool). g && goes_on_all bs) (sym on) ∙ sym (cond-false (eqb b 0) _ _ (ne_eqb b 0 (not_zero b on))))
    (λ (off : goes_on b ≡ false).
    ap (λ (n : ℕ). blank (drop n (b ∷ bs))) (cond-false (goes_on b) _ _ off)
    ∙ ⊎_elim
    (λ (z : eqb b 0 ≡ true). sym (cond-true (eqb b 0) _ _ z))
    (λ (z : eqb b 0 ≡ false). ap (λ (g : Bool). g && blank bs) z ∙ sym (cond-false (eqb b 0) _ _ z ∙ ap (λ (g : Bool). g && goes_on_all bs) off))
    (cases_Bool (eqb b 0)))
    (cases_Bool (goes_on b))
