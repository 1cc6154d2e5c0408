-- Lemmas of lists cut at twelve.
use Rattle.std.specs.Prelude.{◌≡◌, ℕ, zero, suc, ◌+◌, ◌<◌, ◌≤◌, Bool, true, false, ◌||◌, List, [], ◌∷◌, ◌++◌, length, take, nat_lt, refl}
use Rattle.std.proofs.Common.{sym, ap, ◌∙◌, ⊎_elim, arith, length-take, length-append}
use Rattle.std.proofs.Math.Bool.{or-false, or-true}
use Rattle.std.proofs.lemmas.Bool.{le-ltb, lt-ltb, cases_lt}

pub few_of : (xs : List ℕ) → length (take 12 xs) ≤ 12
few_of xs = omega (arith, length-take 12 xs)

front : (n : ℕ) (xs ys : List ℕ) → take n (take n xs ++ ys) ≡ take n (xs ++ ys)
front zero xs ys = refl
front (suc n) [] ys = refl
front (suc n) (x ∷ xs) ys = ap (λ (l : List ℕ). x ∷ l) (front n xs ys)

back : (n m : ℕ) (xs ys : List ℕ) → n ≤ m → take n (xs ++ take m ys) ≡ take n (xs ++ ys)
back zero m xs ys h = refl
back (suc n) zero xs ys h = absurd (omega arith)
back (suc n) (suc m) [] [] h = refl
back (suc n) (suc m) [] (y ∷ ys) h = ap (λ (l : List ℕ). y ∷ l) (back n m [] ys (omega arith))
back (suc n) (suc m) (x ∷ xs) ys h = ap (λ (l : List ℕ). x ∷ l) (back n (suc m) xs ys (omega arith))

pub take_front : (xs ys : List ℕ) → take 12 (take 12 xs ++ ys) ≡ take 12 (xs ++ ys)
take_front xs ys = front 12 xs ys

pub take_back : (xs ys : List ℕ) → take 12 (xs ++ take 12 ys) ≡ take 12 (xs ++ ys)
take_back xs ys = back 12 12 xs ys (omega arith)

pub flag_right : (m : Bool) (xs : List ℕ) → length xs ≤ 12 → (m || nat_lt 12 (length xs)) ≡ m
flag_right m xs h = ap (λ (b : Bool). m || b) (le-ltb 12 (length xs) h) ∙ or-false m

either_way : (t u v w : Bool) (n i j : ℕ) →
    (12 < i → t ≡ true) → (i ≤ 12 → t ≡ false) → (12 < j → w ≡ true) → (j ≤ 12 → w ≡ false) →
    (12 < n → i ≤ 12 → u ≡ true) → (n ≤ 12 → u ≡ false) → (12 < n → j ≤ 12 → v ≡ true) → (n ≤ 12 → v ≡ false) →
    i ≤ n → j ≤ n → (t || false) || u ≡ w || v
either_way t u v w n i j ti tn wi wn ui un vi vn hi hj =
    ⊎_elim
    (λ big.
    let l : (t || false) || u ≡ true = ⊎_elim (λ p. ap (λ (x : Bool). (x || false) || u) (ti p)) (λ p. ap (λ (x : Bool). (t || false) || x) (ui big p) ∙ or-true (t || false)) (cases_lt 12 i) in
    let r : w || v ≡ true = ⊎_elim (λ p. ap (λ (x : Bool). x || v) (wi p)) (λ p. ap (λ (x : Bool). w || x) (vi big p) ∙ or-true w) (cases_lt 12 j) in
    l ∙ sym r)
    (λ small.
    let l : (t || false) || u ≡ false = ap (λ (x : Bool). (x || false) || u) (tn (omega arith)) ∙ un small in
    let r : w || v ≡ false = ap (λ (x : Bool). x || v) (wn (omega arith)) ∙ vn small in
    l ∙ sym r)
    (cases_lt 12 n)

pub flag_assoc : (a b c : Bool) (xs ys zs : List ℕ) →
    (((a || b) || nat_lt 12 (length (xs ++ ys))) || c) || nat_lt 12 (length (take 12 (xs ++ ys) ++ zs))
    ≡ (a || ((b || c) || nat_lt 12 (length (ys ++ zs)))) || nat_lt 12 (length (xs ++ take 12 (ys ++ zs)))
flag_assoc true b c xs ys zs = refl
flag_assoc false true c xs ys zs = refl
flag_assoc false false true xs ys zs = ap (λ (x : Bool). x || nat_lt 12 (length (take 12 (xs ++ ys) ++ zs))) (or-true (nat_lt 12 (length (xs ++ ys))))
flag_assoc false false false xs ys zs =
    let e1 = length-append xs ys in
    let e2 = length-append ys zs in
    let e3 = length-append (take 12 (xs ++ ys)) zs in
    let e4 = length-append xs (take 12 (ys ++ zs)) in
    let e5 = length-take 12 (xs ++ ys) in
    let e6 = length-take 12 (ys ++ zs) in
    either_way _ _ _ _ (length xs + length ys + length zs) (length (xs ++ ys)) (length (ys ++ zs))
    (λ h. lt-ltb 12 _ h) (λ h. le-ltb 12 _ h) (λ h. lt-ltb 12 _ h) (λ h. le-ltb 12 _ h)
    (λ h k. lt-ltb 12 _ (omega arith)) (λ h. le-ltb 12 _ (omega arith))
    (λ h k. lt-ltb 12 _ (omega arith)) (λ h. le-ltb 12 _ (omega arith))
    (omega arith) (omega arith)
