-- A join of two leading twelves: the first's nodes, and of the second's as many as there is room for.
use Rattle.std.proofs.Common.{◌≡◌, ℕ, ◌+◌, ◌-◌, ◌≤◌, min, Bool, ◌||◌, ltb, List, ◌++◌, length, take, sym, ap, ◌∙◌, ⊎_elim, arith, length-append, length-take, take_all}
use Rattle.std.proofs.lemmas.Bool.{le-ltb, cases_lt}
use Rattle.std.proofs.lemmas.Bool.Decides.{nat_tests}
use Rattle.std.proofs.lemmas.List.{take-take}
use Rattle.std.proofs.lemmas.Slice.{take-put_mid}
use borrow.Rule.Slice.PartMut.{put_mid}
use Rattle.std.proofs.Math.Seq.{take-append-add}
use Rattle.std.proofs.Math.Bool.{or-false}
use Rattle.tally.specs.Twelve.{flag_right}
use Rattle.tally.specs.Values.{leading, followed, same_leading}

cut : (a o : List ℕ) (m t : ℕ) → length a ≤ 12 → m ≤ length o → t ≡ min m (12 - length a) → a ++ take t o ≡ take 12 (a ++ take m o)
cut a o m t ha hm e =
    let k = 12 - length a in
    let whole : length a + k ≡ 12 = omega arith in
    let part : take t o ≡ take k (take m o) =
    ⊎_elim
    (λ h. ap (λ n. take n o) (omega arith) ∙ sym (take_all k (take m o) (omega (arith, length-take m o))))
    (λ h. ap (λ n. take n o) (omega arith) ∙ sym (take-take k m o h))
    (cases_lt m k) in
    ap (λ l. a ++ l) part ∙ sym (take-append-add a (take m o) k) ∙ ap (λ n. take n (a ++ take m o)) whole

flag_cut : (la lb t : ℕ) → la ≤ 12 → t ≡ min lb (12 - la) → ltb t lb ≡ ltb 12 (la + lb)
flag_cut la lb t h e = grind (arith, nat_tests)

both : (a b r : List ℕ) (m n more : Bool) → length a ≤ 12 → length b ≤ 12 → r ≡ take 12 (a ++ b) → more ≡ (m || n) || ltb 12 (length a + length b) →
    leading r more ≡ followed (leading a m) (leading b n)
both a b r m n more ha hb e f =
    let ea : take 12 a ≡ a = take_all 12 a ha in
    let eb : take 12 b ≡ b = take_all 12 b hb in
    let lr : length r ≤ 12 = omega (arith, ap length e, length-take 12 (a ++ b)) in
    let lab = length-append a b in
    same_leading _ _
    (take_all 12 r lr ∙ e ∙ ap (take 12) (ap (λ (l : List ℕ). l ++ b) (sym ea) ∙ ap (λ (l : List ℕ). take 12 a ++ l) (sym eb)))
    (ap (λ (x : Bool). more || x) (le-ltb 12 (length r) lr) ∙ or-false more ∙ f
    ∙ ap (λ (x : Bool). (m || n) || x) (ap (ltb 12) (sym lab ∙ ap length (ap (λ (l : List ℕ). l ++ b) (sym ea) ∙ ap (λ (l : List ℕ). take 12 a ++ l) (sym eb))))
    ∙ ap (λ (x : Bool). x || ltb 12 (length (take 12 a ++ take 12 b))) (ap (λ (x : Bool). x || n) (sym (flag_right m a ha)) ∙ ap (λ (x : Bool). (m || ltb 12 (length a)) || x) (sym (flag_right n b hb))))

pub copied : (nodes others taken : List ℕ) (len other k t : ℕ) (m n : Bool) → length nodes ≡ 12 → length others ≡ 12 → len ≤ 12 → other ≤ 12 → t ≡ min other (12 - len) → taken ≡ take t others →
    leading (take (len + t) (put_mid len k nodes taken)) ((m || n) || ltb t other) ≡ followed (leading (take len nodes) m) (leading (take other others) n)
copied nodes others taken len other k t m n ha hb a b e s =
    let front = take len nodes in
    let la : length front ≡ len = omega (arith, length-take len nodes) in
    let lb : length (take other others) ≡ other = omega (arith, length-take other others) in
    let lt : length taken ≡ t = omega (arith, ap length s, length-take t others) in
    let et : t ≡ min other (12 - length front) = omega arith in
    both front (take other others) _ m n _ (omega arith) (omega arith)
    (take-put_mid len k nodes taken (len + t) (omega arith) (omega arith) ∙ ap (λ l. front ++ l) s ∙ cut front others other t (omega arith) (omega arith) et)
    (ap (λ x. (m || n) || x) (ap (ltb t) (sym lb) ∙ flag_cut (length front) (length (take other others)) t (omega arith) (omega arith)))
