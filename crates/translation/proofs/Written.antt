-- Writes from the end on.
use Rattle.std.proofs.Common.{◌≡◌, ℕ, ◌+◌, ◌-◌, ◌<◌, ◌≤◌, List, [], ◌∷◌, ◌++◌, reverse, length, take, drop, set, sym, refl, ap, ◌∙◌, subst, arith, length-append, drop-drop, drop-set-lt}
use Rattle.std.proofs.lemmas.List.{append_assoc, reverse-append, take_more_set}
use Rattle.translation.specs.Written.{text_of, Adds, Remains}

pub adds_none : (out : List ℕ) (at : ℕ) → Adds out at out at []
adds_none out at = record { text = refl; rest = refl; many = omega arith }

drop_further : (a b : ℕ) (x y : List ℕ) → a ≤ b → drop a x ≡ drop a y → drop b x ≡ drop b y
drop_further a b x y h e =
    let s : a + (b - a) ≡ b = omega arith in
    let p : drop (b - a) (drop a x) ≡ drop b x = drop-drop (b - a) a x ∙ ap (λ n. drop n x) s in
    let q : drop (b - a) (drop a y) ≡ drop b y = drop-drop (b - a) a y ∙ ap (λ n. drop n y) s in
    sym p ∙ ap (drop (b - a)) e ∙ q

pub adds_more : {out o end : List ℕ} {at a to : ℕ} {xs ys : List ℕ} → Adds out at o a xs → Adds o a end to ys → Adds out at end to (ys ++ xs)
adds_more {out} {o} {end} {at} {a} {to} {xs} {ys} f g =
    let e = f.many in
    let d = g.many in
    record {
      text = g.text ∙ ap (λ x. ys ++ x) f.text ∙ sym (append_assoc ys xs (text_of out at));
      rest = g.rest ∙ drop_further a to o out (omega arith) f.rest;
      many = simp length-append (omega arith);
    }

pub adds_as : {out end : List ℕ} {at to : ℕ} {xs ys : List ℕ} → xs ≡ ys → Adds out at end to xs → Adds out at end to ys
adds_as {out} {end} {at} {to} e h = subst (λ x. Adds out at end to x) e h

pub remains_all : (whole out : List ℕ) (at : ℕ) → Remains whole out at whole out at
remains_all whole out at = record { text = refl; rest = refl; size = refl }

pub remains_less : {whole out left end o less xs : List ℕ} {at to a : ℕ} → Remains whole out at left end to → left ≡ less ++ xs → Adds end to o a xs
    → Remains whole out at less o a
remains_less {whole} {out} {left} {end} {o} {less} {xs} {at} {to} {a} r e f =
    let m = f.many in
    let s = r.size in
    let l : length left ≡ length less + length xs = ap length e ∙ length-append less xs in
    record {
      text = r.text ∙ ap (λ x. x ++ text_of end to) e ∙ append_assoc less xs (text_of end to) ∙ ap (λ x. less ++ x) (sym f.text);
      rest = f.rest ∙ drop_further to a end out (omega arith) r.rest;
      size = omega arith;
    }

pub remains_none : {whole out left end o : List ℕ} {at to a : ℕ} → Remains whole out at left end to → Adds end to o a left → Adds out at o a whole
remains_none {whole} {out} {left} {end} {o} {at} {to} {a} r f =
    let m = f.many in
    let s = r.size in
    record { text = f.text ∙ sym r.text; rest = f.rest ∙ drop_further to a end out (omega arith) r.rest; many = omega arith }
