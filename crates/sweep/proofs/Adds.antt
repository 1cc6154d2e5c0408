-- What moves add to the words.
use Rattle.std.proofs.Common.{◌≡◌, ℕ, ◌+◌, ◌<◌, ◌≤◌, Bool, true, false, T, ◌⊎◌, ◌↔◌, List, length, get_or, set, Some, None, Option, sym, refl, ap, ◌∙◌, subst, inl, inr, ⊎_elim, arith, length-set, get_or-set_other, get_or-set_same}
use Rattle.std.proofs.lemmas.Bool.{cases_eq}
use Rattle.rows.specs.Rows.{Row, count_of as count, FirstChild, NextSibling}
use Rattle.rows.specs.Answers.{first_of as first_child, next_of as next_sibling}
use Rattle.rows.specs.Claims.{Answers}
use Rattle.automata.specs.Program.{Goes, Leads}
use Rattle.automata.specs.Program as program
use Rattle.rows.proofs.Questions.{questions}
use Rattle.automata.proofs.Solutions.{next_unique}
use Rattle.words.specs.Bit.{bit, with_bit}
use Rattle.words.proofs.Bits.{bit_set, bit_kept}
use Rattle.commands.specs.declared.command.Move.{Move}
use Rattle.commands.specs.declared.command.Move.TheVariants.{Down, On, Stay, Mark}
use Rattle.commands.specs.Decoded.{move}
use Rattle.sweep.specs.Falling.{entered, made, place_at}
use Rattle.sweep.proofs.Risen.{T_same}

bool_same : (a b : Bool) → T a ↔ T b → a ≡ b
bool_same true true e = refl
bool_same true false e = absurd (e.0 tt)
bool_same false true e = absurd (e.1 tt)
bool_same false false e = refl

-- From ws to xs the state q has entered w where R says so, and nothing else has changed.
pub record Adds (n : ℕ) (ws xs : List ℕ) (R : ℕ → ℕ → Type 0) : Type 0 where
  pub long : length xs ≡ length ws
  pub low : (i w : ℕ) → i < 40 → bit (get_or xs w 0) i ≡ bit (get_or ws w 0) i
  pub high : (q w : ℕ) → w < n → T (bit (get_or xs w 0) (40 + q)) ↔ (T (bit (get_or ws w 0) (40 + q)) ⊎ R q w)

pub adds_none : (n : ℕ) (ws : List ℕ) (R : ℕ → ℕ → Type 0) → ((q w : ℕ) → ¬ R q w) → Adds n ws ws R
adds_none n ws R no_one = record { long = refl; low = λ i w h. refl; high = λ q w h. (inl, ⊎_elim (λ t. t) (λ r. absurd (no_one q w r))) }

pub adds_then : (n : ℕ) (ws xs ys : List ℕ) (R S U : ℕ → ℕ → Type 0) → Adds n ws xs R → Adds n xs ys S → ((q w : ℕ) → U q w ↔ (R q w ⊎ S q w)) → Adds n ws ys U
adds_then n ws xs ys R S U a b u = record {
  long = b.long ∙ a.long;
  low = λ i w h. b.low i w h ∙ a.low i w h;
  high = λ q w h. (
    λ t. ⊎_elim (λ x. ⊎_elim inl (λ r. inr ((u q w).1 (inl r))) ((a.high q w h).0 x)) (λ s. inr ((u q w).1 (inr s))) ((b.high q w h).0 t),
    ⊎_elim (λ t. (b.high q w h).1 (inl ((a.high q w h).1 (inl t))))
        (λ r. ⊎_elim (λ x. (b.high q w h).1 (inl ((a.high q w h).1 (inr x)))) (λ s. (b.high q w h).1 (inr s)) ((u q w).0 r)),
  );
}

pub adds_same : (n : ℕ) (ws xs : List ℕ) (R S : ℕ → ℕ → Type 0) → Adds n ws xs R → ((q w : ℕ) → R q w ↔ S q w) → Adds n ws xs S
adds_same n ws xs R S a e = record {
  long = a.long;
  low = a.low;
  high = λ q w h. (λ t. ⊎_elim inl (λ r. inr ((e q w).0 r)) ((a.high q w h).0 t), ⊎_elim (λ t. (a.high q w h).1 (inl t)) (λ s. (a.high q w h).1 (inr ((e q w).1 s))));
}

-- a state that does not enter the node keeps its bit
pub adds_kept : (n : ℕ) (ws xs : List ℕ) (R : ℕ → ℕ → Type 0) → Adds n ws xs R → (q w : ℕ) → w < n → ¬ R q w → bit (get_or xs w 0) (40 + q) ≡ bit (get_or ws w 0) (40 + q)
adds_kept n ws xs R a q w h no_one =
    bool_same _ _ (λ t. ⊎_elim (λ x. x) (λ r. absurd (no_one r)) ((a.high q w h).0 t), λ t. (a.high q w h).1 (inl t))

-- the word of x with the state p
abbrev with_state : List ℕ → ℕ → ℕ → ℕ
with_state ws x p = with_bit (get_or ws x 0) (40 + p)

enters : (n p : ℕ) (R : ℕ → Type 0) (o : Option ℕ) (ws : List ℕ) → p < 24 → n ≤ length ws → Answers o R → ((w : ℕ) → R w → w < n) → ((w x : ℕ) → R w → R x → w ≡ x)
    → Adds n ws (entered p o ws) (λ q w. (p ≡ q) × R w)
enters n p R None ws few room a within one = adds_none n ws (λ q w. (p ≡ q) × R w) (λ q w r. a w r.1)
enters n p R (Some x) ws few room a within one = record {
  long = length-set ws x (with_bit (get_or ws x 0) (40 + p));
  low = λ i w h. low i w h (cases_eq w x);
  high = λ q w h. high q w h (cases_eq w x) (cases_eq p q);
}
  where
    here : (w : ℕ) → w ≡ x → get_or (set ws x (with_state ws x p)) w 0 ≡ with_state ws x p
    here w e = let h = within x a in ap (λ (y : ℕ). get_or (set ws x (with_state ws x p)) y 0) e ∙ get_or-set_same ws x (with_state ws x p) 0 (omega arith)

    low : (i w : ℕ) → i < 40 → (w ≡ x) ⊎ (w ≡ x → ⊥) → bit (get_or (set ws x (with_state ws x p)) w 0) i ≡ bit (get_or ws w 0) i
    low i w h (inl e) =
        ap (λ (y : ℕ). bit y i) (here w e) ∙ bit_kept (get_or ws x 0) (40 + p) i (λ k. let z : 40 + p ≡ i = k in omega arith) ∙ sym (ap (λ (y : ℕ). bit (get_or ws y 0) i) e)
    low i w h (inr m) = ap (λ (y : ℕ). bit y i) (get_or-set_other ws x w (with_state ws x p) 0 m)

    high : (q w : ℕ) → w < n → (w ≡ x) ⊎ (w ≡ x → ⊥) → (p ≡ q) ⊎ (p ≡ q → ⊥) → T (bit (get_or (set ws x (with_state ws x p)) w 0) (40 + q)) ↔ (T (bit (get_or ws w 0) (40 + q)) ⊎ ((p ≡ q) × R w))
    high q w h (inl e) (inl k) = (
      λ t. inr (k, subst R (sym e) a),
      λ t. subst T (sym (ap (λ (y : ℕ). bit y (40 + q)) (here w e) ∙ sym (ap (λ (y : ℕ). bit (with_state ws x p) (40 + y)) k) ∙ bit_set (get_or ws x 0) (40 + p) (omega arith))) tt,
    )
    high q w h (inl e) (inr m) =
        let s = T_same (ap (λ (y : ℕ). bit y (40 + q)) (here w e) ∙ bit_kept (get_or ws x 0) (40 + p) (40 + q) (λ k. m (let z : 40 + p ≡ 40 + q = k in omega arith)) ∙ sym (ap (λ (y : ℕ). bit (get_or ws y 0) (40 + q)) e)) in
        (λ t. inl (s.0 t), ⊎_elim s.1 (λ r. absurd (m r.0)))
    high q w h (inr m) d =
        let s = T_same (ap (λ (y : ℕ). bit y (40 + q)) (get_or-set_other ws x w (with_state ws x p) 0 m)) in
        (λ t. inl (s.0 t), ⊎_elim s.1 (λ r. absurd (m (one w x r.1 a))))

module _ (rows : List Row) (v : ℕ) (h : v < count rows) where
  pub move_adds : (m : Move) (n j : ℕ) (ws : List ℕ) → n ≤ 24 → count rows ≤ length ws → Goes (move m) n j → Adds (count rows) ws (made m (place_at rows v) ws) (λ q w. Leads (move m) rows v q w)
  move_adds (Down p) n j ws few room g =
      enters (count rows) p (FirstChild rows v) (first_child rows v) ws (omega arith) room (questions rows v h).0 (λ w r. r.1) (λ w x a b. a.0 ∙ sym b.0)
  move_adds (On p) n j ws few room g =
      enters (count rows) p (NextSibling rows v) (next_sibling rows v) ws (omega arith) room (questions rows v h).1 (λ w r. r.1) (next_unique rows v)
  move_adds (Stay p) n j ws few room g =
      enters (count rows) p (λ w. v ≡ w) (Some v) ws (omega arith) room refl (λ w r. subst (λ (x : ℕ). x < count rows) r h) (λ w x a b. sym a ∙ b)
  move_adds Mark n j ws few room g = adds_none (count rows) ws _ (λ q w r. r)

  -- no move of the state j makes the node itself enter j
  pub leads_away : (m : program.Move) (n j : ℕ) → Goes m n j → ¬ Leads m rows v j v
  leads_away (program.down p) n j g l = let e = l.1.0 in omega arith
  leads_away (program.on p) n j g l = let e = l.1.0 in omega arith
  leads_away (program.stay p) n j g l = let e = l.0 in omega arith
  leads_away program.mark n j g l = l
