-- One turn more, as kind i sees it.
use Rattle.std.proofs.Common.{◌≡◌, ℕ, zero, suc, ◌+◌, ◌<◌, min, Bool, true, false, cond, eqb, List, [], ◌∷◌, ◌++◌, length, get_or, take, set, Some, None, Ok, Option, refl, ap, subst, add-one, arith}
use Rattle.std.proofs.lemmas.Bool.{eqb-true}
use Rattle.std.proofs.lemmas.List.{get_or-take}
use Rattle.tally.specs.Monoid.{marks_of}
use Rattle.selector.specs.declared.fault.Fault.{Fault}
use Rattle.selector.specs.Calls.{tally, other, value, told}
use Rattle.rows.specs.Rows.{Row, count_of as count}
use Rattle.selector.specs.Steps.{State, refusal, state_after, words_after, outcome, told_nodes}
use Rattle.history.specs.History.{Turn, reply, reply_by}
use Rattle.history.proofs.Turns.{granted_same}
use Rattle.history.specs.declared.calls.Call.{Call as Held}
use Rattle.history.specs.declared.calls.Reply.TheVariants.{Value}
use Rattle.history.specs.Views.{Given, turn_by, turns_by, answer_by}

more : {S V : Type 0} (n : ℕ) (f : S → V) (i : ℕ) (cs : List Held) (gs : List (Given S)) (d : Held) (g : Given S) → i < length cs → i < length gs →
    turns_by n f (take (suc i) cs) (take (suc i) (set gs i g)) ≡ turns_by n f (take i cs) (take i gs) ++ (turn_by n f (get_or cs i d) g ∷ [])
more n f i [] gs d g a b = absurd (omega arith)
more n f i (x ∷ cs) [] d g a b = absurd (omega arith)
more n f zero (x ∷ cs) (y ∷ gs) d g a b = refl
more n f (suc i) (x ∷ cs) (y ∷ gs) d g a b = ap (λ (l : List (Turn _)). turn_by n f x y ∷ l) (more n f i cs gs d g (omega arith) (omega arith))

-- with the call taken from the first m
pub turns_more : {S V : Type 0} (n : ℕ) (f : S → V) (i m : ℕ) (cs : List Held) (gs : List (Given S)) (d : Held) (g : Given S) → i < m → i < length cs → i < length gs →
    turns_by n f (take (i + 1) cs) (take (i + 1) (set gs i g)) ≡ turns_by n f (take i cs) (take i gs) ++ (turn_by n f (get_or (take m cs) i d) g ∷ [])
turns_more n f i m cs gs d g h a b = rw (add-one, get_or-take m cs i d h) (more n f i cs gs d g a b)

pub turns_all : {S V : Type 0} (k : ℕ) (f : S → V) (n : ℕ) (cs : List Held) (gs : List (Given S)) → n ≡ min (length cs) (length gs) → turns_by k f (take n cs) (take n gs) ≡ turns_by k f cs gs
turns_all k f zero [] gs e = refl
turns_all k f (suc n) [] gs e = absurd (omega arith)
turns_all k f zero (c ∷ cs) [] e = refl
turns_all k f (suc n) (c ∷ cs) [] e = refl
turns_all k f zero (c ∷ cs) (g ∷ gs) e = absurd (omega arith)
turns_all k f (suc n) (c ∷ cs) (g ∷ gs) e = ap (λ (l : List (Turn _)). turn_by k f c g ∷ l) (turns_all k f n cs gs (omega arith))

-- what a granted tally of kind k tells, as kind i sees it
module _ {S : Type 0} {V : ℕ → Type 0} (f : (i : ℕ) → S → V i) (empty : (i : ℕ) → V i) (mark : (i : ℕ) → ℕ → V i) (join : (i : ℕ) → V i → V i → V i) (rows : List Row) where
  own : (o : Option Fault) (s : State) (ws : List ℕ) (lo hi i : ℕ) (x : S) → Ok (f i x) ≡ outcome o (marks_of (empty i) (mark i) (join i) (told_nodes s ws lo hi)) →
      value (f i x) ≡ reply_by (empty i) (mark i) (join i) rows o s ws (tally lo hi)
  own (Some e) s ws lo hi i x h = cc
  own None s ws lo hi i x h = cc

  not_own : {W : Type 0} (v w : W) (o : Option Fault) (s : State) (ws : List ℕ) (lo hi i : ℕ) → Ok v ≡ outcome o w → told ≡ reply_by (empty i) (mark i) (join i) rows o s ws (other lo hi)
  not_own v w (Some e) s ws lo hi i h = cc
  not_own v w None s ws lo hi i h = refl

  go : (k i : ℕ) (t : Bool) → eqb k i ≡ t → (s : State) (ws : List ℕ) (lo hi : ℕ) (x : S) →
      Ok (f k x) ≡ outcome (refusal s (count rows) (length ws) (tally lo hi)) (marks_of (empty k) (mark k) (join k) (told_nodes s ws lo hi)) →
      cond t (value (f i x)) told ≡ reply (empty i) (mark i) (join i) rows s ws (cond t (tally lo hi) (other lo hi))
  go k i true e s ws lo hi x h =
      own (refusal s (count rows) (length ws) (tally lo hi)) s ws lo hi i x
      (subst (λ (j : ℕ). Ok (f j x) ≡ outcome (refusal s (count rows) (length ws) (tally lo hi)) (marks_of (empty j) (mark j) (join j) (told_nodes s ws lo hi))) (eqb-true k i e) h)
  go k i false e s ws lo hi x h = not_own (f k x) (marks_of (empty k) (mark k) (join k) (told_nodes s ws lo hi)) (refusal s (count rows) (length ws) (tally lo hi)) s ws lo hi i h

  pub seen : (k i : ℕ) (s : State) (ws : List ℕ) (lo hi : ℕ) (x : S) →
      Ok (f k x) ≡ outcome (refusal s (count rows) (length ws) (tally lo hi)) (marks_of (empty k) (mark k) (join k) (told_nodes s ws lo hi)) →
      answer_by (f i) (eqb k i) (Ok (Value x)) ≡ reply (empty i) (mark i) (join i) rows s ws (cond (eqb k i) (tally lo hi) (other lo hi))
  seen k i s ws lo hi x h = go k i (eqb k i) refl s ws lo hi x h
