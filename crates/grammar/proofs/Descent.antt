-- How the calls of a reader by recursive descent join.
use Rattle.std.proofs.Common.{◌≡◌, ℕ, zero, suc, true, false, List, ◌∷◌, sym, refl, ap, ◌∙◌}
use Rattle.grammar.specs.declared.tokens.Symbol.TheVariants.{Slash, DoubleSlash, LeftBracket, RightBracket, LeftParen, RightParen, Star}
use Rattle.grammar.specs.Tokens.{symbol, word, Placed, token}
use Rattle.grammar.specs.Syntax.{Axis, child, NodeTest, element, Path, holds, Pred, some, not, and, or, not_word, or_word, and_word}
use Rattle.grammar.specs.Machine.{Before, start, ext, Side, no, has, Context, top, unit, Opened, bracket, group, negate, begin, due, test, pend, named, tested, stepped, united, either, Where, inner, where_is, to, begins, same, lone, refused, turn, run}
use Rattle.grammar.proofs.Words.{by_test, same_true}
use Rattle.grammar.specs.Descent.{Read, ok, err, PathTold, UnitTold, ConjTold, PredTold, mapped}
use Rattle.grammar.specs.Glances.{next_is}
use Rattle.grammar.proofs.Glance.{unit_done, not_name, not_many}
use Rattle.grammar.proofs.Refusals.{onward}

module _ (e : ℕ) where
  -- the loop over `and`
  pub one_unit : (l o i : ℕ) (ts : List Placed) (r : Read Pred) → UnitTold e l o i ts r → ConjTold e l o i ts r
  one_unit l o i ts (ok p x y us) f = (no, p, refl, λ k s. f k s no)
  one_unit l o i ts (err c a) f = λ k s. f k s no

  pub and_unit : (l o i : ℕ) (ts : List Placed) (p : Pred) (x y a : ℕ) (us : List Placed) (r : Read Pred) → ConjTold e l o i ts (ok p x y (token (word and_word) a ∷ us)) → UnitTold e l x y us r → ConjTold e l o i ts (mapped (and p) r)
  and_unit l o i ts p x y a us (ok q z w vs) f g = (has p, q, refl, λ k s. f.3 k s ∙ ap (λ c. run e (begin (unit k s (has c))) l x y us) f.2 ∙ g k s (has p))
  and_unit l o i ts p x y a us (err c d) f g = λ k s. f.3 k s ∙ ap (λ c. run e (begin (unit k s (has c))) l x y us) f.2 ∙ g k s (has p)

  -- the loop over `or`
  pub one_conj : (l o i : ℕ) (ts : List Placed) (r : Read Pred) → ConjTold e l o i ts r → PredTold e l o i ts r
  one_conj l o i ts (ok p x y us) f = (no, f.0, f.1, f.2, λ k. f.3 k no)
  one_conj l o i ts (err c a) f = λ k. f k no

  pub or_conj : (l o i : ℕ) (ts : List Placed) (p : Pred) (x y a : ℕ) (us : List Placed) (r : Read Pred) → PredTold e l o i ts (ok p x y (token (word or_word) a ∷ us)) → ConjTold e l x y us r → PredTold e l o i ts (mapped (or p) r)
  or_conj l o i ts p x y a us (ok q z w vs) f g = (has p, g.0, g.1, ap (or p) g.2, λ k. f.4 k ∙ ap (λ c. run e (begin (unit k (has c) no)) l x y us) f.3 ∙ g.3 k (has p))
  or_conj l o i ts p x y a us (err c d) f g = λ k. f.4 k ∙ ap (λ c. run e (begin (unit k (has c) no)) l x y us) f.3 ∙ g k (has p)

  -- the units
  pub group_unit : (l o i b c : ℕ) (us : List Placed) (p : Pred) (x y : ℕ) (vs : List Placed) → PredTold e l o i us (ok p x y (token (symbol RightParen) c ∷ vs)) → UnitTold e (suc l) o i (token (symbol LeftParen) b ∷ us) (ok p x y vs)
  group_unit l o i b c us p x y vs f k s n = f.4 (group k s n) ∙ ap (λ z. run e (united k s n z) (suc l) x y vs) f.3

  pub group_fault : (l o i b : ℕ) (us : List Placed) (c a : ℕ) → PredTold e l o i us (err c a) → UnitTold e (suc l) o i (token (symbol LeftParen) b ∷ us) (err c a)
  group_fault l o i b us c a f k s n = f (group k s n)

  pub group_deep : (o i b : ℕ) (us : List Placed) → UnitTold e 0 o i (token (symbol LeftParen) b ∷ us) (err 5 b)
  group_deep o i b us k s n = refl

  pub not_unit : (l o i a b c : ℕ) (us : List Placed) (p : Pred) (x y : ℕ) (vs : List Placed) → PredTold e l o i us (ok p x y (token (symbol RightParen) c ∷ vs)) → UnitTold e (suc l) o i (token (word not_word) a ∷ token (symbol LeftParen) b ∷ us) (ok (not p) x y vs)
  not_unit l o i a b c us p x y vs f k s n = f.4 (negate k s n) ∙ ap (λ z. run e (united k s n (not z)) (suc l) x y vs) f.3

  pub not_fault : (l o i a b : ℕ) (us : List Placed) (c d : ℕ) → PredTold e l o i us (err c d) → UnitTold e (suc l) o i (token (word not_word) a ∷ token (symbol LeftParen) b ∷ us) (err c d)
  not_fault l o i a b us c d f k s n = f (negate k s n)

  pub path_unit : (l o i : ℕ) (ts : List Placed) (p : Path) (x y : ℕ) (us : List Placed) → PathTold inner e l o i ts (ok p x y us) → next_is Slash us ≡ false → next_is DoubleSlash us ≡ false → UnitTold e l o i ts (ok (some p) x y us)
  path_unit l o i ts p x y us f g h k s n = f (unit k s n) refl ∙ unit_done e k s n p l x y us g h

  pub path_fault : (l o i : ℕ) (ts : List Placed) (c a : ℕ) → PathTold inner e l o i ts (err c a) → UnitTold e l o i ts (err c a)
  path_fault l o i ts c a f k s n = f (unit k s n) refl

  -- the bracket of a step
  pub holds_step : (l o i a z : ℕ) (us : List Placed) (p : Pred) (x y : ℕ) (vs : List Placed) → PredTold e l o i us (ok p x y (token (symbol RightBracket) z ∷ vs)) → (c : Context) (b : Before) (v : Axis) (t : NodeTest) → run e (tested c b v t) (suc l) o i (token (symbol LeftBracket) a ∷ us) ≡ run e (stepped c (ext b v t (holds p))) (suc l) x y vs
  holds_step l o i a z us p x y vs f c b v t = f.4 (bracket c b v t) ∙ ap (λ d. run e (stepped c (ext b v t (holds d))) (suc l) x y vs) f.3

  pub holds_fault : (l o i a : ℕ) (us : List Placed) (d z : ℕ) → PredTold e l o i us (err d z) → (c : Context) (b : Before) (v : Axis) (t : NodeTest) → run e (tested c b v t) (suc l) o i (token (symbol LeftBracket) a ∷ us) ≡ refused d z
  holds_fault l o i a us d z f c b v t = f (bracket c b v t)

  -- a step begins: then the numbers compute
  pub due_word : (c : Context) (b : Before) (w : Where) (z : List ℕ) (l o i a : ℕ) (ts : List Placed) → where_is c ≡ w → run e (due c b) l o i (token (word z) a ∷ ts) ≡ onward e (turn (begins w a (to (pend c b z))) a l o i) ts
  due_word c b w z l o i a ts g = ap (λ w. onward e (turn (begins w a (to (pend c b z))) a l o i) ts) g

  pub due_star : (c : Context) (b : Before) (w : Where) (l o i a : ℕ) (ts : List Placed) → where_is c ≡ w → run e (due c b) l o i (token (symbol Star) a ∷ ts) ≡ onward e (turn (begins w a (to (tested c b child element))) a l o i) ts
  due_star c b w l o i a ts g = ap (λ w. onward e (turn (begins w a (to (tested c b child element))) a l o i) ts) g

  pub far_word : (c : Context) (b : Before) (v : Axis) (w : Where) (z : List ℕ) (l o i a : ℕ) (ts : List Placed) → where_is c ≡ w → run e (test c b v true) l o i (token (word z) a ∷ ts) ≡ onward e (turn (begins w a (to (named c b v z))) a l o i) ts
  far_word c b v w z l o i a ts g = ap (λ w. onward e (turn (begins w a (to (named c b v z))) a l o i) ts) g

  pub far_star : (c : Context) (b : Before) (v : Axis) (w : Where) (l o i a : ℕ) (ts : List Placed) → where_is c ≡ w → run e (test c b v true) l o i (token (symbol Star) a ∷ ts) ≡ onward e (turn (begins w a (to (tested c b v element))) a l o i) ts
  far_star c b v w l o i a ts g = ap (λ w. onward e (turn (begins w a (to (tested c b v element))) a l o i) ts) g

  -- a path begins with a step: a word, unless it is `not` before `(`
  word_begin : (k : Opened) (s n : Side) (z : List ℕ) (l o i a : ℕ) (ts : List Placed) → (z ≡ not_word → next_is LeftParen ts ≡ false) → run e (begin (unit k s n)) l o i (token (word z) a ∷ ts) ≡ run e (due (unit k s n) (start false)) l o i (token (word z) a ∷ ts)
  word_begin k s n z l o i a ts h = by_test (same z not_word) (λ j. onward e (turn (lone j k s n z a) a l o i) ts ≡ run e (due (unit k s n) (start false)) l o i (token (word z) a ∷ ts))
      (λ g. let q = same_true z not_word g in late i (h q) ∙ ap (λ w. run e (due (unit k s n) (start false)) l o i (token (word w) a ∷ ts)) (sym q))
      (λ g. refl)
    where
      late : (i : ℕ) → next_is LeftParen ts ≡ false → run e (either k s n a) l o i ts ≡ run e (due (unit k s n) (start false)) l o i (token (word not_word) a ∷ ts)
      late zero h = not_many e k s n a l o 0 ts h
      late (suc i) h = not_name e k s n a l o i ts h

  pub path_word : (c : Context) (z : List ℕ) (l o i a : ℕ) (ts : List Placed) → (where_is c ≡ inner → z ≡ not_word → next_is LeftParen ts ≡ false) → run e (begin c) l o i (token (word z) a ∷ ts) ≡ run e (due c (start false)) l o i (token (word z) a ∷ ts)
  path_word top z l o i a ts h = refl
  path_word (unit k s n) z l o i a ts h = word_begin k s n z l o i a ts (h refl)

  pub path_star : (c : Context) (l o i a : ℕ) (ts : List Placed) → run e (begin c) l o i (token (symbol Star) a ∷ ts) ≡ run e (due c (start false)) l o i (token (symbol Star) a ∷ ts)
  path_star c l o i a ts = refl
