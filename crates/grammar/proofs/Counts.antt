-- How many steps the machine has begun.
use Rattle.std.proofs.Common.{◌≡◌, ℕ, zero, suc, ◌+◌, ◌≤◌, Bool, true, false, List, [], ◌∷◌, refl, ap, ◌∙◌, subst, arith}
use Rattle.grammar.specs.declared.tokens.Symbol.TheVariants.{Slash, DoubleSlash, LeftBracket, RightBracket, LeftParen, RightParen, Star, DoubleColon}
use Rattle.grammar.specs.Tokens.{Token, symbol, word, Placed, token, tokens_at}
use Rattle.grammar.specs.Tokens as tokens
use Rattle.grammar.specs.Syntax.{Axis, child, NodeTest, element, name, Path, first, more, Filter, plain, holds, Pred, some, not, and, or, not_word, own, in_path, in_filter, in_pred}
use Rattle.grammar.specs.Machine.{Before, start, past, ext, Side, no, has, conj, disj, Context, top, unit, Opened, bracket, group, negate, State, begin, due, test, pend, named, close, tested, stepped, united, either, Where, outer, inner, where_is, Move, none, to, down, up, Act, act, begins, same, shut, right, joined, on_united, on_ended, on_stepped, on_tested, typed, on_named, on_axis, on_pend, on_close, on_test, on_due, lone, worded, grouped, on_begin, on_either, next, Last, whole, early, behind, ended, last, Outcome, accepted, refused, Turn, stop, go, move, turn, at_end, at_fault, run}
use Rattle.grammar.proofs.Words.{by_test, by_axis, by_type, by_join}

abbrev pub outs : Where → ℕ → ℕ
outs outer o = suc o
outs inner o = o

abbrev pub ins : Where → ℕ → ℕ
ins outer i = i
ins inner i = suc i

-- what was left before the steps of a path were begun, from what is left after them
abbrev pub out_p : Where → Path → ℕ → ℕ
out_p x (first r v t f) o = outs x o
out_p x (more p v t f) o = out_p x p (outs x o)

abbrev mutual
  pub in_o : Where → Path → ℕ → ℕ
  in_o x (first r v t f) i = ins x (in_f f i)
  in_o x (more p v t f) i = in_o x p (ins x (in_f f i))

  pub in_f : Filter → ℕ → ℕ
  in_f plain i = i
  in_f (holds p) i = in_p p i

  pub in_p : Pred → ℕ → ℕ
  in_p (some p) i = in_o inner p i
  in_p (not p) i = in_p p i
  in_p (and p q) i = in_p p (in_p q i)
  in_p (or p q) i = in_p p (in_p q i)

pub out_inner : (p : Path) (o : ℕ) → out_p inner p o ≡ o
out_inner (first r v t f) o = refl
out_inner (more p v t f) o = out_inner p o

pub out_outer : (p : Path) (o : ℕ) → out_p outer p o ≡ o + own p
out_outer (first r v t f) o = omega arith
out_outer (more p v t f) o = omega (arith, out_outer p (suc o))

mutual
  pub in_outer : (p : Path) (i : ℕ) → in_o outer p i ≡ i + in_path p
  in_outer (first r v t f) i = in_filter_lem f i
  in_outer (more p v t f) i = omega (arith, in_outer p (in_f f i), in_filter_lem f i)

  pub in_inner : (p : Path) (i : ℕ) → in_o inner p i ≡ i + (own p + in_path p)
  in_inner (first r v t f) i = omega (arith, in_filter_lem f i)
  in_inner (more p v t f) i = omega (arith, in_inner p (suc (in_f f i)), in_filter_lem f i)

  pub in_filter_lem : (f : Filter) (i : ℕ) → in_f f i ≡ i + in_filter f
  in_filter_lem plain i = omega arith
  in_filter_lem (holds p) i = in_pred_lem p i

  pub in_pred_lem : (p : Pred) (i : ℕ) → in_p p i ≡ i + in_pred p
  in_pred_lem (some p) i = in_inner p i
  in_pred_lem (not p) i = in_pred_lem p i
  in_pred_lem (and p q) i = omega (arith, in_pred_lem p (in_p q i), in_pred_lem q i)
  in_pred_lem (or p q) i = omega (arith, in_pred_lem p (in_p q i), in_pred_lem q i)

abbrev in_s : Side → ℕ → ℕ
in_s no i = i
in_s (has p) i = in_p p i

abbrev out_b : Where → Before → ℕ → ℕ
out_b x (start r) o = o
out_b x (past p) o = out_p x p o

abbrev in_b : Where → Before → ℕ → ℕ
in_b x (start r) i = i
in_b x (past p) i = in_o x p i

abbrev mutual
  out_c : Context → ℕ → ℕ
  out_c top o = o
  out_c (unit k a n) o = out_k k o

  out_k : Opened → ℕ → ℕ
  out_k (bracket c b v t) o = out_c c (out_b (where_is c) b (outs (where_is c) o))
  out_k (group k a n) o = out_k k o
  out_k (negate k a n) o = out_k k o

abbrev mutual
  in_c : Context → ℕ → ℕ
  in_c top i = i
  in_c (unit k o n) i = in_k k (in_s o (in_s n i))

  in_k : Opened → ℕ → ℕ
  in_k (bracket c b v t) i = in_c c (in_b (where_is c) b (ins (where_is c) i))
  in_k (group k o n) i = in_k k (in_s o (in_s n i))
  in_k (negate k o n) i = in_k k (in_s o (in_s n i))

abbrev out_u : State → ℕ → ℕ
out_u (begin c) x = out_c c x
out_u (due c b) x = out_c c (out_b (where_is c) b x)
out_u (test c b v true) x = out_c c (out_b (where_is c) b x)
out_u (test c b v false) x = out_c c (out_b (where_is c) b (outs (where_is c) x))
out_u (pend c b w) x = out_c c (out_b (where_is c) b (outs (where_is c) x))
out_u (named c b v w) x = out_c c (out_b (where_is c) b (outs (where_is c) x))
out_u (close c b v t) x = out_c c (out_b (where_is c) b (outs (where_is c) x))
out_u (tested c b v t) x = out_c c (out_b (where_is c) b (outs (where_is c) x))
out_u (stepped c p) x = out_c c (out_p (where_is c) p x)
out_u (united k o n p) x = out_k k x
out_u (either k o n d) x = out_k k x

abbrev in_u : State → ℕ → ℕ
in_u (begin c) x = in_c c x
in_u (due c b) x = in_c c (in_b (where_is c) b x)
in_u (test c b v true) x = in_c c (in_b (where_is c) b x)
in_u (test c b v false) x = in_c c (in_b (where_is c) b (ins (where_is c) x))
in_u (pend c b w) x = in_c c (in_b (where_is c) b (ins (where_is c) x))
in_u (named c b v w) x = in_c c (in_b (where_is c) b (ins (where_is c) x))
in_u (close c b v t) x = in_c c (in_b (where_is c) b (ins (where_is c) x))
in_u (tested c b v t) x = in_c c (in_b (where_is c) b (ins (where_is c) x))
in_u (stepped c p) x = in_c c (in_o (where_is c) p x)
in_u (united k o n p) x = in_k k (in_s o (in_s n (in_p p x)))
in_u (either k o n d) x = in_k k (in_s o (in_s n x))

join_in : (o n : Side) (p : Pred) (y : ℕ) → in_s o (in_s n (in_p p y)) ≡ in_p (disj o (conj n p)) y
join_in no no p y = refl
join_in no (has q) p y = refl
join_in (has r) no p y = refl
join_in (has r) (has q) p y = refl

conj_in : (n : Side) (p : Pred) (y : ℕ) → in_s n (in_p p y) ≡ in_p (conj n p) y
conj_in no p y = refl
conj_in (has q) p y = refl

ext_in : (x : Where) (b : Before) (v : Axis) (t : NodeTest) (f : Filter) (y : ℕ) → in_b x b (ins x (in_f f y)) ≡ in_o x (ext b v t f) y
ext_in x (start r) v t f y = refl
ext_in x (past p) v t f y = refl

ext_out : (x : Where) (b : Before) (v : Axis) (t : NodeTest) (f : Filter) (y : ℕ) → out_b x b (outs x y) ≡ out_p x (ext b v t f) y
ext_out x (start r) v t f y = refl
ext_out x (past p) v t f y = refl

-- of P steps outside and Q inside
module _ (P Q : ℕ) where
  pub record Ct (s : State) (x y : ℕ) : Type 0 where
    pub outside : P ≡ out_u s x
    pub inside : Q ≡ in_u s y

  abbrev CtMove : Move → ℕ → ℕ → Type 0
  CtMove none x y = Unit {0}
  CtMove (to s) x y = Ct s x y
  CtMove (down s) x y = Ct s x y
  CtMove (up s) x y = Ct s x y

  -- the counts before a step is begun; m of x and y after it
  abbrev CtAct : Act → ℕ → ℕ → Type 0
  CtAct (act m) x y = CtMove m x y
  CtAct (begins outer d m) zero y = Unit {0}
  CtAct (begins outer d m) (suc x) y = CtMove m x y
  CtAct (begins inner d m) x zero = Unit {0}
  CtAct (begins inner d m) x (suc y) = CtMove m x y

  abbrev CtTurn : Turn → Type 0
  CtTurn (stop k a) = Unit {0}
  CtTurn (go s l x y) = Ct s x y

  ct_move : (m : Move) (a l x y : ℕ) → CtMove m x y → CtTurn (move m a l x y)
  ct_move none a l x y h = tt
  ct_move (to s) a l x y h = h
  ct_move (down s) a zero x y h = tt
  ct_move (down s) a (suc l) x y h = h
  ct_move (up s) a l x y h = h

  ct_turn : (z : Act) (a l x y : ℕ) → CtAct z x y → CtTurn (turn z a l x y)
  ct_turn (act m) a l x y h = ct_move m a l x y h
  ct_turn (begins outer d m) a l zero y h = tt
  ct_turn (begins outer d m) a l (suc x) y h = ct_move m a l x y h
  ct_turn (begins inner d m) a l x zero h = tt
  ct_turn (begins inner d m) a l x (suc y) h = ct_move m a l x y h

  ct_shut : (k : Opened) (p : Pred) (x y : ℕ) → P ≡ out_k k x → Q ≡ in_k k (in_p p y) → CtMove (shut k p) x y
  ct_shut (bracket c b v t) p x y g h = record {
    outside = g ∙ ap (out_c c) (ext_out (where_is c) b v t (holds p) x);
    inside = h ∙ ap (in_c c) (ext_in (where_is c) b v t (holds p) y);
  }
  ct_shut (group k o n) p x y g h = tt
  ct_shut (negate k o n) p x y g h = tt

  ct_right : (k : Opened) (p : Pred) (x y : ℕ) → P ≡ out_k k x → Q ≡ in_k k (in_p p y) → CtMove (right k p) x y
  ct_right (bracket c b v t) p x y g h = tt
  ct_right (group k o n) p x y g h = record { outside = g; inside = h }
  ct_right (negate k o n) p x y g h = record { outside = g; inside = h }

  ct_united : (k : Opened) (o n : Side) (p : Pred) (t : Token) (x y : ℕ) → Ct (united k o n p) x y → CtMove (on_united k o n p t) x y
  ct_united k o n p (symbol Slash) x y h = tt
  ct_united k o n p (symbol DoubleSlash) x y h = tt
  ct_united k o n p (symbol LeftBracket) x y h = tt
  ct_united k o n p (symbol RightBracket) x y h = ct_shut k (disj o (conj n p)) x y h.outside (h.inside ∙ ap (in_k k) (join_in o n p y))
  ct_united k o n p (symbol LeftParen) x y h = tt
  ct_united k o n p (symbol RightParen) x y h = ct_right k (disj o (conj n p)) x y h.outside (h.inside ∙ ap (in_k k) (join_in o n p y))
  ct_united k o n p (symbol Star) x y h = tt
  ct_united k o n p (symbol DoubleColon) x y h = tt
  ct_united k o n p (word w) x y h = by_join w (λ j. CtMove (joined j k o n p) x y)
      (λ e. record { outside = h.outside; inside = h.inside ∙ ap (in_k k) (join_in o n p y) })
      (λ e. record { outside = h.outside; inside = h.inside ∙ ap (λ z. in_k k (in_s o z)) (conj_in n p y) })
      tt

  ct_ended : (c : Context) (p : Path) (t : Token) (x y : ℕ) → Ct (stepped c p) x y → CtMove (on_ended c p t) x y
  ct_ended top p t x y h = tt
  ct_ended (unit k o n) p t x y h = ct_united k o n (some p) t x y (record { outside = h.outside ∙ ap (out_k k) (out_inner p x); inside = h.inside })

  ct_stepped : (c : Context) (p : Path) (t : Token) (x y : ℕ) → Ct (stepped c p) x y → CtMove (on_stepped c p t) x y
  ct_stepped c p (symbol Slash) x y h = record { outside = h.outside; inside = h.inside }
  ct_stepped c p (symbol DoubleSlash) x y h = record { outside = h.outside; inside = h.inside }
  ct_stepped c p (symbol LeftBracket) x y h = tt
  ct_stepped c p (symbol RightBracket) x y h = ct_ended c p (symbol RightBracket) x y h
  ct_stepped c p (symbol LeftParen) x y h = tt
  ct_stepped c p (symbol RightParen) x y h = ct_ended c p (symbol RightParen) x y h
  ct_stepped c p (symbol Star) x y h = tt
  ct_stepped c p (symbol DoubleColon) x y h = tt
  ct_stepped c p (word w) x y h = ct_ended c p (word w) x y h

  plainly : (c : Context) (b : Before) (v : Axis) (t : NodeTest) (x y : ℕ) → Ct (tested c b v t) x y → Ct (stepped c (ext b v t plain)) x y
  plainly c b v t x y h = record {
    outside = h.outside ∙ ap (out_c c) (ext_out (where_is c) b v t plain x);
    inside = h.inside ∙ ap (in_c c) (ext_in (where_is c) b v t plain y);
  }

  ct_tested : (c : Context) (b : Before) (v : Axis) (z : NodeTest) (t : Token) (x y : ℕ) → Ct (tested c b v z) x y → CtMove (on_tested c b v z t) x y
  ct_tested c b v z (symbol Slash) x y h = ct_stepped c (ext b v z plain) (symbol Slash) x y (plainly c b v z x y h)
  ct_tested c b v z (symbol DoubleSlash) x y h = ct_stepped c (ext b v z plain) (symbol DoubleSlash) x y (plainly c b v z x y h)
  ct_tested c b v z (symbol LeftBracket) x y h = record { outside = h.outside; inside = h.inside }
  ct_tested c b v z (symbol RightBracket) x y h = ct_stepped c (ext b v z plain) (symbol RightBracket) x y (plainly c b v z x y h)
  ct_tested c b v z (symbol LeftParen) x y h = tt
  ct_tested c b v z (symbol RightParen) x y h = ct_stepped c (ext b v z plain) (symbol RightParen) x y (plainly c b v z x y h)
  ct_tested c b v z (symbol Star) x y h = tt
  ct_tested c b v z (symbol DoubleColon) x y h = tt
  ct_tested c b v z (word w) x y h = ct_stepped c (ext b v z plain) (word w) x y (plainly c b v z x y h)

  as_name : (c : Context) (b : Before) (v : Axis) (w : List ℕ) (x y : ℕ) → Ct (named c b v w) x y → Ct (tested c b v (name w)) x y
  as_name c b v w x y h = record { outside = h.outside; inside = h.inside }

  ct_named : (c : Context) (b : Before) (v : Axis) (w : List ℕ) (t : Token) (x y : ℕ) → Ct (named c b v w) x y → CtMove (on_named c b v w t) x y
  ct_named c b v w (symbol Slash) x y h = ct_tested c b v (name w) (symbol Slash) x y (as_name c b v w x y h)
  ct_named c b v w (symbol DoubleSlash) x y h = ct_tested c b v (name w) (symbol DoubleSlash) x y (as_name c b v w x y h)
  ct_named c b v w (symbol LeftBracket) x y h = ct_tested c b v (name w) (symbol LeftBracket) x y (as_name c b v w x y h)
  ct_named c b v w (symbol RightBracket) x y h = ct_tested c b v (name w) (symbol RightBracket) x y (as_name c b v w x y h)
  ct_named c b v w (symbol LeftParen) x y h = by_type w (λ j. CtMove (typed j c b v) x y) (λ e. record { outside = h.outside; inside = h.inside }) (λ e. record { outside = h.outside; inside = h.inside }) tt
  ct_named c b v w (symbol RightParen) x y h = ct_tested c b v (name w) (symbol RightParen) x y (as_name c b v w x y h)
  ct_named c b v w (symbol Star) x y h = tt
  ct_named c b v w (symbol DoubleColon) x y h = tt
  ct_named c b v w (word z) x y h = ct_tested c b v (name w) (word z) x y (as_name c b v w x y h)

  as_child : (c : Context) (b : Before) (w : List ℕ) (x y : ℕ) → Ct (pend c b w) x y → Ct (named c b child w) x y
  as_child c b w x y h = record { outside = h.outside; inside = h.inside }

  ct_pend : (c : Context) (b : Before) (w : List ℕ) (t : Token) (x y : ℕ) → Ct (pend c b w) x y → CtMove (on_pend c b w t) x y
  ct_pend c b w (symbol Slash) x y h = ct_named c b child w (symbol Slash) x y (as_child c b w x y h)
  ct_pend c b w (symbol DoubleSlash) x y h = ct_named c b child w (symbol DoubleSlash) x y (as_child c b w x y h)
  ct_pend c b w (symbol LeftBracket) x y h = ct_named c b child w (symbol LeftBracket) x y (as_child c b w x y h)
  ct_pend c b w (symbol RightBracket) x y h = ct_named c b child w (symbol RightBracket) x y (as_child c b w x y h)
  ct_pend c b w (symbol LeftParen) x y h = ct_named c b child w (symbol LeftParen) x y (as_child c b w x y h)
  ct_pend c b w (symbol RightParen) x y h = ct_named c b child w (symbol RightParen) x y (as_child c b w x y h)
  ct_pend c b w (symbol Star) x y h = tt
  ct_pend c b w (symbol DoubleColon) x y h = by_axis w (λ j. CtMove (on_axis j c b) x y) (λ v e. record { outside = h.outside; inside = h.inside }) tt
  ct_pend c b w (word z) x y h = ct_named c b child w (word z) x y (as_child c b w x y h)

  ct_close : (c : Context) (b : Before) (v : Axis) (z : NodeTest) (t : Token) (x y : ℕ) → Ct (close c b v z) x y → CtMove (on_close c b v z t) x y
  ct_close c b v z (symbol Slash) x y h = tt
  ct_close c b v z (symbol DoubleSlash) x y h = tt
  ct_close c b v z (symbol LeftBracket) x y h = tt
  ct_close c b v z (symbol RightBracket) x y h = tt
  ct_close c b v z (symbol LeftParen) x y h = tt
  ct_close c b v z (symbol RightParen) x y h = record { outside = h.outside; inside = h.inside }
  ct_close c b v z (symbol Star) x y h = tt
  ct_close c b v z (symbol DoubleColon) x y h = tt
  ct_close c b v z (word w) x y h = tt

  -- a step begins
  starts : (c : Context) (b : Before) (a x y : ℕ) (m : Move) → P ≡ out_c c (out_b (where_is c) b x) → Q ≡ in_c c (in_b (where_is c) b y) → ((x y : ℕ) → P ≡ out_c c (out_b (where_is c) b (outs (where_is c) x)) → Q ≡ in_c c (in_b (where_is c) b (ins (where_is c) y)) → CtMove m x y) → CtAct (begins (where_is c) a m) x y
  starts top b a zero y m g h f = tt
  starts top b a (suc x) y m g h f = f x y g h
  starts (unit k o n) b a x zero m g h f = tt
  starts (unit k o n) b a x (suc y) m g h f = f x y g h

  ct_test : (c : Context) (b : Before) (v : Axis) (s : Bool) (t : Token) (a x y : ℕ) → Ct (test c b v s) x y → CtAct (on_test c b v s t a) x y
  ct_test c b v s (symbol Slash) a x y h = tt
  ct_test c b v s (symbol DoubleSlash) a x y h = tt
  ct_test c b v s (symbol LeftBracket) a x y h = tt
  ct_test c b v s (symbol RightBracket) a x y h = tt
  ct_test c b v s (symbol LeftParen) a x y h = tt
  ct_test c b v s (symbol RightParen) a x y h = tt
  ct_test c b v true (symbol Star) a x y h = starts c b a x y (to (tested c b v element)) h.outside h.inside (λ p q g k. record { outside = g; inside = k })
  ct_test c b v false (symbol Star) a x y h = record { outside = h.outside; inside = h.inside }
  ct_test c b v s (symbol DoubleColon) a x y h = tt
  ct_test c b v true (word w) a x y h = starts c b a x y (to (named c b v w)) h.outside h.inside (λ p q g k. record { outside = g; inside = k })
  ct_test c b v false (word w) a x y h = record { outside = h.outside; inside = h.inside }

  ct_due : (c : Context) (b : Before) (t : Token) (a x y : ℕ) → Ct (due c b) x y → CtAct (on_due c b t a) x y
  ct_due c b (symbol Slash) a x y h = tt
  ct_due c b (symbol DoubleSlash) a x y h = tt
  ct_due c b (symbol LeftBracket) a x y h = tt
  ct_due c b (symbol RightBracket) a x y h = tt
  ct_due c b (symbol LeftParen) a x y h = tt
  ct_due c b (symbol RightParen) a x y h = tt
  ct_due c b (symbol Star) a x y h = starts c b a x y (to (tested c b child element)) h.outside h.inside (λ p q g k. record { outside = g; inside = k })
  ct_due c b (symbol DoubleColon) a x y h = tt
  ct_due c b (word w) a x y h = starts c b a x y (to (pend c b w)) h.outside h.inside (λ p q g k. record { outside = g; inside = k })

  ct_grouped : (c : Context) (x y : ℕ) → Ct (begin c) x y → CtAct (grouped c) x y
  ct_grouped top x y h = tt
  ct_grouped (unit k o n) x y h = record { outside = h.outside; inside = h.inside }

  ct_worded : (c : Context) (w : List ℕ) (a x y : ℕ) → Ct (begin c) x y → CtAct (worded c w a) x y
  ct_worded top w a x y h = starts top (start false) a x y (to (pend top (start false) w)) h.outside h.inside (λ p q g k. record { outside = g; inside = k })
  ct_worded (unit k o n) w a x y h = by_test (same w not_word) (λ j. CtAct (lone j k o n w a) x y)
      (λ e. record { outside = h.outside; inside = h.inside })
      (λ e. starts (unit k o n) (start false) a x y (to (pend (unit k o n) (start false) w)) h.outside h.inside (λ p q g z. record { outside = g; inside = z }))

  ct_begin : (c : Context) (t : Token) (a x y : ℕ) → Ct (begin c) x y → CtAct (on_begin c t a) x y
  ct_begin c (symbol Slash) a x y h = record { outside = h.outside; inside = h.inside }
  ct_begin c (symbol DoubleSlash) a x y h = record { outside = h.outside; inside = h.inside }
  ct_begin c (symbol LeftBracket) a x y h = tt
  ct_begin c (symbol RightBracket) a x y h = tt
  ct_begin c (symbol LeftParen) a x y h = ct_grouped c x y h
  ct_begin c (symbol RightParen) a x y h = tt
  ct_begin c (symbol Star) a x y h = starts c (start false) a x y (to (tested c (start false) child element)) h.outside h.inside (λ p q g k. record { outside = g; inside = k })
  ct_begin c (symbol DoubleColon) a x y h = tt
  ct_begin c (word w) a x y h = ct_worded c w a x y h

  ct_late : (k : Opened) (o n : Side) (d : ℕ) (t : Token) (x y : ℕ) → Ct (either k o n d) x y → CtAct (begins inner d (on_pend (unit k o n) (start false) not_word t)) x y
  ct_late k o n d t x y h = starts (unit k o n) (start false) d x y (on_pend (unit k o n) (start false) not_word t) h.outside h.inside (λ p q g z. ct_pend (unit k o n) (start false) not_word t p q (record { outside = g; inside = z }))

  ct_either : (k : Opened) (o n : Side) (d : ℕ) (t : Token) (x y : ℕ) → Ct (either k o n d) x y → CtAct (on_either k o n d t) x y
  ct_either k o n d (symbol Slash) x y h = ct_late k o n d (symbol Slash) x y h
  ct_either k o n d (symbol DoubleSlash) x y h = ct_late k o n d (symbol DoubleSlash) x y h
  ct_either k o n d (symbol LeftBracket) x y h = ct_late k o n d (symbol LeftBracket) x y h
  ct_either k o n d (symbol RightBracket) x y h = ct_late k o n d (symbol RightBracket) x y h
  ct_either k o n d (symbol LeftParen) x y h = record { outside = h.outside; inside = h.inside }
  ct_either k o n d (symbol RightParen) x y h = ct_late k o n d (symbol RightParen) x y h
  ct_either k o n d (symbol Star) x y h = ct_late k o n d (symbol Star) x y h
  ct_either k o n d (symbol DoubleColon) x zero h = tt
  ct_either k o n d (symbol DoubleColon) x (suc y) h = tt
  ct_either k o n d (word z) x y h = ct_late k o n d (word z) x y h

  ct : (s : State) (t : Token) (a x y : ℕ) → Ct s x y → CtAct (next s t a) x y
  ct (begin c) t a x y h = ct_begin c t a x y h
  ct (due c b) t a x y h = ct_due c b t a x y h
  ct (test c b v s) t a x y h = ct_test c b v s t a x y h
  ct (pend c b w) t a x y h = ct_pend c b w t x y h
  ct (named c b v w) t a x y h = ct_named c b v w t x y h
  ct (close c b v z) t a x y h = ct_close c b v z t x y h
  ct (tested c b v z) t a x y h = ct_tested c b v z t x y h
  ct (stepped c p) t a x y h = ct_stepped c p t x y h
  ct (united k o n p) t a x y h = ct_united k o n p t x y h
  ct (either k o n d) t a x y h = ct_either k o n d t x y h

  abbrev CtLast : Last → Type 0
  CtLast (whole q) = (x : ℕ) × (y : ℕ) × (P ≡ out_p outer q x) × (Q ≡ in_o outer q y)
  CtLast early = Unit {0}
  CtLast (behind d) = Unit {0}

  ct_end : (c : Context) (p : Path) (x y : ℕ) → Ct (stepped c p) x y → CtLast (ended c p)
  ct_end top p x y h = (x, y, h.outside, h.inside)
  ct_end (unit k o n) p x y h = tt

  ct_last : (s : State) (x y : ℕ) → Ct s x y → CtLast (last s)
  ct_last (begin c) x y h = tt
  ct_last (due c b) x y h = tt
  ct_last (test c b v s) x y h = tt
  ct_last (pend c b w) x y h = ct_end c (ext b child (name w) plain) x y (plainly c b child (name w) x y (as_name c b child w x y (as_child c b w x y h)))
  ct_last (named c b v w) x y h = ct_end c (ext b v (name w) plain) x y (plainly c b v (name w) x y (as_name c b v w x y h))
  ct_last (close c b v z) x y h = tt
  ct_last (tested c b v z) x y h = ct_end c (ext b v z plain) x y (plainly c b v z x y h)
  ct_last (stepped c p) x y h = ct_end c p x y h
  ct_last (united k o n p) x y h = tt
  ct_last (either k o n d) x y h = tt

  abbrev CtOut : Outcome → Type 0
  CtOut (accepted q) = (x : ℕ) × (y : ℕ) × (P ≡ out_p outer q x) × (Q ≡ in_o outer q y)
  CtOut (refused k a) = Unit {0}

  out_end : (z : Last) (e i : ℕ) → CtLast z → CtOut (at_end z e i)
  out_end (whole p) e i h = h
  out_end early e i h = tt
  out_end (behind d) e zero h = tt
  out_end (behind d) e (suc i) h = tt

  out_fault : (z : Last) (k a i : ℕ) → CtOut (at_fault z k a i)
  out_fault (whole p) k a i = tt
  out_fault early k a i = tt
  out_fault (behind d) k a zero = tt
  out_fault (behind d) k a (suc i) = tt

  counts : (e : ℕ) (ts : List Placed) (s : State) (l x y : ℕ) → Ct s x y → CtOut (run e s l x y ts)
  counts e [] s l x y h = out_end (last s) e y (ct_last s x y h)
  counts e (tokens.bad k a ∷ ts) s l x y h = out_fault (last s) k a y
  counts e (token t a ∷ ts) s l x y h = on (turn (next s t a) a l x y) (ct_turn (next s t a) a l x y (ct s t a x y h)) (counts e ts)
    where
      on : (z : Turn) → CtTurn z → ((s : State) (l x y : ℕ) → Ct s x y → CtOut (run e s l x y ts)) → CtOut (elim z [ stop k b ↦ refused k b | go r m p j ↦ run e r m p j ts ])
      on (stop k b) w f = tt
      on (go r m p j) w f = f r m p j w

pub within : (e l o i : ℕ) (ts : List Placed) (q : Path) → run e (begin top) l o i ts ≡ accepted q → (own q ≤ o) × (in_path q ≤ i)
within e l o i ts q h =
    let r : CtOut o i (accepted q) = subst (CtOut o i) h (counts o i e ts (begin top) l o i (record { outside = refl; inside = refl })) in
    (omega (arith, out_outer q r.0, r.2), omega (arith, in_outer q r.1, r.3))
