-- What the machine accepts, the grammar derives.
use Rattle.std.proofs.Common.{◌≡◌, ℕ, zero, suc, Bool, true, false, List, [], ◌∷◌, sym, refl, subst}
use Rattle.grammar.specs.declared.tokens.Symbol.TheVariants.{Slash, DoubleSlash, LeftBracket, RightBracket, LeftParen, RightParen, Star, DoubleColon}
use Rattle.grammar.specs.Tokens.{Token, symbol, word, Placed, token}
use Rattle.grammar.specs.Tokens as tokens
use Rattle.grammar.specs.Syntax.{Axis, child, NodeTest, element, name, text, node, Path, Filter, plain, holds, Pred, some, not_word, or_word, and_word}
use Rattle.grammar.specs.Grammar.{IsTest, is_any, is_name, is_text, is_node, IsPath, is_first, is_root, is_deep, is_more, is_far, IsStep, is_axis, is_child, IsTail, is_tail, IsFilter, is_plain, is_holds, IsPred, is_conj, is_or, IsConj, is_unit, is_and, IsUnit, is_not, is_group, is_some}
use Rattle.grammar.specs.Machine.{Before, start, ext, Side, no, has, conj, disj, Context, top, unit, Opened, bracket, group, negate, State, begin, due, test, pend, named, close, tested, stepped, united, either, outer, inner, Move, none, to, down, up, Act, act, begins, same, test_of, shut, right, joined, on_united, on_ended, on_stepped, on_tested, typed, on_named, on_axis, on_pend, on_close, charged, on_test, on_due, lone, worded, grouped, on_begin, on_either, next, Last, whole, early, behind, ended, last, Outcome, accepted, refused, Turn, stop, go, move, turn, at_end, at_fault, run}
use Rattle.grammar.proofs.Words.{by_test, by_axis, by_type, by_join, same_true}

pub data OrSide : ℕ → List Placed → Side → List Placed → Type 0 where
  no_or : {l : ℕ} {ts : List Placed} → OrSide l ts no ts
  has_or : {l a : ℕ} {w : List ℕ} {p : Pred} {ts us : List Placed} → w ≡ or_word → IsPred l ts p (token (word w) a ∷ us) → OrSide l ts (has p) us

pub data AndSide : ℕ → List Placed → Side → List Placed → Type 0 where
  no_and : {l : ℕ} {ts : List Placed} → AndSide l ts no ts
  has_and : {l a : ℕ} {w : List ℕ} {p : Pred} {ts us : List Placed} → w ≡ and_word → IsConj l ts p (token (word w) a ∷ us) → AndSide l ts (has p) us

and_side : {l : ℕ} {ts us vs : List Placed} {n : Side} {p : Pred} → AndSide l ts n us → IsUnit l us p vs → IsConj l ts (conj n p) vs
and_side no_and u = is_unit u
and_side (has_and e c) u = is_and e c u

or_side : {l : ℕ} {ts us vs : List Placed} {o : Side} {p : Pred} → OrSide l ts o us → IsConj l us p vs → IsPred l ts (disj o p) vs
or_side no_or u = is_conj u
or_side (has_or e c) u = is_or e c u

-- The tokens T, within L levels. What has been read is derived from the tokens before the reading place.
module _ (T : List Placed) (L : ℕ) where
  mutual
    data AtCtx : Context → ℕ → List Placed → Type 0 where
      at_top : AtCtx top L T
      at_unit : {k : Opened} {o n : Side} {l : ℕ} {xs ys ts : List Placed} → AtOpened k l xs → OrSide l xs o ys → AndSide l ys n ts → AtCtx (unit k o n) l ts

    data AtOpened : Opened → ℕ → List Placed → Type 0 where
      at_bracket : {c : Context} {b : Before} {v : Axis} {t : NodeTest} {l a : ℕ} {xs us : List Placed} → AtCtx c (suc l) xs → ((f : Filter) (vs : List Placed) → IsFilter (suc l) (token (symbol LeftBracket) a ∷ us) f vs → IsPath (suc l) xs (ext b v t f) vs) → AtOpened (bracket c b v t) l us
      at_group : {k : Opened} {o n : Side} {l a : ℕ} {xs ys us : List Placed} → AtOpened k (suc l) xs → OrSide (suc l) xs o ys → AndSide (suc l) ys n (token (symbol LeftParen) a ∷ us) → AtOpened (group k o n) l us
      at_negate : {k : Opened} {o n : Side} {l a b : ℕ} {w : List ℕ} {xs ys us : List Placed} → w ≡ not_word → AtOpened k (suc l) xs → OrSide (suc l) xs o ys → AndSide (suc l) ys n (token (word w) a ∷ token (symbol LeftParen) b ∷ us) → AtOpened (negate k o n) l us

  abbrev At : State → ℕ → List Placed → Type 0
  At (begin c) l us = AtCtx c l us
  At (due c b) l us = (xs : List Placed) × AtCtx c l xs × ((v : Axis) (t : NodeTest) (f : Filter) (vs : List Placed) → IsStep l us v t f vs → IsPath l xs (ext b v t f) vs)
  At (test c b v s) l us = (xs : List Placed) × AtCtx c l xs × ((t : NodeTest) (f : Filter) (vs : List Placed) → IsTail l us t f vs → IsPath l xs (ext b v t f) vs)
  At (pend c b w) l us = (xs : List Placed) × AtCtx c l xs × (a : ℕ) × ((v : Axis) (t : NodeTest) (f : Filter) (vs : List Placed) → IsStep l (token (word w) a ∷ us) v t f vs → IsPath l xs (ext b v t f) vs)
  At (named c b v w) l us = (xs : List Placed) × AtCtx c l xs × (a : ℕ) × ((t : NodeTest) (f : Filter) (vs : List Placed) → IsTail l (token (word w) a ∷ us) t f vs → IsPath l xs (ext b v t f) vs)
  At (close c b v t) l us = (xs : List Placed) × AtCtx c l xs × ((f : Filter) (x : ℕ) (ws vs : List Placed) → us ≡ (token (symbol RightParen) x ∷ ws) → IsFilter l ws f vs → IsPath l xs (ext b v t f) vs)
  At (tested c b v t) l us = (xs : List Placed) × AtCtx c l xs × ((f : Filter) (vs : List Placed) → IsFilter l us f vs → IsPath l xs (ext b v t f) vs)
  At (stepped c p) l us = (xs : List Placed) × AtCtx c l xs × IsPath l xs p us
  At (united k o n p) l us = (xs : List Placed) × (ys : List Placed) × (ts : List Placed) × AtOpened k l xs × OrSide l xs o ys × AndSide l ys n ts × IsUnit l ts p us
  At (either k o n d) l us = (xs : List Placed) × (ys : List Placed) × AtOpened k l xs × OrSide l xs o ys × (a : ℕ) × (w : List ℕ) × (w ≡ not_word) × AndSide l ys n (token (word w) a ∷ us)

  abbrev FineMove : Move → ℕ → List Placed → Type 0
  FineMove none l us = Unit {0}
  FineMove (to s) l us = At s l us
  FineMove (down s) zero us = Unit {0}
  FineMove (down s) (suc l) us = At s l us
  FineMove (up s) l us = At s (suc l) us

  abbrev FineAct : Act → ℕ → List Placed → Type 0
  FineAct (act m) l us = FineMove m l us
  FineAct (begins x d m) l us = FineMove m l us

  abbrev FineTurn : Turn → List Placed → Type 0
  FineTurn (stop k a) us = Unit {0}
  FineTurn (go s l o i) us = At s l us

  fine_move : (m : Move) (a l o i : ℕ) (us : List Placed) → FineMove m l us → FineTurn (move m a l o i) us
  fine_move none a l o i us h = tt
  fine_move (to s) a l o i us h = h
  fine_move (down s) a zero o i us h = tt
  fine_move (down s) a (suc l) o i us h = h
  fine_move (up s) a l o i us h = h

  fine_turn : (x : Act) (a l o i : ℕ) (us : List Placed) → FineAct x l us → FineTurn (turn x a l o i) us
  fine_turn (act m) a l o i us h = fine_move m a l o i us h
  fine_turn (begins outer d m) a l zero i us h = tt
  fine_turn (begins outer d m) a l (suc o) i us h = fine_move m a l o i us h
  fine_turn (begins inner d m) a l o zero us h = tt
  fine_turn (begins inner d m) a l o (suc i) us h = fine_move m a l o i us h

  fine_shut : {k : Opened} {l a : ℕ} {xs us : List Placed} (p : Pred) → AtOpened k l xs → IsPred l xs p (token (symbol RightBracket) a ∷ us) → FineMove (shut k p) l us
  fine_shut p (at_bracket {xs = xs} c f) d = (xs, c, f (holds p) _ (is_holds d))
  fine_shut p (at_group c x y) d = tt
  fine_shut p (at_negate e c x y) d = tt

  fine_right : {k : Opened} {l a : ℕ} {xs us : List Placed} (p : Pred) → AtOpened k l xs → IsPred l xs p (token (symbol RightParen) a ∷ us) → FineMove (right k p) l us
  fine_right p (at_bracket c f) d = tt
  fine_right p (at_group {xs = xs} {ys = ys} c x y) d = (xs, ys, _, c, x, y, is_group d)
  fine_right p (at_negate {xs = xs} {ys = ys} e c x y) d = (xs, ys, _, c, x, y, is_not e d)

  fine_united : (k : Opened) (o n : Side) (p : Pred) (t : Token) (a l : ℕ) (us : List Placed) → At (united k o n p) l (token t a ∷ us) → FineMove (on_united k o n p t) l us
  fine_united k o n p (symbol Slash) a l us h = tt
  fine_united k o n p (symbol DoubleSlash) a l us h = tt
  fine_united k o n p (symbol LeftBracket) a l us h = tt
  fine_united k o n p (symbol RightBracket) a l us h = fine_shut (disj o (conj n p)) h.3 (or_side h.4 (and_side h.5 h.6))
  fine_united k o n p (symbol LeftParen) a l us h = tt
  fine_united k o n p (symbol RightParen) a l us h = fine_right (disj o (conj n p)) h.3 (or_side h.4 (and_side h.5 h.6))
  fine_united k o n p (symbol Star) a l us h = tt
  fine_united k o n p (symbol DoubleColon) a l us h = tt
  fine_united k o n p (word w) a l us h = by_join w (λ j. FineMove (joined j k o n p) l us)
      (λ e. at_unit h.3 (has_or e (or_side h.4 (and_side h.5 h.6))) no_and)
      (λ e. at_unit h.3 h.4 (has_and e (and_side h.5 h.6)))
      tt

  fine_ended : (c : Context) (p : Path) (t : Token) (a l : ℕ) (us : List Placed) → At (stepped c p) l (token t a ∷ us) → FineMove (on_ended c p t) l us
  fine_ended top p t a l us h = tt
  fine_ended (unit k o n) p t a l us h = fine_united k o n (some p) t a l us (enter h.1 h.2)
    where
      enter : {xs vs : List Placed} → AtCtx (unit k o n) l xs → IsPath l xs p vs → At (united k o n (some p)) l vs
      enter (at_unit x y z) d = (_, _, _, x, y, z, is_some d)

  fine_stepped : (c : Context) (p : Path) (t : Token) (a l : ℕ) (us : List Placed) → At (stepped c p) l (token t a ∷ us) → FineMove (on_stepped c p t) l us
  fine_stepped c p (symbol Slash) a l us h = (h.0, h.1, λ v t f vs d. is_more h.2 d)
  fine_stepped c p (symbol DoubleSlash) a l us h = (h.0, h.1, λ t f vs d. is_far h.2 d)
  fine_stepped c p (symbol LeftBracket) a l us h = tt
  fine_stepped c p (symbol RightBracket) a l us h = fine_ended c p (symbol RightBracket) a l us h
  fine_stepped c p (symbol LeftParen) a l us h = tt
  fine_stepped c p (symbol RightParen) a l us h = fine_ended c p (symbol RightParen) a l us h
  fine_stepped c p (symbol Star) a l us h = tt
  fine_stepped c p (symbol DoubleColon) a l us h = tt
  fine_stepped c p (word w) a l us h = fine_ended c p (word w) a l us h

  plainly : (c : Context) (b : Before) (v : Axis) (t : NodeTest) (l : ℕ) (us : List Placed) → At (tested c b v t) l us → At (stepped c (ext b v t plain)) l us
  plainly c b v t l us h = (h.0, h.1, h.2 plain us is_plain)

  fine_tested : (c : Context) (b : Before) (v : Axis) (x : NodeTest) (t : Token) (a l : ℕ) (us : List Placed) → At (tested c b v x) l (token t a ∷ us) → FineMove (on_tested c b v x t) l us
  fine_tested c b v x (symbol Slash) a l us h = fine_stepped c (ext b v x plain) (symbol Slash) a l us (plainly c b v x l _ h)
  fine_tested c b v x (symbol DoubleSlash) a l us h = fine_stepped c (ext b v x plain) (symbol DoubleSlash) a l us (plainly c b v x l _ h)
  fine_tested c b v x (symbol LeftBracket) a zero us h = tt
  fine_tested c b v x (symbol LeftBracket) a (suc l) us h = at_unit (at_bracket h.1 h.2) no_or no_and
  fine_tested c b v x (symbol RightBracket) a l us h = fine_stepped c (ext b v x plain) (symbol RightBracket) a l us (plainly c b v x l _ h)
  fine_tested c b v x (symbol LeftParen) a l us h = tt
  fine_tested c b v x (symbol RightParen) a l us h = fine_stepped c (ext b v x plain) (symbol RightParen) a l us (plainly c b v x l _ h)
  fine_tested c b v x (symbol Star) a l us h = tt
  fine_tested c b v x (symbol DoubleColon) a l us h = tt
  fine_tested c b v x (word w) a l us h = fine_stepped c (ext b v x plain) (word w) a l us (plainly c b v x l _ h)

  as_name : (c : Context) (b : Before) (v : Axis) (w : List ℕ) (l : ℕ) (us : List Placed) → At (named c b v w) l us → At (tested c b v (name w)) l us
  as_name c b v w l us h = (h.0, h.1, λ f vs d. h.3 (name w) f vs (is_tail is_name d))

  fine_typed : (c : Context) (b : Before) (v : Axis) (w : List ℕ) (a l : ℕ) (us : List Placed) → At (named c b v w) l (token (symbol LeftParen) a ∷ us) → FineMove (typed (test_of w) c b v) l us
  fine_typed c b v w a l us h = by_type w (λ j. FineMove (typed j c b v) l us)
      (λ e. (h.0, h.1, λ f x ws vs q d. h.3 text f vs (is_tail (subst (λ z. IsTest (token (word w) h.2 ∷ token (symbol LeftParen) a ∷ z) text ws) (sym q) (is_text e)) d)))
      (λ e. (h.0, h.1, λ f x ws vs q d. h.3 node f vs (is_tail (subst (λ z. IsTest (token (word w) h.2 ∷ token (symbol LeftParen) a ∷ z) node ws) (sym q) (is_node e)) d)))
      tt

  fine_named : (c : Context) (b : Before) (v : Axis) (w : List ℕ) (t : Token) (a l : ℕ) (us : List Placed) → At (named c b v w) l (token t a ∷ us) → FineMove (on_named c b v w t) l us
  fine_named c b v w (symbol Slash) a l us h = fine_tested c b v (name w) (symbol Slash) a l us (as_name c b v w l _ h)
  fine_named c b v w (symbol DoubleSlash) a l us h = fine_tested c b v (name w) (symbol DoubleSlash) a l us (as_name c b v w l _ h)
  fine_named c b v w (symbol LeftBracket) a l us h = fine_tested c b v (name w) (symbol LeftBracket) a l us (as_name c b v w l _ h)
  fine_named c b v w (symbol RightBracket) a l us h = fine_tested c b v (name w) (symbol RightBracket) a l us (as_name c b v w l _ h)
  fine_named c b v w (symbol LeftParen) a l us h = fine_typed c b v w a l us h
  fine_named c b v w (symbol RightParen) a l us h = fine_tested c b v (name w) (symbol RightParen) a l us (as_name c b v w l _ h)
  fine_named c b v w (symbol Star) a l us h = tt
  fine_named c b v w (symbol DoubleColon) a l us h = tt
  fine_named c b v w (word x) a l us h = fine_tested c b v (name w) (word x) a l us (as_name c b v w l _ h)

  as_child : (c : Context) (b : Before) (w : List ℕ) (l : ℕ) (us : List Placed) → At (pend c b w) l us → At (named c b child w) l us
  as_child c b w l us h = (h.0, h.1, h.2, λ t f vs d. h.3 child t f vs (is_child d))

  fine_pend : (c : Context) (b : Before) (w : List ℕ) (t : Token) (a l : ℕ) (us : List Placed) → At (pend c b w) l (token t a ∷ us) → FineMove (on_pend c b w t) l us
  fine_pend c b w (symbol Slash) a l us h = fine_named c b child w (symbol Slash) a l us (as_child c b w l _ h)
  fine_pend c b w (symbol DoubleSlash) a l us h = fine_named c b child w (symbol DoubleSlash) a l us (as_child c b w l _ h)
  fine_pend c b w (symbol LeftBracket) a l us h = fine_named c b child w (symbol LeftBracket) a l us (as_child c b w l _ h)
  fine_pend c b w (symbol RightBracket) a l us h = fine_named c b child w (symbol RightBracket) a l us (as_child c b w l _ h)
  fine_pend c b w (symbol LeftParen) a l us h = fine_named c b child w (symbol LeftParen) a l us (as_child c b w l _ h)
  fine_pend c b w (symbol RightParen) a l us h = fine_named c b child w (symbol RightParen) a l us (as_child c b w l _ h)
  fine_pend c b w (symbol Star) a l us h = tt
  fine_pend c b w (symbol DoubleColon) a l us h = by_axis w (λ j. FineMove (on_axis j c b) l us)
      (λ v e. (h.0, h.1, λ t f vs d. h.3 v t f vs (is_axis e d)))
      tt
  fine_pend c b w (word x) a l us h = fine_named c b child w (word x) a l us (as_child c b w l _ h)

  fine_close : (c : Context) (b : Before) (v : Axis) (x : NodeTest) (t : Token) (a l : ℕ) (us : List Placed) → At (close c b v x) l (token t a ∷ us) → FineMove (on_close c b v x t) l us
  fine_close c b v x (symbol Slash) a l us h = tt
  fine_close c b v x (symbol DoubleSlash) a l us h = tt
  fine_close c b v x (symbol LeftBracket) a l us h = tt
  fine_close c b v x (symbol RightBracket) a l us h = tt
  fine_close c b v x (symbol LeftParen) a l us h = tt
  fine_close c b v x (symbol RightParen) a l us h = (h.0, h.1, λ f vs d. h.2 f a us vs refl d)
  fine_close c b v x (symbol Star) a l us h = tt
  fine_close c b v x (symbol DoubleColon) a l us h = tt
  fine_close c b v x (word w) a l us h = tt

  fine_charged : (s : Bool) (c : Context) (a l : ℕ) (m : Move) (us : List Placed) → FineMove m l us → FineAct (charged s c a m) l us
  fine_charged true c a l m us h = h
  fine_charged false c a l m us h = h

  fine_test : (c : Context) (b : Before) (v : Axis) (s : Bool) (t : Token) (a l : ℕ) (us : List Placed) → At (test c b v s) l (token t a ∷ us) → FineAct (on_test c b v s t a) l us
  fine_test c b v s (symbol Slash) a l us h = tt
  fine_test c b v s (symbol DoubleSlash) a l us h = tt
  fine_test c b v s (symbol LeftBracket) a l us h = tt
  fine_test c b v s (symbol RightBracket) a l us h = tt
  fine_test c b v s (symbol LeftParen) a l us h = tt
  fine_test c b v s (symbol RightParen) a l us h = tt
  fine_test c b v s (symbol Star) a l us h = fine_charged s c a l (to (tested c b v element)) us (h.0, h.1, λ f vs d. h.2 element f vs (is_tail is_any d))
  fine_test c b v s (symbol DoubleColon) a l us h = tt
  fine_test c b v s (word w) a l us h = fine_charged s c a l (to (named c b v w)) us (h.0, h.1, a, h.2)

  fine_due : (c : Context) (b : Before) (t : Token) (a l : ℕ) (us : List Placed) → At (due c b) l (token t a ∷ us) → FineAct (on_due c b t a) l us
  fine_due c b (symbol Slash) a l us h = tt
  fine_due c b (symbol DoubleSlash) a l us h = tt
  fine_due c b (symbol LeftBracket) a l us h = tt
  fine_due c b (symbol RightBracket) a l us h = tt
  fine_due c b (symbol LeftParen) a l us h = tt
  fine_due c b (symbol RightParen) a l us h = tt
  fine_due c b (symbol Star) a l us h = (h.0, h.1, λ f vs d. h.2 child element f vs (is_child (is_tail is_any d)))
  fine_due c b (symbol DoubleColon) a l us h = tt
  fine_due c b (word w) a l us h = (h.0, h.1, a, h.2)

  fine_grouped : (c : Context) (a l : ℕ) (us : List Placed) → AtCtx c l (token (symbol LeftParen) a ∷ us) → FineAct (grouped c) l us
  fine_grouped top a l us h = tt
  fine_grouped (unit k o n) a zero us h = tt
  fine_grouped (unit k o n) a (suc l) us (at_unit x y z) = at_unit (at_group x y z) no_or no_and

  fine_worded : (c : Context) (w : List ℕ) (a l : ℕ) (us : List Placed) → AtCtx c l (token (word w) a ∷ us) → FineAct (worded c w a) l us
  fine_worded top w a l us h = (_, h, a, λ v t f vs d. is_first d)
  fine_worded (unit k o n) w a l us h = by_test (same w not_word) (λ j. FineAct (lone j k o n w a) l us)
      (λ e. enter (same_true w not_word e) h)
      (λ e. (_, h, a, λ v t f vs d. is_first d))
    where
      enter : w ≡ not_word → AtCtx (unit k o n) l (token (word w) a ∷ us) → At (either k o n a) l us
      enter e (at_unit x y z) = (_, _, x, y, a, w, e, z)

  fine_begin : (c : Context) (t : Token) (a l : ℕ) (us : List Placed) → AtCtx c l (token t a ∷ us) → FineAct (on_begin c t a) l us
  fine_begin c (symbol Slash) a l us h = (_, h, λ v t f vs d. is_root d)
  fine_begin c (symbol DoubleSlash) a l us h = (_, h, λ t f vs d. is_deep d)
  fine_begin c (symbol LeftBracket) a l us h = tt
  fine_begin c (symbol RightBracket) a l us h = tt
  fine_begin c (symbol LeftParen) a l us h = fine_grouped c a l us h
  fine_begin c (symbol RightParen) a l us h = tt
  fine_begin c (symbol Star) a l us h = (_, h, λ f vs d. is_first (is_child (is_tail is_any d)))
  fine_begin c (symbol DoubleColon) a l us h = tt
  fine_begin c (word w) a l us h = fine_worded c w a l us h

  -- `not` that is a name
  as_word : (k : Opened) (o n : Side) (d l : ℕ) (us : List Placed) → At (either k o n d) l us → At (pend (unit k o n) (start false) not_word) l us
  as_word k o n d l us h = (_, at_unit h.2 h.3 (subst (λ w. AndSide l h.1 n (token (word w) h.4 ∷ us)) h.6 h.7), h.4, λ v t f vs d. is_first d)

  fine_either : (k : Opened) (o n : Side) (d : ℕ) (t : Token) (a l : ℕ) (us : List Placed) → At (either k o n d) l (token t a ∷ us) → FineAct (on_either k o n d t) l us
  fine_either k o n d (symbol Slash) a l us h = fine_pend (unit k o n) (start false) not_word (symbol Slash) a l us (as_word k o n d l _ h)
  fine_either k o n d (symbol DoubleSlash) a l us h = fine_pend (unit k o n) (start false) not_word (symbol DoubleSlash) a l us (as_word k o n d l _ h)
  fine_either k o n d (symbol LeftBracket) a l us h = fine_pend (unit k o n) (start false) not_word (symbol LeftBracket) a l us (as_word k o n d l _ h)
  fine_either k o n d (symbol RightBracket) a l us h = fine_pend (unit k o n) (start false) not_word (symbol RightBracket) a l us (as_word k o n d l _ h)
  fine_either k o n d (symbol LeftParen) a zero us h = tt
  fine_either k o n d (symbol LeftParen) a (suc l) us h = at_unit (at_negate h.6 h.2 h.3 h.7) no_or no_and
  fine_either k o n d (symbol RightParen) a l us h = fine_pend (unit k o n) (start false) not_word (symbol RightParen) a l us (as_word k o n d l _ h)
  fine_either k o n d (symbol Star) a l us h = tt
  fine_either k o n d (symbol DoubleColon) a l us h = tt
  fine_either k o n d (word x) a l us h = fine_pend (unit k o n) (start false) not_word (word x) a l us (as_word k o n d l _ h)

  fine : (s : State) (t : Token) (a l : ℕ) (us : List Placed) → At s l (token t a ∷ us) → FineAct (next s t a) l us
  fine (begin c) t a l us h = fine_begin c t a l us h
  fine (due c b) t a l us h = fine_due c b t a l us h
  fine (test c b v s) t a l us h = fine_test c b v s t a l us h
  fine (pend c b w) t a l us h = fine_pend c b w t a l us h
  fine (named c b v w) t a l us h = fine_named c b v w t a l us h
  fine (close c b v x) t a l us h = fine_close c b v x t a l us h
  fine (tested c b v x) t a l us h = fine_tested c b v x t a l us h
  fine (stepped c p) t a l us h = fine_stepped c p t a l us h
  fine (united k o n p) t a l us h = fine_united k o n p t a l us h
  fine (either k o n d) t a l us h = fine_either k o n d t a l us h

  abbrev RightEnd : Last → Type 0
  RightEnd (whole q) = IsPath L T q []
  RightEnd early = Unit {0}
  RightEnd (behind d) = Unit {0}

  ended_fine : (c : Context) (p : Path) (l : ℕ) → At (stepped c p) l [] → RightEnd (ended c p)
  ended_fine (unit k o n) p l h = tt
  ended_fine top p l h = come h.1 h.2
    where
      come : {m : ℕ} {xs : List Placed} → AtCtx top m xs → IsPath m xs p [] → IsPath L T p []
      come at_top d = d

  end_fine : (s : State) (l : ℕ) → At s l [] → RightEnd (last s)
  end_fine (begin c) l h = tt
  end_fine (due c b) l h = tt
  end_fine (test c b v s) l h = tt
  end_fine (pend c b w) l h = ended_fine c (ext b child (name w) plain) l (plainly c b child (name w) l [] (as_name c b child w l [] (as_child c b w l [] h)))
  end_fine (named c b v w) l h = ended_fine c (ext b v (name w) plain) l (plainly c b v (name w) l [] (as_name c b v w l [] h))
  end_fine (close c b v x) l h = tt
  end_fine (tested c b v x) l h = ended_fine c (ext b v x plain) l (plainly c b v x l [] h)
  end_fine (stepped c p) l h = ended_fine c p l h
  end_fine (united k o n p) l h = tt
  end_fine (either k o n d) l h = tt

  abbrev Good : Outcome → Type 0
  Good (accepted q) = IsPath L T q []
  Good (refused k a) = Unit {0}

  good_end : (x : Last) (e i : ℕ) → RightEnd x → Good (at_end x e i)
  good_end (whole p) e i h = h
  good_end early e i h = tt
  good_end (behind d) e zero h = tt
  good_end (behind d) e (suc i) h = tt

  good_fault : (x : Last) (k a i : ℕ) → Good (at_fault x k a i)
  good_fault (whole p) k a i = tt
  good_fault early k a i = tt
  good_fault (behind d) k a zero = tt
  good_fault (behind d) k a (suc i) = tt

  good : (e : ℕ) (ts : List Placed) (s : State) (l o i : ℕ) → At s l ts → Good (run e s l o i ts)
  good e [] s l o i h = good_end (last s) e i (end_fine s l h)
  good e (tokens.bad k a ∷ ts) s l o i h = good_fault (last s) k a i
  good e (token t a ∷ ts) s l o i h = on (turn (next s t a) a l o i) (fine_turn (next s t a) a l o i ts (fine s t a l ts h)) (good e ts)
    where
      on : (x : Turn) → FineTurn x ts → ((s : State) (l o i : ℕ) → At s l ts → Good (run e s l o i ts)) → Good (elim x [ stop k b ↦ refused k b | go r m p j ↦ run e r m p j ts ])
      on (stop k b) y f = tt
      on (go r m p j) y f = f r m p j y

pub derives : (e l o i : ℕ) (ts : List Placed) (q : Path) → run e (begin top) l o i ts ≡ accepted q → IsPath l ts q []
derives e l o i ts q h = subst (Good ts l) h (good ts l e ts (begin top) l o i (at_top))
