-- What a refusal by the limits says.
use Rattle.std.proofs.Common.{◌≡◌, ℕ, zero, suc, Bool, true, false, ◌⊎◌, List, [], ◌∷◌, ◌++◌, length, sym, refl, ap, ◌∙◌, subst, inl, inr, arith}
use Rattle.grammar.specs.declared.tokens.Symbol.TheVariants.{Slash, DoubleSlash, LeftBracket, RightBracket, LeftParen, RightParen, Star, DoubleColon}
use Rattle.grammar.specs.Tokens.{Token, symbol, word, Placed, token, tokens_at}
use Rattle.grammar.specs.Tokens as tokens
use Rattle.grammar.specs.Syntax.{Axis, child, NodeTest, element, name, Path, plain, Pred, some, not_word, own, in_path}
use Rattle.grammar.specs.Machine.{Before, start, past, ext, Side, no, has, conj, disj, Context, top, unit, Opened, bracket, group, negate, State, begin, due, test, pend, named, close, tested, stepped, united, either, Where, outer, inner, where_is, Move, none, to, down, up, Act, act, begins, same, AsAxis, AsTest, AsJoin, join_of, test_of, axis_of_word, shut, right, joined, on_united, on_ended, on_stepped, on_tested, typed, on_named, on_axis, on_pend, on_close, charged, on_test, on_due, lone, worded, grouped, on_begin, on_either, next, Last, whole, early, behind, ended, last, Outcome, accepted, refused, Turn, stop, go, move, turn, at_fault, run, outcome}
use Rattle.grammar.proofs.Words.{by_test, by_axis, by_type, by_join, same_true}
use Rattle.std.proofs.lemmas.Bool.{le-ltb}
use Rattle.grammar.specs.Machine as machine
use Rattle.grammar.specs.Claims.{Limits, Why, faulty, grammatical, deep, many, NotParen}
use Rattle.grammar.proofs.Sound.{derives}
use Rattle.grammar.proofs.Whole.{never, accepts}
use Rattle.grammar.proofs.Refusals.{fin, ends, onward}

-- ---- what each act says of the step and of `not`

abbrev EitherState : State → Token → ℕ → Type 0
EitherState (begin c) t b = Unit {0}
EitherState (due c x) t b = Unit {0}
EitherState (test c x v s) t b = Unit {0}
EitherState (pend c x w) t b = Unit {0}
EitherState (named c x v w) t b = Unit {0}
EitherState (close c x v y) t b = Unit {0}
EitherState (tested c x v y) t b = Unit {0}
EitherState (stepped c p) t b = Unit {0}
EitherState (united k o n p) t b = Unit {0}
EitherState (either k o n d) t b = (t ≡ word not_word) × (d ≡ b)

abbrev EitherMove : Move → Token → ℕ → Type 0
EitherMove none t b = Unit {0}
EitherMove (to s) t b = EitherState s t b
EitherMove (down s) t b = EitherState s t b
EitherMove (up s) t b = EitherState s t b

abbrev Goes : Move → Type 0
Goes none = ⊥
Goes (to s) = Unit {0}
Goes (down s) = ⊥
Goes (up s) = ⊥

abbrev IsEither : State → ℕ → Type 0
IsEither (begin c) e = ⊥
IsEither (due c x) e = ⊥
IsEither (test c x v s) e = ⊥
IsEither (pend c x w) e = ⊥
IsEither (named c x v w) e = ⊥
IsEither (close c x v y) e = ⊥
IsEither (tested c x v y) e = ⊥
IsEither (stepped c p) e = ⊥
IsEither (united k o n p) e = ⊥
IsEither (either k o n d) e = d ≡ e

abbrev Info : State → Act → Token → ℕ → Type 0
Info s (act m) t b = EitherMove m t b
Info s (begins x d m) t b = EitherMove m t b × (((d ≡ b) × Goes m) ⊎ (IsEither s d × (x ≡ inner)))

em_shut : (k : Opened) (p : Pred) (t : Token) (b : ℕ) → EitherMove (shut k p) t b
em_shut (bracket c x v y) p t b = tt
em_shut (group k o n) p t b = tt
em_shut (negate k o n) p t b = tt

em_right : (k : Opened) (p : Pred) (t : Token) (b : ℕ) → EitherMove (right k p) t b
em_right (bracket c x v y) p t b = tt
em_right (group k o n) p t b = tt
em_right (negate k o n) p t b = tt

em_united : (k : Opened) (o n : Side) (p : Pred) (t : Token) (b : ℕ) → EitherMove (on_united k o n p t) t b
em_united k o n p (symbol Slash) b = tt
em_united k o n p (symbol DoubleSlash) b = tt
em_united k o n p (symbol LeftBracket) b = tt
em_united k o n p (symbol RightBracket) b = em_shut k (disj o (conj n p)) (symbol RightBracket) b
em_united k o n p (symbol LeftParen) b = tt
em_united k o n p (symbol RightParen) b = em_right k (disj o (conj n p)) (symbol RightParen) b
em_united k o n p (symbol Star) b = tt
em_united k o n p (symbol DoubleColon) b = tt
em_united k o n p (word z) b = by_join z (λ j. EitherMove (joined j k o n p) (word z) b) (λ _. tt) (λ _. tt) tt

em_ended : (c : Context) (p : Path) (t : Token) (b : ℕ) → EitherMove (on_ended c p t) t b
em_ended top p t b = tt
em_ended (unit k o n) p t b = em_united k o n (some p) t b

em_stepped : (c : Context) (p : Path) (t : Token) (b : ℕ) → EitherMove (on_stepped c p t) t b
em_stepped c p (symbol Slash) b = tt
em_stepped c p (symbol DoubleSlash) b = tt
em_stepped c p (symbol LeftBracket) b = tt
em_stepped c p (symbol RightBracket) b = em_ended c p (symbol RightBracket) b
em_stepped c p (symbol LeftParen) b = tt
em_stepped c p (symbol RightParen) b = em_ended c p (symbol RightParen) b
em_stepped c p (symbol Star) b = tt
em_stepped c p (symbol DoubleColon) b = tt
em_stepped c p (word z) b = em_ended c p (word z) b

em_tested : (c : Context) (x : Before) (v : Axis) (y : NodeTest) (t : Token) (b : ℕ) → EitherMove (on_tested c x v y t) t b
em_tested c x v y (symbol Slash) b = em_stepped c (ext x v y plain) (symbol Slash) b
em_tested c x v y (symbol DoubleSlash) b = em_stepped c (ext x v y plain) (symbol DoubleSlash) b
em_tested c x v y (symbol LeftBracket) b = tt
em_tested c x v y (symbol RightBracket) b = em_stepped c (ext x v y plain) (symbol RightBracket) b
em_tested c x v y (symbol LeftParen) b = tt
em_tested c x v y (symbol RightParen) b = em_stepped c (ext x v y plain) (symbol RightParen) b
em_tested c x v y (symbol Star) b = tt
em_tested c x v y (symbol DoubleColon) b = tt
em_tested c x v y (word z) b = em_stepped c (ext x v y plain) (word z) b

em_named : (c : Context) (x : Before) (v : Axis) (w : List ℕ) (t : Token) (b : ℕ) → EitherMove (on_named c x v w t) t b
em_named c x v w (symbol Slash) b = em_tested c x v (name w) (symbol Slash) b
em_named c x v w (symbol DoubleSlash) b = em_tested c x v (name w) (symbol DoubleSlash) b
em_named c x v w (symbol LeftBracket) b = em_tested c x v (name w) (symbol LeftBracket) b
em_named c x v w (symbol RightBracket) b = em_tested c x v (name w) (symbol RightBracket) b
em_named c x v w (symbol LeftParen) b = by_type w (λ j. EitherMove (typed j c x v) (symbol LeftParen) b) (λ _. tt) (λ _. tt) tt
em_named c x v w (symbol RightParen) b = em_tested c x v (name w) (symbol RightParen) b
em_named c x v w (symbol Star) b = tt
em_named c x v w (symbol DoubleColon) b = tt
em_named c x v w (word z) b = em_tested c x v (name w) (word z) b

em_pend : (c : Context) (x : Before) (w : List ℕ) (t : Token) (b : ℕ) → EitherMove (on_pend c x w t) t b
em_pend c x w (symbol Slash) b = em_named c x child w (symbol Slash) b
em_pend c x w (symbol DoubleSlash) b = em_named c x child w (symbol DoubleSlash) b
em_pend c x w (symbol LeftBracket) b = em_named c x child w (symbol LeftBracket) b
em_pend c x w (symbol RightBracket) b = em_named c x child w (symbol RightBracket) b
em_pend c x w (symbol LeftParen) b = em_named c x child w (symbol LeftParen) b
em_pend c x w (symbol RightParen) b = em_named c x child w (symbol RightParen) b
em_pend c x w (symbol Star) b = tt
em_pend c x w (symbol DoubleColon) b = by_axis w (λ j. EitherMove (on_axis j c x) (symbol DoubleColon) b) (λ _ _. tt) tt
em_pend c x w (word z) b = em_named c x child w (word z) b

em_close : (c : Context) (x : Before) (v : Axis) (y : NodeTest) (t : Token) (b : ℕ) → EitherMove (on_close c x v y t) t b
em_close c x v y (symbol Slash) b = tt
em_close c x v y (symbol DoubleSlash) b = tt
em_close c x v y (symbol LeftBracket) b = tt
em_close c x v y (symbol RightBracket) b = tt
em_close c x v y (symbol LeftParen) b = tt
em_close c x v y (symbol RightParen) b = tt
em_close c x v y (symbol Star) b = tt
em_close c x v y (symbol DoubleColon) b = tt
em_close c x v y (word z) b = tt

info_charged : (s : State) (f : Bool) (c : Context) (r : State) (t : Token) (b : ℕ) → EitherState r t b → Info s (charged f c b (to r)) t b
info_charged s true c r t b h = (h, inl (refl, tt))
info_charged s false c r t b h = h

info_test : (c : Context) (x : Before) (v : Axis) (s : Bool) (t : Token) (b : ℕ) → Info (test c x v s) (on_test c x v s t b) t b
info_test c x v s (symbol Slash) b = tt
info_test c x v s (symbol DoubleSlash) b = tt
info_test c x v s (symbol LeftBracket) b = tt
info_test c x v s (symbol RightBracket) b = tt
info_test c x v s (symbol LeftParen) b = tt
info_test c x v s (symbol RightParen) b = tt
info_test c x v s (symbol Star) b = info_charged (test c x v s) s c (tested c x v element) (symbol Star) b tt
info_test c x v s (symbol DoubleColon) b = tt
info_test c x v s (word z) b = info_charged (test c x v s) s c (named c x v z) (word z) b tt

info_due : (c : Context) (x : Before) (t : Token) (b : ℕ) → Info (due c x) (on_due c x t b) t b
info_due c x (symbol Slash) b = tt
info_due c x (symbol DoubleSlash) b = tt
info_due c x (symbol LeftBracket) b = tt
info_due c x (symbol RightBracket) b = tt
info_due c x (symbol LeftParen) b = tt
info_due c x (symbol RightParen) b = tt
info_due c x (symbol Star) b = (tt, inl (refl, tt))
info_due c x (symbol DoubleColon) b = tt
info_due c x (word z) b = (tt, inl (refl, tt))

info_grouped : (c : Context) (t : Token) (b : ℕ) → Info (begin c) (grouped c) t b
info_grouped top t b = tt
info_grouped (unit k o n) t b = tt

info_worded : (c : Context) (w : List ℕ) (b : ℕ) → Info (begin c) (worded c w b) (word w) b
info_worded top w b = (tt, inl (refl, tt))
info_worded (unit k o n) w b = by_test (same w not_word) (λ j. Info (begin (unit k o n)) (lone j k o n w b) (word w) b) (λ h. (ap word (same_true w not_word h), refl)) (λ _. (tt, inl (refl, tt)))

info_begin : (c : Context) (t : Token) (b : ℕ) → Info (begin c) (on_begin c t b) t b
info_begin c (symbol Slash) b = tt
info_begin c (symbol DoubleSlash) b = tt
info_begin c (symbol LeftBracket) b = tt
info_begin c (symbol RightBracket) b = tt
info_begin c (symbol LeftParen) b = info_grouped c (symbol LeftParen) b
info_begin c (symbol RightParen) b = tt
info_begin c (symbol Star) b = (tt, inl (refl, tt))
info_begin c (symbol DoubleColon) b = tt
info_begin c (word z) b = info_worded c z b

info_either : (k : Opened) (o n : Side) (d : ℕ) (t : Token) (b : ℕ) → Info (either k o n d) (on_either k o n d t) t b
info_either k o n d (symbol Slash) b = (em_pend (unit k o n) (start false) not_word (symbol Slash) b, inr (refl, refl))
info_either k o n d (symbol DoubleSlash) b = (em_pend (unit k o n) (start false) not_word (symbol DoubleSlash) b, inr (refl, refl))
info_either k o n d (symbol LeftBracket) b = (em_pend (unit k o n) (start false) not_word (symbol LeftBracket) b, inr (refl, refl))
info_either k o n d (symbol RightBracket) b = (em_pend (unit k o n) (start false) not_word (symbol RightBracket) b, inr (refl, refl))
info_either k o n d (symbol LeftParen) b = tt
info_either k o n d (symbol RightParen) b = (em_pend (unit k o n) (start false) not_word (symbol RightParen) b, inr (refl, refl))
info_either k o n d (symbol Star) b = (tt, inr (refl, refl))
info_either k o n d (symbol DoubleColon) b = (tt, inr (refl, refl))
info_either k o n d (word z) b = (em_pend (unit k o n) (start false) not_word (word z) b, inr (refl, refl))

info : (s : State) (t : Token) (b : ℕ) → Info s (next s t b) t b
info (begin c) t b = info_begin c t b
info (due c x) t b = info_due c x t b
info (test c x v s) t b = info_test c x v s t b
info (pend c x w) t b = em_pend c x w t b
info (named c x v w) t b = em_named c x v w t b
info (close c x v y) t b = em_close c x v y t b
info (tested c x v y) t b = em_tested c x v y t b
info (stepped c p) t b = em_stepped c p t b
info (united k o n p) t b = em_united k o n p t b
info (either k o n d) t b = info_either k o n d t b

-- ---- one token with other numbers

abbrev More : Turn → Turn → Type 0
More (stop k a) y = Unit {0}
More (go r m p j) y = y ≡ go r (suc m) (suc (suc p)) (suc (suc j))

more_move : (m : Move) (a l o i : ℕ) → More (move m a l o i) (move m a (suc l) (suc (suc o)) (suc (suc i)))
more_move none a l o i = tt
more_move (to s) a l o i = refl
more_move (down s) a zero o i = tt
more_move (down s) a (suc l) o i = refl
more_move (up s) a l o i = refl

more_turn : (z : Act) (a l o i : ℕ) → More (turn z a l o i) (turn z a (suc l) (suc (suc o)) (suc (suc i)))
more_turn (act m) a l o i = more_move m a l o i
more_turn (begins outer d m) a l zero i = tt
more_turn (begins outer d m) a l (suc o) i = more_move m a l o i
more_turn (begins inner d m) a l o zero = tt
more_turn (begins inner d m) a l o (suc i) = more_move m a l o i

-- the same levels, and any steps
abbrev Level : Turn → Turn → Type 0
Level (stop k a) y = Unit {0}
Level (go r m p j) (stop k a) = Unit {0}
Level (go r m p j) (go s n o i) = (r ≡ s) × (m ≡ n)

level_stop : (x : Turn) (k a : ℕ) → Level x (stop k a)
level_stop (stop j b) k a = tt
level_stop (go s m p j) k a = tt

level_move : (m : Move) (a l o i p j : ℕ) → Level (move m a l o i) (move m a l p j)
level_move none a l o i p j = tt
level_move (to s) a l o i p j = (refl, refl)
level_move (down s) a zero o i p j = tt
level_move (down s) a (suc l) o i p j = (refl, refl)
level_move (up s) a l o i p j = (refl, refl)

level_turn : (z : Act) (a l o i p j : ℕ) → Level (turn z a l o i) (turn z a l p j)
level_turn (act m) a l o i p j = level_move m a l o i p j
level_turn (begins outer d m) a l zero i p j = tt
level_turn (begins outer d m) a l (suc o) i zero j = level_stop (move m a l o i) 6 d
level_turn (begins outer d m) a l (suc o) i (suc p) j = level_move m a l o i p j
level_turn (begins inner d m) a l o zero p j = tt
level_turn (begins inner d m) a l o (suc i) p zero = level_stop (move m a l o i) 6 d
level_turn (begins inner d m) a l o (suc i) p (suc j) = level_move m a l o i p j

-- the same steps, and any levels
abbrev Steps : Turn → Turn → Type 0
Steps (stop k a) y = Unit {0}
Steps (go r m p j) (stop k a) = Unit {0}
Steps (go r m p j) (go s n o i) = (r ≡ s) × (p ≡ o) × (j ≡ i)

steps_move : (m : Move) (a l k o i : ℕ) → Steps (move m a l o i) (move m a k o i)
steps_move none a l k o i = tt
steps_move (to s) a l k o i = (refl, refl, refl)
steps_move (down s) a zero k o i = tt
steps_move (down s) a (suc l) zero o i = tt
steps_move (down s) a (suc l) (suc k) o i = (refl, refl, refl)
steps_move (up s) a l k o i = (refl, refl, refl)

steps_turn : (z : Act) (a l k o i : ℕ) → Steps (turn z a l o i) (turn z a k o i)
steps_turn (act m) a l k o i = steps_move m a l k o i
steps_turn (begins outer d m) a l k zero i = tt
steps_turn (begins outer d m) a l k (suc o) i = steps_move m a l k o i
steps_turn (begins inner d m) a l k o zero = tt
steps_turn (begins inner d m) a l k o (suc i) = steps_move m a l k o i

module _ (e : ℕ) where
  abbrev Via : State → ℕ → ℕ → ℕ → List Placed → Type 0
  Via s l o i pre = (vs : List Placed) × (q : Path) × (run e s (suc l) (suc (suc o)) (suc (suc i)) (pre ++ vs) ≡ accepted q)

  abbrev Through : State → ℕ → ℕ → ℕ → List Placed → Token → ℕ → Type 0
  Through s l o i pre t a = (vs : List Placed) × (q : Path) × (run e s (suc l) (suc (suc o)) (suc (suc i)) (pre ++ (token t a ∷ vs)) ≡ accepted q)

  data Part (s : State) (l o i : ℕ) (ts : List Placed) : ℕ → ℕ → Type 0 where
    p_bad : (pre us : List Placed) (k a : ℕ) → ts ≡ pre ++ (tokens.bad k a ∷ us) → Via s l o i pre → Part s l o i ts k a
    p_four : (a : ℕ) → Part s l o i ts 4 a
    p_deep : (pre : List Placed) (t : Token) (us : List Placed) (a : ℕ) → ts ≡ pre ++ (token t a ∷ us) → Through s l o i pre t a
        → ((p j : ℕ) (ws : List Placed) (q : Path) → run e s l p j (pre ++ (token t a ∷ ws)) ≡ accepted q → ⊥) → Part s l o i ts 5 a
    p_many : (pre : List Placed) (t : Token) (us : List Placed) (a : ℕ) → ts ≡ pre ++ (token t a ∷ us) → Through s l o i pre t a
        → ((m : ℕ) (ws : List Placed) (q : Path) → (t ≡ word not_word → NotParen ws) → run e s m o i (pre ++ (token t a ∷ ws)) ≡ accepted q → ⊥) → Part s l o i ts 6 a
    p_back : (d : ℕ) → IsEither s d → i ≡ 0 → Part s l o i ts 6 d

  abbrev PartO : State → ℕ → ℕ → ℕ → List Placed → Outcome → Type 0
  PartO s l o i ts (accepted q) = Unit {0}
  PartO s l o i ts (refused k a) = Part s l o i ts k a

  part_ended : (s : State) (l o i : ℕ) (c : Context) (p : Path) → PartO s l o i [] (machine.at_end (ended c p) e i)
  part_ended s l o i top p = tt
  part_ended s l o i (unit k x n) p = p_four e

  part_end : (s : State) (l o i : ℕ) → PartO s l o i [] (machine.at_end (last s) e i)
  part_end (begin c) l o i = p_four e
  part_end (due c x) l o i = p_four e
  part_end (test c x v f) l o i = p_four e
  part_end (pend c x w) l o i = part_ended (pend c x w) l o i c (ext x child (name w) plain)
  part_end (named c x v w) l o i = part_ended (named c x v w) l o i c (ext x v (name w) plain)
  part_end (close c x v y) l o i = p_four e
  part_end (tested c x v y) l o i = part_ended (tested c x v y) l o i c (ext x v y plain)
  part_end (stepped c p) l o i = part_ended (stepped c p) l o i c p
  part_end (united k x n p) l o i = p_four e
  part_end (either k x n d) l o zero = p_back d refl refl
  part_end (either k x n d) l o (suc i) = p_four e

  module _ (k a : ℕ) (ts : List Placed) where
    bad_here : (s : State) (l o i : ℕ) → Part s l o i (tokens.bad k a ∷ ts) k a
    bad_here s l o i = let z = ends e s (suc l) (suc o) (suc i) in p_bad [] ts k a refl (fin s, z.0, z.1)

    bad_ended : (s : State) (l o i : ℕ) (c : Context) (p : Path) → PartO s l o i (tokens.bad k a ∷ ts) (at_fault (ended c p) k a i)
    bad_ended s l o i top p = bad_here s l o i
    bad_ended s l o i (unit x y n) p = bad_here s l o i

    part_bad : (s : State) (l o i : ℕ) → PartO s l o i (tokens.bad k a ∷ ts) (at_fault (last s) k a i)
    part_bad (begin c) l o i = bad_here (begin c) l o i
    part_bad (due c x) l o i = bad_here (due c x) l o i
    part_bad (test c x v f) l o i = bad_here (test c x v f) l o i
    part_bad (pend c x w) l o i = bad_ended (pend c x w) l o i c (ext x child (name w) plain)
    part_bad (named c x v w) l o i = bad_ended (named c x v w) l o i c (ext x v (name w) plain)
    part_bad (close c x v y) l o i = bad_here (close c x v y) l o i
    part_bad (tested c x v y) l o i = bad_ended (tested c x v y) l o i c (ext x v y plain)
    part_bad (stepped c p) l o i = bad_ended (stepped c p) l o i c p
    part_bad (united h x n p) l o i = bad_here (united h x n p) l o i
    part_bad (either h x n d) l o zero = p_back d refl refl
    part_bad (either h x n d) l o (suc i) = bad_here (either h x n d) l o (suc i)

  -- `not` that is a step too many
  not_many : (r : State) (d m p : ℕ) (ws : List Placed) (q : Path) → IsEither r d → NotParen ws → run e r m p 0 ws ≡ accepted q → ⊥
  not_many (begin c) d m p ws q g n h = absurd g
  not_many (due c x) d m p ws q g n h = absurd g
  not_many (test c x v f) d m p ws q g n h = absurd g
  not_many (pend c x w) d m p ws q g n h = absurd g
  not_many (named c x v w) d m p ws q g n h = absurd g
  not_many (close c x v y) d m p ws q g n h = absurd g
  not_many (tested c x v y) d m p ws q g n h = absurd g
  not_many (stepped c z) d m p ws q g n h = absurd g
  not_many (united k x y z) d m p ws q g n h = absurd g
  not_many (either k x y c) d m p [] q g n h = never 6 c q h
  not_many (either k x y c) d m p (tokens.bad j a ∷ ws) q g n h = never 6 c q h
  not_many (either k x y c) d m p (token (symbol Slash) a ∷ ws) q g n h = never 6 c q h
  not_many (either k x y c) d m p (token (symbol DoubleSlash) a ∷ ws) q g n h = never 6 c q h
  not_many (either k x y c) d m p (token (symbol LeftBracket) a ∷ ws) q g n h = never 6 c q h
  not_many (either k x y c) d m p (token (symbol RightBracket) a ∷ ws) q g n h = never 6 c q h
  not_many (either k x y c) d m p (token (symbol LeftParen) a ∷ ws) q g n h = absurd n
  not_many (either k x y c) d m p (token (symbol RightParen) a ∷ ws) q g n h = never 6 c q h
  not_many (either k x y c) d m p (token (symbol Star) a ∷ ws) q g n h = never 6 c q h
  not_many (either k x y c) d m p (token (symbol DoubleColon) a ∷ ws) q g n h = never 6 c q h
  not_many (either k x y c) d m p (token (word w) a ∷ ws) q g n h = never 6 c q h

  either_not : (r : State) (d : ℕ) (t : Token) (b : ℕ) → IsEither r d → EitherState r t b → (t ≡ word not_word) × (d ≡ b)
  either_not (begin c) d t b g h = absurd g
  either_not (due c x) d t b g h = absurd g
  either_not (test c x v f) d t b g h = absurd g
  either_not (pend c x w) d t b g h = absurd g
  either_not (named c x v w) d t b g h = absurd g
  either_not (close c x v y) d t b g h = absurd g
  either_not (tested c x v y) d t b g h = absurd g
  either_not (stepped c z) d t b g h = absurd g
  either_not (united k x y z) d t b g h = absurd g
  either_not (either k x y c) d t b g h = (h.0, sym g ∙ h.1)

  level_on : (r : State) (x : Turn) (m p j : ℕ) (ts : List Placed) (q : Path) → Level (go r m p j) x → onward e x ts ≡ accepted q → ((p j : ℕ) → run e r m p j ts ≡ accepted q → ⊥) → ⊥
  level_on r (stop k b) m p j ts q g h f = never k b q h
  level_on r (go s n o i) m p j ts q g h f = f o i (subst (λ z. run e z m o i ts ≡ accepted q) (sym g.0) (subst (λ z. run e s z o i ts ≡ accepted q) (sym g.1) h))

  steps_on : (r : State) (x : Turn) (m p j : ℕ) (ts : List Placed) (q : Path) → Steps (go r m p j) x → onward e x ts ≡ accepted q → ((m : ℕ) → run e r m p j ts ≡ accepted q → ⊥) → ⊥
  steps_on r (stop k b) m p j ts q g h f = never k b q h
  steps_on r (go s n o i) m p j ts q g h f = f n (subst (λ z. run e z n p j ts ≡ accepted q) (sym g.0) (subst (λ z. run e s n z j ts ≡ accepted q) (sym g.1) (subst (λ z. run e s n o z ts ≡ accepted q) (sym g.2) h)))

  module _ (s : State) (t : Token) (b l o i : ℕ) (r : State) (m p j : ℕ) (g : turn (next s t b) b l o i ≡ go r m p j) where
    lifted : turn (next s t b) b (suc l) (suc (suc o)) (suc (suc i)) ≡ go r (suc m) (suc (suc p)) (suc (suc j))
    lifted = subst (λ z. More z (turn (next s t b) b (suc l) (suc (suc o)) (suc (suc i)))) g (more_turn (next s t b) b l o i)

    levelled : (x y : ℕ) → Level (go r m p j) (turn (next s t b) b l x y)
    levelled x y = subst (λ z. Level z (turn (next s t b) b l x y)) g (level_turn (next s t b) b l o i x y)

    stepping : (n : ℕ) → Steps (go r m p j) (turn (next s t b) b n o i)
    stepping n = subst (λ z. Steps z (turn (next s t b) b n o i)) g (steps_turn (next s t b) b l n o i)

    longer : (ts : List Placed) {k a : ℕ} → EitherState r t b → Part r m p j ts k a → Part s l o i (token t b ∷ ts) k a
    longer ts y (p_bad pre us k a is v) = p_bad (token t b ∷ pre) us k a (ap (λ z. token t b ∷ z) is) (v.0, v.1, ap (λ z. onward e z (pre ++ v.0)) lifted ∙ v.2)
    longer ts y (p_four a) = p_four a
    longer ts y (p_deep pre x us a is v f) =
        p_deep (token t b ∷ pre) x us a (ap (λ z. token t b ∷ z) is) (v.0, v.1, ap (λ z. onward e z (pre ++ (token x a ∷ v.0))) lifted ∙ v.2)
        (λ u w ws q h. level_on r (turn (next s t b) b l u w) m p j (pre ++ (token x a ∷ ws)) q (levelled u w) h (λ u w h. f u w ws q h))
    longer ts y (p_many pre x us a is v f) =
        p_many (token t b ∷ pre) x us a (ap (λ z. token t b ∷ z) is) (v.0, v.1, ap (λ z. onward e z (pre ++ (token x a ∷ v.0))) lifted ∙ v.2)
        (λ n ws q c h. steps_on r (turn (next s t b) b n o i) m p j (pre ++ (token x a ∷ ws)) q (stepping n) h (λ n h. f n ws q c h))
    longer ts y (p_back d g zero_is) =
        let at = either_not r d t b g y in
        let z = ends e r (suc m) (suc p) (suc j) in
        subst (λ w. Part s l o i (token t b ∷ ts) 6 w) (sym at.1)
        (p_many [] t ts b refl (fin r, z.0, ap (λ z. onward e z (fin r)) lifted ∙ z.1)
        (λ n ws q c h. steps_on r (turn (next s t b) b n o i) m p j ws q (stepping n) h (λ n h. not_many r d n p ws q g (c at.0) (subst (λ w. run e r n p w ws ≡ accepted q) zero_is h))))

  module _ (t : Token) (b : ℕ) (ts : List Placed) (ih : (s : State) (l o i : ℕ) → PartO s l o i ts (run e s l o i ts)) where
    step : (s : State) (l o i : ℕ) (r : State) (m p j : ℕ) → turn (next s t b) b l o i ≡ go r m p j → EitherState r t b → PartO s l o i (token t b ∷ ts) (run e r m p j ts)
    step s l o i r m p j g y = on (run e r m p j ts) (ih r m p j)
      where
        on : (x : Outcome) → PartO r m p j ts x → PartO s l o i (token t b ∷ ts) x
        on (accepted q) h = tt
        on (refused k a) h = longer s t b l o i r m p j g ts y h

    no_outer : {X : Type 0} → outer ≡ inner → X
    no_outer h = let z : ◌≡◌ {A = ℕ} 0 1 = cc in absurd (omega arith)

    -- a level too deep, with the step that begins or without
    too_deep : (s : State) (o i : ℕ) (r : State) (x y : ℕ) → turn (next s t b) b 1 (suc (suc o)) (suc (suc i)) ≡ go r 0 (suc x) (suc y) → ((p j : ℕ) (ws : List Placed) (q : Path) → onward e (turn (next s t b) b 0 p j) ws ≡ accepted q → ⊥) → Part s 0 o i (token t b ∷ ts) 5 b
    too_deep s o i r x y g f =
        let z = ends e r 0 x y in
        p_deep [] t ts b refl (fin r, z.0, ap (λ z. onward e z (fin r)) g ∙ z.1) f

    too_many : (s : State) (l o i d : ℕ) (r : State) (x y : ℕ) → d ≡ b → turn (next s t b) b (suc l) (suc (suc o)) (suc (suc i)) ≡ go r (suc l) (suc x) (suc y) → ((m : ℕ) (ws : List Placed) (q : Path) → onward e (turn (next s t b) b m o i) ws ≡ accepted q → ⊥) → Part s l o i (token t b ∷ ts) 6 d
    too_many s l o i d r x y same g f =
        let z = ends e r (suc l) x y in
        subst (λ w. Part s l o i (token t b ∷ ts) 6 w) (sym same) (p_many [] t ts b refl (fin r, z.0, ap (λ z. onward e z (fin r)) g ∙ z.1) (λ m ws q c h. f m ws q h))

    block_outer : (d : ℕ) (r : State) (p j : ℕ) (ws : List Placed) (q : Path) → onward e (turn (begins outer d (down r)) b 0 p j) ws ≡ accepted q → ⊥
    block_outer d r zero j ws q h = never 6 d q h
    block_outer d r (suc p) j ws q h = never 5 b q h

    block_inner : (d : ℕ) (r : State) (p j : ℕ) (ws : List Placed) (q : Path) → onward e (turn (begins inner d (down r)) b 0 p j) ws ≡ accepted q → ⊥
    block_inner d r p zero ws q h = never 6 d q h
    block_inner d r p (suc j) ws q h = never 5 b q h

    many_outer : (s : State) (l i d : ℕ) (w : Move) → next s t b ≡ begins outer d w → (((d ≡ b) × Goes w) ⊎ (IsEither s d × (outer ≡ inner))) → Part s l 0 i (token t b ∷ ts) 6 d
    many_outer s l i d w g (inr f) = no_outer f.1
    many_outer s l i d none g (inl f) = absurd f.1
    many_outer s l i d (to r) g (inl f) = too_many s l 0 i d r 0 (suc i) f.0 (ap (λ z. turn z b (suc l) 2 (suc (suc i))) g) (λ m ws q h. never 6 d q (sym (ap (λ z. onward e (turn z b m 0 i) ws) g) ∙ h))
    many_outer s l i d (down r) g (inl f) = absurd f.1
    many_outer s l i d (up r) g (inl f) = absurd f.1

    many_inner : (s : State) (l o d : ℕ) (w : Move) → next s t b ≡ begins inner d w → (((d ≡ b) × Goes w) ⊎ (IsEither s d × (inner ≡ inner))) → Part s l o 0 (token t b ∷ ts) 6 d
    many_inner s l o d w g (inr f) = p_back d f.0 refl
    many_inner s l o d none g (inl f) = absurd f.1
    many_inner s l o d (to r) g (inl f) = too_many s l o 0 d r (suc o) 0 f.0 (ap (λ z. turn z b (suc l) (suc (suc o)) 2) g) (λ m ws q h. never 6 d q (sym (ap (λ z. onward e (turn z b m o 0) ws) g) ∙ h))
    many_inner s l o d (down r) g (inl f) = absurd f.1
    many_inner s l o d (up r) g (inl f) = absurd f.1

    by_act : (s : State) (z : Act) (l o i : ℕ) → next s t b ≡ z → Info s z t b → PartO s l o i (token t b ∷ ts) (onward e (turn z b l o i) ts)
    by_act s (act none) l o i g f = p_four b
    by_act s (act (to r)) l o i g f = step s l o i r l o i (ap (λ z. turn z b l o i) g) f
    by_act s (act (down r)) zero o i g f = too_deep s o i r (suc o) (suc i) (ap (λ z. turn z b 1 (suc (suc o)) (suc (suc i))) g) (λ p j ws q h. never 5 b q (sym (ap (λ z. onward e (turn z b 0 p j) ws) g) ∙ h))
    by_act s (act (down r)) (suc l) o i g f = step s (suc l) o i r l o i (ap (λ z. turn z b (suc l) o i) g) f
    by_act s (act (up r)) l o i g f = step s l o i r (suc l) o i (ap (λ z. turn z b l o i) g) f
    by_act s (begins outer d w) l zero i g f = many_outer s l i d w g f.1
    by_act s (begins outer d none) l (suc o) i g f = p_four b
    by_act s (begins outer d (to r)) l (suc o) i g f = step s l (suc o) i r l o i (ap (λ z. turn z b l (suc o) i) g) f.0
    by_act s (begins outer d (down r)) zero (suc o) i g f = too_deep s (suc o) i r (suc o) (suc i) (ap (λ z. turn z b 1 (suc (suc (suc o))) (suc (suc i))) g) (λ p j ws q h. block_outer d r p j ws q (sym (ap (λ z. onward e (turn z b 0 p j) ws) g) ∙ h))
    by_act s (begins outer d (down r)) (suc l) (suc o) i g f = step s (suc l) (suc o) i r l o i (ap (λ z. turn z b (suc l) (suc o) i) g) f.0
    by_act s (begins outer d (up r)) l (suc o) i g f = step s l (suc o) i r (suc l) o i (ap (λ z. turn z b l (suc o) i) g) f.0
    by_act s (begins inner d w) l o zero g f = many_inner s l o d w g f.1
    by_act s (begins inner d none) l o (suc i) g f = p_four b
    by_act s (begins inner d (to r)) l o (suc i) g f = step s l o (suc i) r l o i (ap (λ z. turn z b l o (suc i)) g) f.0
    by_act s (begins inner d (down r)) zero o (suc i) g f = too_deep s o (suc i) r (suc o) (suc i) (ap (λ z. turn z b 1 (suc (suc o)) (suc (suc (suc i)))) g) (λ p j ws q h. block_inner d r p j ws q (sym (ap (λ z. onward e (turn z b 0 p j) ws) g) ∙ h))
    by_act s (begins inner d (down r)) (suc l) o (suc i) g f = step s (suc l) o (suc i) r l o i (ap (λ z. turn z b (suc l) o (suc i)) g) f.0
    by_act s (begins inner d (up r)) l o (suc i) g f = step s l o (suc i) r (suc l) o i (ap (λ z. turn z b l o (suc i)) g) f.0

  part : (ts : List Placed) (s : State) (l o i : ℕ) → PartO s l o i ts (run e s l o i ts)
  part [] s l o i = part_end s l o i
  part (tokens.bad k a ∷ ts) s l o i = part_bad k a ts s l o i
  part (token t b ∷ ts) s l o i = by_act t b ts (part ts) s (next s t b) l o i refl (info s t b)

abbrev sized : Bool → Outcome → Outcome
sized t x = elim t [ true ↦ refused 1 512 | false ↦ x ]

pub limits : Limits
limits bs k a le h =
    let e = length bs in
    let ts = tokens_at bs 0 in
    let same : run e (begin top) 12 16 23 ts ≡ refused k a = sym (ap (λ t. sized t (run e (begin top) 12 16 23 ts)) (le-ltb 512 e le)) ∙ h in
    on (subst (PartO e (begin top) 12 16 23 ts) same (part e ts (begin top) 12 16 23))
  where
    on : {k a : ℕ} → Part (length bs) (begin top) 12 16 23 (tokens_at bs 0) k a → Why (tokens_at bs 0) k a
    on (p_bad pre us k a is v) = faulty pre us k a is (v.0, (13, v.1, derives (length bs) 13 18 25 (pre ++ v.0) v.1 v.2))
    on (p_four a) = grammatical a
    on (p_deep pre t us a is v f) = deep pre t us a is (v.0, (13, v.1, derives (length bs) 13 18 25 (pre ++ (token t a ∷ v.0)) v.1 v.2))
        (λ vs q d. f (own q) (in_path q) vs q (accepts (length bs) 12 (own q) (in_path q) (pre ++ (token t a ∷ vs)) q d (omega arith) (omega arith)))
    on (p_many pre t us a is v f) = many pre t us a is (v.0, (13, v.1, derives (length bs) 13 18 25 (pre ++ (token t a ∷ v.0)) v.1 v.2))
        (λ l vs q c d g h. f l vs q c (accepts (length bs) l 16 23 (pre ++ (token t a ∷ vs)) q d g h))
    on (p_back d g z) = absurd g
