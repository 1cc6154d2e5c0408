-- Where and why a text is refused.
use Rattle.std.proofs.Common.{◌≡◌, ℕ, zero, suc, ◌<◌, Bool, true, false, ltb, List, [], ◌∷◌, ◌++◌, length, sym, refl, ap, ◌∙◌, subst, arith}
use Rattle.grammar.specs.declared.tokens.Symbol.TheVariants.{RightBracket, RightParen, Star}
use Rattle.grammar.specs.Tokens.{Token, symbol, word, Placed, token, tokens_at}
use Rattle.grammar.specs.Tokens as tokens
use Rattle.grammar.specs.Syntax.{Axis, child, NodeTest, element, name, Path, plain, holds, Pred, some, not, not_word, own, in_path}
use Rattle.grammar.specs.Machine.{Before, start, past, ext, Side, no, has, conj, disj, Context, top, unit, Opened, bracket, group, negate, State, begin, due, test, pend, named, close, tested, stepped, united, either, Where, outer, inner, where_is, Move, none, to, down, up, Act, act, begins, same, AsAxis, AsTest, AsJoin, join_of, test_of, axis_of_word, shut, right, joined, on_united, on_ended, on_stepped, on_tested, typed, on_named, on_axis, on_pend, on_close, charged, on_test, on_due, lone, worded, grouped, on_begin, on_either, next, Last, whole, early, behind, ended, last, Outcome, accepted, refused, Turn, stop, go, move, turn, at_fault, run, outcome}
use Rattle.grammar.specs.Claims.{Leaves, at_token, at_end, Code4}
use Rattle.grammar.specs.Machine as machine
use Rattle.grammar.proofs.Sound.{derives}
use Rattle.grammar.proofs.Whole.{never, accepts}
use Rattle.grammar.proofs.Lexing.{Clean, lighter}

-- ---- each state can be brought to an end, with one step more at most

abbrev mutual
  pub shut_c : Context → List Placed
  shut_c top = []
  shut_c (unit k o n) = shut_k k

  pub shut_k : Opened → List Placed
  shut_k (bracket c b v t) = token (symbol RightBracket) 0 ∷ shut_c c
  shut_k (group k o n) = token (symbol RightParen) 0 ∷ shut_k k
  shut_k (negate k o n) = token (symbol RightParen) 0 ∷ shut_k k

abbrev pub fin : State → List Placed
fin (begin c) = token (symbol Star) 0 ∷ shut_c c
fin (due c b) = token (symbol Star) 0 ∷ shut_c c
fin (test c b v s) = token (symbol Star) 0 ∷ shut_c c
fin (pend c b w) = shut_c c
fin (named c b v w) = shut_c c
fin (close c b v t) = token (symbol RightParen) 0 ∷ shut_c c
fin (tested c b v t) = shut_c c
fin (stepped c p) = shut_c c
fin (united k o n p) = shut_k k
fin (either k o n d) = shut_k k

module _ (e : ℕ) where
  abbrev pub Ends : State → ℕ → ℕ → ℕ → List Placed → Type 0
  Ends s l x y ts = (q : Path) × (run e s l x y ts ≡ accepted q)

  stepped_united : (k : Opened) (o n : Side) (p : Path) (l x y : ℕ) → Ends (united k o n (some p)) l x y (shut_k k) → Ends (stepped (unit k o n) p) l x y (shut_k k)
  stepped_united (bracket c b v t) o n p l x y h = h
  stepped_united (group k a z) o n p l x y h = h
  stepped_united (negate k a z) o n p l x y h = h

  mutual
    end_ctx : (c : Context) (p : Path) (l x y : ℕ) → Ends (stepped c p) l x y (shut_c c)
    end_ctx top p l x y = (p, refl)
    end_ctx (unit k o n) p l x y = stepped_united k o n p l x y (end_opened k o n (some p) l x y)

    end_opened : (k : Opened) (o n : Side) (p : Pred) (l x y : ℕ) → Ends (united k o n p) l x y (shut_k k)
    end_opened (bracket c b v t) o n p l x y = end_ctx c (ext b v t (holds (disj o (conj n p)))) (suc l) x y
    end_opened (group k a z) o n p l x y = end_opened k a z (disj o (conj n p)) (suc l) x y
    end_opened (negate k a z) o n p l x y = end_opened k a z (not (disj o (conj n p))) (suc l) x y

  end_tested : (c : Context) (b : Before) (v : Axis) (t : NodeTest) (l x y : ℕ) → Ends (tested c b v t) l x y (shut_c c)
  end_tested top b v t l x y = (ext b v t plain, refl)
  end_tested (unit (bracket c a w z) o n) b v t l x y = end_ctx (unit (bracket c a w z) o n) (ext b v t plain) l x y
  end_tested (unit (group k a z) o n) b v t l x y = end_ctx (unit (group k a z) o n) (ext b v t plain) l x y
  end_tested (unit (negate k a z) o n) b v t l x y = end_ctx (unit (negate k a z) o n) (ext b v t plain) l x y

  end_named : (c : Context) (b : Before) (v : Axis) (w : List ℕ) (l x y : ℕ) → Ends (named c b v w) l x y (shut_c c)
  end_named top b v w l x y = (ext b v (name w) plain, refl)
  end_named (unit (bracket c a u z) o n) b v w l x y = end_tested (unit (bracket c a u z) o n) b v (name w) l x y
  end_named (unit (group k a z) o n) b v w l x y = end_tested (unit (group k a z) o n) b v (name w) l x y
  end_named (unit (negate k a z) o n) b v w l x y = end_tested (unit (negate k a z) o n) b v (name w) l x y

  end_pend : (c : Context) (b : Before) (w : List ℕ) (l x y : ℕ) → Ends (pend c b w) l x y (shut_c c)
  end_pend top b w l x y = (ext b child (name w) plain, refl)
  end_pend (unit (bracket c a u z) o n) b w l x y = end_named (unit (bracket c a u z) o n) b child w l x y
  end_pend (unit (group k a z) o n) b w l x y = end_named (unit (group k a z) o n) b child w l x y
  end_pend (unit (negate k a z) o n) b w l x y = end_named (unit (negate k a z) o n) b child w l x y

  end_either : (k : Opened) (o n : Side) (d l x y : ℕ) → Ends (either k o n d) l x (suc y) (shut_k k)
  end_either (bracket c b v t) o n d l x y = end_pend (unit (bracket c b v t) o n) (start false) not_word l x y
  end_either (group k a z) o n d l x y = end_pend (unit (group k a z) o n) (start false) not_word l x y
  end_either (negate k a z) o n d l x y = end_pend (unit (negate k a z) o n) (start false) not_word l x y

  pub ends : (s : State) (l x y : ℕ) → Ends s l (suc x) (suc y) (fin s)
  ends (begin top) l x y = end_tested top (start false) child element l x (suc y)
  ends (begin (unit k o n)) l x y = end_tested (unit k o n) (start false) child element l (suc x) y
  ends (due top b) l x y = end_tested top b child element l x (suc y)
  ends (due (unit k o n) b) l x y = end_tested (unit k o n) b child element l (suc x) y
  ends (test top b v true) l x y = end_tested top b v element l x (suc y)
  ends (test (unit k o n) b v true) l x y = end_tested (unit k o n) b v element l (suc x) y
  ends (test c b v false) l x y = end_tested c b v element l (suc x) (suc y)
  ends (pend c b w) l x y = end_pend c b w l (suc x) (suc y)
  ends (named c b v w) l x y = end_named c b v w l (suc x) (suc y)
  ends (close c b v t) l x y = end_tested c b v t l (suc x) (suc y)
  ends (tested c b v t) l x y = end_tested c b v t l (suc x) (suc y)
  ends (stepped c p) l x y = end_ctx c p l (suc x) (suc y)
  ends (united k o n p) l x y = end_opened k o n p l (suc x) (suc y)
  ends (either k o n d) l x y = end_either k o n d l (suc x) y

-- ---- what one token does with other numbers

abbrev Up : Turn → Turn → Type 0
Up (stop k a) y = Unit {0}
Up (go r m p j) y = y ≡ go r m (suc p) (suc j)

up_move : (m : Move) (a l o i : ℕ) → Up (move m a l o i) (move m a l (suc o) (suc i))
up_move none a l o i = tt
up_move (to s) a l o i = refl
up_move (down s) a zero o i = tt
up_move (down s) a (suc l) o i = refl
up_move (up s) a l o i = refl

up_turn : (z : Act) (a l o i : ℕ) → Up (turn z a l o i) (turn z a l (suc o) (suc i))
up_turn (act m) a l o i = up_move m a l o i
up_turn (begins outer d m) a l zero i = tt
up_turn (begins outer d m) a l (suc o) i = up_move m a l o i
up_turn (begins inner d m) a l o zero = tt
up_turn (begins inner d m) a l o (suc i) = up_move m a l o i

abbrev Alike : Turn → Turn → Type 0
Alike (stop k a) (stop j b) = Unit {0}
Alike (stop k a) (go s m p j) = Unit {0}
Alike (go r m p j) (stop k a) = Unit {0}
Alike (go r m p j) (go s n o i) = r ≡ s

alike_move : (m : Move) (a l o i k p j : ℕ) → Alike (move m a l o i) (move m a k p j)
alike_move none a l o i k p j = tt
alike_move (to s) a l o i k p j = refl
alike_move (down s) a zero o i zero p j = tt
alike_move (down s) a zero o i (suc k) p j = tt
alike_move (down s) a (suc l) o i zero p j = tt
alike_move (down s) a (suc l) o i (suc k) p j = refl
alike_move (up s) a l o i k p j = refl

stop_alike : (x : Turn) (k a : ℕ) → Alike x (stop k a)
stop_alike (stop j b) k a = tt
stop_alike (go s m p j) k a = tt

alike_stop : (x : Turn) (k a : ℕ) → Alike (stop k a) x
alike_stop (stop j b) k a = tt
alike_stop (go s m p j) k a = tt

alike : (z : Act) (a l o i k p j : ℕ) → Alike (turn z a l o i) (turn z a k p j)
alike (act m) a l o i k p j = alike_move m a l o i k p j
alike (begins outer d m) a l zero i k p j = alike_stop (turn (begins outer d m) a k p j) 6 d
alike (begins outer d m) a l (suc o) i k zero j = stop_alike (move m a l o i) 6 d
alike (begins outer d m) a l (suc o) i k (suc p) j = alike_move m a l o i k p j
alike (begins inner d m) a l o zero k p j = alike_stop (turn (begins inner d m) a k p j) 6 d
alike (begins inner d m) a l o (suc i) k p zero = stop_alike (move m a l o i) 6 d
alike (begins inner d m) a l o (suc i) k p (suc j) = alike_move m a l o i k p j

-- a token that the grammar does not have there
abbrev move_of : Act → Move
move_of (act m) = m
move_of (begins x d m) = m

abbrev Stuck : Move → Turn → ℕ → Type 0
Stuck m (go r l p j) a = Unit {0}
Stuck m (stop k b) a = k ≡ 4 → (m ≡ none) × (b ≡ a)

stuck_move : (m : Move) (a l o i : ℕ) → Stuck m (move m a l o i) a
stuck_move none a l o i = λ h. (refl, refl)
stuck_move (to s) a l o i = tt
stuck_move (down s) a zero o i = λ h. absurd (omega arith)
stuck_move (down s) a (suc l) o i = tt
stuck_move (up s) a l o i = tt

stuck : (z : Act) (a l o i : ℕ) → Stuck (move_of z) (turn z a l o i) a
stuck (act m) a l o i = stuck_move m a l o i
stuck (begins outer d m) a l zero i = λ h. absurd (omega arith)
stuck (begins outer d m) a l (suc o) i = stuck_move m a l o i
stuck (begins inner d m) a l o zero = λ h. absurd (omega arith)
stuck (begins inner d m) a l o (suc i) = stuck_move m a l o i

module _ (e : ℕ) where
  abbrev pub onward : Turn → List Placed → Outcome
  onward x ts = elim x [ stop k b ↦ refused k b | go r m p j ↦ run e r m p j ts ]

  -- none in any number
  blocked : (z : Act) (a l o i : ℕ) (ts : List Placed) (q : Path) → move_of z ≡ none → onward (turn z a l o i) ts ≡ accepted q → ⊥
  blocked (act m) a l o i ts q g h = never 4 a q (sym (ap (λ m. onward (move m a l o i) ts) g) ∙ h)
  blocked (begins outer d m) a l zero i ts q g h = never 6 d q h
  blocked (begins outer d m) a l (suc o) i ts q g h = never 4 a q (sym (ap (λ m. onward (move m a l o i) ts) g) ∙ h)
  blocked (begins inner d m) a l o zero ts q g h = never 6 d q h
  blocked (begins inner d m) a l o (suc i) ts q g h = never 4 a q (sym (ap (λ m. onward (move m a l o i) ts) g) ∙ h)

  -- as for a text, from a state on
  data Parts (s : State) (l o i : ℕ) (ts : List Placed) (a : ℕ) : Type 0 where
    part_token : (pre : List Placed) (t : Token) (us : List Placed) → ts ≡ pre ++ (token t a ∷ us)
        → (vs : List Placed) (q : Path) → run e s l (suc o) (suc i) (pre ++ vs) ≡ accepted q
        → ((m p j : ℕ) (ws : List Placed) (q : Path) → run e s m p j (pre ++ (token t a ∷ ws)) ≡ accepted q → ⊥)
        → Parts s l o i ts a
    part_end : a ≡ e
        → (vs : List Placed) (q : Path) → run e s l (suc o) (suc i) (ts ++ vs) ≡ accepted q
        → ((m p j : ℕ) (q : Path) → run e s m p j ts ≡ accepted q → ⊥)
        → Parts s l o i ts a

  codes : (k a j b : ℕ) → refused k a ≡ refused j b → (k ≡ j) × (a ≡ b)
  codes k a j b h = (cc, cc)

  at_last : (z : Last) (y a : ℕ) → machine.at_end z e y ≡ refused 4 a → (a ≡ e) × ((j : ℕ) (q : Path) → machine.at_end z e j ≡ accepted q → ⊥)
  at_last (whole p) y a h = never 4 a p (sym h)
  at_last early y a h = (sym (codes 4 e 4 a h).1, λ j q g. never 4 e q g)
  at_last (behind d) zero a h = absurd (omega (arith, (codes 6 d 4 a h).0))
  at_last (behind d) (suc y) a h = (sym (codes 4 e 4 a h).1, elim [ zero ↦ λ q g. never 6 d q g | suc j ↦ λ q g. never 4 e q g ])

  at_bad : {X : Type 0} (z : Last) (k b y a : ℕ) → k < 4 → at_fault z k b y ≡ refused 4 a → X
  at_bad (whole p) k b y a lt h = absurd (omega (arith, (codes k b 4 a h).0))
  at_bad early k b y a lt h = absurd (omega (arith, (codes k b 4 a h).0))
  at_bad (behind d) k b zero a lt h = absurd (omega (arith, (codes 6 d 4 a h).0))
  at_bad (behind d) k b (suc y) a lt h = absurd (omega (arith, (codes k b 4 a h).0))

  follow : (r : State) (x : Turn) (m p j : ℕ) (ts : List Placed) (q : Path) → Alike (go r m p j) x → onward x ts ≡ accepted q → ((m p j : ℕ) → run e r m p j ts ≡ accepted q → ⊥) → ⊥
  follow r (stop k b) m p j ts q g h f = never k b q h
  follow r (go s n o i) m p j ts q g h f = f n o i (subst (λ z. run e z n o i ts ≡ accepted q) (sym g) h)

  longer : (s : State) (t : Token) (b l o i : ℕ) (ts : List Placed) (a : ℕ) (r : State) (m p j : ℕ) → turn (next s t b) b l o i ≡ go r m p j → Parts r m p j ts a → Parts s l o i (token t b ∷ ts) a
  longer s t b l o i ts a r m p j g (part_token pre x us is vs q h f) =
      part_token (token t b ∷ pre) x us (ap (λ z. token t b ∷ z) is) vs q
      (ap (λ z. onward z (pre ++ vs)) (subst (λ z. Up z (turn (next s t b) b l (suc o) (suc i))) g (up_turn (next s t b) b l o i)) ∙ h)
      (λ n u w ws q h. follow r (turn (next s t b) b n u w) m p j (pre ++ (token x a ∷ ws)) q (subst (λ z. Alike z (turn (next s t b) b n u w)) g (alike (next s t b) b l o i n u w)) h (λ n u w h. f n u w ws q h))
  longer s t b l o i ts a r m p j g (part_end is vs q h f) =
      part_end is vs q
      (ap (λ z. onward z (ts ++ vs)) (subst (λ z. Up z (turn (next s t b) b l (suc o) (suc i))) g (up_turn (next s t b) b l o i)) ∙ h)
      (λ n u w q h. follow r (turn (next s t b) b n u w) m p j ts q (subst (λ z. Alike z (turn (next s t b) b n u w)) g (alike (next s t b) b l o i n u w)) h (λ n u w h. f n u w q h))

  parts : (ts : List Placed) (s : State) (l o i a : ℕ) → Clean ts → run e s l o i ts ≡ refused 4 a → Parts s l o i ts a
  parts [] s l o i a c h =
      let r = at_last (last s) i a h in
      let z = ends e s l o i in
      part_end r.0 (fin s) z.0 z.1 (λ m p j q g. r.1 j q g)
  parts (tokens.bad k b ∷ ts) s l o i a c h = at_bad (last s) k b i a c h
  parts (token t b ∷ ts) s l o i a c h = on (turn (next s t b) b l o i) refl h (parts ts)
    where
      tail : (t : Token) → Clean (token t b ∷ ts) → Clean ts
      tail (symbol m) c = c
      tail (word w) c = c.1

      on : (x : Turn) → turn (next s t b) b l o i ≡ x → onward x ts ≡ refused 4 a → ((s : State) (l o i a : ℕ) → Clean ts → run e s l o i ts ≡ refused 4 a → Parts s l o i ts a) → Parts s l o i (token t b ∷ ts) a
      on (stop k d) g h f =
          let y = codes k d 4 a h in
          let w = subst (λ z. Stuck (move_of (next s t b)) z b) g (stuck (next s t b) b l o i) y.0 in
          let z = ends e s l o i in
          let same : b ≡ a = sym w.1 ∙ y.1 in
          part_token [] t ts (ap (λ n. token t n ∷ ts) same) (fin s) z.0 z.1 (λ m p j ws q r. blocked (next s t a) a m p j ws q (subst (λ n. move_of (next s t n) ≡ none) same w.0) r)
      on (go r m p j) g h f = longer s t b l o i ts a r m p j g (f r m p j a (tail t c) h)

abbrev sized : Bool → Outcome → Outcome
sized t x = elim t [ true ↦ refused 1 512 | false ↦ x ]

long : (t : Bool) (x : Outcome) (k a : ℕ) → 1 < k → sized t x ≡ refused k a → x ≡ refused k a
long true x k a lt h = absurd (omega (arith, (codes 0 1 512 k a h).0))
long false x k a lt h = h

pub code4 : Code4
code4 bs a h =
    let e = length bs in
    let ts = tokens_at bs 0 in
    on (parts e ts (begin top) 12 16 23 a (lighter bs 0 0).clean (long (ltb 512 e) (run e (begin top) 12 16 23 ts) 4 a (omega arith) h))
  where
    on : Parts (length bs) (begin top) 12 16 23 (tokens_at bs 0) a → Leaves (tokens_at bs 0) (length bs) a
    on (part_token pre t us is vs q h f) = at_token pre t us is (vs, (12, q, derives (length bs) 12 17 24 (pre ++ vs) q h))
        (λ ws x. f x.0 (own x.1) (in_path x.1) ws x.1 (accepts (length bs) x.0 (own x.1) (in_path x.1) (pre ++ (token t a ∷ ws)) x.1 x.2 (omega arith) (omega arith)))
    on (part_end is vs q h f) = at_end is (vs, (12, q, derives (length bs) 12 17 24 (tokens_at bs 0 ++ vs) q h))
        (λ x. f x.0 (own x.1) (in_path x.1) x.1 (accepts (length bs) x.0 (own x.1) (in_path x.1) (tokens_at bs 0) x.1 x.2 (omega arith) (omega arith)))
