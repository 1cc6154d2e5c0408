-- To make the moves one by one is to deliver what the node's word sends.
use Rattle.std.proofs.Common.{◌≡◌, ℕ, zero, suc, ◌+◌, ◌<◌, Bool, true, false, cond, eqb, List, [], ◌∷◌, length, get_or, drop, set, Some, None, Option, sym, refl, ap, ◌∙◌, ⊎_elim, arith, length-set, get_or-set_other, get_or-set_same, set-set}
use lib.Bits.{bit_or, or_comm, or_zero_r}
use lib.Seq.{set_comm}
use Rattle.std.proofs.lemmas.List.{set_past}
use Rattle.std.proofs.lemmas.Bool.{cases_lt, cases_eq}
use Rattle.rows.specs.Rows.{Row}
use Rattle.rows.specs.Answers.{first_here, first_of, next_of}
use Rattle.rows.proofs.Excerpts.{next_later}
use Rattle.words.specs.Bit.{with_bit}
use Rattle.words.proofs.Bits.{or_assoc, with_bit_or}
use Rattle.commands.specs.declared.command.Move.{Move}
use Rattle.commands.specs.declared.command.Move.TheVariants.{Down, On, Stay, Mark}
use Rattle.commands.specs.declared.command.Command.{Command}
use Rattle.commands.specs.declared.command.Command.TheVariants.{Value, And, Or, Not, Define, When, Make, Done, End}
use Rattle.sweep.specs.declared.place.Place.{Place}
use Rattle.sweep.specs.declared.sending.Sending.{Sending}
use Rattle.sweep.specs.Falling.{entered, made, acting, sent}
use Rattle.sweep.specs.Sending.{nothing_sent, with_move, sending, entered_all, delivered}

length_all : (m : ℕ) (o : Option ℕ) (ws : List ℕ) → length (entered_all m o ws) ≡ length ws
length_all m None ws = refl
length_all m (Some w) ws = length-set ws w (bit_or (get_or ws w 0) m)

set_same : (ws : List ℕ) (w : ℕ) → set ws w (get_or ws w 0) ≡ ws
set_same [] w = refl
set_same (x ∷ xs) zero = refl
set_same (x ∷ xs) (suc w) = ap (λ (r : List ℕ). x ∷ r) (set_same xs w)

-- no state enters
pub enters_none : (o : Option ℕ) (ws : List ℕ) → entered_all 0 o ws ≡ ws
enters_none None ws = refl
enters_none (Some w) ws = ap (set ws w) (or_zero_r (get_or ws w 0)) ∙ set_same ws w

-- one state is one bit
enters_one : (q : ℕ) (o : Option ℕ) (ws : List ℕ) → entered q o ws ≡ entered_all (with_bit 0 (40 + q)) o ws
enters_one q None ws = refl
enters_one q (Some w) ws = ap (set ws w) (with_bit_or (get_or ws w 0) (40 + q))

enters_more : (m n : ℕ) (o : Option ℕ) (ws : List ℕ) → entered_all m o (entered_all n o ws) ≡ entered_all (bit_or n m) o ws
enters_more m n None ws = refl
enters_more m n (Some w) ws =
    ⊎_elim
    (λ h. set-set ws w (bit_or (get_or ws w 0) n) (bit_or (get_or (set ws w (bit_or (get_or ws w 0) n)) w 0) m)
    ∙ ap (λ (x : ℕ). set ws w (bit_or x m)) (get_or-set_same ws w (bit_or (get_or ws w 0) n) 0 h)
    ∙ ap (set ws w) (or_assoc (get_or ws w 0) n m))
    (λ h. set_past (set ws w (bit_or (get_or ws w 0) n)) w (bit_or (get_or (set ws w (bit_or (get_or ws w 0) n)) w 0) m) (simp length-set h)
    ∙ set_past ws w (bit_or (get_or ws w 0) n) h ∙ sym (set_past ws w (bit_or (get_or ws w 0) (bit_or n m)) h))
    (cases_lt w (length ws))

enters_swap : (m n : ℕ) (o p : Option ℕ) (ws : List ℕ) → entered_all m o (entered_all n p ws) ≡ entered_all n p (entered_all m o ws)
enters_swap m n None p ws = refl
enters_swap m n (Some v) None ws = refl
enters_swap m n (Some v) (Some w) ws = ⊎_elim (λ e. same v w e) (λ d. other v w d) (cases_eq v w)
  where
    same : (v w : ℕ) → v ≡ w → entered_all m (Some v) (entered_all n (Some w) ws) ≡ entered_all n (Some w) (entered_all m (Some v) ws)
    same v w e =
        ap (λ (x : ℕ). entered_all m (Some v) (entered_all n (Some x) ws)) (sym e)
        ∙ enters_more m n (Some v) ws ∙ ap (λ (x : ℕ). entered_all x (Some v) ws) (or_comm n m) ∙ sym (enters_more n m (Some v) ws)
        ∙ ap (λ (x : ℕ). entered_all n (Some x) (entered_all m (Some v) ws)) e

    other : (v w : ℕ) → (v ≡ w → ⊥) → entered_all m (Some v) (entered_all n (Some w) ws) ≡ entered_all n (Some w) (entered_all m (Some v) ws)
    other v w d =
        ap (λ (x : ℕ). set (set ws w (bit_or (get_or ws w 0) n)) v (bit_or x m)) (get_or-set_other ws w v (bit_or (get_or ws w 0) n) 0 d)
        ∙ set_comm ws w v (bit_or (get_or ws w 0) n) (bit_or (get_or ws v 0) m) (λ e. d (sym e))
        ∙ ap (λ (x : ℕ). set (set ws v (bit_or (get_or ws v 0) m)) w (bit_or x n)) (sym (get_or-set_other ws v w (bit_or (get_or ws v 0) m) 0 (λ e. d (sym e))))

-- o is another node than v
abbrev pub Apart : ℕ → Option ℕ → Type 0
Apart v o = ¬ (o ≡ Some v)

reads_other : (m v : ℕ) (o : Option ℕ) (ws : List ℕ) → Apart v o → get_or (entered_all m o ws) v 0 ≡ get_or ws v 0
reads_other m v None ws d = refl
reads_other m v (Some w) ws d = get_or-set_other ws w v (bit_or (get_or ws w 0) m) 0 (λ e. d (ap Some (sym e)))

module _ (a : Place) (ws : List ℕ) (in-ws : a.node < length ws) (first : Apart a.node a.first) (next : Apart a.node a.next) where
  -- the node's word, with what was delivered
  reads : (s : Sending) → get_or (delivered a s ws) a.node 0 ≡ bit_or (get_or ws a.node 0) s.here
  reads s =
      let x = entered_all s.here (Some a.node) ws in
      reads_other s.on a.node a.next (entered_all s.down a.first x) next
      ∙ reads_other s.down a.node a.first x first
      ∙ get_or-set_same ws a.node (bit_or (get_or ws a.node 0) s.here) 0 in-ws

  moves : (m : Move) (s : Sending) → made m a (delivered a s ws) ≡ delivered a (with_move m s) ws
  moves (Down q) s =
      let k : ℕ = with_bit 0 (40 + q) in
      let x = entered_all s.here (Some a.node) ws in
      enters_one q a.first (delivered a s ws)
      ∙ enters_swap k s.on a.first a.next (entered_all s.down a.first x)
      ∙ ap (entered_all s.on a.next) (enters_more k s.down a.first x ∙ ap (λ (y : ℕ). entered_all y a.first x) (sym (with_bit_or s.down (40 + q))))
  moves (On q) s =
      let k : ℕ = with_bit 0 (40 + q) in
      let x = entered_all s.down a.first (entered_all s.here (Some a.node) ws) in
      enters_one q a.next (delivered a s ws)
      ∙ enters_more k s.on a.next x ∙ ap (λ (y : ℕ). entered_all y a.next x) (sym (with_bit_or s.on (40 + q)))
  moves (Stay q) s =
      let k : ℕ = with_bit 0 (40 + q) in
      let x = entered_all s.here (Some a.node) ws in
      enters_one q (Some a.node) (delivered a s ws)
      ∙ enters_swap k s.on (Some a.node) a.next (entered_all s.down a.first x)
      ∙ ap (entered_all s.on a.next)
      (enters_swap k s.down (Some a.node) a.first x
      ∙ ap (entered_all s.down a.first) (enters_more k s.here (Some a.node) ws ∙ ap (λ (y : ℕ). entered_all y (Some a.node) ws) (sym (with_bit_or s.here (40 + q)))))
  moves Mark s = refl

  maybe_moves : (b : Bool) (m : Move) (s : Sending) → cond b (made m a (delivered a s ws)) (delivered a s ws) ≡ delivered a (cond b (with_move m s) s) ws
  maybe_moves true m s = moves m s
  maybe_moves false m s = refl

  sent_from : (cs : List Command) (j : ℕ) (b : Bool) (s : Sending) → sent a cs j b (delivered a s ws) ≡ delivered a (sending (get_or ws a.node 0) cs j b s) ws
  sent_from [] j b s = refl
  sent_from (Value x ∷ cs) j b s = refl
  sent_from (And ∷ cs) j b s = refl
  sent_from (Or ∷ cs) j b s = refl
  sent_from (Not ∷ cs) j b s = refl
  sent_from (Define ∷ cs) j b s = refl
  sent_from (When p ∷ cs) j b s =
      ap (λ (x : ℕ). sent a cs j (acting x j p) (delivered a s ws)) (reads s)
      ∙ sent_from cs j (acting (bit_or (get_or ws a.node 0) s.here) j p) s
  sent_from (Make m ∷ cs) j b s = ap (sent a cs j b) (maybe_moves b m s) ∙ sent_from cs j b (cond b (with_move m s) s)
  sent_from (Done ∷ cs) j b s = sent_from cs (j + 1) false s
  sent_from (End ∷ cs) j b s = refl

  pub sent_whole : (cs : List Command) → sent a cs 0 false ws ≡ delivered a (sending (get_or ws a.node 0) cs 0 false nothing_sent) ws
  sent_whole cs =
      ap (sent a cs 0 false)
      (sym (enters_none a.next (entered_all 0 a.first (entered_all 0 (Some a.node) ws)) ∙ enters_none a.first (entered_all 0 (Some a.node) ws) ∙ enters_none (Some a.node) ws))
      ∙ sent_from cs 0 false nothing_sent

-- A node is neither its own first child nor its own next sibling.
the_one : (b : Bool) (v w : ℕ) → cond {A = Option ℕ} b (Some v) None ≡ Some w → v ≡ w
the_one true v w e = cc
the_one false v w e = let z : ◌≡◌ {A = ℕ} 0 1 = cc in absurd (omega arith)

first_after : (rows : List Row) (v w : ℕ) → first_here v rows ≡ Some w → v + 1 ≡ w
first_after [] v w e = let z : ◌≡◌ {A = ℕ} 0 1 = cc in absurd (omega arith)
first_after (r ∷ []) v w e = let z : ◌≡◌ {A = ℕ} 0 1 = cc in absurd (omega arith)
first_after (r ∷ (q ∷ rows)) v w e = the_one (eqb q.depth (suc r.depth)) (v + 1) w e

pub first_apart : (rows : List Row) (v : ℕ) → Apart v (first_of rows v)
first_apart rows v e = let h = first_after (drop v rows) v v e in omega arith

pub next_apart : (rows : List Row) (v : ℕ) → Apart v (next_of rows v)
next_apart rows v e = let h = next_later rows v v e in omega arith
