-- The marks of a word are those of its node.
use Rattle.std.proofs.Common.{◌≡◌, ℕ, zero, suc, ◌+◌, ◌<◌, Bool, false, ◌&&◌, T, ◌⊎◌, ◌↔◌, List, [], ◌∷◌, length, get_or, sym, refl, subst, inl, inr, ⊎_elim, arith}
use mathlib.Core.Logic.Iff
use native.Mathlib.Decide.{dec_lt}
use lib.ListN.{get_or-eq_default}
use Rattle.rows.specs.Rows.{count_of as count}
use Rattle.automata.specs.Program.{Rule, Program, Proper, ProperRules, Decisions, Makes, Enters}
use Rattle.automata.specs.Program as program
use Rattle.automata.proofs.Falls.{falling}
use Rattle.words.specs.Bit.{bit}
use Rattle.commands.specs.declared.command.Move.{Move}
use Rattle.commands.specs.declared.command.Move.TheVariants.{Down, On, Stay, Mark}
use Rattle.commands.specs.declared.command.Command.{Command}
use Rattle.commands.specs.Commands.{commands_of}
use Rattle.commands.specs.Decoded.{move}
use Rattle.commands.proofs.Grammar.{Sends, Below, Decoded, decoded_reads, rest_after}
use Rattle.commands.proofs.Grammar as reads
use Rattle.sweep.specs.Falling.{acting, fallen, is_mark, marking}
use Rattle.commands.specs.Rules.{after_deciding}
use Rattle.sweep.specs.Claims.{decisions, MarksRight}
use Rattle.sweep.proofs.Risen.{T_and, T_or, T_same}
use Rattle.sweep.proofs.Fallen.{falls_right}

T_mark : (m : Move) → T (is_mark m) ↔ (move m ≡ program.mark)
T_mark (Down q) = (λ t. absurd t, λ e. let z : ◌≡◌ {A = ℕ} 0 1 = cc in absurd (omega arith))
T_mark (On q) = (λ t. absurd t, λ e. let z : ◌≡◌ {A = ℕ} 0 1 = cc in absurd (omega arith))
T_mark (Stay q) = (λ t. absurd t, λ e. let z : ◌≡◌ {A = ℕ} 0 1 = cc in absurd (omega arith))
T_mark Mark = (λ t. refl, λ e. tt)

module _ (x : ℕ) (v : ℕ) where
  -- the decisions of the word
  abbrev Here : Decisions
  Here p w = bit x p

  -- of the states from j on, one that has entered marks
  abbrev MarksIn : List (List Rule) → ℕ → Type 0
  MarksIn [] j = ⊥
  MarksIn (rs ∷ ss) j = (T (bit x (40 + j)) × Makes rs Here v program.mark) ⊎ MarksIn ss (j + 1)

  abbrev HasMark : List program.Move → Type 0
  HasMark ms = program.Some (λ m. m ≡ program.mark) ms

  mutual
    sends_mark : {cs : List Command} {ss : List (List Rule)} → Sends cs ss → (j : ℕ) (b : Bool) → T (marking x cs j b) ↔ MarksIn ss j
    sends_mark (reads.opened {p = p} d) j b =
        let ih = below_mark d j (acting x j p) in
        let both = T_and (bit x (40 + j)) (bit x p) in (
          λ t. ⊎_elim (λ s. let z = both.0 s.0 in inl (z.0, inl (z.1, s.1))) (⊎_elim (λ s. inl (s.0, inr s.1)) inr) (ih.0 t),
          ⊎_elim (λ s. ⊎_elim (λ r. ih.1 (inl (both.1 (s.0, r.0), r.1))) (λ r. ih.1 (inr (inl (s.0, r)))) s.1) (λ r. ih.1 (inr (inr r))),
        )
    sends_mark (reads.idle s) j b =
        let ih = sends_mark s (j + 1) false in
        (λ t. inr (ih.0 t), ⊎_elim (λ r. absurd r.1) (λ r. ih.1 r))
    sends_mark reads.ended j b = (λ t. t, λ t. t)

    below_mark : {cs : List Command} {ms : List program.Move} {rs : List Rule} {ss : List (List Rule)} → Below cs ms rs ss → (j : ℕ) (b : Bool)
        → T (marking x cs j b) ↔ ((T b × HasMark ms) ⊎ ((T (bit x (40 + j)) × Makes rs Here v program.mark) ⊎ MarksIn ss (j + 1)))
    below_mark (reads.again {p = p} d) j b =
        let ih = below_mark d j (acting x j p) in
        let both = T_and (bit x (40 + j)) (bit x p) in (
          λ t. inr (⊎_elim (λ s. let z = both.0 s.0 in inl (z.0, inl (z.1, s.1))) (⊎_elim (λ s. inl (s.0, inr s.1)) inr) (ih.0 t)),
          ⊎_elim (λ s. absurd s.1) (⊎_elim (λ s. ⊎_elim (λ r. ih.1 (inl (both.1 (s.0, r.0), r.1))) (λ r. ih.1 (inr (inl (s.0, r)))) s.1) (λ r. ih.1 (inr (inr r)))),
        )
    below_mark (reads.made {m = m} {cs = cs} d) j b =
        let ih = below_mark d j b in
        let first = Iff.trans (T_or (b && is_mark m) (marking x cs j b)) (Iff.rfl) in
        let hit = T_and b (is_mark m) in
        let is = T_mark m in (
          λ t. ⊎_elim (λ s. let z = hit.0 s in inl (z.0, inl (is.0 z.1))) (λ s. ⊎_elim (λ z. inl (z.0, inr z.1)) inr (ih.0 s)) (first.0 t),
          ⊎_elim (λ s. ⊎_elim (λ e. first.1 (inl (hit.1 (s.0, is.1 e)))) (λ r. first.1 (inr (ih.1 (inl (s.0, r))))) s.1) (λ s. first.1 (inr (ih.1 (inr s)))),
        )
    below_mark (reads.done s) j b =
        let ih = sends_mark s (j + 1) false in
        (λ t. inr (inr (ih.0 t)), ⊎_elim (λ r. absurd r.1) (⊎_elim (λ r. absurd r.1) (λ r. ih.1 r)))

  -- by the number of the state
  abbrev MarksBy : List (List Rule) → ℕ → Type 0
  MarksBy ss j = (i : ℕ) × T (bit x (40 + (j + i))) × Makes (get_or ss i []) Here v program.mark

  bit_at : (k n : ℕ) → k ≡ n → T (bit x (40 + k)) → T (bit x (40 + n))
  bit_at k n e t = subst (λ (y : ℕ). T (bit x (40 + y))) e t

  none_by : (j i : ℕ) → Makes (get_or {A = List Rule} [] i []) Here v program.mark → ⊥
  none_by j zero r = r
  none_by j (suc i) r = r

  one_more : (rs : List Rule) (ss : List (List Rule)) (j : ℕ) → MarksIn ss (j + 1) ↔ MarksBy ss (j + 1) → (i : ℕ) → T (bit x (40 + (j + i))) → Makes (get_or (rs ∷ ss) i []) Here v program.mark → MarksIn (rs ∷ ss) j
  one_more rs ss j ih zero t m = inl (bit_at (j + 0) j (omega arith) t, m)
  one_more rs ss j ih (suc i) t m = inr (ih.1 (i, bit_at (j + suc i) ((j + 1) + i) (omega arith) t, m))

  marks_at : (ss : List (List Rule)) (j : ℕ) → MarksIn ss j ↔ MarksBy ss j
  marks_at [] j = (λ t. absurd t, λ r. none_by j r.0 r.2)
  marks_at (rs ∷ ss) j =
      let ih = marks_at ss (j + 1) in (
        ⊎_elim (λ s. (0, bit_at j (j + 0) (omega arith) s.0, s.1)) (λ s. let r = ih.0 s in (suc r.0, bit_at ((j + 1) + r.0) (j + suc r.0) (omega arith) r.1, r.2)),
        λ r. one_more rs ss j ih r.0 r.1 r.2,
      )

-- rules see only the states that are defined
makes_same : (d n j : ℕ) (rules : List Rule) (D E : Decisions) (v : ℕ) (m : program.Move) → ProperRules d n j rules → ((p : ℕ) → p < d → D p v ≡ E p v)
    → Makes rules D v m ↔ Makes rules E v m
makes_same d n j [] D E v m pr e = (λ t. t, λ t. t)
makes_same d n j (r ∷ rules) D E v m pr e =
    let ih = makes_same d n j rules D E v m pr.1 e in
    let s = T_same (e r.when pr.0.0) in
    (⊎_elim (λ z. inl (s.0 z.0, z.1)) (λ z. inr (ih.0 z)), ⊎_elim (λ z. inl (s.1 z.0, z.1)) (λ z. inr (ih.1 z)))

pub marks_right : MarksRight
marks_right bytes P rows ws e proper ok room rose v h = Iff.trans (sends_mark x v s 0 false) (Iff.trans (marks_at x v P.sending 0) (to, of))
  where
    cs : List Command
    cs = after_deciding (commands_of bytes)

    x : ℕ
    x = get_or (fallen rows cs 0 (count rows) ws) v 0

    s : Sends cs P.sending
    s = let d = decoded_reads bytes P e in subst (λ (y : List Command). Sends y P.sending) (sym (rest_after d.defined)) d.sent

    enters : (q : ℕ) → T (bit x (40 + q)) ↔ Enters P.sending (decisions ws) rows q v
    enters q = Iff.trans ((falls_right bytes P rows ws e proper ok room rose (count rows) (omega arith)).high q v h) ((falling P (decisions ws) rows ok proper).all (count rows) q v (omega arith))

    makes : (q : ℕ) → Makes (get_or P.sending q []) (Here x v) v program.mark ↔ Makes (get_or P.sending q []) (decisions ws) v program.mark
    makes q = test (dec_lt q (length P.sending))
      where
        test : Dec (q < length P.sending) → Makes (get_or P.sending q []) (Here x v) v program.mark ↔ Makes (get_or P.sending q []) (decisions ws) v program.mark
        test (yes l) =
            let few = proper.deciding_few in
            makes_same _ _ q (get_or P.sending q []) (Here x v) (decisions ws) v program.mark (proper.rules q l) (λ p k. (falls_right bytes P rows ws e proper ok room rose (count rows) (omega arith)).low p v (omega arith) h)
        test (no l) =
            let k : get_or P.sending q [] ≡ [] = get_or-eq_default P.sending [] (omega arith) in
            (λ t. absurd (subst (λ rules. Makes rules (Here x v) v program.mark) k t), λ t. absurd (subst (λ rules. Makes rules (decisions ws) v program.mark) k t))

    to : ((i : ℕ) × T (bit x (40 + (0 + i))) × Makes (get_or P.sending i []) (Here x v) v program.mark) → program.Marked P (decisions ws) rows v
    to r = let z : 0 + r.0 ≡ r.0 = omega arith in (r.0, (enters r.0).0 (subst (λ (k : ℕ). T (bit x (40 + k))) z r.1), (makes r.0).0 r.2)

    of : program.Marked P (decisions ws) rows v → ((i : ℕ) × T (bit x (40 + (0 + i))) × Makes (get_or P.sending i []) (Here x v) v program.mark)
    of r = let z : r.0 ≡ 0 + r.0 = omega arith in (r.0, subst (λ (k : ℕ). T (bit x (40 + k))) z ((enters r.0).1 r.1), (makes r.0).1 r.2)
