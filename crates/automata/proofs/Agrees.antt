-- What a program does depends on its right decisions alone, and they all say the same.
use mathlib.Core.List.{List, [], ◌∷◌}
use mathlib.Core.Logic.{inl, inr}
use Prim.Native.Nat.{ℕ, ◌<◌}
use lib.Dec.{T}
use lib.ListN.{length, get_or}
use Rattle.rows.specs.Rows.{Row, count_of as count, Lawful}
use Rattle.automata.specs.Program.{Program, Proper, ProperRules, Rule, Move, mark, Decisions, Makes, Enters, start, sent, Entered, Marked}
use Rattle.automata.specs.Claims.{Agreeing}
use Rattle.automata.proofs.Falls.{defined, within}
use Rattle.automata.proofs.Solutions.{settled}

module _ (P : Program) (rows : List Row) (ok : Lawful rows) (proper : Proper P) (D E : Decisions)
    (same : (p v : ℕ) → p < length P.deciding → v < count rows → T (D p v) → T (E p v)) where
  makes_over : (n j : ℕ) (rules : List Rule) (v : ℕ) (m : Move) → v < count rows → ProperRules (length P.deciding) n j rules → Makes rules D v m → Makes rules E v m
  makes_over n j [] v m h p k = absurd k
  makes_over n j (r ∷ rules) v m h p (inl k) = inl (same r.when v p.0.0 h k.0, k.1)
  makes_over n j (r ∷ rules) v m h p (inr k) = inr (makes_over n j rules v m h p.1 k)

  at_state : (q v : ℕ) (m : Move) → v < count rows → Makes (get_or P.sending q []) D v m → Makes (get_or P.sending q []) E v m
  at_state q v m h k = makes_over (length P.sending) q (get_or P.sending q []) v m h (proper.rules q (defined P D rows ok proper q v m k)) k

  enters_over : {q v : ℕ} → Enters P.sending D rows q v → Enters P.sending E rows q v
  enters_over start = start
  enters_over (sent {q = q} {v = v} m e k l) = sent m (enters_over e) (at_state q v m (within P D rows ok proper e) k) l

  entered_over : (v j q w : ℕ) → Entered P.sending D rows v j q w → Entered P.sending E rows v j q w
  entered_over v j q w (inl h) = inl h
  entered_over v j q w (inr h) =
      inr (h.0, h.1, h.2, h.3, enters_over h.4, at_state h.0 h.1 h.2 (within P D rows ok proper h.4) h.5, h.6)

  marked_over : (v : ℕ) → Marked P D rows v → Marked P E rows v
  marked_over v k = (k.0, enters_over k.1, at_state k.0 v mark (within P D rows ok proper k.1) k.2)

pub agreeing : Agreeing
agreeing P D rows ok proper right =
    let one = (settled P.deciding rows proper.formulas).1 in
    record {
      decides = λ p v h l. ((λ t E r. (one D E right r p v h l).0 t), λ d. d D right);
      comes = λ v q w. ((λ e E r. entered_over P rows ok proper D E (λ p u h l. (one D E right r p u h l).0) v 0 q w e), λ c. c D right);
      marks = λ v. ((λ m E r. marked_over P rows ok proper D E (λ p u h l. (one D E right r p u h l).0) v m), λ k. k D right);
    }
