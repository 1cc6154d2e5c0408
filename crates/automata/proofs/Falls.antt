-- What a fall over the nodes knows.
use mathlib.Core.Path.{◌≡◌, refl, subst, subst₂}
use mathlib.Core.List.{List, [], ◌∷◌}
use mathlib.Core.Logic.{◌⊎◌, inl, inr, ⊎_elim}
use Prim.Native.Nat.{ℕ, suc, ◌<◌}
use native.Mathlib.Decide.{dec_lt}
use native.Mathlib.Omega.{arith}
use lib.ListN.{length, get_or, get_or-eq_default}
use Rattle.rows.specs.Rows.{Row, count_of as count, Lawful}
use Rattle.automata.specs.Program.{Decisions, Proper, ProperRules, Every, Goes, Some, Rule, Move, down, on, stay, mark, Makes, Leads, Enters, start, sent, Entered, Program}
use Rattle.automata.specs.Claims.{Falls, Falling}

goes_of : (n j : ℕ) (ms : List Move) (m : Move) → Every (λ x. Goes x n j) ms → Some (λ x. x ≡ m) ms → Goes m n j
goes_of n j [] m e s = absurd s
goes_of n j (x ∷ ms) m e (inl p) = subst (λ y. Goes y n j) p e.0
goes_of n j (x ∷ ms) m e (inr s) = goes_of n j ms m e.1 s

made : (d n j : ℕ) (rules : List Rule) (D : Decisions) (v : ℕ) (m : Move) → ProperRules d n j rules → Makes rules D v m → Goes m n j
made d n j [] D v m p k = absurd k
made d n j (r ∷ rules) D v m p (inl h) = goes_of n j r.moves m p.0.1 h.1
made d n j (r ∷ rules) D v m p (inr k) = made d n j rules D v m p.1 k

-- a move leads to a later node, or to a higher state of the same node
leads_up : (m : Move) (rows : List Row) (n j v q w : ℕ) → Goes m n j → Leads m rows v q w → (v < w) ⊎ ((v ≡ w) × (j < q))
leads_up (down p) rows n j v q w g l = inl (let e = l.1.0 in omega arith)
leads_up (on p) rows n j v q w g l = inl l.1.0
leads_up (stay p) rows n j v q w g l = inr (l.1, let e = l.0 in omega arith)
leads_up mark rows n j v q w g l = absurd l

leads_within : (m : Move) (rows : List Row) (v r w : ℕ) → v < count rows → Leads m rows v r w → w < count rows
leads_within (down q) rows v r w h l = l.1.1
leads_within (on q) rows v r w h l = l.1.1
leads_within (stay q) rows v r w h l = rw (← l.1) h
leads_within mark rows v r w h l = absurd l

module _ (P : Program) (D : Decisions) (rows : List Row) (ok : Lawful rows) (proper : Proper P) where
  -- a state that does not exist makes no move
  pub defined : (j v : ℕ) (m : Move) → Makes (get_or P.sending j []) D v m → j < length P.sending
  defined j v m k = test (dec_lt j (length P.sending))
    where
      test : Dec (j < length P.sending) → j < length P.sending
      test (yes h) = h
      test (no h) =
          let e : get_or P.sending j [] ≡ [] = get_or-eq_default P.sending [] (omega arith) in
          absurd (subst (λ rules. Makes rules D v m) e k)

  up : (j v : ℕ) (m : Move) (q w : ℕ) → Makes (get_or P.sending j []) D v m → Leads m rows v q w → (v < w) ⊎ ((v ≡ w) × (j < q))
  up j v m q w k l = leads_up m rows _ j v q w (made _ _ j _ D v m (proper.rules j (defined j v m k)) k) l

  pub within : {q w : ℕ} → Enters P.sending D rows q w → w < count rows
  within start = ok.some
  within (sent {v = v} {r = r} {w = w} m e k l) = leads_within m rows v r w (within e) l

  abbrev Before : ℕ → ℕ → ℕ → ℕ → Type 0
  Before v j u r = (u < v) ⊎ ((u ≡ v) × (r < j))

  out : (v j q w : ℕ) → Entered P.sending D rows v j q w → Enters P.sending D rows q w
  out v j q w (inl h) = rw (h.0, h.1) start
  out v j q w (inr h) = sent h.2 h.4 h.5 h.6

  -- change only which moves count
  recount : (v j v' j' q w : ℕ) → ((u r : ℕ) → Enters P.sending D rows r u → r < length P.sending → Before v j u r → Before v' j' u r)
      → Entered P.sending D rows v j q w → Entered P.sending D rows v' j' q w
  recount v j v' j' q w f (inl h) = inl h
  recount v j v' j' q w f (inr h) =
      inr (h.0, h.1, h.2, f h.1 h.0 h.4 (defined h.0 h.1 h.2 h.5) h.3, h.4, h.5, h.6)

  known_to : (v j : ℕ) → Enters P.sending D rows j v → Entered P.sending D rows v j j v
  known_to v j start = inl (refl, refl)
  known_to v j (sent {q = r} {v = u} m e k l) = inr (r, u, m, up r u m j v k l, e, k, l)

  falls : Falls P D rows
  falls = record {
    none = λ q w. (none q w, inl);
    known = λ v j. (known_to v j, out v j j v);
    more = λ v j q w. (more_to v j q w, ⊎_elim (recount v j v (suc j) q w (λ u r e d b. wider v j u r b)) (λ h. inr (j, v, h.1.0, inr (refl, omega arith), out v j j v h.0, h.1.1, h.1.2)));
    node = λ v j q w h. (
      recount v j (suc v) 0 q w (λ u r e d b. inl (⊎_elim (λ x. omega arith) (λ x. let y = x.0 in omega arith) b)),
      recount (suc v) 0 v j q w (λ u r e d b. earlier v j u r (omega arith) b (dec_lt u v)),
    );
    all = λ v q w h. (out v 0 q w, λ e. recount w q v 0 q w (λ u r e d b. inl (let x = within e in omega arith)) (known_to w q e));
  }
    where
      none : (q w : ℕ) → Entered P.sending D rows 0 0 q w → (q ≡ 0) × (w ≡ 0)
      none q w (inl h) = h
      none q w (inr h) = absurd (⊎_elim (λ x. omega arith) (λ x. let y = x.1 in omega arith) h.3)

      wider : (v j u r : ℕ) → Before v j u r → Before v (suc j) u r
      wider v j u r (inl h) = inl h
      wider v j u r (inr h) = inr (h.0, omega arith)

      earlier : (v j u r : ℕ) → r < j → Before (suc v) 0 u r → Dec (u < v) → Before v j u r
      earlier v j u r l b (yes h) = inl h
      earlier v j u r l (inl b) (no h) = inr (omega arith, l)
      earlier v j u r l (inr b) (no h) = absurd (omega arith)

      more_to : (v j q w : ℕ) → Entered P.sending D rows v (suc j) q w
          → Entered P.sending D rows v j q w ⊎ (Entered P.sending D rows v j j v × ((m : Move) × Makes (get_or P.sending j []) D v m × Leads m rows v q w))
      more_to v j q w (inl h) = inl (inl h)
      more_to v j q w (inr h) = which h.3 (dec_lt h.0 j)
        where
          which : Before v (suc j) h.1 h.0 → Dec (h.0 < j) → Entered P.sending D rows v j q w ⊎ (Entered P.sending D rows v j j v × ((m : Move) × Makes (get_or P.sending j []) D v m × Leads m rows v q w))
          which (inl b) d = inl (inr (h.0, h.1, h.2, inl b, h.4, h.5, h.6))
          which (inr b) (yes d) = inl (inr (h.0, h.1, h.2, inr (b.0, d), h.4, h.5, h.6))
          which (inr b) (no d) =
              let e : h.0 ≡ j = omega arith in
              let f = b.0 in
              inr (
                known_to v j (subst₂ (λ x y. Enters P.sending D rows x y) e f h.4),
                (h.2, subst₂ (λ x y. Makes (get_or P.sending x []) D y h.2) e f h.5, subst (λ y. Leads h.2 rows y q w) f h.6),
              )

pub falling : Falling
falling P D rows ok proper = falls P D rows ok proper
