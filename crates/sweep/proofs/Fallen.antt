-- After the falls the states have entered as they should.
use Rattle.std.proofs.Common.{◌≡◌, ℕ, zero, suc, ◌+◌, ◌<◌, ◌≤◌, Bool, true, false, T, ◌⊎◌, ◌↔◌, List, [], ◌∷◌, length, get_or, sym, refl, ap, ◌∙◌, subst, inl, inr, ⊎_elim, arith}
use mathlib.Core.Logic.Iff
use Rattle.rows.specs.Rows.{Row, count_of as count, Lawful}
use Rattle.automata.specs.Program.{Formula, Rule, Program, Proper, ProperRules, Every, Goes, Decisions, Makes, Leads, Entered}
use Rattle.automata.specs.Program as program
use Rattle.automata.specs.Claims.{Falls}
use Rattle.automata.proofs.Falls.{falling}
use Rattle.words.specs.Bit.{bit}
use Rattle.commands.specs.declared.command.Command.{Command}
use Rattle.commands.specs.Commands.{commands_of}
use Rattle.commands.specs.Decoded.{move}
use Rattle.commands.proofs.Grammar.{Sends, Below, Decoded, decoded_reads, rest_after}
use Rattle.commands.proofs.Grammar as reads
use Rattle.sweep.specs.Falling.{made, acting, sent, place_at, fallen}
use Rattle.commands.specs.Rules.{after_deciding}
use Rattle.sweep.specs.Claims.{decisions, FallsRight}
use Rattle.sweep.proofs.Risen.{T_and, T_same}
use Rattle.sweep.proofs.Adds.{Adds, adds_none, adds_then, adds_same, adds_kept, move_adds, leads_away}

module _ (rows : List Row) (P : Program) (D : Decisions) (ok : Lawful rows) (proper : Proper P) where
  -- the deciding bits are D's
  abbrev Low : List ℕ → Type 0
  Low ws = (i w : ℕ) → i < 40 → w < count rows → bit (get_or ws w 0) i ≡ D i w

  low_after : (ws xs : List ℕ) (R : ℕ → ℕ → Type 0) → Adds (count rows) ws xs R → Low ws → Low xs
  low_after ws xs R a l i w h k = a.low i w h ∙ l i w h k

  -- the other bits are the states that have entered
  abbrev Holds : List ℕ → ℕ → ℕ → Type 0
  Holds ws v j = (q w : ℕ) → w < count rows → T (bit (get_or ws w 0) (40 + q)) ↔ Entered P.sending D rows v j q w

  abbrev total : ℕ
  total = length P.sending

  laws : Falls P D rows
  laws = falling P D rows ok proper

  module _ (v : ℕ) (h : v < count rows) where
    -- where the moves, and where the rules lead
    abbrev Moved : List program.Move → ℕ → ℕ → Type 0
    Moved ms q w = program.Some (λ m. Leads m rows v q w) ms

    abbrev Ruled : List Rule → ℕ → ℕ → Type 0
    Ruled rs q w = program.Some (λ r. T (D r.when v) × Moved r.moves q w) rs

    moved_by : (ms : List program.Move) (q w : ℕ) → Moved ms q w ↔ ((m : program.Move) × program.Some (λ x. x ≡ m) ms × Leads m rows v q w)
    moved_by [] q w = (λ t. absurd t, λ r. absurd r.1)
    moved_by (m ∷ ms) q w =
        let ih = moved_by ms q w in (
          ⊎_elim (λ l. (m, inl refl, l)) (λ t. let r = ih.0 t in (r.0, inr r.1, r.2)),
          λ r. ⊎_elim (λ e. inl (subst (λ x. Leads x rows v q w) (sym e) r.2)) (λ s. inr (ih.1 (r.0, s, r.2))) r.1,
        )

    ruled_by : (rs : List Rule) (q w : ℕ) → Ruled rs q w ↔ ((m : program.Move) × Makes rs D v m × Leads m rows v q w)
    ruled_by [] q w = (λ t. absurd t, λ r. absurd r.1)
    ruled_by (r ∷ rs) q w =
        let ih = ruled_by rs q w in
        let here = moved_by r.moves q w in (
          ⊎_elim (λ x. let y = here.0 x.1 in (y.0, inl (x.0, y.1), y.2)) (λ t. let y = ih.0 t in (y.0, inr y.1, y.2)),
          λ y. ⊎_elim (λ s. inl (s.0, here.1 (y.0, s.1, y.2))) (λ s. inr (ih.1 (y.0, s, y.2))) y.1,
        )

    -- one state's commands have been carried out, and what they add
    abbrev Step : List Command → ℕ → Bool → List ℕ → List (List Rule) → (ℕ → ℕ → Type 0) → Type 0
    Step cs j b ws ss R =
        (rest : List Command) × (xs : List ℕ) × (sent (place_at rows v) cs j b ws ≡ sent (place_at rows v) rest (j + 1) false xs) × Sends rest ss × Adds (count rows) ws xs R

    below_step : {cs : List Command} {ms : List program.Move} {rs : List Rule} {ss : List (List Rule)} → Below cs ms rs ss
        → (j : ℕ) → Every (λ m. Goes m total j) ms → ProperRules (length P.deciding) total j rs
        → (b e : Bool) (ws : List ℕ) → bit (get_or ws v 0) (40 + j) ≡ e → Low ws → count rows ≤ length ws
        → Step cs j b ws ss (λ q w. (T b × Moved ms q w) ⊎ (T e × Ruled rs q w))
    below_step (reads.again {p = p} {ms = ms} {rs = rs} d) j pm pr b e ws is low room =
        let b' = acting (get_or ws v 0) j p in
        let s = below_step d j pr.0.1 pr.1 b' e ws is low room in
        let few = proper.deciding_few in
        let both : T b' ↔ (T e × T (D p v)) =
        Iff.trans (T_and (bit (get_or ws v 0) (40 + j)) (bit (get_or ws v 0) p))
        (let x = T_same is in let y = T_same (low p v (let k = pr.0.0 in omega arith) h) in
        (λ t. (x.0 t.0, y.0 t.1), λ t. (x.1 t.0, y.1 t.1))) in (
          s.0,
          s.1,
          s.2,
          s.3,
          adds_same (count rows) ws s.1 (λ q w. (T b' × Moved ms q w) ⊎ (T e × Ruled rs q w)) (λ q w. (T b × Moved [] q w) ⊎ (T e × Ruled (record { when = p; moves = ms } ∷ rs) q w)) s.4 (λ q w. (
            ⊎_elim (λ t. let z = both.0 t.0 in inr (z.0, inl (z.1, t.1))) (λ t. inr (t.0, inr t.1)),
            ⊎_elim (λ t. absurd t.1) (λ t. ⊎_elim (λ z. inl (both.1 (t.0, z.0), z.1)) (λ z. inr (t.0, z)) t.1),
          )),
        )
    below_step (reads.made {m = m} {ms = ms} {rs = rs} d) j pm pr true e ws is low room =
        let few = proper.sending_few in
        let xs = made m (place_at rows v) ws in
        let a = move_adds rows v h m total j ws few room pm.0 in
        let kept = adds_kept (count rows) ws xs (λ q w. Leads (move m) rows v q w) a j v h (leads_away rows v h (move m) total j pm.0) in
        let s = below_step d j pm.1 pr true e xs (kept ∙ is) (low_after ws xs _ a low) (omega (arith, a.long)) in (
          s.0,
          s.1,
          s.2,
          s.3,
          adds_then (count rows) ws xs s.1 (λ q w. Leads (move m) rows v q w) (λ q w. (T true × Moved ms q w) ⊎ (T e × Ruled rs q w)) (λ q w. (T true × Moved (move m ∷ ms) q w) ⊎ (T e × Ruled rs q w)) a s.4 (λ q w. (
            ⊎_elim (λ t. ⊎_elim inl (λ z. inr (inl (tt, z))) t.1) (λ t. inr (inr t)),
            ⊎_elim (λ l. inl (tt, inl l)) (⊎_elim (λ t. inl (tt, inr t.1)) inr),
          )),
        )
    below_step (reads.made {m = m} {ms = ms} {rs = rs} d) j pm pr false e ws is low room =
        let s = below_step d j pm.1 pr false e ws is low room in (
          s.0,
          s.1,
          s.2,
          s.3,
          adds_same (count rows) ws s.1 (λ q w. (T false × Moved ms q w) ⊎ (T e × Ruled rs q w)) (λ q w. (T false × Moved (move m ∷ ms) q w) ⊎ (T e × Ruled rs q w)) s.4 (λ q w. (
            ⊎_elim (λ t. absurd t.0) inr,
            ⊎_elim (λ t. absurd t.0) inr,
          )),
        )
    below_step (reads.done {cs = cs} s) j pm pr b e ws is low room =
        (cs, ws, refl, s, adds_none (count rows) ws _ (λ q w r. ⊎_elim (λ t. t.1) (λ t. t.1) r))

    -- the state j: what its rules lead to, where it has entered the node
    state_step : {cs : List Command} {rs : List Rule} {ss : List (List Rule)} → Sends cs (rs ∷ ss) → (j : ℕ) → ProperRules (length P.deciding) total j rs
        → (b : Bool) (ws : List ℕ) → Low ws → count rows ≤ length ws → Step cs j b ws ss (λ q w. T (bit (get_or ws v 0) (40 + j)) × Ruled rs q w)
    state_step (reads.opened {p = p} {cs = cs} {ms = ms} {rs = rs} d) j pr b ws low room =
        let e = bit (get_or ws v 0) (40 + j) in
        let s = below_step (reads.again {p = p} d) j tt pr false e ws refl low room in (
          s.0,
          s.1,
          s.2,
          s.3,
          adds_same (count rows) ws s.1 (λ q w. (T false × Moved [] q w) ⊎ (T e × Ruled (record { when = p; moves = ms } ∷ rs) q w)) (λ q w. T e × Ruled (record { when = p; moves = ms } ∷ rs) q w) s.4
              (λ q w. (⊎_elim (λ t. absurd t.0) (λ t. t), inr)),
        )
    state_step (reads.idle {cs = cs} s) j pr b ws low room = (cs, ws, refl, s, adds_none (count rows) ws _ (λ q w r. r.1))

    no_state : {cs : List Command} → Sends cs [] → (j : ℕ) (b : Bool) (ws : List ℕ) → sent (place_at rows v) cs j b ws ≡ ws
    no_state reads.ended j b ws = refl

    more : (ws xs : List ℕ) (j : ℕ) (rs : List Rule) → rs ≡ get_or P.sending j [] → Holds ws v j → Adds (count rows) ws xs (λ q w. T (bit (get_or ws v 0) (40 + j)) × Ruled rs q w) → Holds xs v (suc j)
    more ws xs j rs is holds a q w k =
        let law = laws.more v j q w in
        let by : Ruled rs q w ↔ ((m : program.Move) × Makes (get_or P.sending j []) D v m × Leads m rows v q w) =
        subst (λ r. Ruled rs q w ↔ ((m : program.Move) × Makes r D v m × Leads m rows v q w)) is (ruled_by rs q w) in
        let now = holds q w k in
        let enters = holds j v h in
        Iff.trans (a.high q w k) (
          ⊎_elim (λ t. law.1 (inl (now.0 t))) (λ t. law.1 (inr (enters.0 t.0, by.0 t.1))),
          λ t. ⊎_elim (λ x. inl (now.1 x)) (λ x. inr (enters.1 x.0, by.1 x.1)) (law.0 t),
        )

    -- Words that are right for the node, with the states below j sent.
    pub record Sound (ws : List ℕ) (j : ℕ) : Type 0 where
      pub low : Low ws
      pub holds : Holds ws v j
      pub room : count rows ≤ length ws

    states_fall : (ss : List (List Rule)) (cs : List Command) → Sends cs ss → (j : ℕ) → ((i : ℕ) → i < length ss → get_or ss i [] ≡ get_or P.sending (j + i) []) → j + length ss ≡ total
        → (b : Bool) (ws : List ℕ) → Sound ws j → Sound (sent (place_at rows v) cs j b ws) total
    states_fall [] cs s j same all b ws w =
        let e : j ≡ total = omega arith in
        subst (λ (k : ℕ). Sound (sent (place_at rows v) cs j b ws) k) e (subst (λ (x : List ℕ). Sound x j) (sym (no_state s j b ws)) w)
    states_fall (rs ∷ ss) cs s j same all b ws w =
        let z : j + 0 ≡ j = omega arith in
        let is : rs ≡ get_or P.sending j [] = same 0 (omega arith) ∙ ap (λ (k : ℕ). get_or P.sending k []) z in
        let pr = subst (λ r. ProperRules (length P.deciding) total j r) (sym is) (proper.rules j (omega arith)) in
        let t = state_step s j pr b ws w.low w.room in
        let up : j + 1 ≡ suc j = omega arith in
        let next : Sound t.1 (j + 1) =
        subst (λ (k : ℕ). Sound t.1 k) (sym up)
        (record { low = low_after ws t.1 _ t.4 w.low; holds = more ws t.1 j rs is w.holds t.4; room = let k = w.room in omega (arith, t.4.long) }) in
        subst (λ (x : List ℕ). Sound x total) (sym t.2)
        (states_fall ss t.0 t.3 (j + 1) (λ i l. let k : j + suc i ≡ (j + 1) + i = omega arith in same (suc i) (omega arith) ∙ ap (λ (x : ℕ). get_or P.sending x []) k) (omega arith) false t.1 next)

    node_fall : (cs : List Command) → Sends cs P.sending → (ws : List ℕ) → Sound ws 0 → Sound (sent (place_at rows v) cs 0 false ws) total
    node_fall cs s ws w = states_fall P.sending cs s 0 (λ i l. let k : i ≡ 0 + i = omega arith in ap (λ (x : ℕ). get_or P.sending x []) k) (omega arith) false ws w

  -- the words after the falls before v
  pub record DoneTo (v : ℕ) (ws : List ℕ) : Type 0 where
    pub low : Low ws
    pub holds : Holds ws v 0
    pub room : count rows ≤ length ws

  pub nodes_fall : (cs : List Command) → Sends cs P.sending → (k v : ℕ) → v + k ≤ count rows → (ws : List ℕ) → DoneTo v ws → DoneTo (v + k) (fallen rows cs v k ws)
  nodes_fall cs s zero v fit ws w = let e : v ≡ v + 0 = omega arith in subst (λ (x : ℕ). DoneTo x ws) e w
  nodes_fall cs s (suc k) v fit ws w =
      let h : v < count rows = omega arith in
      let xs = sent (place_at rows v) cs 0 false ws in
      let a = node_fall v h cs s ws (record { low = w.low; holds = w.holds; room = w.room }) in
      let next : DoneTo (suc v) xs = record { low = a.low; holds = λ q u l. Iff.trans (a.holds q u l) (laws.node v total q u (omega arith)); room = a.room } in
      let e : suc v + k ≡ v + suc k = omega arith in
      subst (λ (x : ℕ). DoneTo x (fallen rows cs (suc v) k xs)) e (nodes_fall cs s k (suc v) (omega arith) xs next)

  pub begun : (ws : List ℕ) → Low ws → count rows ≤ length ws → ((i v : ℕ) → 40 ≤ i → v < count rows → T (bit (get_or ws v 0) i) ↔ ((i ≡ 40) × (v ≡ 0))) → DoneTo 0 ws
  begun ws low room clear = record {
    low = low;
    holds = λ q w h. let c = clear (40 + q) w (omega arith) h in let n = laws.none q w in (
      λ t. let r = c.0 t in n.1 (let z = r.0 in omega arith, r.1),
      λ e. let r = n.0 e in c.1 (let z = r.0 in omega arith, r.1),
    );
    room = room;
  }

pub falls_right : FallsRight
falls_right bytes P rows ws e proper ok room rose v fit =
    let d = decoded_reads bytes P e in
    let D = decisions ws in
    let cs = after_deciding (commands_of bytes) in
    let s : Sends cs P.sending = subst (λ (x : List Command). Sends x P.sending) (sym (rest_after d.defined)) d.sent in
    let few = proper.deciding_few in
    let w = nodes_fall rows P D ok proper cs s v 0 (omega arith) ws (begun rows P D ok proper ws (λ i u a b. refl) room (λ i u a b. rose.clear i u (omega arith) b)) in
    let z : 0 + v ≡ v = omega arith in
    record { low = w.low; high = λ q u h. subst (λ (x : ℕ). T (bit (get_or (fallen rows cs 0 v ws) u 0) (40 + q)) ↔ Entered P.sending D rows x 0 q u) z (w.holds q u h) }
