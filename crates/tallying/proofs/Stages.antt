-- The stages from load to tally.
use Rattle.std.proofs.Common.{◌≡◌, ℕ, zero, suc, ◌+◌, ◌-◌, ◌<◌, ◌≤◌, false, T, ◌↔◌, List, ◌∷◌, set, sym, refl, ap, ◌∙◌, subst, inl, inr, ⊎_elim, arith}
use Rattle.std.proofs.lemmas.Bool.{cases_Bool, cond-true, cond-false}
use Rattle.rows.specs.Rows.{Row, count_of as count}
use Rattle.automata.specs.Program.{Marked}
use Rattle.commands.specs.declared.command.Command.{Command}
use Rattle.commands.specs.Commands.{commands_of}
use Rattle.commands.specs.Rules.{after_deciding}
use Rattle.sweep.specs.Rising.{risen, word_at}
use Rattle.sweep.specs.Falling.{sent, place_at, fallen}
use Rattle.sweep.specs.Claims.{decisions}
use Rattle.sweep.proofs.Risen.{rises_right, length_risen, is_so}
use Rattle.sweep.proofs.Marked.{marks_right}
use Rattle.tallying.specs.Nodes.{is_marked, marked_nodes, Lists}
use Rattle.tallying.specs.Stages.{StagesStand}

-- two rises in a row, and two falls
pub risen_join : (rows : List Row) (cs : List Command) (v a b : ℕ) (ws : List ℕ) → risen rows cs v a (risen rows cs (v + a) b ws) ≡ risen rows cs v (a + b) ws
risen_join rows cs v zero b ws =
    let x : v + 0 ≡ v = omega arith in
    let y : b ≡ 0 + b = omega arith in
    ap (λ (u : ℕ). risen rows cs u b ws) x ∙ ap (λ (k : ℕ). risen rows cs v k ws) y
risen_join rows cs v (suc a) b ws =
    let x : v + suc a ≡ suc v + a = omega arith in
    let y : suc (a + b) ≡ suc a + b = omega arith in
    ap (λ (l : List ℕ). set l v (word_at rows cs l v)) (ap (λ (u : ℕ). risen rows cs (suc v) a (risen rows cs u b ws)) x ∙ risen_join rows cs (suc v) a b ws)
    ∙ ap (λ (k : ℕ). risen rows cs v k ws) y

pub fallen_join : (rows : List Row) (cs : List Command) (v a b : ℕ) (ws : List ℕ) → fallen rows cs (v + a) b (fallen rows cs v a ws) ≡ fallen rows cs v (a + b) ws
fallen_join rows cs v zero b ws =
    let x : v + 0 ≡ v = omega arith in
    let y : b ≡ 0 + b = omega arith in
    ap (λ (u : ℕ). fallen rows cs u b ws) x ∙ ap (λ (k : ℕ). fallen rows cs v k ws) y
fallen_join rows cs v (suc a) b ws =
    let x : v + suc a ≡ suc v + a = omega arith in
    let y : suc (a + b) ≡ suc a + b = omega arith in
    let next = sent (place_at rows v) cs 0 false ws in
    ap (λ (u : ℕ). fallen rows cs u b (fallen rows cs (suc v) a next)) x ∙ fallen_join rows cs (suc v) a b next ∙ ap (λ (k : ℕ). fallen rows cs v k ws) y

-- a test that tells of each node whether it is so lists those that are
listed : (Q : ℕ → Type 0) (rules : List Command) (ws : List ℕ) (v k : ℕ) → ((u : ℕ) → v ≤ u → u < v + k → T (is_marked rules ws u) ↔ Q u) → Lists Q v k (marked_nodes rules ws v k)
listed Q rules ws v zero tells = refl
listed Q rules ws v (suc k) tells =
    let rest = marked_nodes rules ws (v + 1) k in
    let here = tells v (omega arith) (omega arith) in
    let more = listed Q rules ws (v + 1) k (λ u a b. tells u (omega arith) (omega arith)) in
    ⊎_elim
    (λ e. inl (here.0 (is_so (is_marked rules ws v) e), (rest, cond-true (is_marked rules ws v) (v ∷ rest) rest e, more)))
    (λ e. inr (λ q. subst T e (here.1 q), subst (Lists Q (v + 1) k) (sym (cond-false (is_marked rules ws v) (v ∷ rest) rest e)) more))
    (cases_Bool (is_marked rules ws v))

pub stages : StagesStand
stages bytes P rows load = record {
  begin = λ ws room. let z : count rows - count rows ≡ 0 = omega arith in record { old = ws; room = room; within = omega arith; is = sym (ap (λ (k : ℕ). risen rows cs (count rows) k ws) z) };
  rise = λ left k ws h s. record { old = s.old; room = s.room; within = let b = s.within in omega arith; is = higher left k ws h s.within s.old s.is };
  turn = λ ws s. let up = risen rows cs 0 (count rows) s.old in let z : count rows - 0 ≡ count rows = omega arith in record {
    up = up;
    rose = rises_right bytes P rows s.old load.decodes load.proper load.lawful s.room;
    room = let r = s.room in omega (arith, length_risen rows cs 0 (count rows) s.old);
    within = omega arith;
    is = s.is ∙ ap (λ (k : ℕ). risen rows cs 0 k s.old) z;
  };
  fall = λ next k ws h s. record {
    up = s.up;
    rose = s.rose;
    room = s.room;
    within = h;
    is = let z : next ≡ 0 + next = omega arith in
        ap (fallen rows rules next k) s.is ∙ ap (λ (v : ℕ). fallen rows rules v k (fallen rows rules 0 next s.up)) z ∙ fallen_join rows rules 0 next k s.up;
  };
  settle = λ ws s. (
    decisions s.up,
    s.rose.right,
    λ lo k h.
        listed (Marked P (decisions s.up) rows) rules ws lo k (λ u a b.
        subst (λ (l : List ℕ). T (is_marked rules l u) ↔ Marked P (decisions s.up) rows u) (sym s.is)
        (marks_right bytes P rows s.up load.decodes load.proper load.lawful s.room s.rose u (omega arith))),
  );
}
  where
    cs : List Command
    cs = commands_of bytes

    rules : List Command
    rules = after_deciding cs

    higher : (left k : ℕ) (ws : List ℕ) → k ≤ left → left ≤ count rows → (old : List ℕ) → ws ≡ risen rows (commands_of bytes) left (count rows - left) old
        → risen rows (commands_of bytes) (left - k) k ws ≡ risen rows (commands_of bytes) (left - k) (count rows - (left - k)) old
    higher left k ws h b old e =
        let x : left ≡ (left - k) + k = omega arith in
        let y : k + (count rows - left) ≡ count rows - (left - k) = omega arith in
        ap (risen rows (commands_of bytes) (left - k) k) (e ∙ ap (λ (v : ℕ). risen rows (commands_of bytes) v (count rows - left) old) x)
        ∙ risen_join rows (commands_of bytes) (left - k) k (count rows - left) old ∙ ap (λ (n : ℕ). risen rows (commands_of bytes) (left - k) n old) y
