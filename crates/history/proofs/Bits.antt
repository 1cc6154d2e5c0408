-- What the words of the work area mean after any list of calls.
use Rattle.std.proofs.Common.{◌≡◌, ℕ, ◌-◌, ◌≤◌, List, Some, None, Option, sym, ap, ◌∙◌, subst, arith}
use mathlib.Core.Logic.Iff
use Rattle.rows.specs.Rows.{Row, count_of as count, Lawful as LawfulRows}
use Rattle.automata.specs.Program.{Program, Comes}
use Rattle.automata.proofs.Falls.{falling}
use Rattle.commands.specs.Commands.{commands_of}
use Rattle.commands.specs.Denotes.{Denotes}
use Rattle.sweep.specs.Rising.{risen}
use Rattle.sweep.specs.Falling.{fallen}
use Rattle.tallying.specs.Bits.{RisenBits, FallenBits}
use Rattle.tallying.proofs.Bits.{rise_bits, fall_bits}
use Rattle.selector.specs.declared.phase.Phase.{Phase}
use Rattle.selector.specs.declared.phase.Phase.TheVariants.{Empty, Rising, Falling, Settled}
use Rattle.selector.specs.Steps.{State}
use Rattle.history.specs.History.{Progress}
use Rattle.history.specs.Bits.{WordsMean}
use Rattle.history.proofs.Stages.{Stage, Held, rules, FallingWords, RisingSo}

pub same_some : (o : Option (List ℕ)) (a b : List ℕ) → o ≡ Some a → o ≡ Some b → a ≡ b
same_some o a b p q = cc

pub not_both : (o : Option (List ℕ)) (b : List ℕ) → o ≡ None → o ≡ Some b → ⊥
not_both o b p q = let z : ◌≡◌ {A = ℕ} 0 1 = cc in omega arith

module _ (rows : List Row) (tree : LawfulRows rows) where
  -- past the last node all moves have been made
  past : (P : Program) (b : List ℕ) → Denotes b P → (x y q w : ℕ) → count rows ≤ x → count rows ≤ y → Comes P rows x q w → Comes P rows y q w
  past P b d x y q w hx hy c = λ D r. let f = falling P D rows tree d.0 in (f.all y q w hy).1 ((f.all x q w hx).0 (c D r))

  later : (P : Program) (b : List ℕ) → Denotes b P → (x : ℕ) (ws : List ℕ) → count rows ≤ x → FallenBits P rows (count rows) ws → FallenBits P rows x ws
  later P b d x ws h k = record {
    deciding = k.deciding;
    sending = λ j v l. Iff.trans (k.sending j v l) (past P b d (count rows) x j v (omega arith) h, past P b d x (count rows) j v h (omega arith));
    others = k.others;
  }

  risen_so : (p : Progress) (c : List ℕ) (m : ℕ) (ws : List ℕ) (l : ℕ) (P : Program) → Denotes c P → RisingSo rows p c m ws l → RisenBits P rows (count rows - p.risen) ws
  risen_so p c m ws l P d h =
      let w = h.words in
      let e : l ≡ count rows - p.risen = omega (arith, h.sum) in
      subst (λ (n : ℕ). RisenBits P rows n ws) e (subst (RisenBits P rows l) (sym w.is) (rise_bits c P rows w.old l d tree w.room w.within).0)

  fallen_so : (c : List ℕ) (x : ℕ) (ws : List ℕ) (P : Program) → Denotes c P → x ≤ count rows → FallingWords c rows x ws → FallenBits P rows x ws
  fallen_so c x ws P d h w =
      let r = w.rose in
      let z : count rows - 0 ≡ count rows = omega arith in
      let up : w.up ≡ risen rows (commands_of c) 0 (count rows) r.old = r.is ∙ ap (λ (k : ℕ). risen rows (commands_of c) 0 k r.old) z in
      let is : ws ≡ fallen rows (rules c) 0 x (risen rows (commands_of c) 0 (count rows) r.old) = w.is ∙ ap (fallen rows (rules c) 0 x) up in
      subst (FallenBits P rows x) (sym is) (fall_bits c P rows r.old x d tree r.room h).0

  by_phase : (p : Progress) (c : List ℕ) (m : ℕ) (ws : List ℕ) (ph : Phase) → Stage rows p c m ws ph → WordsMean rows p ws
  by_phase p c m ws Empty h = record { rising = λ b P e d l. absurd (not_both p.program b h e); falling = λ b P e d l. absurd (not_both p.program b h e) }
  by_phase p c m ws (Rising l) h = record {
    rising = λ b P e d k. risen_so p c m ws l P (subst (λ (x : List ℕ). Denotes x P) (sym (same_some p.program c b h.on.program e)) d) h;
    falling = λ b P e d k. absurd (omega (arith, h.sum, h.more));
  }
  by_phase p c m ws (Falling x) h = record {
    rising = λ b P e d k. absurd (omega (arith, h.all));
    falling = λ b P e d k.
        let own = subst (λ (x : List ℕ). Denotes x P) (sym (same_some p.program c b h.on.program e)) d in
        subst (λ (n : ℕ). FallenBits P rows n ws) (sym h.sum) (fallen_so c x ws P own (omega (arith, h.more)) h.words);
  }
  by_phase p c m ws Settled h = record {
    rising = λ b P e d k. absurd (omega (arith, h.all));
    falling = λ b P e d k.
        let own = subst (λ (x : List ℕ). Denotes x P) (sym (same_some p.program c b h.on.program e)) d in
        later P c own p.fallen ws h.both (fallen_so c (count rows) ws P own (omega arith) h.words);
  }

  pub words_mean : (p : Progress) (s : State) (ws : List ℕ) → Held rows p s ws → WordsMean rows p ws
  words_mean p s ws h = by_phase p s.bytes s.count ws s.phase h
