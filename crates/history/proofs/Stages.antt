-- What holds of a selector and its work area after any list of calls, by the progress of its granted calls.
use Rattle.std.proofs.Common.{◌≡◌, ℕ, ◌+◌, ◌-◌, ◌<◌, ◌≤◌, Bool, true, false, cond, eqb, leb, List, length, Some, None, Option, sym, refl, ap, ◌∙◌, subst, ⊎_elim, arith}
use Rattle.std.proofs.lemmas.Bool.{eq-eqb, le-leb, eqb-true, eqb-false, cases_lt}
use Rattle.rows.specs.Rows.{Row, count_of as count}
use Rattle.commands.specs.declared.command.Command.{Command}
use Rattle.commands.specs.Commands.{commands_of}
use Rattle.commands.specs.Rules.{after_deciding}
use Rattle.commands.specs.Checked.{accepted}
use Rattle.sweep.specs.Rising.{risen}
use Rattle.sweep.specs.Falling.{fallen}
use Rattle.sweep.proofs.Risen.{length_risen}
use Rattle.tallying.specs.Stages.{Rising as RisingWords}
use Rattle.tallying.proofs.Stages.{risen_join, fallen_join}
use Rattle.selector.specs.Codes.{bad_program}
use Rattle.selector.specs.declared.phase.Phase.{Phase}
use Rattle.selector.specs.declared.phase.Phase.TheVariants.{Empty, Rising, Falling, Settled}
use Rattle.selector.specs.declared.fault.Fault.{Fault}
use Rattle.selector.specs.declared.fault.Fault.TheVariants.{NoProgram, OtherTree, SmallWork, WrongPhase}
use Rattle.selector.specs.Calls.{Call, load, rise, fall, tally, other}
use Rattle.selector.specs.Steps.{State, refusal, unready, unless_so, before, is_loaded, granted_or, moved, rewritten, phase_words, state_after, words_after}
use Rattle.history.specs.History.{Progress, granted, counted, reply_by, reply}
use Rattle.sweep.proofs.Lengths.{length_fallen}

abbrev pub rules : List ℕ → List Command
rules b = after_deciding (commands_of b)

-- a rise from l down to s, on one over all nodes from l on
pub risen_on : (rows : List Row) (cs : List Command) (l s : ℕ) (old ws : List ℕ) → s ≤ l → l ≤ count rows → ws ≡ risen rows cs l (count rows - l) old →
    risen rows cs s (l - s) ws ≡ risen rows cs s (count rows - s) old
risen_on rows cs l s old ws h k e =
    let x : l ≡ s + (l - s) = omega arith in
    let y : (l - s) + (count rows - l) ≡ count rows - s = omega arith in
    ap (risen rows cs s (l - s)) (e ∙ ap (λ (v : ℕ). risen rows cs v (count rows - l) old) x)
    ∙ risen_join rows cs s (l - s) (count rows - l) old ∙ ap (λ (n : ℕ). risen rows cs s n old) y

-- a fall from x up to y, on one over all nodes before x
pub fallen_on : (rows : List Row) (cs : List Command) (x y : ℕ) (up ws : List ℕ) → x ≤ y → ws ≡ fallen rows cs 0 x up → fallen rows cs x (y - x) ws ≡ fallen rows cs 0 y up
fallen_on rows cs x y up ws h e =
    let z : x ≡ 0 + x = omega arith in
    let w : x + (y - x) ≡ y = omega arith in
    ap (fallen rows cs x (y - x)) e ∙ ap (λ (v : ℕ). fallen rows cs v (y - x) (fallen rows cs 0 x up)) z
    ∙ fallen_join rows cs 0 x (y - x) up ∙ ap (λ (n : ℕ). fallen rows cs 0 n up) w

-- all nodes have been risen over, and those before x fallen over
pub record FallingWords (b : List ℕ) (rows : List Row) (x : ℕ) (ws : List ℕ) : Type 0 where
  pub up : List ℕ
  pub rose : RisingWords b rows 0 up
  pub is : ws ≡ fallen rows (rules b) 0 x up

-- a program is loaded
pub record LoadedSo (rows : List Row) (p : Progress) (b : List ℕ) (m : ℕ) : Type 0 where
  pub program : p.program ≡ Some b
  pub accepts : accepted b ≡ true
  pub whole : m ≡ count rows

pub record RisingSo (rows : List Row) (p : Progress) (b : List ℕ) (m : ℕ) (ws : List ℕ) (l : ℕ) : Type 0 where
  pub on : LoadedSo rows p b m
  pub more : 0 < l
  pub sum : p.risen + l ≡ count rows
  pub none : p.fallen ≡ 0
  pub words : RisingWords b rows l ws

pub record FallingSo (rows : List Row) (p : Progress) (b : List ℕ) (m : ℕ) (ws : List ℕ) (x : ℕ) : Type 0 where
  pub on : LoadedSo rows p b m
  pub more : x < count rows
  pub all : count rows ≤ p.risen
  pub sum : p.fallen ≡ x
  pub words : FallingWords b rows x ws

pub record SettledSo (rows : List Row) (p : Progress) (b : List ℕ) (m : ℕ) (ws : List ℕ) : Type 0 where
  pub on : LoadedSo rows p b m
  pub all : count rows ≤ p.risen
  pub both : count rows ≤ p.fallen
  pub words : FallingWords b rows (count rows) ws

abbrev pub Stage : List Row → Progress → List ℕ → ℕ → List ℕ → Phase → Type 0
Stage rows p c m ws Empty = p.program ≡ None
Stage rows p c m ws (Rising l) = RisingSo rows p c m ws l
Stage rows p c m ws (Falling x) = FallingSo rows p c m ws x
Stage rows p c m ws Settled = SettledSo rows p c m ws

abbrev pub Held : List Row → Progress → State → List ℕ → Type 0
Held rows p s ws = Stage rows p s.bytes s.count ws s.phase

abbrev pub mk : List ℕ → ℕ → Phase → State
mk c m ph = record { bytes = c; count = m; phase = ph }

-- of a loaded selector, with its own tree and words enough, only the phase can be wrong
pub unready_is : (c : List ℕ) (m : ℕ) (ph : Phase) (n w : ℕ) (due : Bool) → m ≡ n → n ≤ w → is_loaded ph ≡ true → unready (mk c m ph) n w due ≡ unless_so due WrongPhase
unready_is c m ph n w due e h i =
    ap (λ (b : Bool). before (unless_so b NoProgram) (before (unless_so (eqb n m) OtherTree) (before (unless_so (leb m w) SmallWork) (unless_so due WrongPhase)))) i
    ∙ ap (λ (b : Bool). before (unless_so b OtherTree) (before (unless_so (leb m w) SmallWork) (unless_so due WrongPhase))) (eq-eqb n m (sym e))
    ∙ ap (λ (b : Bool). before (unless_so b SmallWork) (unless_so due WrongPhase)) (le-leb m w (omega arith))

module _ {V : Type 0} (empty : V) (mark : ℕ → V) (join : V → V → V) (rows : List Row) where
  abbrev Next : Progress → State → List ℕ → Call → Option Fault → Type 0
  Next p s ws c o =
      Held rows (counted p c (granted (reply_by empty mark join rows o s ws c))) (granted_or o s (moved s (count rows) c)) (granted_or o ws (rewritten rows s c ws))

  loads : (p : Progress) (s : State) (ws b : List ℕ) (t : Bool) → accepted b ≡ t → 0 < count rows → count rows ≤ length ws → Held rows p s ws → Next p s ws (load b) (unless_so t bad_program)
  loads p s ws b false e some fit h = h
  loads p s ws b true e some fit h =
      let z : 0 ≡ count rows - count rows = omega arith in
      record {
        on = record { program = refl; accepts = e; whole = refl };
        more = some;
        sum = omega arith;
        none = refl;
        words = record { old = ws; room = fit; within = omega arith; is = ap (λ (k : ℕ). risen rows (commands_of b) (count rows) k ws) z };
      }

  rises : (p : Progress) (c : List ℕ) (m l k : ℕ) (ws : List ℕ) (t : Bool) → eqb (l - k) 0 ≡ t → 0 < count rows → RisingSo rows p c m ws l →
      Stage rows (record { program = p.program; risen = p.risen + k; fallen = p.fallen }) c m (risen rows (commands_of c) (l - k) (l - (l - k)) ws) (cond t (Falling 0) (Rising (l - k)))
  rises p c m l k ws true e some h =
      let z : l - k ≡ 0 = eqb-true (l - k) 0 e in
      let cs = commands_of c in
      let w = h.words in
      let up = risen rows cs (l - k) (l - (l - k)) ws in
      record {
        on = record { program = h.on.program; accepts = h.on.accepts; whole = h.on.whole };
        more = some;
        all = omega (arith, z, h.sum);
        sum = h.none;
        words = record {
          up = up;
          rose = record {
            old = w.old;
            room = w.room;
            within = omega arith;
            is = risen_on rows cs l (l - k) w.old ws (omega arith) w.within w.is ∙ ap (λ (n : ℕ). risen rows cs n (count rows - n) w.old) z;
          };
          is = refl;
        };
      }
  rises p c m l k ws false e some h =
      let pos : 0 < l - k = ⊎_elim (λ y. y) (λ y. absurd (eqb-false (l - k) 0 e (omega arith))) (cases_lt 0 (l - k)) in
      let w = h.words in
      record {
        on = record { program = h.on.program; accepts = h.on.accepts; whole = h.on.whole };
        more = pos;
        sum = omega (arith, h.sum);
        none = h.none;
        words = record {
          old = w.old;
          room = w.room;
          within = omega (arith, w.within);
          is = risen_on rows (commands_of c) l (l - k) w.old ws (omega arith) w.within w.is;
        };
      }

  falls : (p : Progress) (c : List ℕ) (m x k : ℕ) (ws : List ℕ) (t : Bool) → eqb ((m - x) - k) 0 ≡ t → FallingSo rows p c m ws x →
      Stage rows (record { program = p.program; risen = p.risen; fallen = p.fallen + k }) c m (fallen rows (rules c) x ((m - ((m - x) - k)) - x) ws) (cond t Settled (Falling (x + k)))
  falls p c m x k ws true e h =
      let z = eqb-true ((m - x) - k) 0 e in
      let mc = h.on.whole in
      let w = h.words in
      let y : m - ((m - x) - k) ≡ count rows = omega arith in
      record {
        on = record { program = h.on.program; accepts = h.on.accepts; whole = h.on.whole };
        all = h.all;
        both = omega (arith, h.sum, h.more);
        words = record {
          up = w.up;
          rose = w.rose;
          is = fallen_on rows (rules c) x (m - ((m - x) - k)) w.up ws (omega (arith, h.more)) w.is ∙ ap (λ (n : ℕ). fallen rows (rules c) 0 n w.up) y;
        };
      }
  falls p c m x k ws false e h =
      let mc = h.on.whole in
      let w = h.words in
      let pos : 0 < (m - x) - k = ⊎_elim (λ y. y) (λ y. absurd (eqb-false ((m - x) - k) 0 e (omega arith))) (cases_lt 0 ((m - x) - k)) in
      let y : m - ((m - x) - k) ≡ x + k = omega arith in
      record {
        on = record { program = h.on.program; accepts = h.on.accepts; whole = h.on.whole };
        more = omega arith;
        all = h.all;
        sum = ap (λ (n : ℕ). n + k) h.sum;
        words = record {
          up = w.up;
          rose = w.rose;
          is = fallen_on rows (rules c) x (m - ((m - x) - k)) w.up ws (omega (arith, h.more)) w.is ∙ ap (λ (n : ℕ). fallen rows (rules c) 0 n w.up) y;
        };
      }

  step_rise : (k : ℕ) (c : List ℕ) (m : ℕ) (ph : Phase) (p : Progress) (ws : List ℕ) → 0 < count rows → count rows ≤ length ws → Stage rows p c m ws ph →
      Next p (mk c m ph) ws (rise k) (refusal (mk c m ph) (count rows) (length ws) (rise k))
  step_rise k c m Empty p ws some fit h = h
  step_rise k c m (Rising l) p ws some fit h =
      subst (Next p (mk c m (Rising l)) ws (rise k)) (sym (unready_is c m (Rising l) (count rows) (length ws) true h.on.whole fit refl)) (rises p c m l k ws (eqb (l - k) 0) refl some h)
  step_rise k c m (Falling x) p ws some fit h =
      subst (Next p (mk c m (Falling x)) ws (rise k)) (sym (unready_is c m (Falling x) (count rows) (length ws) false h.on.whole fit refl)) h
  step_rise k c m Settled p ws some fit h =
      subst (Next p (mk c m Settled) ws (rise k)) (sym (unready_is c m Settled (count rows) (length ws) false h.on.whole fit refl)) h

  step_fall : (k : ℕ) (c : List ℕ) (m : ℕ) (ph : Phase) (p : Progress) (ws : List ℕ) → count rows ≤ length ws → Stage rows p c m ws ph →
      Next p (mk c m ph) ws (fall k) (refusal (mk c m ph) (count rows) (length ws) (fall k))
  step_fall k c m Empty p ws fit h = h
  step_fall k c m (Rising l) p ws fit h =
      subst (Next p (mk c m (Rising l)) ws (fall k)) (sym (unready_is c m (Rising l) (count rows) (length ws) false h.on.whole fit refl)) h
  step_fall k c m (Falling x) p ws fit h =
      subst (Next p (mk c m (Falling x)) ws (fall k)) (sym (unready_is c m (Falling x) (count rows) (length ws) true h.on.whole fit refl)) (falls p c m x k ws (eqb ((m - x) - k) 0) refl h)
  step_fall k c m Settled p ws fit h =
      subst (Next p (mk c m Settled) ws (fall k)) (sym (unready_is c m Settled (count rows) (length ws) false h.on.whole fit refl)) h

  tallies : (p : Progress) (s : State) (ws : List ℕ) (lo hi : ℕ) (o : Option Fault) → Held rows p s ws → Next p s ws (tally lo hi) o
  tallies p s ws lo hi (Some f) h = h
  tallies p s ws lo hi None h = h

  others : (p : Progress) (s : State) (ws : List ℕ) (lo hi : ℕ) (o : Option Fault) → Held rows p s ws → Next p s ws (other lo hi) o
  others p s ws lo hi (Some f) h = h
  others p s ws lo hi None h = h

  pub step : (p : Progress) (s : State) (ws : List ℕ) (c : Call) → 0 < count rows → count rows ≤ length ws → Held rows p s ws →
      Held rows (counted p c (granted (reply empty mark join rows s ws c))) (state_after rows s ws c) (words_after rows s ws c)
  step p s ws (load b) some fit h = loads p s ws b (accepted b) refl some fit h
  step p s ws (rise k) some fit h = step_rise k s.bytes s.count s.phase p ws some fit h
  step p s ws (fall k) some fit h = step_fall k s.bytes s.count s.phase p ws fit h
  step p s ws (tally lo hi) some fit h = tallies p s ws lo hi (refusal s (count rows) (length ws) (tally lo hi)) h
  step p s ws (other lo hi) some fit h = others p s ws lo hi (refusal s (count rows) (length ws) (other lo hi)) h

-- no call changes the length of the work area
length_phase : (rows : List Row) (c : List ℕ) (n : ℕ) (ph : Phase) (k : ℕ) (ws : List ℕ) → length (phase_words rows c n ph k ws) ≡ length ws
length_phase rows c n Empty k ws = refl
length_phase rows c n (Rising l) k ws = length_risen rows (commands_of c) (l - k) (l - (l - k)) ws
length_phase rows c n (Falling x) k ws = length_fallen rows (rules c) x ((n - ((n - x) - k)) - x) ws
length_phase rows c n Settled k ws = refl

length_rewritten : (rows : List Row) (s : State) (c : Call) (ws : List ℕ) → length (rewritten rows s c ws) ≡ length ws
length_rewritten rows s (load b) ws = refl
length_rewritten rows s (rise k) ws = length_phase rows s.bytes s.count s.phase k ws
length_rewritten rows s (fall k) ws = length_phase rows s.bytes s.count s.phase k ws
length_rewritten rows s (tally lo hi) ws = refl
length_rewritten rows s (other lo hi) ws = refl

pub length_granted : (o : Option Fault) (ws vs : List ℕ) → length vs ≡ length ws → length (granted_or o ws vs) ≡ length ws
length_granted (Some f) ws vs e = refl
length_granted None ws vs e = e

pub length_after : (rows : List Row) (s : State) (c : Call) (ws : List ℕ) → length (words_after rows s ws c) ≡ length ws
length_after rows s c ws = length_granted (refusal s (count rows) (length ws) c) ws (rewritten rows s c ws) (length_rewritten rows s c ws)
