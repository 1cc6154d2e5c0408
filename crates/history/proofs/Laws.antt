-- The law of any list of calls.
use Rattle.std.proofs.Common.{◌≡◌, ℕ, zero, suc, ◌+◌, ◌-◌, ◌≤◌, Bool, true, false, cond, ◌&&◌, leb, List, [], ◌∷◌, ◌++◌, length, replicate, Some, None, Option, sym, refl, ap, ◌∙◌, subst, subst₂, inl, inr, arith}
use lib.ListN.{length-replicate}
use Rattle.std.proofs.lemmas.Bool.{false≢true, le-leb, leb-true, and_parts, and_from}
use Rattle.rows.specs.Rows.{Row, count_of as count, Lawful as LawfulRows}
use Rattle.commands.specs.declared.command.Command.{Command}
use Rattle.commands.specs.Commands.{commands_of}
use Rattle.commands.specs.Checked.{accepted}
use Rattle.selection.specs.Selects.{Selects}
use Rattle.commands.specs.Denotes.{Denotes}
use Rattle.commands.proofs.Denotes.{denoted, loads}
use Rattle.automata.specs.Program.{Program, Marked, Marks}
use Rattle.automata.proofs.Agrees.{agreeing}
use Rattle.sweep.specs.Rising.{risen}
use Rattle.sweep.specs.Falling.{fallen, marking}
use Rattle.sweep.proofs.Risen.{length_risen}
use Rattle.tally.specs.Monoid.{marks_of, Laws}
use Rattle.tallying.specs.Nodes.{is_marked, marked_nodes, Lists}
use Rattle.tallying.specs.Stages.{Agree, Falling as FellWords}
use Rattle.tallying.proofs.Stages.{stages}
use Rattle.tallying.proofs.Same.{words_settle}
use Rattle.tallying.proofs.Marks.{marked_append, marks_append}
use Rattle.tallying.proofs.Lists.{lists_over}
use Rattle.selector.specs.Codes.{bad_program}
use Rattle.selector.specs.declared.phase.Phase.{Phase}
use Rattle.selector.specs.declared.phase.Phase.TheVariants.{Empty, Rising, Falling, Settled}
use Rattle.selector.specs.declared.fault.Fault.{Fault}
use Rattle.selector.specs.declared.fault.Fault.TheVariants.{NoSpan}
use Rattle.selector.specs.Calls.{Call, load, rise, fall, tally, other, Answer, value}
use Rattle.selector.specs.Steps.{State, refusal, unless_so, before, state_after, words_after, fresh}
use Rattle.history.specs.History.{Turn, Progress, start, granted, counted, after, progress, reply_by, reply, Ran}
use Rattle.history.specs.Law.{Due, Told, Fair, Bracketing, one, two, first, last, total, Among, Adjoin, NoLoad, Lawful}
use Rattle.history.specs.Bits.{WordsMean}
use Rattle.history.proofs.Bits.{words_mean, same_some, not_both}
use Rattle.history.proofs.Loads.{accepted_loads, loads_accepted}
use Rattle.history.proofs.Stages.{Stage, Held, mk, unready_is, step, length_after, rules, FallingWords, SettledSo}

-- the words that a program settles on, over zeros
abbrev settled : List Row → List ℕ → List ℕ
settled rows b = fallen rows (rules b) 0 (count rows) (risen rows (commands_of b) 0 (count rows) (replicate (count rows) 0))

-- any other work area settles on the same
settles : (rows : List Row) (b ws : List ℕ) → FallingWords b rows (count rows) ws → Agree rows ws (settled rows b)
settles rows b ws h =
    let cs = commands_of b in
    let n = count rows in
    let old = h.rose.old in
    let zeros = replicate n 0 in
    let long : length zeros ≡ n = length-replicate n 0 in
    let same = words_settle cs (rules b) rows in
    let z : n - 0 ≡ n = omega arith in
    let up : h.up ≡ risen rows cs 0 n old = h.rose.is ∙ ap (λ (k : ℕ). risen rows cs 0 k old) z in
    let is : ws ≡ fallen rows (rules b) 0 n (risen rows cs 0 n old) = h.is ∙ ap (fallen rows (rules b) 0 n) up in
    let room = h.rose.room in
    subst (λ (l : List ℕ). Agree rows l (settled rows b)) (sym is)
    (same.fallen_same 0 n (risen rows cs 0 n old) (risen rows cs 0 n zeros) (omega arith) (omega (arith, length_risen rows cs 0 n old)) (omega (arith, length_risen rows cs 0 n zeros, long))
    (same.risen_same old zeros room (omega (arith, long))))

marked_same : (rows : List Row) (cs : List Command) (xs ys : List ℕ) (v k : ℕ) → Agree rows xs ys → v + k ≤ count rows → marked_nodes cs xs v k ≡ marked_nodes cs ys v k
marked_same rows cs xs ys v zero e h = refl
marked_same rows cs xs ys v (suc k) e h =
    ap (λ (w : ℕ). cond (marking w cs 0 false) (v ∷ marked_nodes cs xs (v + 1) k) (marked_nodes cs xs (v + 1) k)) (e v (omega arith))
    ∙ ap (λ (l : List ℕ). cond (is_marked cs ys v) (v ∷ l) l) (marked_same rows cs xs ys (v + 1) k e (omega arith))

-- the program stays where no load is granted
program_stays : (p : Progress) (c : Call) (g : Bool) → ((b : List ℕ) → c ≡ load b → g ≡ true → ⊥) → (counted p c g).program ≡ p.program
program_stays p (load b) true h = absurd (h b refl refl)
program_stays p (load b) false h = refl
program_stays p (rise k) true h = refl
program_stays p (rise k) false h = refl
program_stays p (fall k) true h = refl
program_stays p (fall k) false h = refl
program_stays p (tally lo hi) true h = refl
program_stays p (tally lo hi) false h = refl
program_stays p (other lo hi) true h = refl
program_stays p (other lo hi) false h = refl

module _ {V : Type 0} {empty : V} {join : V → V → V} (laws : Laws empty join) (mark : ℕ → V) (rows : List Row) (tree : LawfulRows rows) where
  abbrev grant : Option Fault → State → List ℕ → ℕ → ℕ → Bool
  grant o s ws lo hi = granted (reply_by empty mark join rows o s ws (tally lo hi))

  abbrev asked : List ℕ → ℕ → Phase → List ℕ → ℕ → ℕ → Option Fault
  asked c m ph ws lo hi = refusal (mk c m ph) (count rows) (length ws) (tally lo hi)

  span_due : (p : Progress) (c : List ℕ) (m : ℕ) (ws : List ℕ) (lo hi : ℕ) (t : Bool) → (leb lo hi && leb hi m) ≡ t → SettledSo rows p c m ws → grant (unless_so t NoSpan) (mk c m Settled) ws lo hi ≡ true → Due (count rows) p lo hi
  span_due p c m ws lo hi true e h g =
      let a = leb-true lo hi (and_parts (leb lo hi) (leb hi m) e).0 in
      let b = leb-true hi m (and_parts (leb lo hi) (leb hi m) e).1 in
      record { ordered = a; inside = omega (arith, h.on.whole); program = (c, h.on.program); risen = h.all; fallen = h.both }
  span_due p c m ws lo hi false e h g = absurd (false≢true g)

  due : (p : Progress) (c : List ℕ) (m : ℕ) (ph : Phase) (ws : List ℕ) (lo hi : ℕ) → count rows ≤ length ws → Stage rows p c m ws ph →
      grant (asked c m ph ws lo hi) (mk c m ph) ws lo hi ≡ true → Due (count rows) p lo hi
  due p c m Empty ws lo hi fit h g = absurd (false≢true g)
  due p c m (Rising l) ws lo hi fit h g =
      absurd (false≢true (subst (λ (o : Option Fault). grant (before o (unless_so (leb lo hi && leb hi m) NoSpan)) (mk c m (Rising l)) ws lo hi ≡ true) (unready_is c m (Rising l) (count rows) (length ws) false h.on.whole fit refl) g))
  due p c m (Falling x) ws lo hi fit h g =
      absurd (false≢true (subst (λ (o : Option Fault). grant (before o (unless_so (leb lo hi && leb hi m) NoSpan)) (mk c m (Falling x)) ws lo hi ≡ true) (unready_is c m (Falling x) (count rows) (length ws) false h.on.whole fit refl) g))
  due p c m Settled ws lo hi fit h g =
      span_due p c m ws lo hi (leb lo hi && leb hi m) refl h
      (subst (λ (o : Option Fault). grant (before o (unless_so (leb lo hi && leb hi m) NoSpan)) (mk c m Settled) ws lo hi ≡ true) (unready_is c m Settled (count rows) (length ws) true h.on.whole fit refl) g)

  -- what a tally that is due asks is granted
  pub due_none : (p : Progress) (c : List ℕ) (m : ℕ) (ph : Phase) (ws : List ℕ) (lo hi : ℕ) → count rows ≤ length ws → Stage rows p c m ws ph → Due (count rows) p lo hi → asked c m ph ws lo hi ≡ None
  due_none p c m Empty ws lo hi fit h d = absurd (not_both p.program d.program.0 h d.program.1)
  due_none p c m (Rising l) ws lo hi fit h d = absurd (omega (arith, h.sum, h.more, d.risen))
  due_none p c m (Falling x) ws lo hi fit h d = absurd (omega (arith, h.sum, h.more, d.fallen))
  due_none p c m Settled ws lo hi fit h d =
      ap (λ (o : Option Fault). before o (unless_so (leb lo hi && leb hi m) NoSpan)) (unready_is c m Settled (count rows) (length ws) true h.on.whole fit refl)
      ∙ ap (λ (b : Bool). unless_so b NoSpan) (and_from (leb lo hi) (leb hi m) (le-leb lo hi d.ordered) (le-leb hi m (omega (arith, d.inside, h.on.whole))))

  -- the value that the program gives the span
  abbrev ideal : Option (List ℕ) → ℕ → ℕ → V
  ideal None lo hi = empty
  ideal (Some b) lo hi = marks_of empty mark join (marked_nodes (rules b) (settled rows b) lo (hi - lo))

  settled_value : (p : Progress) (c : List ℕ) (m : ℕ) (ws : List ℕ) (lo hi : ℕ) → SettledSo rows p c m ws → lo ≤ hi → hi ≤ count rows →
      marks_of empty mark join (marked_nodes (rules c) ws lo (hi - lo)) ≡ ideal p.program lo hi
  settled_value p c m ws lo hi h a b =
      ap (marks_of empty mark join) (marked_same rows (rules c) ws (settled rows c) lo (hi - lo) (settles rows c ws h.words) (omega arith))
      ∙ sym (ap (λ (o : Option (List ℕ)). ideal o lo hi) h.on.program)

  -- what settled words mark is what the program marks
  pub selected : (p : Progress) (c : List ℕ) (m : ℕ) (ws : List ℕ) (lo hi : ℕ) (P : Program) → Denotes c P → SettledSo rows p c m ws → lo ≤ hi → hi ≤ count rows →
      Lists (Marks P rows) lo (hi - lo) (marked_nodes (rules c) ws lo (hi - lo))
  selected p c m ws lo hi P d h a b =
      let w = h.words in
      let n = count rows in
      let all = stages c P rows (record { decodes = denoted c P d; proper = d.0; lawful = tree }) in
      let s : 0 + n ≡ n = omega arith in
      let fell : FellWords c P rows n ws =
      subst (FellWords c P rows n) (sym w.is) (subst (λ (x : ℕ). FellWords c P rows x (fallen rows (rules c) 0 n w.up)) s (all.fall 0 n w.up (omega arith) (all.turn w.up w.rose))) in
      let told = all.settle ws fell in
      let same = (agreeing P told.0 rows tree d.0 told.1).marks in
      lists_over (Marked P told.0 rows) (Marks P rows) lo (hi - lo) (marked_nodes (rules c) ws lo (hi - lo)) (λ v x y. same v) (told.2 lo (hi - lo) (omega arith))

  given_selected : (p : Progress) (c : List ℕ) (m : ℕ) (ph : Phase) (ws : List ℕ) (lo hi : ℕ) → count rows ≤ length ws → Stage rows p c m ws ph → Due (count rows) p lo hi →
      (b : List ℕ) (P : Program) → p.program ≡ Some b → Denotes b P → Told empty mark join (Marks P rows) lo (hi - lo) (reply empty mark join rows (mk c m ph) ws (tally lo hi))
  given_selected p c m Empty ws lo hi fit h d b P e den = absurd (not_both p.program d.program.0 h d.program.1)
  given_selected p c m (Rising l) ws lo hi fit h d b P e den = absurd (omega (arith, h.sum, h.more, d.risen))
  given_selected p c m (Falling x) ws lo hi fit h d b P e den = absurd (omega (arith, h.sum, h.more, d.fallen))
  given_selected p c m Settled ws lo hi fit h d b P e den =
      let same : b ≡ c = sym (same_some p.program c b h.on.program e) in
      let own : Denotes c P = subst (λ (l : List ℕ). Denotes l P) same den in
      record {
        nodes = marked_nodes (rules c) ws lo (hi - lo);
        lists = selected p c m ws lo hi P own h d.ordered d.inside;
        joins = ap (λ (o : Option Fault). reply_by empty mark join rows o (mk c m Settled) ws (tally lo hi)) (due_none p c m Settled ws lo hi fit h d);
      }

  given_value : (p : Progress) (c : List ℕ) (m : ℕ) (ph : Phase) (ws : List ℕ) (lo hi : ℕ) → count rows ≤ length ws → Stage rows p c m ws ph → Due (count rows) p lo hi →
      reply empty mark join rows (mk c m ph) ws (tally lo hi) ≡ value (ideal p.program lo hi)
  given_value p c m Empty ws lo hi fit h d = absurd (not_both p.program d.program.0 h d.program.1)
  given_value p c m (Rising l) ws lo hi fit h d = absurd (omega (arith, h.sum, h.more, d.risen))
  given_value p c m (Falling x) ws lo hi fit h d = absurd (omega (arith, h.sum, h.more, d.fallen))
  given_value p c m Settled ws lo hi fit h d =
      ap (λ (o : Option Fault). reply_by empty mark join rows o (mk c m Settled) ws (tally lo hi)) (due_none p c m Settled ws lo hi fit h d)
      ∙ ap value (settled_value p c m ws lo hi h d.ordered d.inside)

  load_so : (s : State) (ws b : List ℕ) (y : Bool) → granted (reply_by empty mark join rows (unless_so y bad_program) s ws (load b)) ≡ true → y ≡ true
  load_so s ws b true g = refl
  load_so s ws b false g = absurd (false≢true g)

  -- a turn that works on such a state is fair
  fair_now : (p : Progress) (s : State) (ws : List ℕ) (t : Turn V) → count rows ≤ length ws → Held rows p s ws → t.answer ≡ reply empty mark join rows s ws t.call → Fair empty mark join rows p t
  fair_now p s ws t fit h e =
      let grants : (b : List ℕ) (P : Program) → t.call ≡ load b → Denotes b P → granted t.answer ≡ true = λ b P c d.
      let as_load : t.answer ≡ reply empty mark join rows s ws (load b) = e ∙ ap (reply empty mark join rows s ws) c in
      ap granted as_load ∙ ap (λ (y : Bool). granted (reply_by empty mark join rows (unless_so y bad_program) s ws (load b))) (loads_accepted b (loads b P d)) in
      let as-tally : (lo hi : ℕ) → t.call ≡ tally lo hi → t.answer ≡ reply empty mark join rows s ws (tally lo hi) = λ lo hi q. e ∙ ap (reply empty mark join rows s ws) q in
      let is-due : (lo hi : ℕ) → t.call ≡ tally lo hi → granted t.answer ≡ true → Due (count rows) p lo hi = λ lo hi q g. due p s.bytes s.count s.phase ws lo hi fit h (sym (ap granted (as-tally lo hi q)) ∙ g) in
      let tells : (lo hi : ℕ) (b : List ℕ) (P : Program) → t.call ≡ tally lo hi → granted t.answer ≡ true → p.program ≡ Some b → Denotes b P
      → Told empty mark join (Marks P rows) lo (hi - lo) t.answer = λ lo hi b P c g pr d.
      subst (Told empty mark join (Marks P rows) lo (hi - lo)) (sym (as-tally lo hi c))
      (given_selected p s.bytes s.count s.phase ws lo hi fit h (is-due lo hi c g) b P pr d) in
      record {
        load_translation = λ names q b c r. grants b r.0 c r.1;
        load_granted = grants;
        load_only = λ b c g.
            let as_load : t.answer ≡ reply empty mark join rows s ws (load b) = e ∙ ap (reply empty mark join rows s ws) c in
            accepted_loads b (load_so s ws b (accepted b) (sym (ap granted as_load) ∙ g));
        tally_granted = λ lo hi q. (
          is-due lo hi q,
          λ d. ap granted (as-tally lo hi q) ∙ ap (λ (o : Option Fault). grant o s ws lo hi) (due_none p s.bytes s.count s.phase ws lo hi fit h d),
        );
        tally_selects = λ names q lo hi b c g pr r.
            let marked = tells lo hi b r.0 c g pr r.1 in
            record {
              nodes = marked.nodes;
              lists = lists_over (Marks r.0 rows) (Selects names q rows) lo (hi - lo) marked.nodes (λ v x y. r.2 rows tree v) marked.lists;
              joins = marked.joins;
            };
        tally_value = tells;
      }

  -- what holds after one turn more
  next_held : (p : Progress) (s : State) (ws : List ℕ) (t : Turn V) → count rows ≤ length ws → Held rows p s ws → t.answer ≡ reply empty mark join rows s ws t.call →
      Held rows (after p t) (state_after rows s ws t.call) (words_after rows s ws t.call)
  next_held p s ws t fit h e =
      subst (λ (a : Answer V). Held rows (counted p t.call (granted a)) (state_after rows s ws t.call) (words_after rows s ws t.call)) (sym e) (step empty mark join rows p s ws t.call tree.some fit h)

  still_fits : (s : State) (ws : List ℕ) (c : Call) → count rows ≤ length ws → count rows ≤ length (words_after rows s ws c)
  still_fits s ws c fit = omega (arith, length_after rows s c ws)

  fair_all : (earlier : List (Turn V)) (t : Turn V) (later : List (Turn V)) (p : Progress) (s : State) (ws : List ℕ) (s' : State) (ws' : List ℕ) →
      count rows ≤ length ws → Held rows p s ws → Ran empty mark join rows s ws (earlier ++ (t ∷ later)) s' ws' → Fair empty mark join rows (progress p earlier) t
  fair_all [] t later p s ws s' ws' fit h r = fair_now p s ws t fit h r.0
  fair_all (u ∷ us) t later p s ws s' ws' fit h r =
      fair_all us t later (after p u) (state_after rows s ws u.call) (words_after rows s ws u.call) s' ws' (still_fits s ws u.call fit) (next_held p s ws u fit h r.0) r.1

  value_same : (a : Answer V) (u v : V) → a ≡ value u → a ≡ value v → u ≡ v
  value_same a u v p q = cc

  -- each granted tally of turns without a granted load has the value that the program gives its span
  among_ideal : (ts later : List (Turn V)) (p : Progress) (s : State) (ws : List ℕ) (s' : State) (ws' : List ℕ) → count rows ≤ length ws → Held rows p s ws →
      Ran empty mark join rows s ws (ts ++ later) s' ws' → NoLoad ts → (lo hi : ℕ) (v : V) → Among ts lo hi v → (lo ≤ hi) × (v ≡ ideal p.program lo hi)
  among_ideal [] later p s ws s' ws' fit h r q lo hi v a = absurd a
  among_ideal (t ∷ ts) later p s ws s' ws' fit h r q lo hi v (inl y) =
      let d : Due (count rows) p lo hi = ((fair_now p s ws t fit h r.0).tally_granted lo hi y.0).0 (ap granted y.1) in
      (d.ordered, value_same t.answer v (ideal p.program lo hi) y.1 (r.0 ∙ ap (reply empty mark join rows s ws) y.0 ∙ given_value p s.bytes s.count s.phase ws lo hi fit h d))
  among_ideal (t ∷ ts) later p s ws s' ws' fit h r q lo hi v (inr y) =
      let i = among_ideal ts later (after p t) (state_after rows s ws t.call) (words_after rows s ws t.call) s' ws' (still_fits s ws t.call fit) (next_held p s ws t fit h r.0) r.1 q.1 lo hi v y in
      (i.0, i.1 ∙ ap (λ (o : Option (List ℕ)). ideal o lo hi) (program_stays p t.call (granted t.answer) q.0))

  -- the values of adjoining spans join to that of the whole
  ideal_join : (o : Option (List ℕ)) (lo mid hi : ℕ) → lo ≤ mid → mid ≤ hi → join (ideal o lo mid) (ideal o mid hi) ≡ ideal o lo hi
  ideal_join None lo mid hi a b = laws.left empty
  ideal_join (Some x) lo mid hi a b =
      let ws = settled rows x in
      let whole : (mid - lo) + (hi - mid) ≡ hi - lo = omega arith in
      sym (ap (λ (n : ℕ). marks_of empty mark join (marked_nodes (rules x) ws lo n)) (sym whole)
      ∙ ap (marks_of empty mark join) (marked_append (rules x) ws lo (mid - lo) (hi - mid) mid (omega arith))
      ∙ marks_append laws mark (marked_nodes (rules x) ws lo (mid - lo)) (marked_nodes (rules x) ws mid (hi - mid)))

  bracketed : (ts : List (Turn V)) (o : Option (List ℕ)) → ((lo hi : ℕ) (v : V) → Among ts lo hi v → (lo ≤ hi) × (v ≡ ideal o lo hi)) →
      (b : Bracketing V) → Adjoin ts b → (first b ≤ last b) × (total join b ≡ ideal o (first b) (last b))
  bracketed ts o f (one lo hi v) a = f lo hi v a
  bracketed ts o f (two x y) a =
      let l = bracketed ts o f x a.0 in
      let r = bracketed ts o f y a.1 in
      let m = a.2 in
      let low : first y ≤ last y = r.0 in
      let on : last x ≤ last y = omega (arith, m, low) in (
        omega (arith, l.0, on),
        ap (λ (u : V). join u (total join y)) l.1 ∙ ap (join (ideal o (first x) (last x))) r.1
            ∙ ap (λ (k : ℕ). join (ideal o (first x) (last x)) (ideal o k (last y))) (sym m) ∙ ideal_join o (first x) (last x) (last y) l.0 on,
      )

  joins_all : (earlier ts later : List (Turn V)) (p : Progress) (s : State) (ws : List ℕ) (s' : State) (ws' : List ℕ) →
      count rows ≤ length ws → Held rows p s ws → Ran empty mark join rows s ws (earlier ++ (ts ++ later)) s' ws' → NoLoad ts →
      (b : Bracketing V) (v : V) → Adjoin ts b → Among ts (first b) (last b) v → total join b ≡ v
  joins_all [] ts later p s ws s' ws' fit h r q b v a w =
      let f = among_ideal ts later p s ws s' ws' fit h r q in
      (bracketed ts p.program f b a).1 ∙ sym (f (first b) (last b) v w).1
  joins_all (u ∷ us) ts later p s ws s' ws' fit h r q b v a w =
      joins_all us ts later (after p u) (state_after rows s ws u.call) (words_after rows s ws u.call) s' ws' (still_fits s ws u.call fit) (next_held p s ws u fit h r.0) r.1 q b v a w

  -- every run from a new selector is lawful
  pub lawful : (ts : List (Turn V)) (ws : List ℕ) (s' : State) (ws' : List ℕ) → count rows ≤ length ws → Ran empty mark join rows fresh ws ts s' ws' → Lawful empty mark join rows ts
  lawful ts ws s' ws' fit r = record {
    fair = λ earlier t later e. fair_all earlier t later start fresh ws s' ws' fit refl (subst (λ (l : List (Turn V)). Ran empty mark join rows fresh ws l s' ws') e r);
    joins = λ earlier ts' later e q b v a w. joins_all earlier ts' later start fresh ws s' ws' fit refl (subst (λ (l : List (Turn V)). Ran empty mark join rows fresh ws l s' ws') e r) q b v a w;
  }

  -- what holds after a list of turns
  held_after : (ts : List (Turn V)) (p : Progress) (s : State) (ws : List ℕ) (s' : State) (ws' : List ℕ) → count rows ≤ length ws → Held rows p s ws →
      Ran empty mark join rows s ws ts s' ws' → Held rows (progress p ts) s' ws'
  held_after [] p s ws s' ws' fit h r = subst₂ (λ (x : State) (l : List ℕ). Held rows p x l) (sym r.0) (sym r.1) h
  held_after (t ∷ ts) p s ws s' ws' fit h r =
      held_after ts (after p t) (state_after rows s ws t.call) (words_after rows s ws t.call) s' ws' (still_fits s ws t.call fit) (next_held p s ws t fit h r.0) r.1

  -- every run leaves words that mean what they should
  pub means : (ts : List (Turn V)) (ws : List ℕ) (s' : State) (ws' : List ℕ) → count rows ≤ length ws → Ran empty mark join rows fresh ws ts s' ws' → WordsMean rows (progress start ts) ws'
  means ts ws s' ws' fit r = words_mean rows tree (progress start ts) s' ws' (held_after ts start fresh ws s' ws' fit refl r)
