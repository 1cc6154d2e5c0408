-- The check accepts exactly the bytes of programs that keep the rules.
use Rattle.std.proofs.Common.{◌≡◌, ℕ, zero, suc, ◌+◌, ◌-◌, ◌<◌, ◌≤◌, Bool, true, false, ◌&&◌, eqb, ltb, leb, List, [], ◌∷◌, length, get_or, Some, None, Option, Decides, sym, refl, ap, ◌∙◌, subst, arith}
use Rattle.std.proofs.lemmas.Bool.{false≢true, and_parts, and_from, ltb-true, lt-ltb, leb-true, le-leb, eqb-true, eq-eqb, cond-true}
use Rattle.automata.specs.Program.{Formula, Rule, Program, Proper, ProperRules, Names, Every, Goes, width, bytes}
use Rattle.automata.specs.Program as program
use Rattle.commands.specs.declared.command.Atom.{Atom}
use Rattle.commands.specs.declared.command.Atom.TheVariants.{Kind as OfKind, Label, True, First, Next, Here}
use Rattle.commands.specs.declared.command.Move.{Move}
use Rattle.commands.specs.declared.command.Move.TheVariants.{Down, On, Stay, Mark}
use Rattle.commands.specs.declared.command.Command.{Command}
use Rattle.commands.specs.declared.command.Command.TheVariants.{Value, And, Or, Not, Define, When, Make, Done, End}
use Rattle.commands.specs.declared.counts.Counts.{Counts}
use Rattle.commands.specs.Commands.{commands_of}
use Rattle.commands.specs.Rules.{after_deciding}
use Rattle.commands.specs.Decoded.{formula, move, mapped, deciding, states, below, with_sending, program_of, widths, decoded}
use Rattle.commands.specs.Checked.{if_so, thence, names, goes, formulas_keep, rules_keep, few_states, all_keep, counts, surveyed, accepted, Loadable}
use Rattle.commands.proofs.Grammar.{Opens, Defines, Sends, Below, Decoded, decoded_reads, defines, sends, rest_after}
use Rattle.commands.proofs.Grammar as reads
use Rattle.commands.proofs.Steps.{so_value}
use Rattle.commands.proofs.Tallies.{defined_count, closed_same, formulas_width, sends_defined, sends_closed, sends_width}

refused : {X : Type 0} → false ≡ true → X
refused e = absurd (false≢true e)

thence_so : {A : Type 0} (b : Bool) (x : A) (f : A → Bool) → thence (if_so b x) f ≡ true → (b ≡ true) × (f x ≡ true)
thence_so true x f e = (refl, e)
thence_so false x f e = refused e

so_thence : {A : Type 0} (b : Bool) (x : A) (f : A → Bool) → b ≡ true → f x ≡ true → thence (if_so b x) f ≡ true
so_thence b x f e h = ap (λ y. thence (if_so y x) f) e ∙ h

names_true : (a : Atom) (n p : ℕ) → names a n p ≡ true → Names (formula a) n p
names_true (OfKind k) n p e = tt
names_true (Label c) n p e = tt
names_true True n p e = tt
names_true (First q) n p e = ltb-true q n e
names_true (Next q) n p e = ltb-true q n e
names_true (Here q) n p e = ltb-true q p e

true_names : (a : Atom) (n p : ℕ) → Names (formula a) n p → names a n p ≡ true
true_names (OfKind k) n p h = refl
true_names (Label c) n p h = refl
true_names True n p h = refl
true_names (First q) n p h = lt-ltb q n h
true_names (Next q) n p h = lt-ltb q n h
true_names (Here q) n p h = lt-ltb q p h

goes_true : (m : Move) (n j : ℕ) → goes m n j ≡ true → Goes (move m) n j
goes_true (Down q) n j e = ltb-true q n e
goes_true (On q) n j e = ltb-true q n e
goes_true (Stay q) n j e = let h = and_parts (ltb j q) (ltb q n) e in (ltb-true j q h.0, ltb-true q n h.1)
goes_true Mark n j e = tt

true_goes : (m : Move) (n j : ℕ) → Goes (move m) n j → goes m n j ≡ true
true_goes (Down q) n j h = lt-ltb q n h
true_goes (On q) n j h = lt-ltb q n h
true_goes (Stay q) n j h = and_from (ltb j q) (ltb q n) (lt-ltb j q h.0) (lt-ltb q n h.1)
true_goes Mark n j h = refl

atom_one : (a : Atom) → width (formula a) ≡ 1
atom_one (OfKind k) = refl
atom_one (Label c) = refl
atom_one True = refl
atom_one (First p) = refl
atom_one (Next p) = refl
atom_one (Here p) = refl

-- the formulas on a stack fit into 32 values
abbrev Fit : List Formula → Type 0
Fit [] = Unit {0}
Fit (f ∷ st) = (length st + width f ≤ 32) × Fit st

abbrev Read : Type 0
Read = Option (List Formula × List Command)

module _ (n : ℕ) where
  -- the formulas that the commands define, from state p on
  record Formed (cs : List Command) (st : List Formula) (p : ℕ) : Type 0 where
    fs : List Formula
    is : ◌≡◌ {A = Read} (deciding cs st) (Some (fs, after_deciding cs))
    all : p + length fs ≡ n
    named : (i : ℕ) → i < length fs → Names (get_or fs i program.true) n (p + i)
    narrow : Every (λ f. width f ≤ 32) fs

  abbrev Named : ℕ → List Formula → Type 0
  Named p st = Every (λ f. Names f n p) st

  formulas_read : (cs : List Command) (st : List Formula) (d p : ℕ) → d ≡ length st → Fit st → Named p st → formulas_keep n cs (record { depth = d; state = p }) ≡ true → Formed cs st p
  formulas_read [] st d p e fit nm k = refused k
  formulas_read (Value a ∷ cs) st d p e fit nm k =
      let x = thence_so (ltb d 32 && names a n p) (record { depth = d + 1; state = p }) (formulas_keep n cs) k in
      let y = and_parts (ltb d 32) (names a n p) x.0 in
      let few = ltb-true d 32 y.0 in
      let r = formulas_read cs (formula a ∷ st) (d + 1) p (omega arith) (omega (arith, atom_one a), fit) (names_true a n p y.1, nm) x.1 in
      record { fs = r.fs; is = cond-true (ltb (length st) 32) (deciding cs (formula a ∷ st)) None (lt-ltb (length st) 32 (omega arith)) ∙ r.is; all = r.all; named = r.named; narrow = r.narrow }
  formulas_read (And ∷ cs) [] d p e fit nm k = let h = leb-true 2 d (thence_so (leb 2 d) _ (formulas_keep n cs) k).0 in absurd (omega arith)
  formulas_read (And ∷ cs) (g ∷ []) d p e fit nm k = let h = leb-true 2 d (thence_so (leb 2 d) _ (formulas_keep n cs) k).0 in absurd (omega arith)
  formulas_read (And ∷ cs) (g ∷ (f ∷ st)) d p e fit nm k =
      let x = thence_so (leb 2 d) (record { depth = d - 1; state = p }) (formulas_keep n cs) k in
      let r = formulas_read cs (program.and f g ∷ st) (d - 1) p (omega arith) (let a = fit.0 in let b = fit.1.0 in omega arith, fit.1.1) ((nm.1.0, nm.0), nm.1.1) x.1 in
      record { fs = r.fs; is = r.is; all = r.all; named = r.named; narrow = r.narrow }
  formulas_read (Or ∷ cs) [] d p e fit nm k = let h = leb-true 2 d (thence_so (leb 2 d) _ (formulas_keep n cs) k).0 in absurd (omega arith)
  formulas_read (Or ∷ cs) (g ∷ []) d p e fit nm k = let h = leb-true 2 d (thence_so (leb 2 d) _ (formulas_keep n cs) k).0 in absurd (omega arith)
  formulas_read (Or ∷ cs) (g ∷ (f ∷ st)) d p e fit nm k =
      let x = thence_so (leb 2 d) (record { depth = d - 1; state = p }) (formulas_keep n cs) k in
      let r = formulas_read cs (program.or f g ∷ st) (d - 1) p (omega arith) (let a = fit.0 in let b = fit.1.0 in omega arith, fit.1.1) ((nm.1.0, nm.0), nm.1.1) x.1 in
      record { fs = r.fs; is = r.is; all = r.all; named = r.named; narrow = r.narrow }
  formulas_read (Not ∷ cs) [] d p e fit nm k = let h = leb-true 1 d (thence_so (leb 1 d) (record { depth = d; state = p }) (formulas_keep n cs) k).0 in absurd (omega arith)
  formulas_read (Not ∷ cs) (f ∷ st) d p e fit nm k =
      let x = thence_so (leb 1 d) (record { depth = d; state = p }) (formulas_keep n cs) k in
      let r = formulas_read cs (program.not f ∷ st) d p e fit nm x.1 in
      record { fs = r.fs; is = r.is; all = r.all; named = r.named; narrow = r.narrow }
  formulas_read (Define ∷ cs) [] d p e fit nm k = let h = eqb-true d 1 (thence_so (eqb d 1) _ (formulas_keep n cs) k).0 in absurd (omega arith)
  formulas_read (Define ∷ cs) (f ∷ []) d p e fit nm k =
      let x = thence_so (eqb d 1) (record { depth = 0; state = p + 1 }) (formulas_keep n cs) k in
      let r = formulas_read cs [] 0 (p + 1) refl tt tt x.1 in
      record {
        fs = f ∷ r.fs;
        is = ap (mapped (λ (z : List Formula × List Command). (f ∷ z.0, z.1))) r.is;
        all = omega (arith, r.all);
        named = one_more f r.fs p nm.0 r.named;
        narrow = (let a = fit.0 in omega arith, r.narrow);
      }
    where
      one_more : (f : Formula) (fs : List Formula) (p : ℕ) → Names f n p → ((i : ℕ) → i < length fs → Names (get_or fs i program.true) n ((p + 1) + i))
          → (i : ℕ) → i < length (f ∷ fs) → Names (get_or (f ∷ fs) i program.true) n (p + i)
      one_more f fs p h rest zero l = let z : p ≡ p + 0 = omega arith in subst (λ (x : ℕ). Names f n x) z h
      one_more f fs p h rest (suc i) l = let z : (p + 1) + i ≡ p + suc i = omega arith in subst (λ (x : ℕ). Names (get_or fs i program.true) n x) z (rest i (omega arith))
  formulas_read (Define ∷ cs) (g ∷ (f ∷ st)) d p e fit nm k = let h = eqb-true d 1 (thence_so (eqb d 1) _ (formulas_keep n cs) k).0 in absurd (omega arith)
  formulas_read (When q ∷ cs) [] d p e fit nm k =
      let x = and_parts (eqb d 0) (eqb p n) k in
      record { fs = []; is = refl; all = omega (arith, eqb-true p n x.1); named = λ i l. absurd (omega arith); narrow = tt }
  formulas_read (When q ∷ cs) (f ∷ st) d p e fit nm k = let h = eqb-true d 0 (and_parts (eqb d 0) (eqb p n) k).0 in absurd (omega arith)
  formulas_read (Done ∷ cs) [] d p e fit nm k =
      let x = and_parts (eqb d 0) (eqb p n) k in
      record { fs = []; is = refl; all = omega (arith, eqb-true p n x.1); named = λ i l. absurd (omega arith); narrow = tt }
  formulas_read (Done ∷ cs) (f ∷ st) d p e fit nm k = let h = eqb-true d 0 (and_parts (eqb d 0) (eqb p n) k).0 in absurd (omega arith)
  formulas_read (Make m ∷ cs) st d p e fit nm k = refused k
  formulas_read (End ∷ cs) st d p e fit nm k = refused k

  at_depth : (cs : List Command) (d e p : ℕ) → d ≡ e → formulas_keep n cs (record { depth = e; state = p }) ≡ true → formulas_keep n cs (record { depth = d; state = p }) ≡ true
  at_depth cs d e p h k = ap (λ (x : ℕ). formulas_keep n cs (record { depth = x; state = p })) h ∙ k

  stands : (c : Command) (cs : List Command) (p : ℕ) → Opens c → p ≡ n → formulas_keep n (c ∷ cs) (record { depth = 0; state = p }) ≡ true
  stands (When q) cs p o e = eq-eqb p n e
  stands Done cs p o e = eq-eqb p n e
  stands (Value a) cs p o e = absurd o
  stands And cs p o e = absurd o
  stands Or cs p o e = absurd o
  stands Not cs p o e = absurd o
  stands Define cs p o e = absurd o
  stands (Make m) cs p o e = absurd o
  stands End cs p o e = absurd o

  formulas_write : {cs rest : List Command} {st fs : List Formula} → Defines cs st fs rest → (p : ℕ) → p + length fs ≡ n → ((i : ℕ) → i < length fs → Names (get_or fs i program.true) n (p + i))
      → (formulas_keep n cs (record { depth = length st; state = p }) ≡ true) × Named p st
  formulas_write (reads.value {a = a} {cs = cs} {st = st} l d) p all nm =
      let r = formulas_write d p all nm in (
        so_thence (ltb (length st) 32 && names a n p) (record { depth = length st + 1; state = p }) (formulas_keep n cs) (and_from (ltb (length st) 32) (names a n p) (lt-ltb (length st) 32 l) (true_names a n p r.1.0))
            (at_depth cs (length st + 1) (suc (length st)) p (omega arith) r.0),
        r.1.1,
      )
  formulas_write (reads.and {cs = cs} {st = st} d) p all nm =
      let r = formulas_write d p all nm in
      let k = suc (suc (length st)) in
      (so_thence (leb 2 k) (record { depth = k - 1; state = p }) (formulas_keep n cs) (le-leb 2 k (omega arith)) (at_depth cs (k - 1) (suc (length st)) p (omega arith) r.0), (r.1.0.1, (r.1.0.0, r.1.1)))
  formulas_write (reads.or {cs = cs} {st = st} d) p all nm =
      let r = formulas_write d p all nm in
      let k = suc (suc (length st)) in
      (so_thence (leb 2 k) (record { depth = k - 1; state = p }) (formulas_keep n cs) (le-leb 2 k (omega arith)) (at_depth cs (k - 1) (suc (length st)) p (omega arith) r.0), (r.1.0.1, (r.1.0.0, r.1.1)))
  formulas_write (reads.not {cs = cs} {st = st} d) p all nm =
      let r = formulas_write d p all nm in
      let k = suc (length st) in
      (so_thence (leb 1 k) (record { depth = k; state = p }) (formulas_keep n cs) (le-leb 1 k (omega arith)) r.0, r.1)
  formulas_write (reads.define {f = f} {cs = cs} {fs = fs} d) p all nm =
      let up : (i : ℕ) → p + suc i ≡ (p + 1) + i = λ i. omega arith in
      let r = formulas_write d (p + 1) (omega arith) (λ i l. subst (λ (x : ℕ). Names (get_or fs i program.true) n x) (up i) (nm (suc i) (omega arith))) in
      let z : p + 0 ≡ p = omega arith in
      (r.0, (subst (λ (x : ℕ). Names f n x) z (nm 0 (omega arith)), tt))
  formulas_write (reads.stop {c = c} {cs = cs} o) p all nm = (stands c cs p o (omega arith), tt)

module _ (N : Counts) where
  abbrev Kept : ℕ → List Rule → Type 0
  Kept j rs = ProperRules N.deciding N.sending j rs

  record Sent (cs : List Command) (j : ℕ) : Type 0 where
    ss : List (List Rule)
    is : states cs ≡ Some ss
    kept : (i : ℕ) → i < length ss → Kept (j + i) (get_or ss i [])

  abbrev Held : Type 0
  Held = List program.Move × List Rule × List (List Rule)

  record Under (cs : List Command) (j : ℕ) : Type 0 where
    ms : List program.Move
    rs : List Rule
    ss : List (List Rule)
    is : ◌≡◌ {A = Option Held} (below cs) (Some (ms, rs, ss))
    goes : Every (λ m. Goes m N.sending j) ms
    here : Kept j rs
    kept : (i : ℕ) → i < length ss → Kept ((j + 1) + i) (get_or ss i [])

  one_more : (rs : List Rule) (ss : List (List Rule)) (j : ℕ) → Kept j rs → ((i : ℕ) → i < length ss → Kept ((j + 1) + i) (get_or ss i [])) → (i : ℕ) → i < length (rs ∷ ss) → Kept (j + i) (get_or (rs ∷ ss) i [])
  one_more rs ss j h rest zero l = let z : j ≡ j + 0 = omega arith in subst (λ (x : ℕ). Kept x rs) z h
  one_more rs ss j h rest (suc i) l = let z : (j + 1) + i ≡ j + suc i = omega arith in subst (λ (x : ℕ). Kept x (get_or ss i [])) z (rest i (omega arith))

  mutual
    rules_read : (cs : List Command) (j : ℕ) → rules_keep N cs (record { state = j; inside = false }) ≡ true → Sent cs j
    rules_read [] j k = refused k
    rules_read (Value a ∷ cs) j k = refused k
    rules_read (And ∷ cs) j k = refused k
    rules_read (Or ∷ cs) j k = refused k
    rules_read (Not ∷ cs) j k = refused k
    rules_read (Define ∷ cs) j k = refused k
    rules_read (When p ∷ cs) j k =
        let x = thence_so (ltb p N.deciding) (record { state = j; inside = true }) (rules_keep N cs) k in
        let u = below_read cs j x.1 in
        let r : Rule = record { when = p; moves = u.ms } in
        record {
          ss = (r ∷ u.rs) ∷ u.ss;
          is = ap (mapped (λ (z : Held). (record { when = p; moves = z.0 } ∷ z.1) ∷ z.2)) u.is;
          kept = one_more (r ∷ u.rs) u.ss j ((ltb-true p N.deciding x.0, u.goes), u.here) u.kept;
        }
    rules_read (Make m ∷ cs) j k = refused k
    rules_read (Done ∷ cs) j k =
        let s = rules_read cs (j + 1) k in
        record { ss = [] ∷ s.ss; is = ap (mapped (λ (z : List (List Rule)). [] ∷ z)) s.is; kept = one_more [] s.ss j tt s.kept }
    rules_read (End ∷ []) j k = record { ss = []; is = refl; kept = λ i l. absurd (omega arith) }
    rules_read (End ∷ (c ∷ cs)) j k = refused k

    below_read : (cs : List Command) (j : ℕ) → rules_keep N cs (record { state = j; inside = true }) ≡ true → Under cs j
    below_read [] j k = refused k
    below_read (Value a ∷ cs) j k = refused k
    below_read (And ∷ cs) j k = refused k
    below_read (Or ∷ cs) j k = refused k
    below_read (Not ∷ cs) j k = refused k
    below_read (Define ∷ cs) j k = refused k
    below_read (When p ∷ cs) j k =
        let x = thence_so (ltb p N.deciding) (record { state = j; inside = true }) (rules_keep N cs) k in
        let u = below_read cs j x.1 in
        let r : Rule = record { when = p; moves = u.ms } in
        record {
          ms = [];
          rs = r ∷ u.rs;
          ss = u.ss;
          is = ap (mapped (λ (z : Held). ([], record { when = p; moves = z.0 } ∷ z.1, z.2))) u.is;
          goes = tt;
          here = ((ltb-true p N.deciding x.0, u.goes), u.here);
          kept = u.kept;
        }
    below_read (Make m ∷ cs) j k =
        let x = thence_so (goes m N.sending j) (record { state = j; inside = true }) (rules_keep N cs) k in
        let u = below_read cs j x.1 in
        record {
          ms = move m ∷ u.ms;
          rs = u.rs;
          ss = u.ss;
          is = ap (mapped (λ (z : Held). (move m ∷ z.0, z.1, z.2))) u.is;
          goes = (goes_true m N.sending j x.0, u.goes);
          here = u.here;
          kept = u.kept;
        }
    below_read (Done ∷ cs) j k =
        let s = rules_read cs (j + 1) k in
        record { ms = []; rs = []; ss = s.ss; is = ap (mapped (λ (z : List (List Rule)). ([], [], z))) s.is; goes = tt; here = tt; kept = s.kept }
    below_read (End ∷ cs) j k = refused k

  first : (j : ℕ) (rs : List Rule) (ss : List (List Rule)) → ((i : ℕ) → i < length (rs ∷ ss) → Kept (j + i) (get_or (rs ∷ ss) i [])) → Kept j rs
  first j rs ss kept = let z : j + 0 ≡ j = omega arith in subst (λ (x : ℕ). Kept x rs) z (kept 0 (omega arith))

  later : (j : ℕ) (rs : List Rule) (ss : List (List Rule)) → ((i : ℕ) → i < length (rs ∷ ss) → Kept (j + i) (get_or (rs ∷ ss) i [])) → (i : ℕ) → i < length ss → Kept ((j + 1) + i) (get_or ss i [])
  later j rs ss kept i l = let z : j + suc i ≡ (j + 1) + i = omega arith in subst (λ (x : ℕ). Kept x (get_or ss i [])) z (kept (suc i) (omega arith))

  mutual
    rules_write : {cs : List Command} {ss : List (List Rule)} → Sends cs ss → (j : ℕ) → ((i : ℕ) → i < length ss → Kept (j + i) (get_or ss i [])) → rules_keep N cs (record { state = j; inside = false }) ≡ true
    rules_write (reads.opened {p = p} {cs = cs} {ms = ms} {rs = rs} {ss = ss} d) j kept =
        let h = first j (record { when = p; moves = ms } ∷ rs) ss kept in
        so_thence (ltb p N.deciding) (record { state = j; inside = true }) (rules_keep N cs) (lt-ltb p N.deciding h.0.0) (below_write d j h.0.1 h.1 (later j (record { when = p; moves = ms } ∷ rs) ss kept))
    rules_write (reads.idle {ss = ss} s) j kept = rules_write s (j + 1) (later j [] ss kept)
    rules_write reads.ended j kept = refl

    below_write : {cs : List Command} {ms : List program.Move} {rs : List Rule} {ss : List (List Rule)} → Below cs ms rs ss → (j : ℕ) → Every (λ m. Goes m N.sending j) ms → Kept j rs
        → ((i : ℕ) → i < length ss → Kept ((j + 1) + i) (get_or ss i [])) → rules_keep N cs (record { state = j; inside = true }) ≡ true
    below_write (reads.again {p = p} {cs = cs} d) j g h kept =
        so_thence (ltb p N.deciding) (record { state = j; inside = true }) (rules_keep N cs) (lt-ltb p N.deciding h.0.0) (below_write d j h.0.1 h.1 kept)
    below_write (reads.made {m = m} {cs = cs} d) j g h kept =
        so_thence (goes m N.sending j) (record { state = j; inside = true }) (rules_keep N cs) (true_goes m N.sending j g.0) (below_write d j g.1 h kept)
    below_write (reads.done s) j g h kept = rules_write s (j + 1) kept

few_true : (N : Counts) → few_states N ≡ true → ((1 ≤ N.deciding) × (N.deciding ≤ 40)) × ((1 ≤ N.sending) × (N.sending ≤ 24))
few_true N e =
    let a = and_parts (leb 1 N.deciding && leb N.deciding 40) (leb 1 N.sending && leb N.sending 24) e in
    let b = and_parts (leb 1 N.deciding) (leb N.deciding 40) a.0 in
    let c = and_parts (leb 1 N.sending) (leb N.sending 24) a.1 in
    ((leb-true 1 N.deciding b.0, leb-true N.deciding 40 b.1), (leb-true 1 N.sending c.0, leb-true N.sending 24 c.1))

pub accepts : (bs : List ℕ) (N : Counts) → length bs ≤ 2048 → surveyed bs ≡ Some N → all_keep N (commands_of bs) ≡ true → Loadable bs
unfolding decoded
accepts bs N short sv k =
    let cs = commands_of bs in
    let s = so_value (eqb (widths cs) (length bs)) (counts cs) N sv in
    let whole = eqb-true (widths cs) (length bs) s.0 in
    let a = and_parts (few_states N) _ k in
    let few = few_true N a.0 in
    let b = and_parts (formulas_keep N.deciding cs (record { depth = 0; state = 0 })) (rules_keep N (after_deciding cs) (record { state = 0; inside = false })) a.1 in
    let F = formulas_read N.deciding cs [] 0 0 refl tt tt b.0 in
    let S = rules_read N (after_deciding cs) 0 b.1 in
    let P : Program = record { deciding = F.fs; sending = S.ss } in
    let d = defines cs [] (F.fs, after_deciding cs) F.is in
    let t = sends (after_deciding cs) S.ss S.is in
    let n : N.deciding ≡ length F.fs = omega (arith, F.all) in
    let m : N.sending ≡ length S.ss = sym (ap (λ (x : Counts). x.sending) s.1) ∙ closed_same d ∙ sends_closed t in
    let read : program_of cs ≡ Some P = ap with_sending F.is ∙ ap (mapped (λ (ss : List (List Rule)). record { deciding = F.fs; sending = ss })) S.is in
    let fits = and_from (leb (length bs) 2048) (eqb (widths cs) (length bs)) (le-leb (length bs) 2048 short) s.0 in
    let proper : Proper P = record {
      formulas = λ p l. let z : 0 + p ≡ p = omega arith in subst (λ (x : ℕ). Names (get_or F.fs p program.true) x p) n (subst (λ (x : ℕ). Names (get_or F.fs p program.true) N.deciding x) z (F.named p l));
      rules = λ j l. let z : 0 + j ≡ j = omega arith in
          subst (λ (x : ℕ). ProperRules x (length S.ss) j (get_or S.ss j [])) n
          (subst (λ (x : ℕ). ProperRules N.deciding x j (get_or S.ss j [])) m (subst (λ (x : ℕ). ProperRules N.deciding N.sending x (get_or S.ss j [])) z (S.kept j l)));
      deciding_some = omega arith;
      deciding_few = omega arith;
      sending_some = omega arith;
      sending_few = omega arith;
      narrow = F.narrow;
      short = omega (arith, formulas_width d, sends_width t);
    } in
    (P, cond-true (leb (length bs) 2048 && eqb (widths cs) (length bs)) (program_of cs) None fits ∙ read, proper)

-- what the check finds of bytes that mean a program
pub loadable_short : (bs : List ℕ) → Loadable bs → length bs ≤ 2048
loadable_short bs L = (decoded_reads bs L.0 L.1).short

pub loadable_survey : (bs : List ℕ) → Loadable bs → surveyed bs ≡ Some (counts (commands_of bs))
loadable_survey bs L =
    let cs = commands_of bs in
    cond-true (eqb (widths cs) (length bs)) (Some (counts cs)) None (eq-eqb (widths cs) (length bs) (decoded_reads bs L.0 L.1).whole)

pub loadable_keeps : (bs : List ℕ) → Loadable bs → all_keep (counts (commands_of bs)) (commands_of bs) ≡ true
loadable_keeps bs L =
    let P = L.0 in
    let D = decoded_reads bs P L.1 in
    let proper = L.2 in
    let cs = commands_of bs in
    let N = counts cs in
    let rest : after_deciding cs ≡ D.rest = rest_after D.defined in
    let n : length P.deciding ≡ N.deciding = omega (arith, defined_count D.defined, sends_defined D.sent) in
    let m : length P.sending ≡ N.sending = sym (closed_same D.defined ∙ sends_closed D.sent) in
    let f = (formulas_write N.deciding D.defined 0 (omega arith)
    (λ i l. let z : i ≡ 0 + i = omega arith in subst (λ (x : ℕ). Names (get_or P.deciding i program.true) N.deciding x) z (subst (λ (x : ℕ). Names (get_or P.deciding i program.true) x i) n (proper.formulas i l)))).0 in
    let r = rules_write N D.sent 0 (λ i l. let z : i ≡ 0 + i = omega arith in
    subst (λ (x : ℕ). ProperRules N.deciding N.sending x (get_or P.sending i [])) z
    (subst (λ (x : ℕ). ProperRules x N.sending i (get_or P.sending i [])) n (subst (λ (x : ℕ). ProperRules (length P.deciding) x i (get_or P.sending i [])) m (proper.rules i l)))) in
    let a : 1 ≤ N.deciding = omega (arith, proper.deciding_some) in
    let b : N.deciding ≤ 40 = omega (arith, proper.deciding_few) in
    let c : 1 ≤ N.sending = omega (arith, proper.sending_some) in
    let d : N.sending ≤ 24 = omega (arith, proper.sending_few) in
    and_from (few_states N) _
    (and_from _ _ (and_from _ _ (le-leb 1 N.deciding a) (le-leb N.deciding 40 b)) (and_from _ _ (le-leb 1 N.sending c) (le-leb N.sending 24 d)))
    (and_from _ _ f (ap (λ (x : List Command). rules_keep N x (record { state = 0; inside = false })) rest ∙ r))

-- the answer of the check is whether the bytes mean such a program
pub accepted_decides : (bs : List ℕ) → Decides (accepted bs) (Loadable bs)
accepted_decides bs = (λ e. loads (surveyed bs) refl (and_parts (leb (length bs) 2048) _ e), λ L. and_from (leb (length bs) 2048) _ (le-leb (length bs) 2048 (loadable_short bs L)) (ap kept (loadable_survey bs L) ∙ loadable_keeps bs L))
  where
    kept : Option Counts → Bool
    kept o = thence o (λ n. all_keep n (commands_of bs))

    loads : (o : Option Counts) → surveyed bs ≡ o → (leb (length bs) 2048 ≡ true) × (kept (surveyed bs) ≡ true) → Loadable bs
    loads None q h = refused (sym (ap kept q) ∙ h.1)
    loads (Some N) q h = accepts bs N (leb-true (length bs) 2048 h.0) q (sym (ap kept q) ∙ h.1)
