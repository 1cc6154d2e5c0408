-- After a rise over all nodes the words are right.
use Rattle.std.proofs.Common.{◌≡◌, ℕ, zero, suc, ◌+◌, ◌<◌, ◌≤◌, Bool, true, false, not, ◌&&◌, ◌||◌, T, eqb, leb, ◌⊎◌, ◌↔◌, List, [], length, get_or, set, Some, None, Option, sym, refl, ap, ◌∙◌, subst, inl, inr, ⊎_elim, arith, length-set, get_or-set_other, get_or-set_same}
use mathlib.Core.Logic.Iff
use native.Mathlib.Decide.{dec_lt}
use Rattle.std.proofs.lemmas.Bool.{eqb-true, eq-eqb, leb-true, le-leb, cases_eq}
use Rattle.rows.specs.Rows.{Row, count_of as count, label_of as label, FirstChild, NextSibling}
use Rattle.rows.specs.Answers.{first_of as first_child, next_of as next_sibling}
use Rattle.rows.specs.Claims.{Answers}
use Rattle.automata.specs.Program.{Formula, Program, Proper, Decisions, OfKind, TrueAt, Names, Right}
use Rattle.automata.specs.Program as program
use Rattle.rows.proofs.Questions.{questions}
use Rattle.automata.proofs.Solutions.{next_unique}
use Rattle.words.specs.Bit.{bit, put_bit}
use Rattle.words.proofs.Bits.{bit_none, bit_put, bit_put_kept}
use Rattle.commands.specs.declared.node.Node.{Node}
use Rattle.commands.specs.declared.command.Command.{Command}
use Rattle.commands.specs.Commands.{commands_of}
use Rattle.commands.specs.Deciding.{decide}
use Rattle.commands.proofs.Grammar.{Defines, decoded_reads}
use Rattle.commands.proofs.Values.{kind_value, value_of, same_value, word_values, clear_after}
use Rattle.sweep.specs.Rising.{word_of, node_at, word_at, risen}
use Rattle.sweep.specs.Claims.{decisions, RisesRight}

-- tests as types
pub so : (b : Bool) → T b → b ≡ true
so true t = refl
so false t = absurd t

pub is_so : (b : Bool) → b ≡ true → T b
is_so b e = subst T (sym e) tt

pub T_same : {a b : Bool} → a ≡ b → T a ↔ T b
T_same e = (subst T e, subst T (sym e))

T_eqb : (a b : ℕ) → T (eqb a b) ↔ (a ≡ b)
T_eqb a b = (λ t. eqb-true a b (so (eqb a b) t), λ e. is_so (eqb a b) (eq-eqb a b e))

T_leb : (a b : ℕ) → T (leb a b) ↔ (a ≤ b)
T_leb a b = (λ t. leb-true a b (so (leb a b) t), λ e. is_so (leb a b) (le-leb a b e))

pub T_and : (a b : Bool) → T (a && b) ↔ (T a × T b)
T_and true b = (λ t. (tt, t), λ p. p.1)
T_and false b = (λ t. absurd t, λ p. p.0)

pub T_or : (a b : Bool) → T (a || b) ↔ (T a ⊎ T b)
T_or true b = (λ t. inl tt, λ p. tt)
T_or false b = (inr, ⊎_elim (λ t. absurd t) (λ t. t))

T_not : (a : Bool) → T (not a) ↔ (¬ T a)
T_not true = (λ t n. t, λ n. n tt)
T_not false = (λ t n. n, λ n. tt)

module _ (rows : List Row) where
  first_unique : (v w x : ℕ) → FirstChild rows v w → FirstChild rows v x → w ≡ x
  first_unique v w x a b = a.0 ∙ sym b.0

  -- a state of the node that a question gives
  asked : (ws : List ℕ) (q : ℕ) (R : ℕ → Type 0) (o : Option ℕ) → Answers o R → ((w x : ℕ) → R w → R x → w ≡ x)
      → T (bit (word_of ws o) q) ↔ ((w : ℕ) × R w × T (bit (get_or ws w 0) q))
  asked ws q R None a one = (λ t. absurd (subst T (bit_none q) t), λ r. absurd (a r.0 r.1))
  asked ws q R (Some w) a one = (λ t. (w, a, t), λ r. subst (λ (x : ℕ). T (bit (get_or ws x 0) q)) (one r.0 w r.1 a) r.2)

  kind_true : (k : program.Kind) (v : ℕ) → T (kind_value k (label rows v)) ↔ OfKind rows k v
  kind_true program.root v = T_eqb (label rows v) 0
  kind_true program.text v = T_eqb (label rows v) 1
  kind_true program.element v = T_leb 2 (label rows v)

  module _ (ws : List ℕ) (v : ℕ) (h : v < count rows) where
    value_true : (f : Formula) → T (value_of f (node_at rows ws v) (get_or ws v 0)) ↔ TrueAt f (decisions ws) rows v
    value_true (program.kind k) = kind_true k v
    value_true (program.label_is c) = T_eqb (label rows v) c
    value_true program.true = (λ t. t, λ t. t)
    value_true (program.first q) = asked ws q (FirstChild rows v) (first_child rows v) (questions rows v h).0 (first_unique v)
    value_true (program.next q) = asked ws q (NextSibling rows v) (next_sibling rows v) (questions rows v h).1 (next_unique rows v)
    value_true (program.here q) = (λ t. t, λ t. t)
    value_true (program.and f g) =
        let a = value_true f in
        let b = value_true g in
        Iff.trans (T_and _ _) (λ p. (a.0 p.0, b.0 p.1), λ p. (a.1 p.0, b.1 p.1))
    value_true (program.or f g) =
        let a = value_true f in
        let b = value_true g in
        Iff.trans (T_or _ _) (⊎_elim (λ t. inl (a.0 t)) (λ t. inr (b.0 t)), ⊎_elim (λ t. inl (a.1 t)) (λ t. inr (b.1 t)))
    value_true (program.not f) = Iff.trans (T_not _) (Iff.not (value_true f))

  -- a question gives a later node, so a word depends on later words
  later : (o : Option ℕ) (v : ℕ) (R : ℕ → Type 0) → Answers o R → ((w : ℕ) → R w → v < w) → (ws : List ℕ) (u x : ℕ) → u ≤ v → word_of (set ws u x) o ≡ word_of ws o
  later None v R a lt ws u x h = refl
  later (Some w) v R a lt ws u x h = get_or-set_other ws u w x 0 (λ e. let k = lt w a in let z : w ≡ u = e in omega arith)

  node_later : (ws : List ℕ) (v u x : ℕ) → v < count rows → u ≤ v → node_at rows (set ws u x) v ≡ node_at rows ws v
  node_later ws v u x h l =
      let q = questions rows v h in
      let a = later (first_child rows v) v (FirstChild rows v) q.0 (λ w r. let e = r.0 in omega arith) ws u x l in
      let b = later (next_sibling rows v) v (NextSibling rows v) q.1 (λ w r. r.0) ws u x l in
      cc

  word_later : (cs : List Command) (ws : List ℕ) (v u x : ℕ) → v < count rows → u ≤ v → word_at rows cs (set ws u x) v ≡ word_at rows cs ws v
  unfolding word_at
  word_later cs ws v u x h l = ap (λ (n : Node). put_bit (decide n cs 0 0 0) 40 (eqb v 0)) (node_later ws v u x h l)

  pub length_risen : (cs : List Command) (v k : ℕ) (ws : List ℕ) → length (risen rows cs v k ws) ≡ length ws
  length_risen cs v zero ws = refl
  length_risen cs v (suc k) ws = length-set (risen rows cs (suc v) k ws) v _ ∙ length_risen cs (suc v) k ws

  -- each word that was written is the node's word by the words now
  pub risen_at : (cs : List Command) (lo k : ℕ) (ws : List ℕ) → lo + k ≤ count rows → count rows ≤ length ws → (v : ℕ) → lo ≤ v → v < lo + k
      → get_or (risen rows cs lo k ws) v 0 ≡ word_at rows cs (risen rows cs lo k ws) v
  risen_at cs lo zero ws fit room v a b = absurd (omega arith)
  risen_at cs lo (suc k) ws fit room v a b = which (λ l. risen_at cs (suc lo) k ws (omega arith) room v l (omega arith)) (cases_eq v lo)
    where
      which : let old = risen rows cs (suc lo) k ws in let x = word_at rows cs old lo in
          (suc lo ≤ v → get_or old v 0 ≡ word_at rows cs old v) → (v ≡ lo) ⊎ (v ≡ lo → ⊥) → get_or (set old lo x) v 0 ≡ word_at rows cs (set old lo x) v
      which again (inl e) =
          let old = risen rows cs (suc lo) k ws in
          let x = word_at rows cs old lo in
          subst (λ (u : ℕ). get_or (set old lo x) u 0 ≡ word_at rows cs (set old lo x) u) (sym e)
          (get_or-set_same old lo x 0 (omega (arith, length_risen cs (suc lo) k ws)) ∙ sym (word_later cs old lo lo x (omega arith) (omega arith)))
      which again (inr n) =
          let old = risen rows cs (suc lo) k ws in
          let x = word_at rows cs old lo in
          let l : suc lo ≤ v = omega (arith, ⊎_elim {C = suc lo ≤ v} (λ e. absurd (n e)) (λ z. z) (apart v lo a)) in
          get_or-set_other old lo v x 0 n ∙ again l ∙ sym (word_later cs old v lo x (omega arith) (omega arith))
        where
          apart : (v lo : ℕ) → lo ≤ v → (v ≡ lo) ⊎ (suc lo ≤ v)
          apart v lo a = elim (dec_lt lo v) [ yes h ↦ inr h | no h ↦ inl (omega arith) ]

  module _ (P : Program) (proper : Proper P) (cs rest : List Command) (d : Defines cs [] P.deciding rest) (ws : List ℕ)
      (at : (v : ℕ) → v < count rows → get_or ws v 0 ≡ word_at rows cs ws v) where
    abbrev raw : ℕ → ℕ
    raw v = decide (node_at rows ws v) cs 0 0 0

    whole_word : (v : ℕ) → v < count rows → get_or ws v 0 ≡ put_bit (raw v) 40 (eqb v 0)
    unfolding word_at
    whole_word v h = at v h

    low_bit : (v i : ℕ) → v < count rows → i < 40 → bit (get_or ws v 0) i ≡ bit (raw v) i
    low_bit v i h l = ap (λ (x : ℕ). bit x i) (whole_word v h) ∙ bit_put_kept (raw v) 40 i (eqb v 0) (λ e. let z : 40 ≡ i = e in omega arith)

    right : Right P.deciding (decisions ws) rows
    right p v pl vl =
        let f = get_or P.deciding p program.true in
        let n = node_at rows ws v in
        let z : 0 + p ≡ p = omega arith in
        let few = proper.deciding_few in
        let values : bit (raw v) p ≡ value_of f n (raw v) =
        sym (ap (bit (raw v)) z)
        ∙ word_values n (length P.deciding) d 0 0 0 (omega arith) refl (λ i l. bit_none i) (omega arith)
        (λ i l. let y : i ≡ 0 + i = omega arith in subst (λ (k : ℕ). Names (get_or P.deciding i program.true) (length P.deciding) k) y (proper.formulas i l)) p pl in
        let same = same_value f n (length P.deciding) p (raw v) (get_or ws v 0) (proper.formulas p pl) (λ q l. sym (low_bit v q vl (omega arith))) in
        Iff.trans (T_same (low_bit v p vl (omega arith) ∙ values ∙ same)) (value_true ws v vl f)

    clear : (i v : ℕ) → length P.deciding ≤ i → v < count rows → T (bit (get_or ws v 0) i) ↔ ((i ≡ 40) × (v ≡ 0))
    clear i v l h = Iff.trans (T_same (ap (λ (x : ℕ). bit x i) (whole_word v h))) (which (cases_eq i 40))
      where
        free : (j : ℕ) → length P.deciding ≤ j → bit (raw v) j ≡ false
        free j k = clear_after (node_at rows ws v) d 0 0 0 (λ m y. bit_none m) j (omega arith)

        which : (i ≡ 40) ⊎ (i ≡ 40 → ⊥) → T (bit (put_bit (raw v) 40 (eqb v 0)) i) ↔ ((i ≡ 40) × (v ≡ 0))
        which (inl e) =
            let few = proper.deciding_few in
            let b = ap (bit (put_bit (raw v) 40 (eqb v 0))) e ∙ bit_put (raw v) 40 (eqb v 0) (omega arith) (free 40 few) in
            (λ t. (e, eqb-true v 0 (so (eqb v 0) (subst T b t))), λ p. subst T (sym b) (is_so (eqb v 0) (eq-eqb v 0 p.1)))
        which (inr n) =
            let b = bit_put_kept (raw v) 40 i (eqb v 0) (λ e. n (sym e)) ∙ free i l in
            (λ t. absurd (subst T b t), λ p. absurd (n p.0))

pub rises_right : RisesRight
rises_right bytes P rows ws e proper ok room =
    let D = decoded_reads bytes P e in
    let cs = commands_of bytes in
    let after = risen rows cs 0 (count rows) ws in
    let at : (v : ℕ) → v < count rows → get_or after v 0 ≡ word_at rows cs after v =
    λ v h. risen_at rows cs 0 (count rows) ws (omega arith) room v (omega arith) (omega arith) in
    record { right = right rows P proper cs D.rest D.defined after at; clear = clear rows P proper cs D.rest D.defined after at }
