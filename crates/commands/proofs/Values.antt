-- The word of a node has the values of the formulas.
use Rattle.std.proofs.Common.{◌≡◌, ℕ, zero, suc, ◌+◌, ◌*◌, ◌/◌, ◌%◌, ◌^◌, ◌<◌, ◌≤◌, Bool, true, false, not, ◌&&◌, ◌||◌, eqb, leb, List, [], ◌∷◌, length, get_or, sym, refl, ap, ◌∙◌, subst, pow-suc, arith, pow_mono}
use Rattle.automata.specs.Program.{Formula, Names}
use Rattle.automata.specs.Program as program
use Rattle.words.specs.Bit.{bit, put_bit}
use Rattle.words.proofs.Bits.{bit_put, bit_put_kept}
use Rattle.commands.specs.declared.node.Node.{Node}
use Rattle.commands.specs.declared.command.Kind.TheVariants.{Root, Text, Element}
use Rattle.commands.specs.declared.command.Atom.{Atom}
use Rattle.commands.specs.declared.command.Atom.TheVariants.{Kind as OfKind, Label, True, First, Next, Here}
use Rattle.commands.specs.declared.command.Command.{Command}
use Rattle.commands.specs.declared.command.Command.TheVariants.{Value, And, Or, Not, Define, When, Make, Done, End}
use Rattle.commands.specs.Stack.{digit, push, top, both, either, neither}
use Rattle.commands.specs.Deciding.{holds_at, decide}
use Rattle.commands.specs.Decoded.{formula}
use Rattle.commands.proofs.Grammar.{Defines, Opens}
use Rattle.commands.proofs.Grammar as reads

-- the formula's value at a node, with the states of the node itself in w
abbrev pub kind_value : program.Kind → ℕ → Bool
kind_value program.root c = eqb c 0
kind_value program.text c = eqb c 1
kind_value program.element c = leb 2 c

abbrev pub value_of : Formula → Node → ℕ → Bool
value_of (program.kind k) n w = kind_value k n.label
value_of (program.label_is c) n w = eqb n.label c
value_of program.true n w = true
value_of (program.first q) n w = bit n.first q
value_of (program.next q) n w = bit n.next q
value_of (program.here q) n w = bit w q
value_of (program.and f g) n w = value_of f n w && value_of g n w
value_of (program.or f g) n w = value_of f n w || value_of g n w
value_of (program.not f) n w = not (value_of f n w)

atom_value : (a : Atom) (n : Node) (w : ℕ) → holds_at a n w ≡ value_of (formula a) n w
atom_value (OfKind Root) n w = refl
atom_value (OfKind Text) n w = refl
atom_value (OfKind Element) n w = refl
atom_value (Label c) n w = refl
atom_value True n w = refl
atom_value (First p) n w = refl
atom_value (Next p) n w = refl
atom_value (Here p) n w = refl

-- a formula of the state p asks only lower states of the word
pub same_value : (f : Formula) (n : Node) (m p w x : ℕ) → Names f m p → ((q : ℕ) → q < p → bit w q ≡ bit x q) → value_of f n w ≡ value_of f n x
same_value (program.kind k) n m p w x h e = refl
same_value (program.label_is c) n m p w x h e = refl
same_value program.true n m p w x h e = refl
same_value (program.first q) n m p w x h e = refl
same_value (program.next q) n m p w x h e = refl
same_value (program.here q) n m p w x h e = e q h
same_value (program.and f g) n m p w x h e =
    ap (λ b. b && value_of g n w) (same_value f n m p w x h.0 e) ∙ ap (λ b. value_of f n x && b) (same_value g n m p w x h.1 e)
same_value (program.or f g) n m p w x h e =
    ap (λ b. b || value_of g n w) (same_value f n m p w x h.0 e) ∙ ap (λ b. value_of f n x || b) (same_value g n m p w x h.1 e)
same_value (program.not f) n m p w x h e = ap not (same_value f n m p w x h e)

-- values in one number, the first in the lowest bit
abbrev packed : List Bool → ℕ
packed [] = 0
packed (b ∷ bs) = packed bs * 2 + digit b

digit_le : (b : Bool) → digit b ≤ 1
digit_le true = omega arith
digit_le false = omega arith

packed_lt : (bs : List Bool) → packed bs < 2 ^ length bs
packed_lt [] = omega arith
packed_lt (b ∷ bs) = omega (arith, packed_lt bs, digit_le b, pow-suc 2 (length bs))

packed_push : (bs : List Bool) (b : Bool) → length bs < 32 → push (packed bs) b ≡ packed (b ∷ bs)
packed_push bs b h =
    let l : length bs ≤ 31 = omega arith in
    let p : 2 ^ length bs ≤ 2 ^ 31 = pow_mono l in
    let q : packed bs % 0x8000_0000 ≡ packed bs = omega (arith, packed_lt bs) in
    ap (λ (x : ℕ). x * 2 + digit b) q

packed_top : (x : ℕ) (b : Bool) → top (x * 2 + digit b) ≡ b
packed_top x true = let e : (x * 2 + 1) % 2 ≡ 1 = omega arith in ap (λ (y : ℕ). eqb y 1) e
packed_top x false = let e : (x * 2 + 0) % 2 ≡ 0 = omega arith in ap (λ (y : ℕ). eqb y 1) e

packed_half : (x : ℕ) (b : Bool) → (x * 2 + digit b) / 2 ≡ x
packed_half x b = omega (arith, digit_le b)

packed_quarter : (x : ℕ) (a b : Bool) → ((x * 2 + digit a) * 2 + digit b) / 4 ≡ x
packed_quarter x a b = omega (arith, digit_le a, digit_le b)

module _ (n : Node) where
  abbrev values : ℕ → List Formula → List Bool
  values w [] = []
  values w (f ∷ fs) = value_of f n w ∷ values w fs

  length_values : (w : ℕ) (fs : List Formula) → length (values w fs) ≡ length fs
  length_values w [] = refl
  length_values w (f ∷ fs) = ap suc (length_values w fs)

  push_value : (w s : ℕ) (st : List Formula) (b : Bool) → length st < 32 → s ≡ packed (values w st) → push s b ≡ packed (b ∷ values w st)
  push_value w s st b h e = ap (λ (x : ℕ). push x b) e ∙ packed_push (values w st) b (omega (arith, length_values w st))

  both_value : (w s : ℕ) (f g : Formula) (st : List Formula) → length st < 32 → s ≡ packed (values w (g ∷ (f ∷ st)))
      → both s ≡ packed (values w (program.and f g ∷ st))
  both_value w s f g st h e =
      let a = value_of f n w in
      let b = value_of g n w in
      let x = packed (values w st) in
      ap both e
      ∙ ap (λ (y : ℕ). push y (top (((x * 2 + digit a) * 2 + digit b) / 2) && top ((x * 2 + digit a) * 2 + digit b))) (packed_quarter x a b)
      ∙ ap (λ (y : ℕ). push x (top y && top ((x * 2 + digit a) * 2 + digit b))) (packed_half (x * 2 + digit a) b)
      ∙ ap (λ t. push x (t && top ((x * 2 + digit a) * 2 + digit b))) (packed_top x a)
      ∙ ap (λ t. push x (a && t)) (packed_top (x * 2 + digit a) b)
      ∙ push_value w x st (a && b) h refl

  either_value : (w s : ℕ) (f g : Formula) (st : List Formula) → length st < 32 → s ≡ packed (values w (g ∷ (f ∷ st)))
      → either s ≡ packed (values w (program.or f g ∷ st))
  either_value w s f g st h e =
      let a = value_of f n w in
      let b = value_of g n w in
      let x = packed (values w st) in
      ap either e
      ∙ ap (λ (y : ℕ). push y (top (((x * 2 + digit a) * 2 + digit b) / 2) || top ((x * 2 + digit a) * 2 + digit b))) (packed_quarter x a b)
      ∙ ap (λ (y : ℕ). push x (top y || top ((x * 2 + digit a) * 2 + digit b))) (packed_half (x * 2 + digit a) b)
      ∙ ap (λ t. push x (t || top ((x * 2 + digit a) * 2 + digit b))) (packed_top x a)
      ∙ ap (λ t. push x (a || t)) (packed_top (x * 2 + digit a) b)
      ∙ push_value w x st (a || b) h refl

  neither_value : (w s : ℕ) (f : Formula) (st : List Formula) → length st < 32 → s ≡ packed (values w (f ∷ st))
      → neither s ≡ packed (values w (program.not f ∷ st))
  neither_value w s f st h e =
      let a = value_of f n w in
      let x = packed (values w st) in
      ap neither e
      ∙ ap (λ (y : ℕ). push y (not (top (x * 2 + digit a)))) (packed_half x a)
      ∙ ap (λ t. push x (not t)) (packed_top x a)
      ∙ push_value w x st (not a) h refl

  -- the lower states stay as they are
  kept : (cs : List Command) (s w p i : ℕ) → i < p → bit (decide n cs s w p) i ≡ bit w i
  kept [] s w p i h = refl
  kept (Value a ∷ cs) s w p i h = kept cs (push s (holds_at a n w)) w p i h
  kept (And ∷ cs) s w p i h = kept cs (both s) w p i h
  kept (Or ∷ cs) s w p i h = kept cs (either s) w p i h
  kept (Not ∷ cs) s w p i h = kept cs (neither s) w p i h
  kept (Define ∷ cs) s w p i h =
      kept cs 0 (put_bit w p (top s)) (p + 1) i (omega arith) ∙ bit_put_kept w p i (top s) (λ e. let z : p ≡ i = e in omega arith)
  kept (When q ∷ cs) s w p i h = refl
  kept (Make m ∷ cs) s w p i h = refl
  kept (Done ∷ cs) s w p i h = refl
  kept (End ∷ cs) s w p i h = refl

  -- no state from p on is set yet
  abbrev Clear : ℕ → ℕ → Type 0
  Clear w p = (i : ℕ) → p ≤ i → bit w i ≡ false

  clear_more : (w p : ℕ) (b : Bool) → Clear w p → Clear (put_bit w p b) (p + 1)
  clear_more w p b h i l = bit_put_kept w p i b (λ e. let z : p ≡ i = e in omega arith) ∙ h i (omega arith)

  stops : (c : Command) (cs : List Command) (s w p : ℕ) → Opens c → decide n (c ∷ cs) s w p ≡ w
  stops (When q) cs s w p o = refl
  stops Done cs s w p o = refl
  stops (Value a) cs s w p o = absurd o
  stops And cs s w p o = absurd o
  stops Or cs s w p o = absurd o
  stops Not cs s w p o = absurd o
  stops Define cs s w p o = absurd o
  stops (Make m) cs s w p o = absurd o
  stops End cs s w p o = absurd o

  pub clear_after : {cs rest : List Command} {st fs : List Formula} → Defines cs st fs rest → (s w p : ℕ) → Clear w p → Clear (decide n cs s w p) (p + length fs)
  clear_after (reads.value l d) s w p h = clear_after d _ w p h
  clear_after (reads.and d) s w p h = clear_after d _ w p h
  clear_after (reads.or d) s w p h = clear_after d _ w p h
  clear_after (reads.not d) s w p h = clear_after d _ w p h
  clear_after (reads.define d) s w p h = λ i l. clear_after d 0 (put_bit w p (top s)) (p + 1) (clear_more w p (top s) h) i (omega arith)
  clear_after (reads.stop {c = c} {cs = cs} o) s w p h = λ i l. ap (λ (x : ℕ). bit x i) (stops c cs s w p o) ∙ h i (omega arith)

  module _ (m : ℕ) where
    -- each state that is defined from p on holds where its formula does
    pub word_values : {cs rest : List Command} {st fs : List Formula} → Defines cs st fs rest → (s w p : ℕ) → length st ≤ 32 → s ≡ packed (values w st)
        → Clear w p → p + length fs ≤ 64 → ((i : ℕ) → i < length fs → Names (get_or fs i program.true) m (p + i))
        → (i : ℕ) → i < length fs → bit (decide n cs s w p) (p + i) ≡ value_of (get_or fs i program.true) n (decide n cs s w p)
    word_values (reads.value {a = a} {st = st} l d) s w p few e clear fit names i h =
        word_values d (push s (holds_at a n w)) w p (omega arith) (push_value w s st (holds_at a n w) l e ∙ ap (λ b. packed (b ∷ values w st)) (atom_value a n w)) clear fit names i h
    word_values (reads.and {f = f} {g = g} {st = st} d) s w p few e clear fit names i h =
        word_values d (both s) w p (omega arith) (both_value w s f g st (omega arith) e) clear fit names i h
    word_values (reads.or {f = f} {g = g} {st = st} d) s w p few e clear fit names i h =
        word_values d (either s) w p (omega arith) (either_value w s f g st (omega arith) e) clear fit names i h
    word_values (reads.not {f = f} {st = st} d) s w p few e clear fit names i h =
        word_values d (neither s) w p (omega arith) (neither_value w s f st (omega arith) e) clear fit names i h
    word_values (reads.define {f = f} {cs = cs} {fs = fs} d) s w p few e clear fit names zero h =
        let b = value_of f n w in
        let t : top s ≡ b = ap top e ∙ packed_top 0 b in
        let x = put_bit w p (top s) in
        let z : p + 0 ≡ p = omega arith in
        ap (bit (decide n cs 0 x (p + 1))) z
        ∙ kept cs 0 x (p + 1) p (omega arith) ∙ bit_put w p (top s) (omega arith) (clear p (omega arith)) ∙ t
        ∙ same_value f n m p w (decide n cs 0 x (p + 1)) (subst (λ (k : ℕ). Names f m k) z (names 0 h))
        (λ q l. sym (kept cs 0 x (p + 1) q (omega arith) ∙ bit_put_kept w p q (top s) (λ k. let y : p ≡ q = k in omega arith)))
    word_values (reads.define {f = f} {cs = cs} {fs = fs} d) s w p few e clear fit names (suc i) h =
        let x = put_bit w p (top s) in
        let up : (j : ℕ) → p + suc j ≡ (p + 1) + j = λ j. omega arith in
        ap (bit (decide n cs 0 x (p + 1))) (up i)
        ∙ word_values d 0 x (p + 1) (omega arith) refl (clear_more w p (top s) clear) (omega arith)
        (λ j l. subst (λ (k : ℕ). Names (get_or fs j program.true) m k) (up j) (names (suc j) (omega arith))) i (omega arith)
    word_values (reads.stop o) s w p few e clear fit names i h = absurd (omega arith)
