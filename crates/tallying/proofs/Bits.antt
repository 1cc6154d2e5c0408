-- What each bit of a word means.
use Rattle.std.proofs.Common.{◌≡◌, ℕ, zero, suc, ◌+◌, ◌-◌, ◌<◌, ◌≤◌, Bool, true, false, cond, T, ◌⊎◌, ◌↔◌, List, [], ◌∷◌, length, get_or, Some, None, Option, sym, refl, ap, ◌∙◌, subst, inl, inr, arith, get_or-set_other}
use mathlib.Core.Logic.Iff
use Rattle.rows.specs.Rows.{Row, count_of as count, Lawful, FirstChild, NextSibling}
use Rattle.rows.specs.Answers.{first_of, next_of}
use Rattle.rows.specs.Claims.{Answers}
use Rattle.rows.proofs.Questions.{questions}
use Rattle.automata.specs.Program.{Program, Decides}
use Rattle.automata.proofs.Agrees.{agreeing}
use Rattle.words.specs.Bit.{bit, with_bit}
use Rattle.commands.specs.declared.command.Move.{Move}
use Rattle.commands.specs.declared.command.Move.TheVariants.{Down, On, Stay, Mark}
use Rattle.commands.specs.declared.command.Command.{Command}
use Rattle.commands.specs.declared.command.Command.TheVariants.{Value, And, Or, Not, Define, When, Make, Done, End}
use Rattle.commands.specs.Commands.{commands_of}
use Rattle.commands.specs.Denotes.{Denotes}
use Rattle.commands.specs.Rules.{after_deciding}
use Rattle.commands.proofs.Denotes.{denoted}
use Rattle.sweep.specs.Rising.{word_at, risen}
use Rattle.sweep.specs.Falling.{entered, made, acting, sent, place_at, fallen}
use Rattle.sweep.specs.Claims.{decisions, Rose}
use Rattle.sweep.proofs.Risen.{T_same, length_risen, rises_right}
use Rattle.sweep.proofs.Fallen.{falls_right}
use Rattle.tallying.specs.Bits.{RisenBits, FallenBits, RiseBits, FallBits}
use Rattle.tallying.proofs.Stages.{risen_join}

-- a rise writes the words of its nodes alone
risen_keeps : (rows : List Row) (cs : List Command) (v k : ℕ) (ws : List ℕ) (u : ℕ) → (u < v) ⊎ (v + k ≤ u) → get_or (risen rows cs v k ws) u 0 ≡ get_or ws u 0
risen_keeps rows cs v zero ws u out = refl
risen_keeps rows cs v (suc k) ws u out =
    let later = risen rows cs (suc v) k ws in
    get_or-set_other later v u (word_at rows cs later v) 0 (apart out) ∙ risen_keeps rows cs (suc v) k ws u (wider out)
  where
    apart : (u < v) ⊎ (v + suc k ≤ u) → ¬ (u ≡ v)
    apart (inl h) e = omega arith
    apart (inr h) e = omega arith

    wider : (u < v) ⊎ (v + suc k ≤ u) → (u < suc v) ⊎ (suc v + k ≤ u)
    wider (inl h) = inl (omega arith)
    wider (inr h) = inr (omega arith)

module _ (bytes : List ℕ) (P : Program) (rows : List Row) (ws : List ℕ) (d : Denotes bytes P) (ok : Lawful rows) (room : count rows ≤ length ws) where
  full : List ℕ
  full = risen rows (commands_of bytes) 0 (count rows) ws

  rose : Rose P rows full
  unfolding full
  rose = rises_right bytes P rows ws (denoted bytes P d) d.0 ok room

  part : (left : ℕ) → left ≤ count rows → (v : ℕ) → left ≤ v → get_or (risen rows (commands_of bytes) left (count rows - left) ws) v 0 ≡ get_or full v 0
  unfolding full
  part left h v l =
      let cs = commands_of bytes in
      let some = risen rows cs left (count rows - left) ws in
      let z : 0 + left ≡ left = omega arith in
      let n : left + (count rows - left) ≡ count rows = omega arith in
      let on : risen rows cs 0 left some ≡ risen rows cs 0 (count rows) ws =
      ap (λ (x : ℕ). risen rows cs 0 left (risen rows cs x (count rows - left) ws)) (sym z) ∙ risen_join rows cs 0 left (count rows - left) ws ∙ ap (λ (k : ℕ). risen rows cs 0 k ws) n in
      sym (risen_keeps rows cs 0 left some v (inr (omega arith))) ∙ ap (λ (l : List ℕ). get_or l v 0) on

  decided : (i v : ℕ) → i < length P.deciding → v < count rows → T (bit (get_or full v 0) i) ↔ Decides P rows i v
  decided i v h l = (agreeing P (decisions full) rows ok d.0 rose.right).decides i v h l

  risen_part : (left : ℕ) → left ≤ count rows → RisenBits P rows left (risen rows (commands_of bytes) left (count rows - left) ws)
  risen_part left h = record {
    deciding = λ i v a l b. Iff.trans (T_same (ap (λ (w : ℕ). bit w i) (part left h v l))) (decided i v a b);
    others = λ i v a l b. Iff.trans (T_same (ap (λ (w : ℕ). bit w i) (part left h v l))) (rose.clear i v a b);
  }

  long : count rows ≤ length full
  unfolding full
  long = omega (arith, length_risen rows (commands_of bytes) 0 (count rows) ws)

  fallen_part : (next : ℕ) → next ≤ count rows → FallenBits P rows next (fallen rows (after_deciding (commands_of bytes)) 0 next full)
  fallen_part next h =
      let fell = falls_right bytes P rows full (denoted bytes P d) d.0 ok long rose next h in
      let few = d.0.deciding_few in
      record {
        deciding = λ i v a b. Iff.trans (T_same (fell.low i v (omega arith) b)) (decided i v a b);
        sending = λ j v b. Iff.trans (fell.high j v b) ((agreeing P (decisions full) rows ok d.0 rose.right).comes next j v);
        others = λ i v a c b t. let y = ((rose.clear i v a b).0 ((T_same (fell.low i v c b)).0 t)).0 in omega arith;
      }

pub rise_bits : RiseBits
rise_bits bytes P rows ws left d ok room h =
    (risen_part bytes P rows ws d ok room left h, λ u out. risen_keeps rows (commands_of bytes) left (count rows - left) ws u (past out))
  where
    past : {u : ℕ} → (u < left) ⊎ (count rows ≤ u) → (u < left) ⊎ (left + (count rows - left) ≤ u)
    past (inl x) = inl x
    past (inr x) = inr (omega arith)

-- a fall writes words of nodes alone
module _ (rows : List Row) (u : ℕ) (out : count rows ≤ u) where
  entered_keeps : (q : ℕ) (R : ℕ → Type 0) (o : Option ℕ) (ws : List ℕ) → Answers o R → ((w : ℕ) → R w → w < count rows) → get_or (entered q o ws) u 0 ≡ get_or ws u 0
  entered_keeps q R None ws a within = refl
  entered_keeps q R (Some w) ws a within = let h = within w a in get_or-set_other ws w u (with_bit (get_or ws w 0) (40 + q)) 0 (λ e. let z : u ≡ w = e in omega arith)

  module _ (v : ℕ) (h : v < count rows) where
    made_keeps : (m : Move) (ws : List ℕ) → get_or (made m (place_at rows v) ws) u 0 ≡ get_or ws u 0
    made_keeps (Down q) ws = entered_keeps q (FirstChild rows v) (first_of rows v) ws (questions rows v h).0 (λ w r. r.1)
    made_keeps (On q) ws = entered_keeps q (NextSibling rows v) (next_of rows v) ws (questions rows v h).1 (λ w r. r.1)
    made_keeps (Stay q) ws = entered_keeps q (λ w. v ≡ w) (Some v) ws refl (λ w r. subst (λ (x : ℕ). x < count rows) r h)
    made_keeps Mark ws = refl

    maybe_keeps : (c : Bool) (m : Move) (ws : List ℕ) → get_or (cond c (made m (place_at rows v) ws) ws) u 0 ≡ get_or ws u 0
    maybe_keeps true m ws = made_keeps m ws
    maybe_keeps false m ws = refl

    sent_keeps : (cs : List Command) (j : ℕ) (c : Bool) (ws : List ℕ) → get_or (sent (place_at rows v) cs j c ws) u 0 ≡ get_or ws u 0
    sent_keeps [] j c ws = refl
    sent_keeps (Value x ∷ cs) j c ws = refl
    sent_keeps (And ∷ cs) j c ws = refl
    sent_keeps (Or ∷ cs) j c ws = refl
    sent_keeps (Not ∷ cs) j c ws = refl
    sent_keeps (Define ∷ cs) j c ws = refl
    sent_keeps (When p ∷ cs) j c ws = sent_keeps cs j (acting (get_or ws v 0) j p) ws
    sent_keeps (Make m ∷ cs) j c ws = sent_keeps cs j c (cond c (made m (place_at rows v) ws) ws) ∙ maybe_keeps c m ws
    sent_keeps (Done ∷ cs) j c ws = sent_keeps cs (j + 1) false ws
    sent_keeps (End ∷ cs) j c ws = refl

  fallen_keeps : (cs : List Command) (k v : ℕ) (ws : List ℕ) → v + k ≤ count rows → get_or (fallen rows cs v k ws) u 0 ≡ get_or ws u 0
  fallen_keeps cs zero v ws fit = refl
  fallen_keeps cs (suc k) v ws fit = fallen_keeps cs k (suc v) (sent (place_at rows v) cs 0 false ws) (omega arith) ∙ sent_keeps v (omega arith) cs 0 false ws

pub fall_bits : FallBits
unfolding full
fall_bits bytes P rows ws next d ok room h = (
  fallen_part bytes P rows ws d ok room next h,
  λ u out. fallen_keeps rows u out (after_deciding (commands_of bytes)) next 0 (risen rows (commands_of bytes) 0 (count rows) ws) (omega arith)
      ∙ risen_keeps rows (commands_of bytes) 0 (count rows) ws u (inr (omega arith)),
)
