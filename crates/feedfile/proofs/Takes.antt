-- The first command of bytes, apart.
use Rattle.std.proofs.Common.{◌≡◌, ℕ, ◌<◌, List, [], ◌∷◌, length, drop, Some, None, Option, sym, refl, ap, ◌∙◌, arith, length-drop}
use Rattle.feedfile.specs.declared.command.FileCommand.{FileCommand}
use Rattle.feedfile.specs.Bytes.{Taken, taken, command_of, file_width, with_rest}

-- where there is a command, the bytes are an opcode and others, and the rest comes after its operands
pub record Splits (bs : List ℕ) (c : FileCommand) (rest : List ℕ) : Type 0 where
  pub op : ℕ
  pub others : List ℕ
  pub whole : bs ≡ op ∷ others
  pub command : command_of op others ≡ Some c
  pub after : rest ≡ drop (file_width c) others

first : FileCommand → Taken → FileCommand
first c None = c
first c (Some t) = t.0

second : List ℕ → Taken → List ℕ
second bs None = bs
second bs (Some t) = t.1

split_at : (op : ℕ) (bs rest : List ℕ) (c : FileCommand) (o : Option FileCommand) → command_of op bs ≡ o → with_rest bs o ≡ Some (c, rest) → Splits (op ∷ bs) c rest
unfolding first second
split_at op bs rest c None e t = let z : ◌≡◌ {A = ℕ} 0 1 = cc in absurd (omega arith)
split_at op bs rest c (Some d) e t =
    let same : d ≡ c = ap (first c) t in
    let left : drop (file_width d) bs ≡ rest = ap (second rest) t in
    record { op = op; others = bs; whole = refl; command = e ∙ ap (λ (x : FileCommand). Some x) same; after = sym left ∙ ap (λ (x : FileCommand). drop (file_width x) bs) same }

pub splits : (bs rest : List ℕ) (c : FileCommand) → taken bs ≡ Some (c, rest) → Splits bs c rest
splits [] rest c t = let z : ◌≡◌ {A = ℕ} 0 1 = cc in absurd (omega arith)
splits (op ∷ bs) rest c t = split_at op bs rest c (command_of op bs) refl t

pub shorter : (bs rest : List ℕ) (c : FileCommand) → taken bs ≡ Some (c, rest) → length rest < length bs
shorter bs rest c t =
    let s = splits bs rest c t in
    omega (arith, ap length s.whole, ap length s.after, length-drop (file_width c) s.others)
