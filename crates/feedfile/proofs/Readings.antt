-- One command of a file read.
use Rattle.std.proofs.Common.{◌≡◌, ℕ, zero, suc, ◌-◌, List, [], ◌∷◌, length, drop, Some, Ok, Err, Result, sym, refl, ap, ◌∙◌}
use Rattle.growth.specs.declared.command.Command.{Command}
use Rattle.growth.specs.declared.command.Command.TheVariants.{Open, Shut, Text, Name}
use Rattle.growth.specs.declared.fault.Fault.{Fault}
use Rattle.growth.specs.Steps.{Fed, after}
use Rattle.growth.specs.Commands.{step_check, stepped, store_after}
use Rattle.feedfile.specs.declared.command.FileCommand.{FileCommand}
use Rattle.feedfile.specs.declared.command.FileCommand.TheVariants.{Feed}
use Rattle.feedfile.specs.declared.command.FileFault.TheVariants.{Refused}
use Rattle.feedfile.specs.Bytes.{taken, width}
use Rattle.feedfile.specs.Reading.{told, reading, next, granted}
use Rattle.feedfile.proofs.Takes.{Splits, splits}

-- the operands passed over
past : (n k : ℕ) (bs : List ℕ) (f : Fed) (ss : List (List ℕ)) → reading n k bs f ss ≡ reading n 0 (drop k bs) f ss
past n zero bs f ss = refl
past n (suc k) [] f ss = refl
past n (suc k) (b ∷ bs) f ss = past n k bs f ss

-- a file whose first command is c
step : (n : ℕ) (bs rest : List ℕ) (c : FileCommand) (f : Fed) (ss : List (List ℕ)) → taken bs ≡ Some (c, rest) →
    (s : Splits bs c rest) → reading n 0 bs f ss ≡ next (λ (k : ℕ) (g : Fed) (us : List (List ℕ)). reading n k s.others g us) (n - length bs) f ss (Some c)
step n bs rest c f ss t s =
    ap (λ (l : List ℕ). reading n 0 l f ss) s.whole
    ∙ ap (next (λ (k : ℕ) (g : Fed) (us : List (List ℕ)). reading n k s.others g us) (n - length (s.op ∷ s.others)) f ss) s.command
    ∙ ap (λ (l : List ℕ). next (λ (k : ℕ) (g : Fed) (us : List (List ℕ)). reading n k s.others g us) (n - length l) f ss (Some c)) (sym s.whole)

store_kept : (e : Fault) (k : ℕ) (ss : List (List ℕ)) (c : Command) → store_after (Err e) k ss c ≡ ss
store_kept e k ss (Open x) = refl
store_kept e k ss Shut = refl
store_kept e k ss Text = refl
store_kept e k ss (Name s) = refl

pub refuse : (n : ℕ) (bs rest : List ℕ) (f g : Fed) (ss us : List (List ℕ)) (c : Command) (e : Fault) → taken bs ≡ Some (Feed c, rest) → Err e ≡ step_check f ss c →
    g ≡ after (step_check f ss c) f (stepped f c) → us ≡ store_after (step_check f ss c) f.names ss c →
    told (Err (Refused e (n - length bs))) g us ≡ reading n 0 bs f ss
refuse n bs rest f g ss us c e t a l s =
    let x : g ≡ f = l ∙ sym (ap (λ (r : Result (Unit {0}) Fault). after r f (stepped f c)) a) in
    let y : us ≡ ss = s ∙ sym (ap (λ (r : Result (Unit {0}) Fault). store_after r f.names ss c) a) ∙ store_kept e f.names ss c in
    let w = splits bs rest (Feed c) t in
    ap (λ (h : Fed). told (Err (Refused e (n - length bs))) h us) x ∙ ap (told (Err (Refused e (n - length bs))) f) y
    ∙ ap (granted (λ (k : ℕ) (h : Fed) (qs : List (List ℕ)). reading n k w.others h qs) (n - length bs) f ss c) a
    ∙ sym (step n bs rest (Feed c) f ss t w)

pub go_on : (n : ℕ) (bs rest : List ℕ) (f g : Fed) (ss us : List (List ℕ)) (c : Command) → taken bs ≡ Some (Feed c, rest) → Ok tt ≡ step_check f ss c →
    g ≡ after (step_check f ss c) f (stepped f c) → us ≡ store_after (step_check f ss c) f.names ss c →
    reading n 0 rest g us ≡ reading n 0 bs f ss
go_on n bs rest f g ss us c t a l s =
    let x : g ≡ stepped f c = l ∙ sym (ap (λ (r : Result (Unit {0}) Fault). after r f (stepped f c)) a) in
    let y : us ≡ store_after (Ok tt) f.names ss c = s ∙ sym (ap (λ (r : Result (Unit {0}) Fault). store_after r f.names ss c) a) in
    let w = splits bs rest (Feed c) t in
    let gs = store_after (Ok tt) f.names ss c in
    ap (λ (l : List ℕ). reading n 0 l g us) w.after ∙ ap (λ (h : Fed). reading n 0 (drop (width c) w.others) h us) x
    ∙ ap (reading n 0 (drop (width c) w.others) (stepped f c)) y ∙ sym (past n (width c) w.others (stepped f c) gs)
    ∙ ap (granted (λ (k : ℕ) (h : Fed) (qs : List (List ℕ)). reading n k w.others h qs) (n - length bs) f ss c) a
    ∙ sym (step n bs rest (Feed c) f ss t w)
