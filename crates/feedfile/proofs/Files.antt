-- What reading a feed file tells.
use Rattle.std.proofs.Common.{◌≡◌, ℕ, zero, suc, ◌+◌, ◌-◌, ◌≤◌, List, [], ◌∷◌, length, drop, Some, None, Ok, Err, Option, Result, sym, refl, ap, subst, arith}
use Rattle.growth.specs.declared.command.Command.{Command}
use Rattle.growth.specs.declared.fault.Fault.{Fault}
use Rattle.growth.specs.Steps.{Fed, begun, seal_check}
use Rattle.growth.specs.Commands.{step_check, stepped, store_after}
use Rattle.growth.proofs.Histories.{feeds_show, names_stand}
use Rattle.feedfile.specs.declared.command.FileCommand.{FileCommand}
use Rattle.feedfile.specs.declared.command.FileCommand.TheVariants.{Feed, Seal}
use Rattle.feedfile.specs.declared.command.FileFault.{FileFault}
use Rattle.feedfile.specs.Bytes.{command_of, width, with_rest}
use Rattle.feedfile.specs.Reading.{Told, reading, next, granted, sealed_at, sealing}
use Rattle.feedfile.specs.Files.{Decodes, Ends, Tells}
use Rattle.feedfile.specs.Claims.{ReadingTells, FileShows}
use Rattle.feedfile.proofs.Takes.{splits, shorter}

abbrev Go : Type 0
Go = ℕ → Fed → List (List ℕ) → Told

-- the command c stands first, and then the feed answers it
answered : (n b : ℕ) (bs : List ℕ) (go : Go) (f : Fed) (ss : List (List ℕ)) (c : Command) (r : Result (Unit {0}) Fault) → command_of b bs ≡ Some (Feed c) → step_check f ss c ≡ r →
    ((k : ℕ) (g : Fed) (us : List (List ℕ)) → Tells n (drop k bs) g us (go k g us)) → Tells n (b ∷ bs) f ss (granted go (n - length (b ∷ bs)) f ss c r)
answered n b bs go f ss c (Err e) is a later =
    record { commands = []; rest = b ∷ bs; read = refl; fed = (refl, refl); ends = (refl, (c, drop (width c) bs, ap (with_rest bs) is, a)) }
answered n b bs go f ss c (Ok x) is a later =
    let l = later (width c) (stepped f c) (store_after (Ok x) f.names ss c) in
    record { commands = c ∷ l.commands; rest = l.rest; read = (drop (width c) bs, ap (with_rest bs) is, l.read); fed = (a, l.fed); ends = l.ends }

first : (n b : ℕ) (bs : List ℕ) (go : Go) (f : Fed) (ss : List (List ℕ)) (o : Option FileCommand) → command_of b bs ≡ o →
    ((k : ℕ) (g : Fed) (us : List (List ℕ)) → Tells n (drop k bs) g us (go k g us)) → Tells n (b ∷ bs) f ss (next go (n - length (b ∷ bs)) f ss o)
first n b bs go f ss None is later = record { commands = []; rest = b ∷ bs; read = refl; fed = (refl, refl); ends = (refl, ap (with_rest bs) is) }
first n b bs go f ss (Some Seal) is later = record { commands = []; rest = b ∷ bs; read = refl; fed = (refl, refl); ends = (refl, (bs, ap (with_rest bs) is)) }
first n b bs go f ss (Some (Feed c)) is later = answered n b bs go f ss c (step_check f ss c) is refl later

tells : (n k : ℕ) (bs : List ℕ) (f : Fed) (ss : List (List ℕ)) → Tells n (drop k bs) f ss (reading n k bs f ss)
tells n zero [] f ss = record { commands = []; rest = []; read = refl; fed = (refl, refl); ends = (omega arith, refl) }
tells n (suc k) [] f ss = record { commands = []; rest = []; read = refl; fed = (refl, refl); ends = (omega arith, refl) }
tells n zero (b ∷ bs) f ss = first n b bs (λ k g us. reading n k bs g us) f ss (command_of b bs) refl (λ k g us. tells n k bs g us)
tells n (suc k) (b ∷ bs) f ss = tells n k bs f ss

pub reading_tells : ReadingTells
reading_tells file f ss = tells (length file) 0 file f ss

decodes_shorter : (bs rest : List ℕ) (cs : List Command) → Decodes bs cs rest → length rest ≤ length bs
decodes_shorter bs rest [] d = omega (arith, ap length d)
decodes_shorter bs rest (c ∷ cs) d =
    let less = shorter bs d.0 (Feed c) d.1 in
    let more = decodes_shorter d.0 rest cs d.2 in
    omega arith

-- an answer that grants the whole file: SEAL was met and granted
record Sealing (r : Result ℕ FileFault) (f : Fed) (d e : ℕ) : Type 0 where
  pub place : ℕ
  pub met : r ≡ Ok place
  pub granted : seal_check f d ≡ Ok tt
  pub after : e ≡ place + 1

seal_at : (p e : ℕ) (f : Fed) (d : ℕ) (s : Result (Unit {0}) Fault) → seal_check f d ≡ s → sealed_at p s ≡ Ok e → Sealing (Ok p) f d e
seal_at p e f d (Ok x) is a = let same : p + 1 ≡ e = cc in record { place = p; met = refl; granted = is; after = sym same }
seal_at p e f d (Err x) is a = let z : ◌≡◌ {A = ℕ} 0 1 = cc in absurd (omega arith)

seals : (r : Result ℕ FileFault) (e : ℕ) (f : Fed) (d : ℕ) → sealing r f d ≡ Ok e → Sealing r f d e
seals (Ok p) e f d a = seal_at p e f d (seal_check f d) refl a
seals (Err x) e f d a = let z : ◌≡◌ {A = ℕ} 0 1 = cc in absurd (omega arith)

pub file_shows : FileShows
file_shows file bits labels ss directory new t e begins is answer left =
    let w : Tells (length file) file (begun bits labels) ss t = subst (Tells (length file) file (begun bits labels) ss) (sym is) (reading_tells file (begun bits labels) ss) in
    let s = seals t.answer e t.feed (length directory) answer in
    let ends : Ends (length file) (Ok s.place) w.rest t.feed t.store =
    subst (λ (r : Result ℕ FileFault). Ends (length file) r w.rest t.feed t.store) s.met w.ends in
    let shown = feeds_show w.commands bits labels ss t.store t.feed new directory begins w.fed s.granted left in
    let rest-inside = decodes_shorter file w.rest w.commands w.read in
    let last = splits w.rest ends.1.0 Seal ends.1.1 in (
      shown.0,
      shown.1,
      record {
        commands = w.commands;
        rest = w.rest;
        after = ends.1.0;
        read = w.read;
        ends = ends.1.1;
        place = omega (arith, ends.0, s.after, ap length last.whole, ap length last.after);
        shown = shown.2;
        names = names_stand w.commands bits labels ss t.store t.feed w.fed;
      },
    )
