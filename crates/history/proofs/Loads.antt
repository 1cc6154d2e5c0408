-- Bytes are accepted exactly when they mean a program that keeps the rules.
use Rattle.std.proofs.Common.{◌≡◌, ℕ, Bool, true, leb, List, length, Some, None, Option, refl, ap, ◌∙◌}
use Rattle.std.proofs.lemmas.Bool.{false≢true, le-leb, leb-true, and_parts, and_from}
use Rattle.commands.specs.declared.counts.Counts.{Counts}
use Rattle.commands.specs.Commands.{commands_of}
use Rattle.commands.specs.Checked.{all_keep, surveyed, thence, accepted, Loadable}
use Rattle.commands.proofs.Checks.{accepts, loadable_short, loadable_survey, loadable_keeps}

abbrev kept : List ℕ → Option Counts → Bool
kept bs o = thence o (λ n. all_keep n (commands_of bs))

pub accepted_loads : (bs : List ℕ) → accepted bs ≡ true → Loadable bs
accepted_loads bs e = go (surveyed bs) refl h.1
  where
    h : (leb (length bs) 2048 ≡ true) × (kept bs (surveyed bs) ≡ true)
    h = and_parts (leb (length bs) 2048) (kept bs (surveyed bs)) e

    go : (o : Option Counts) → surveyed bs ≡ o → kept bs o ≡ true → Loadable bs
    go None q k = absurd (false≢true k)
    go (Some N) q k = accepts bs N (leb-true (length bs) 2048 h.0) q k

pub loads_accepted : (bs : List ℕ) → Loadable bs → accepted bs ≡ true
loads_accepted bs l =
    and_from (leb (length bs) 2048) (kept bs (surveyed bs)) (le-leb (length bs) 2048 (loadable_short bs l)) (ap (kept bs) (loadable_survey bs l) ∙ loadable_keeps bs l)
