use Rattle.std.proofs.Common.{◌≡◌, Bool, true, false, length, codes, refl, ap}
use Rattle.grammar.specs.Syntax.{child, descendant, name, text, first, more, plain, holds, some, not, and, or}
use Rattle.std.proofs.lemmas.Bool.{lt-ltb}
use Rattle.grammar.specs.Tokens.{tokens_at}
use Rattle.grammar.specs.Machine.{begin, top, Outcome, accepted, refused, run, outcome}
use Rattle.grammar.specs.Claims.{Worked, Long}

one : outcome (codes "/card/warn") ≡ accepted (more (first true child (name (codes "card")) plain) child (name (codes "warn")) plain)
one = refl

two : outcome (codes "//warn[not(text()) or (a and b)]") ≡ accepted (first true descendant (name (codes "warn")) (holds (or (not (some (first false child text plain))) (and (some (first false child (name (codes "a")) plain)) (some (first false child (name (codes "b")) plain))))))
two = refl

pub worked : Worked
worked = record { empty = refl; colon = refl; foo = refl; deep = refl; early = refl }

abbrev sized : Bool → Outcome → Outcome
sized t x = elim t [ true ↦ refused 1 512 | false ↦ x ]

pub long : Long
long bs h = ap (λ t. sized t (run (length bs) (begin top) 12 16 23 (tokens_at bs 0))) (lt-ltb 512 (length bs) h)
