-- The parts of a spelling.
use Rattle.std.specs.Prelude.{◌≡◌, ℕ, ◌+◌, ◌<◌, ◌≤◌, Bool, true, false, List, [], ◌∷◌, Some, None, Option}
use Rattle.grammar.specs.declared.tokens.Symbol.{Symbol}
use Rattle.grammar.specs.declared.tokens.Symbol.TheVariants.{LeftParen, RightParen, DoubleColon}
use Rattle.grammar.specs.Tokens.{Token, symbol, word}
use Rattle.grammar.specs.Syntax.{Axis, NodeTest, Path, first, more, Filter, Pred, some, not, and, or, in_filter}
use Rattle.grammar.specs.Machine.{Where, outer, inner}
use Rattle.grammar.specs.Spelling.{slash_t, axis_t, test_t, filter_t, Place, low, mid, high}
use Rattle.query.specs.declared.table.Table.{Table}
use Rattle.query.specs.Shown.{axis_of, ShowsTest, ShowsFilter, step_at, index, taken, preds_filter}
use Rattle.spelling.specs.declared.parts.Place.TheVariants.{Low, Middle, High}
use Rattle.spelling.specs.declared.parts.Place as places

abbrev pub place_of : places.Place → Place
place_of Low = low
place_of Middle = mid
place_of High = high

abbrev pub most : Where → ℕ
most outer = 16
most inner = 23

-- what stands before a node test
abbrev pub lead_t : Bool → Axis → List Token → List Token
lead_t true v us = slash_t v us
lead_t false v us = axis_t v us

abbrev pub named_t : List ℕ → List Token → List Token
named_t z us = word z ∷ symbol DoubleColon ∷ us

abbrev pub type_t : List ℕ → List Token → List Token
type_t z us = word z ∷ symbol LeftParen ∷ symbol RightParen ∷ us

abbrev pub name_t : List ℕ → List Token → List Token
name_t z us = word z ∷ us

-- a symbol, where it is wanted
abbrev pub only : Symbol → Bool → List Token → List Token
only s true us = symbol s ∷ us
only s false us = us

-- the steps of a path, from one on
pub data Part : Type 0 where
  part : Axis → NodeTest → Filter → Part

abbrev pub rest_t : Bool → List Part → List Token → List Token
rest_t r [] us = us
rest_t r (part v t f ∷ ps) us = lead_t r v (test_t t (filter_t f (rest_t true ps us)))

abbrev pub parts : Path → List Part → List Part
parts (first r v t f) ps = part v t f ∷ ps
parts (more x v t f) ps = parts x (part v t f ∷ ps)

abbrev pub root : Path → Bool
root (first r v t f) = r
root (more x v t f) = root x

abbrev pub ShowsFrom : Where → List ℕ → Table → Option ℕ → List Part → ℕ → ℕ → ℕ → Type 0
ShowsFrom w bs q o [] s a c = o ≡ None
ShowsFrom w bs q o (part v t f ∷ ps) s a c =
    (o ≡ Some (index w s a)) × (index w s a < most w) × (a + taken w + in_filter f ≤ 23) × (axis_of (step_at w q (index w s a)).axis ≡ v) × ShowsTest bs (step_at w q (index w s a)).test t × ShowsFilter bs q (step_at w q (index w s a)).bracket f (a + taken w) c × ShowsFrom w bs q (step_at w q (index w s a)).next ps (s + 1) (a + taken w + in_filter f) (c + preds_filter f)

abbrev pub preds_parts : List Part → ℕ
preds_parts [] = 0
preds_parts (part v t f ∷ ps) = preds_filter f + preds_parts ps

abbrev pub nots : Pred → ℕ
nots (some x) = 0
nots (not p) = nots p + 1
nots (and p q) = 0
nots (or p q) = 0

-- a number above another
abbrev pub Later : Option ℕ → ℕ → Option ℕ → Type 0
Later None i r = r ≡ None
Later (Some k) i r = (i < k → r ≡ Some k) × (k ≤ i → r ≡ None)
