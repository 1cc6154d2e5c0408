-- Where the two parentheses of a node stand.
use Rattle.std.specs.Prelude.{ℕ, cond, List, Some, None, Option, nat_lt}
use Rattle.rows.specs.Rows.{Row, count_of}
use Rattle.shape.specs.Laws.{opening_place, closing_place}
use Rattle.parens.specs.declared.places.Places.{Places}

abbrev pub places_of : List Row → ℕ → Option Places
places_of rows v = cond (nat_lt v (count_of rows)) (Some (record { opening = opening_place rows v; closing = closing_place rows v })) None
