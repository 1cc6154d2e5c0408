-- A test of rows, which decides whether they are lawful.
use Rattle.std.specs.Prelude.{◌≡◌, ℕ, suc, Bool, true, false, cond, ◌&&◌, List, [], ◌∷◌, length, ◌==◌, nat_le}
use Rattle.rows.specs.Rows.{Row}

-- a label of a text or an element
abbrev pub inner_label : ℕ → Bool
inner_label c = nat_le 1 c && nat_le c 513

-- the deepest row that may follow a row: one deeper, but not below a text
abbrev pub reach : Row → ℕ
reach r = cond (r.label == 1) r.depth (suc r.depth)

-- each row after a row p lies below the root, has a label of its own and is at most one deeper than the one before
abbrev pub follow : Row → List Row → Bool
follow p [] = true
follow p (r ∷ rs) = (nat_le 1 r.depth && nat_le r.depth (reach p) && inner_label r.label) && follow r rs

-- the root, then rows that follow, at most 8192 in all
abbrev pub lawful : List Row → Bool
lawful [] = false
lawful (r ∷ rs) = (r.depth == 0 && r.label == 0 && nat_le (length rs) 8191) && follow r rs

abbrev pub IsLawful : List Row → Type 0
IsLawful rows = lawful rows ≡ true
