-- The two tables, as the source has them.
use Rattle.std.proofs.Common.{List, [], ◌∷◌, ℤ, pos, negsuc}

abbrev pub totals : List ℤ
totals =
    negsuc 7 ∷ negsuc 5 ∷ negsuc 5 ∷ negsuc 3 ∷ negsuc 5 ∷ negsuc 3 ∷ negsuc 3 ∷ negsuc 1 ∷ negsuc 5 ∷ negsuc 3 ∷ negsuc 3 ∷ negsuc 1 ∷ negsuc 3 ∷ negsuc 1 ∷ negsuc 1 ∷ pos 0 ∷
    negsuc 5 ∷ negsuc 3 ∷ negsuc 3 ∷ negsuc 1 ∷ negsuc 3 ∷ negsuc 1 ∷ negsuc 1 ∷ pos 0 ∷ negsuc 3 ∷ negsuc 1 ∷ negsuc 1 ∷ pos 0 ∷ negsuc 1 ∷ pos 0 ∷ pos 0 ∷ pos 2 ∷
    negsuc 5 ∷ negsuc 3 ∷ negsuc 3 ∷ negsuc 1 ∷ negsuc 3 ∷ negsuc 1 ∷ negsuc 1 ∷ pos 0 ∷ negsuc 3 ∷ negsuc 1 ∷ negsuc 1 ∷ pos 0 ∷ negsuc 1 ∷ pos 0 ∷ pos 0 ∷ pos 2 ∷
    negsuc 3 ∷ negsuc 1 ∷ negsuc 1 ∷ pos 0 ∷ negsuc 1 ∷ pos 0 ∷ pos 0 ∷ pos 2 ∷ negsuc 1 ∷ pos 0 ∷ pos 0 ∷ pos 2 ∷ pos 0 ∷ pos 2 ∷ pos 2 ∷ pos 4 ∷
    negsuc 5 ∷ negsuc 3 ∷ negsuc 3 ∷ negsuc 1 ∷ negsuc 3 ∷ negsuc 1 ∷ negsuc 1 ∷ pos 0 ∷ negsuc 3 ∷ negsuc 1 ∷ negsuc 1 ∷ pos 0 ∷ negsuc 1 ∷ pos 0 ∷ pos 0 ∷ pos 2 ∷
    negsuc 3 ∷ negsuc 1 ∷ negsuc 1 ∷ pos 0 ∷ negsuc 1 ∷ pos 0 ∷ pos 0 ∷ pos 2 ∷ negsuc 1 ∷ pos 0 ∷ pos 0 ∷ pos 2 ∷ pos 0 ∷ pos 2 ∷ pos 2 ∷ pos 4 ∷
    negsuc 3 ∷ negsuc 1 ∷ negsuc 1 ∷ pos 0 ∷ negsuc 1 ∷ pos 0 ∷ pos 0 ∷ pos 2 ∷ negsuc 1 ∷ pos 0 ∷ pos 0 ∷ pos 2 ∷ pos 0 ∷ pos 2 ∷ pos 2 ∷ pos 4 ∷
    negsuc 1 ∷ pos 0 ∷ pos 0 ∷ pos 2 ∷ pos 0 ∷ pos 2 ∷ pos 2 ∷ pos 4 ∷ pos 0 ∷ pos 2 ∷ pos 2 ∷ pos 4 ∷ pos 2 ∷ pos 4 ∷ pos 4 ∷ pos 6 ∷
    negsuc 5 ∷ negsuc 3 ∷ negsuc 3 ∷ negsuc 1 ∷ negsuc 3 ∷ negsuc 1 ∷ negsuc 1 ∷ pos 0 ∷ negsuc 3 ∷ negsuc 1 ∷ negsuc 1 ∷ pos 0 ∷ negsuc 1 ∷ pos 0 ∷ pos 0 ∷ pos 2 ∷
    negsuc 3 ∷ negsuc 1 ∷ negsuc 1 ∷ pos 0 ∷ negsuc 1 ∷ pos 0 ∷ pos 0 ∷ pos 2 ∷ negsuc 1 ∷ pos 0 ∷ pos 0 ∷ pos 2 ∷ pos 0 ∷ pos 2 ∷ pos 2 ∷ pos 4 ∷
    negsuc 3 ∷ negsuc 1 ∷ negsuc 1 ∷ pos 0 ∷ negsuc 1 ∷ pos 0 ∷ pos 0 ∷ pos 2 ∷ negsuc 1 ∷ pos 0 ∷ pos 0 ∷ pos 2 ∷ pos 0 ∷ pos 2 ∷ pos 2 ∷ pos 4 ∷
    negsuc 1 ∷ pos 0 ∷ pos 0 ∷ pos 2 ∷ pos 0 ∷ pos 2 ∷ pos 2 ∷ pos 4 ∷ pos 0 ∷ pos 2 ∷ pos 2 ∷ pos 4 ∷ pos 2 ∷ pos 4 ∷ pos 4 ∷ pos 6 ∷
    negsuc 3 ∷ negsuc 1 ∷ negsuc 1 ∷ pos 0 ∷ negsuc 1 ∷ pos 0 ∷ pos 0 ∷ pos 2 ∷ negsuc 1 ∷ pos 0 ∷ pos 0 ∷ pos 2 ∷ pos 0 ∷ pos 2 ∷ pos 2 ∷ pos 4 ∷
    negsuc 1 ∷ pos 0 ∷ pos 0 ∷ pos 2 ∷ pos 0 ∷ pos 2 ∷ pos 2 ∷ pos 4 ∷ pos 0 ∷ pos 2 ∷ pos 2 ∷ pos 4 ∷ pos 2 ∷ pos 4 ∷ pos 4 ∷ pos 6 ∷
    negsuc 1 ∷ pos 0 ∷ pos 0 ∷ pos 2 ∷ pos 0 ∷ pos 2 ∷ pos 2 ∷ pos 4 ∷ pos 0 ∷ pos 2 ∷ pos 2 ∷ pos 4 ∷ pos 2 ∷ pos 4 ∷ pos 4 ∷ pos 6 ∷
    pos 0 ∷ pos 2 ∷ pos 2 ∷ pos 4 ∷ pos 2 ∷ pos 4 ∷ pos 4 ∷ pos 6 ∷ pos 2 ∷ pos 4 ∷ pos 4 ∷ pos 6 ∷ pos 4 ∷ pos 6 ∷ pos 6 ∷ pos 8 ∷
    []

abbrev pub leasts : List ℤ
leasts =
    negsuc 7 ∷ negsuc 6 ∷ negsuc 5 ∷ negsuc 5 ∷ negsuc 5 ∷ negsuc 4 ∷ negsuc 4 ∷ negsuc 4 ∷ negsuc 5 ∷ negsuc 4 ∷ negsuc 3 ∷ negsuc 3 ∷ negsuc 3 ∷ negsuc 3 ∷ negsuc 3 ∷ negsuc 3 ∷
    negsuc 5 ∷ negsuc 4 ∷ negsuc 3 ∷ negsuc 3 ∷ negsuc 3 ∷ negsuc 2 ∷ negsuc 2 ∷ negsuc 2 ∷ negsuc 3 ∷ negsuc 2 ∷ negsuc 2 ∷ negsuc 2 ∷ negsuc 2 ∷ negsuc 2 ∷ negsuc 2 ∷ negsuc 2 ∷
    negsuc 5 ∷ negsuc 4 ∷ negsuc 3 ∷ negsuc 3 ∷ negsuc 3 ∷ negsuc 2 ∷ negsuc 2 ∷ negsuc 2 ∷ negsuc 3 ∷ negsuc 2 ∷ negsuc 1 ∷ negsuc 1 ∷ negsuc 1 ∷ negsuc 1 ∷ negsuc 1 ∷ negsuc 1 ∷
    negsuc 3 ∷ negsuc 2 ∷ negsuc 1 ∷ negsuc 1 ∷ negsuc 1 ∷ negsuc 1 ∷ negsuc 1 ∷ negsuc 1 ∷ negsuc 1 ∷ negsuc 1 ∷ negsuc 1 ∷ negsuc 1 ∷ negsuc 1 ∷ negsuc 1 ∷ negsuc 1 ∷ negsuc 1 ∷
    negsuc 5 ∷ negsuc 4 ∷ negsuc 3 ∷ negsuc 3 ∷ negsuc 3 ∷ negsuc 2 ∷ negsuc 2 ∷ negsuc 2 ∷ negsuc 3 ∷ negsuc 2 ∷ negsuc 1 ∷ negsuc 1 ∷ negsuc 1 ∷ negsuc 1 ∷ negsuc 1 ∷ negsuc 1 ∷
    negsuc 3 ∷ negsuc 2 ∷ negsuc 1 ∷ negsuc 1 ∷ negsuc 1 ∷ negsuc 0 ∷ negsuc 0 ∷ negsuc 0 ∷ negsuc 1 ∷ negsuc 0 ∷ negsuc 0 ∷ negsuc 0 ∷ negsuc 0 ∷ negsuc 0 ∷ negsuc 0 ∷ negsuc 0 ∷
    negsuc 3 ∷ negsuc 2 ∷ negsuc 1 ∷ negsuc 1 ∷ negsuc 1 ∷ negsuc 0 ∷ negsuc 0 ∷ negsuc 0 ∷ negsuc 1 ∷ negsuc 0 ∷ negsuc 0 ∷ negsuc 0 ∷ negsuc 0 ∷ negsuc 0 ∷ negsuc 0 ∷ negsuc 0 ∷
    negsuc 1 ∷ negsuc 0 ∷ negsuc 0 ∷ negsuc 0 ∷ negsuc 0 ∷ negsuc 0 ∷ negsuc 0 ∷ negsuc 0 ∷ negsuc 0 ∷ negsuc 0 ∷ negsuc 0 ∷ negsuc 0 ∷ negsuc 0 ∷ negsuc 0 ∷ negsuc 0 ∷ negsuc 0 ∷
    negsuc 5 ∷ negsuc 4 ∷ negsuc 3 ∷ negsuc 3 ∷ negsuc 3 ∷ negsuc 2 ∷ negsuc 2 ∷ negsuc 2 ∷ negsuc 3 ∷ negsuc 2 ∷ negsuc 1 ∷ negsuc 1 ∷ negsuc 1 ∷ negsuc 1 ∷ negsuc 1 ∷ negsuc 1 ∷
    negsuc 3 ∷ negsuc 2 ∷ negsuc 1 ∷ negsuc 1 ∷ negsuc 1 ∷ negsuc 0 ∷ negsuc 0 ∷ negsuc 0 ∷ negsuc 1 ∷ negsuc 0 ∷ negsuc 0 ∷ negsuc 0 ∷ negsuc 0 ∷ negsuc 0 ∷ negsuc 0 ∷ negsuc 0 ∷
    negsuc 3 ∷ negsuc 2 ∷ negsuc 1 ∷ negsuc 1 ∷ negsuc 1 ∷ negsuc 0 ∷ negsuc 0 ∷ negsuc 0 ∷ negsuc 1 ∷ negsuc 0 ∷ pos 0 ∷ pos 0 ∷ pos 0 ∷ pos 0 ∷ pos 0 ∷ pos 0 ∷
    negsuc 1 ∷ negsuc 0 ∷ pos 0 ∷ pos 0 ∷ pos 0 ∷ pos 0 ∷ pos 0 ∷ pos 0 ∷ pos 0 ∷ pos 0 ∷ pos 0 ∷ pos 0 ∷ pos 0 ∷ pos 0 ∷ pos 0 ∷ pos 0 ∷
    negsuc 3 ∷ negsuc 2 ∷ negsuc 1 ∷ negsuc 1 ∷ negsuc 1 ∷ negsuc 0 ∷ negsuc 0 ∷ negsuc 0 ∷ negsuc 1 ∷ negsuc 0 ∷ pos 0 ∷ pos 0 ∷ pos 0 ∷ pos 0 ∷ pos 0 ∷ pos 0 ∷
    negsuc 1 ∷ negsuc 0 ∷ pos 0 ∷ pos 0 ∷ pos 0 ∷ pos 1 ∷ pos 1 ∷ pos 1 ∷ pos 0 ∷ pos 1 ∷ pos 1 ∷ pos 1 ∷ pos 1 ∷ pos 1 ∷ pos 1 ∷ pos 1 ∷
    negsuc 1 ∷ negsuc 0 ∷ pos 0 ∷ pos 0 ∷ pos 0 ∷ pos 1 ∷ pos 1 ∷ pos 1 ∷ pos 0 ∷ pos 1 ∷ pos 1 ∷ pos 1 ∷ pos 1 ∷ pos 1 ∷ pos 1 ∷ pos 1 ∷
    pos 0 ∷ pos 1 ∷ pos 1 ∷ pos 1 ∷ pos 1 ∷ pos 1 ∷ pos 1 ∷ pos 1 ∷ pos 1 ∷ pos 1 ∷ pos 1 ∷ pos 1 ∷ pos 1 ∷ pos 1 ∷ pos 1 ∷ pos 1 ∷
    []
