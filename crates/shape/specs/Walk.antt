-- One walk over parentheses and labels that tells whether they are of a tree.
use Rattle.std.specs.Prelude.{ℕ, suc, ◌-◌, Bool, true, false, cond, ◌&&◌, List, [], ◌∷◌, length, ◌==◌, nat_le}
use Rattle.rows.specs.Lawful.{inner_label}

-- the deepest row that may follow one of depth k and label l
abbrev pub reach_of : ℕ → ℕ → ℕ
reach_of k l = cond (l == 1) k (suc k)

-- below the root: k nodes are open, and the next may have depth m at most
abbrev pub walk : ℕ → ℕ → List Bool → List ℕ → Bool
walk k m [] ls = k == 0 && length ls == 0
walk k m (true ∷ bs) [] = false
walk k m (true ∷ bs) (l ∷ ls) = (nat_le 1 k && nat_le k m && inner_label l) && walk (suc k) (reach_of k l) bs ls
walk k m (false ∷ bs) ls = walk (k - 1) m bs ls

-- the root first
abbrev pub walk_all : List Bool → List ℕ → Bool
walk_all [] ls = false
walk_all (false ∷ bs) ls = false
walk_all (true ∷ bs) [] = false
walk_all (true ∷ bs) (l ∷ ls) = (l == 0 && nat_le (length ls) 8191) && walk 1 1 bs ls
