-- The marked nodes of a span, in order.
use Rattle.std.specs.Prelude.{◌≡◌, ℕ, zero, suc, ◌+◌, Bool, false, cond, ◌⊎◌, List, [], ◌∷◌, slice_index}
use Rattle.commands.specs.declared.command.Command.{Command}
use Rattle.sweep.specs.Falling.{marking}

abbrev pub is_marked : List Command → List ℕ → ℕ → Bool
is_marked rules ws v = marking (slice_index ws v) rules 0 false

-- of the k nodes from v on, those whose word is marked
abbrev pub marked_nodes : List Command → List ℕ → ℕ → ℕ → List ℕ
marked_nodes rules ws v zero = []
marked_nodes rules ws v (suc k) = let rest = marked_nodes rules ws (v + 1) k in cond (is_marked rules ws v) (v ∷ rest) rest

-- vs are those of the k nodes from v on that are so, in order, each once
abbrev pub Lists : (ℕ → Type 0) → ℕ → ℕ → List ℕ → Type 0
Lists Q v zero vs = vs ≡ []
Lists Q v (suc k) vs = (Q v × ((rest : List ℕ) × (vs ≡ v ∷ rest) × Lists Q (v + 1) k rest)) ⊎ ((¬ Q v) × Lists Q (v + 1) k vs)
