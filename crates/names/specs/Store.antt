-- The name store: slot i names label i + 2, and at most 512 slots count.
use Rattle.std.specs.Prelude.{◌≡◌, ℕ, ◌+◌, ◌<◌, ◌≤◌, min, Bool, cond, ◌⊎◌, List, [], ◌∷◌, length, take, Option, slice_index_or}
use Rattle.std.specs.Option.{option_map_or}
use Rattle.std.specs.List.{list_any}
use Rattle.std.specs.Str.{bytes_eq}
use Rattle.names.specs.Names.{padded, slot_of}

abbrev pub holds_name : List (List ℕ) → List ℕ → Bool
holds_name store s = list_any (λ n. bytes_eq n s) store

-- the label of the first slot that is s, where the first slot has label c
abbrev pub label_from : ℕ → List (List ℕ) → List ℕ → ℕ
label_from c [] s = 65535
label_from c (n ∷ ns) s = cond (bytes_eq n s) c (label_from (c + 1) ns s)

abbrev pub label_at : List (List ℕ) → Option (List ℕ) → ℕ
label_at store slot = option_map_or (label_from 2 (take 512 store)) slot 65535

abbrev pub label_of : List (List ℕ) → List ℕ → ℕ
label_of store name = label_at store (slot_of name)

-- slot i of a store, one of the first 512, holds a name
abbrev pub HoldsAt : List (List ℕ) → List ℕ → ℕ → Type 0
HoldsAt store name i = (i < min 512 (length store)) × (length name ≤ 32) × (slice_index_or store i [] ≡ padded name)

-- a label is that of the first slot that holds the name, or FFFFh where none does
abbrev pub Labels : List (List ℕ) → List ℕ → ℕ → Type 0
Labels store name c =
    ((i : ℕ) × HoldsAt store name i × ((j : ℕ) → j < i → HoldsAt store name j → ⊥) × (c ≡ i + 2))
    ⊎ (((i : ℕ) → HoldsAt store name i → ⊥) × (c ≡ 65535))
