-- What the places of the memory have.
use Rattle.std.specs.Prelude.{◌≡◌, ℕ, List, Some, None, Option, slice_index_or}
use Rattle.memo.specs.declared.Known.{Known}

-- the answer at a place, if it is the key's
abbrev pub Finds : {K V : Type 0} → Option (Known K V) → K → Option V → Type 0
Finds e key (Some v) = e ≡ Some (record { key = key; value = v })
Finds {K = K} {V = V} e key None = (v : V) → ¬ (e ≡ Some (record { key = key; value = v }))

abbrev pub Meets : {K V : Type 0} → (K → V → Type 0) → Option (Known K V) → Type 0
Meets Q None = Unit {0}
Meets Q (Some e) = Q e.key e.value

-- every answer that is kept is right, by Q
abbrev pub Recalls : {K V : Type 0} → (K → V → Type 0) → List (Option (Known K V)) → Type 0
Recalls Q ps = (k : ℕ) → Meets Q (slice_index_or ps k None)
