-- Slots of a store found by the library's `contains` and `position`.
use Rattle.std.proofs.Common.{◌≡◌, ℕ, ◌+◌, Bool, true, false, cond, ◌||◌, List, [], ◌∷◌, Some, refl, ap, ◌∙◌, ap₂, arith}
use Rattle.std.specs.List.{list_any, position_from}
use Rattle.std.specs.Option.{option_map_or}
use Rattle.std.specs.Str.{bytes_eq}
use Rattle.names.specs.Store.{label_from}

-- tests that answer alike
pub any_alike : {A : Type 0} (p : A → Bool) {q : A → Bool} → ((x : A) → p x ≡ q x) → (xs : List A) → list_any p xs ≡ list_any q xs
any_alike p e [] = refl
any_alike p e (x ∷ xs) = ap₂ (λ (a b : Bool). a || b) (e x) (any_alike p e xs)

-- the label of the first slot that is s, by its place
pub label_by_place : (c i : ℕ) (store : List (List ℕ)) (s : List ℕ) →
    option_map_or (λ j. j + c) (position_from (λ n. bytes_eq n s) i store) 65535 ≡ label_from (i + c) store s
label_by_place c i [] s = refl
label_by_place c i (n ∷ ns) s =
    elim (bytes_eq n s) as (λ b. option_map_or (λ j. j + c) (cond b (Some i) (position_from (λ m. bytes_eq m s) (i + 1) ns)) 65535 ≡ cond b (i + c) (label_from (i + c + 1) ns s)) [
      | true ↦ refl
      | false ↦ label_by_place c (i + 1) ns s ∙ ap (λ k. label_from k ns s) (omega arith)
    ]
