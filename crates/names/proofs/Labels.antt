-- The label that is looked up is that of the first slot that holds the name.
use Rattle.std.proofs.Common.{◌≡◌, ℕ, zero, suc, ◌+◌, ◌<◌, ◌≤◌, min, true, false, ◌⊎◌, List, [], ◌∷◌, length, get_or, take, Option, sym, refl, ◌∙◌, subst, inl, inr, ⊎_elim, arith}
use Rattle.std.proofs.lemmas.Bool.{cases_Bool, cond-true, cond-false, cases_lt, lt-ltb, le-ltb, both_ways}
use Rattle.std.proofs.lemmas.List.{length-take, get_or-take}
use Rattle.std.proofs.lemmas.Slice.Eq.{bytes_eq-Decides}
use Rattle.std.specs.Str.{bytes_eq}
use Rattle.names.specs.Names.{padded}
use Rattle.names.specs.Store.{label_from, label_at, Labels}
use Rattle.names.specs.Claims.{Lookup}

-- of some slots: the first that is s, or that none is
First : ℕ → List (List ℕ) → List ℕ → ℕ → Type 0
First c store s r =
    ((i : ℕ) × (i < length store) × (get_or store i [] ≡ s) × ((j : ℕ) → j < i → get_or store j [] ≡ s → ⊥) × (r ≡ i + c))
    ⊎ (((i : ℕ) → i < length store → get_or store i [] ≡ s → ⊥) × (r ≡ 65535))

later : (n s : List ℕ) (ns : List (List ℕ)) (c r : ℕ) → (n ≡ s → ⊥) → First (c + 1) ns s r → First c (n ∷ ns) s r
unfolding First
later n s ns c r apart (inl f) =
    inl (suc f.0, omega (arith, f.1), f.2, (λ j. elim j as (λ (k : ℕ). k < suc f.0 → get_or (n ∷ ns) k [] ≡ s → ⊥) [ zero ↦ λ h e. apart e | suc k ↦ λ h e. f.3 k (omega arith) e ]), omega (arith, f.4))
later n s ns c r apart (inr f) =
    inr ((λ i. elim i as (λ (k : ℕ). k < length (n ∷ ns) → get_or (n ∷ ns) k [] ≡ s → ⊥) [ zero ↦ λ h e. apart e | suc k ↦ λ h e. f.0 k (omega arith) e ]), f.1)

first_of : (c : ℕ) (store : List (List ℕ)) (s : List ℕ) → First c store s (label_from c store s)
unfolding First
first_of c [] s = inr ((λ i h e. omega arith), refl)
first_of c (n ∷ ns) s =
    ⊎_elim
    (λ (yes-same : bytes_eq n s ≡ true). inl (0, omega arith, (bytes_eq-Decides n s).0 yes-same, (λ j h e. omega arith), cond-true _ _ _ yes-same ∙ omega arith))
    (λ (not_same : bytes_eq n s ≡ false).
    subst (First c (n ∷ ns) s) (sym (cond-false _ _ _ not_same))
    (later n s ns c (label_from (c + 1) ns s) (λ e. both_ways _ not_same ((bytes_eq-Decides n s).1 e)) (first_of (c + 1) ns s)))
    (cases_Bool (bytes_eq n s))

labels_short : (store : List (List ℕ)) (name : List ℕ) (r : ℕ) → length name ≤ 32 → First 2 (take 512 store) (padded name) r → Labels store name r
unfolding First
labels_short store name r short (inl f) =
    let long = length-take 512 store in
    let i = f.0 in
    let inside : i < length (take 512 store) = f.1 in
    inl (i, (omega arith, short, sym (get_or-take 512 store i [] (omega arith)) ∙ f.2), (λ j h held. f.3 j h (get_or-take 512 store j [] (omega arith) ∙ held.2)), f.4)
labels_short store name r short (inr f) =
    let long = length-take 512 store in
    inr ((λ i held. let low : i < min 512 (length store) = held.0 in f.0 i (omega arith) (get_or-take 512 store i [] (omega arith) ∙ held.2)), f.1)

pub lookup : Lookup
lookup store name =
    ⊎_elim
    (λ (far : 32 < length name).
    subst (λ (o : Option (List ℕ)). Labels store name (label_at store o)) (sym (cond-true _ _ _ (lt-ltb _ _ far)))
    (inr ((λ i held. let short : length name ≤ 32 = held.1 in omega arith), refl)))
    (λ (short : length name ≤ 32).
    subst (λ (o : Option (List ℕ)). Labels store name (label_at store o)) (sym (cond-false _ _ _ (le-ltb _ _ short)))
    (labels_short store name _ short (first_of 2 (take 512 store) (padded name))))
    (cases_lt 32 (length name))
