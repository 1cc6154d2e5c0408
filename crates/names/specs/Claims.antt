-- What is proved of names and their store.
use Rattle.std.specs.Prelude.{◌≡◌, ℕ, true, ◌↔◌, List, length}
use Rattle.names.specs.Names.{Name, is_name, padded}
use Rattle.names.specs.Store.{label_of, Labels}

-- a slot passes the test exactly when it is a name and then 0 bytes
abbrev pub NamesDecided : Type 0
NamesDecided = (s : List ℕ) → length s ≡ 32 → (is_name s ≡ true) ↔ ((n : List ℕ) × Name n × (s ≡ padded n))

-- different names have different slots
abbrev pub NamesApart : Type 0
NamesApart = (m n : List ℕ) → Name m → Name n → padded m ≡ padded n → m ≡ n

-- the label of a name is that of the first slot that holds it, or FFFFh where none does
abbrev pub Lookup : Type 0
Lookup = (store : List (List ℕ)) (name : List ℕ) → Labels store name (label_of store name)
