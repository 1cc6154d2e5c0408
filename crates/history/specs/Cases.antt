-- What a held value means as one of kind i.
use Rattle.std.specs.Prelude.{ℕ, zero, suc}
use Rattle.either.specs.declared.Either.{Either}
use Rattle.either.specs.declared.Either.TheVariants.{Left, Right}
use Rattle.history.specs.Pick.{Pick}

abbrev pub either_value : {X Y A : Type 0} {B : ℕ → Type 0} → (X → A) → A → ((i : ℕ) → Y → B i) → ((i : ℕ) → B i) → (i : ℕ) → Either X Y → Pick A B i
either_value f a g b zero (Left x) = f x
either_value f a g b zero (Right y) = a
either_value f a g b (suc i) (Left x) = b i
either_value f a g b (suc i) (Right y) = g i y
