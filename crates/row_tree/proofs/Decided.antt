-- Answers of tests.
use Rattle.std.proofs.Common.{◌≡◌, ℕ, true, false, Decides, refl, arith}

pub refuted : (P : Type 0) → (P → ⊥) → Decides false P
refuted P f = (λ e. let z : ◌≡◌ {A = ℕ} 0 1 = cc in absurd (omega arith), λ p. absurd (f p))

pub confirmed : (P : Type 0) → P → Decides true P
confirmed P p = (λ e. p, λ q. refl)
