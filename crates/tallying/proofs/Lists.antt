-- Lists of nodes that are so, where other words say the same of them.
use Rattle.std.proofs.Common.{ℕ, zero, suc, ◌+◌, ◌<◌, ◌≤◌, ◌↔◌, List, inl, inr, arith}
use Rattle.tallying.specs.Nodes.{Lists}

pub lists_over : (Q R : ℕ → Type 0) (v k : ℕ) (vs : List ℕ) → ((w : ℕ) → v ≤ w → w < v + k → Q w ↔ R w) → Lists Q v k vs → Lists R v k vs
lists_over Q R v zero vs same l = l
lists_over Q R v (suc k) vs same (inl l) =
    inl ((same v (omega arith) (omega arith)).0 l.0, (l.1.0, l.1.1, lists_over Q R (v + 1) k l.1.0 (λ w a b. same w (omega arith) (omega arith)) l.1.2))
lists_over Q R v (suc k) vs same (inr l) =
    inr ((λ r. l.0 ((same v (omega arith) (omega arith)).1 r)), lists_over Q R (v + 1) k vs (λ w a b. same w (omega arith) (omega arith)) l.1)
