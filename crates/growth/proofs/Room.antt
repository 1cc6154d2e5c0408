-- What room for a node more tells.
use Rattle.std.proofs.Common.{◌≡◌, ℕ, ◌+◌, ◌*◌, ◌<◌, ◌≤◌, Bool, List, length, Ok, arith}
use Rattle.std.proofs.lemmas.Bool.Decides.{nat_tests}
use Rattle.scan.specs.Directory.{blocks}
use Rattle.growth.specs.Steps.{Fed, begin_check, room, shut_check, seal_check}

pub roomy : (f : Fed) → room f ≡ Ok tt → (f.nodes < 8192) × (f.written + f.due + 2 ≤ length f.bits) × (f.nodes < length f.labels)
roomy f e = (grind (arith, nat_tests), grind (arith, nat_tests), grind (arith, nat_tests))

pub seals : (f : Fed) (d : ℕ) → seal_check f d ≡ Ok tt → (f.written + f.due ≤ length f.bits) × (blocks (2 * f.nodes) ≤ d) × (f.due ≤ 1)
seals f d e = (grind (arith, nat_tests), grind (arith, nat_tests), grind (arith, nat_tests))
