use Rattle.std.proofs.Common.{◌≡◌, ◌+◌}
use Rattle.translation.specs.Written.{nots}
use Rattle.translate.specs.Writing.{Puts}
use Rattle.translate.proofs.bytes.Writer.put_nots.Given as goal

abbrev pub invariant-loop-i : goal.invariant-loop-i
invariant-loop-i l = (l.self.at ≡ l.initial.self.at + l._i) × Puts l.initial.self l.self (nots l._i)
