use Rattle.std.proofs.Common.{◌≡◌}
use Rattle.shape.specs.Bits.{bits_of}
use Rattle.growth.specs.Steps.{cleared}
use Rattle.feed.proofs.bit.clear.Given as goal

abbrev pub invariant-loop-p : goal.invariant-loop-p
invariant-loop-p l = bits_of l.bits ≡ cleared (bits_of l.initial.bits) l.from l.p
