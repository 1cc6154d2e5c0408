use Rattle.std.proofs.Common.{◌≡◌, ◌*◌, min, ◌++◌, take, drop}
use Rattle.shape.specs.Bits.{bits_of, openings}
use Rattle.scan.specs.Directory.{directory_of}
use Rattle.scan.proofs.nesting.Nesting.write_directory.Given as goal

abbrev pub invariant-loop-j : goal.invariant-loop-j
invariant-loop-j l =
    (l.directory ≡ take l.j (directory_of (bits_of l.self.bits.now) (2 * l.self.count)) ++ drop l.j l.initial.directory)
    × (l.before ≡ openings (take (min (2 * l.self.count) (256 * l.j)) (bits_of l.self.bits.now)))
