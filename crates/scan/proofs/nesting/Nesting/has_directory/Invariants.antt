use Rattle.std.proofs.Common.{◌≡◌, ℕ, ◌*◌, ◌<◌, min, get_or, take}
use Rattle.shape.specs.Bits.{bits_of, openings}
use Rattle.scan.specs.Directory.{block_at}
use Rattle.scan.proofs.Blocks.{blank}
use Rattle.scan.proofs.nesting.Nesting.has_directory.Given as goal

abbrev pub invariant-loop-j : goal.invariant-loop-j
invariant-loop-j l =
    ((k : ℕ) → k < l.j → get_or l.directory k blank ≡ block_at (bits_of l.self.bits.now) (2 * l.self.count) k)
    × (l.before ≡ openings (take (min (2 * l.self.count) (256 * l.j)) (bits_of l.self.bits.now)))
