-- The number and the place of each refusal of a feed file: a fault of the feed keeps its number.
use Rattle.std.specs.Prelude.{ℕ}
use Rattle.growth.specs.Faults as feed
use Rattle.feedfile.specs.declared.command.FileFault.{FileFault}
use Rattle.feedfile.specs.declared.command.FileFault.TheVariants.{Unknown, Refused}

abbrev pub code_of : FileFault → ℕ
code_of (Unknown p) = 7
code_of (Refused f p) = feed.code_of f

abbrev pub place_of : FileFault → ℕ
place_of (Unknown p) = p
place_of (Refused f p) = p
