use Rattle.std.proofs.Common.{◌≡◌, ◌≤◌, length}
use Rattle.feed.specs.Fed.{fed}
use Rattle.feedfile.specs.Reading.{reading, read_file}
use Rattle.feedfile.proofs.read.grow.Given as goal

abbrev pub invariant-loop-item : goal.invariant-loop-item
invariant-loop-item l =
    (length l.rest ≤ length l.file)
    × (reading (length l.file) 0 l.rest (fed l.feed l.bits l.labels) l.names
    ≡ read_file l.file (fed l.initial.feed l.initial.bits l.initial.labels) l.initial.names)

abbrev pub decreases-loop-item : goal.decreases-loop-item
decreases-loop-item l = length l.rest
