-- The nodes of an excerpt.
use Rattle.std.proofs.Common.{◌≡◌, ℕ, ◌<◌, List}
use Rattle.rows.specs.Rows.{Row, Lawful, count_of}
use Rattle.rows.specs.Answers.{size_of}
use Rattle.rows.specs.Excerpts.{excerpt_of}
use Rattle.rows.proofs.Excerpts.{excerpts}

-- they are those of its node's subtree
pub as_many : (rs : List Row) (v : ℕ) → Lawful rs → v < count_of rs → count_of (excerpt_of rs v) ≡ size_of rs v
as_many rs v l h = ((excerpts rs v l).1 h).count
