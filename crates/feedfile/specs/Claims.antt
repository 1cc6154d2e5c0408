-- What is proved of feed files.
use Rattle.std.specs.Prelude.{◌≡◌, ℕ, Bool, List, length, take, Ok}
use Rattle.shape.specs.Bits.{bits_of}
use Rattle.scan.specs.Directory.{bytes}
use Rattle.scan.specs.declared.block.Block.{Block}
use Rattle.parens.specs.Trees.{rows_of}
use Rattle.parens.specs.Loading.{Enough, Fronts}
use Rattle.growth.specs.Steps.{Fed, begin_check, begun}
use Rattle.feedfile.specs.Reading.{Told, read_file, answer_of, bits_left, directory_left}
use Rattle.feedfile.specs.Files.{Tells, Grown}

-- what is read is told: the commands up to the end, each granted, and why it ended
abbrev pub ReadingTells : Type 0
ReadingTells = (file : List ℕ) (f : Fed) (ss : List (List ℕ)) → Tells (length file) file f ss (read_file file f ss)

-- a file that is read from a new feed and sealed leaves the memory of a tree, so that it loads, and the tree's rows are exactly the nodes fed
abbrev pub FileShows : Type 0
FileShows = (file : List ℕ) (bits : List Bool) (labels : List ℕ) (ss : List (List ℕ)) (directory : List Block) (new : List ℕ) (t : Told) (e : ℕ) →
    begin_check bits labels ≡ Ok tt → t ≡ read_file file (begun bits labels) ss → answer_of t (length directory) ≡ Ok e →
    bits_of new ≡ bits_left (Ok e) t.feed →
    Enough new t.feed.labels (directory_left (Ok e) t.feed new directory) t.feed.nodes
    × Fronts new t.feed.labels (directory_left (Ok e) t.feed new directory) t.feed.nodes
    × Grown file e (rows_of (take (bytes t.feed.nodes) new) (take t.feed.nodes t.feed.labels)) t.feed.names t.store
