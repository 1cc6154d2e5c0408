-- A growing feed and its memory, as the theory of feeds has them.
use Rattle.std.specs.Prelude.{ℕ, List}
use Rattle.shape.specs.Bits.{bits_of}
use Rattle.growth.specs.Steps.{Fed}
use Rattle.feed.specs.declared.types.Growing.{Growing}

-- the numbers of a feed, its parentheses in bytes and its labels
abbrev pub fed : Growing → List ℕ → List ℕ → Fed
fed g bytes labels = record { nodes = g.nodes; written = g.written; due = g.due; names = g.names; bits = bits_of bytes; labels = labels }
