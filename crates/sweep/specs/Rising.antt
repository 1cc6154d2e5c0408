-- The words that rising writes.
use Rattle.std.specs.Prelude.{ℕ, zero, suc, List, Some, None, Option, ◌==◌, slice_index, slice_set}
use Rattle.rows.specs.Rows.{Row, label_of as label}
use Rattle.rows.specs.Answers.{first_of as first_child, next_of as next_sibling}
use Rattle.words.specs.Bit.{put_bit}
use Rattle.commands.specs.declared.node.Node.{Node}
use Rattle.commands.specs.declared.command.Command.{Command}
use Rattle.commands.specs.Deciding.{decide}

abbrev pub word_of : List ℕ → Option ℕ → ℕ
word_of ws None = 0
word_of ws (Some w) = slice_index ws w

-- what the formulas see of node v
abbrev pub node_at : List Row → List ℕ → ℕ → Node
node_at rows ws v = record { label = label rows v; first = word_of ws (first_child rows v); next = word_of ws (next_sibling rows v) }

-- the word of node v, by the words of later nodes; the root enters the sending state 0
unfoldable pub word_at : List Row → List Command → List ℕ → ℕ → ℕ
word_at rows cs ws v = put_bit (decide (node_at rows ws v) cs 0 0 0) 40 (v == 0)

-- the k nodes from v on, the last first
abbrev pub risen : List Row → List Command → ℕ → ℕ → List ℕ → List ℕ
risen rows cs v zero ws = ws
risen rows cs v (suc k) ws = let later = risen rows cs (suc v) k ws in slice_set later v (word_at rows cs later v)
