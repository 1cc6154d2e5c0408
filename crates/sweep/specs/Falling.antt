-- The words that falling leaves, and the marks that it means.
use Rattle.std.specs.Prelude.{ℕ, zero, suc, ◌+◌, Bool, true, false, cond, ◌&&◌, ◌||◌, List, [], ◌∷◌, Some, None, Option, slice_index, slice_set}
use Rattle.rows.specs.Rows.{Row}
use Rattle.rows.specs.Answers.{first_of as first_child, next_of as next_sibling}
use Rattle.words.specs.Bit.{bit, with_bit}
use Rattle.commands.specs.declared.command.Move.{Move}
use Rattle.commands.specs.declared.command.Move.TheVariants.{Down, On, Stay, Mark}
use Rattle.commands.specs.declared.command.Command.{Command}
use Rattle.commands.specs.declared.command.Command.TheVariants.{Value, And, Or, Not, Define, When, Make, Done, End}
use Rattle.sweep.specs.declared.place.Place.{Place}

-- the state q enters the node
abbrev pub entered : ℕ → Option ℕ → List ℕ → List ℕ
entered q None ws = ws
entered q (Some w) ws = slice_set ws w (with_bit (slice_index ws w) (40 + q))

abbrev pub made : Move → Place → List ℕ → List ℕ
made (Down q) a ws = entered q a.first ws
made (On q) a ws = entered q a.next ws
made (Stay q) a ws = entered q (Some a.node) ws
made Mark a ws = ws

-- the state j enters the node of the word, and p holds there
abbrev pub acting : ℕ → ℕ → ℕ → Bool
acting w j p = bit w (40 + j) && bit w p

-- the state that sends, and whether the rule acts
abbrev pub sent : Place → List Command → ℕ → Bool → List ℕ → List ℕ
sent a [] j b ws = ws
sent a (Value x ∷ cs) j b ws = ws
sent a (And ∷ cs) j b ws = ws
sent a (Or ∷ cs) j b ws = ws
sent a (Not ∷ cs) j b ws = ws
sent a (Define ∷ cs) j b ws = ws
sent a (When p ∷ cs) j b ws = sent a cs j (acting (slice_index ws a.node) j p) ws
sent a (Make m ∷ cs) j b ws = sent a cs j b (cond b (made m a ws) ws)
sent a (Done ∷ cs) j b ws = sent a cs (j + 1) false ws
sent a (End ∷ cs) j b ws = ws

abbrev pub place_at : List Row → ℕ → Place
place_at rows v = record { node = v; first = first_child rows v; next = next_sibling rows v }

-- the k nodes from v on, the first first
abbrev pub fallen : List Row → List Command → ℕ → ℕ → List ℕ → List ℕ
fallen rows cs v zero ws = ws
fallen rows cs v (suc k) ws = fallen rows cs (suc v) k (sent (place_at rows v) cs 0 false ws)

abbrev pub is_mark : Move → Bool
is_mark (Down q) = false
is_mark (On q) = false
is_mark (Stay q) = false
is_mark Mark = true

-- a rule that acts at the node of the word marks it
abbrev pub marking : ℕ → List Command → ℕ → Bool → Bool
marking w [] j b = false
marking w (Value x ∷ cs) j b = false
marking w (And ∷ cs) j b = false
marking w (Or ∷ cs) j b = false
marking w (Not ∷ cs) j b = false
marking w (Define ∷ cs) j b = false
marking w (When p ∷ cs) j b = marking w cs j (acting w j p)
marking w (Make m ∷ cs) j b = (b && is_mark m) || marking w cs j b
marking w (Done ∷ cs) j b = marking w cs (j + 1) false
marking w (End ∷ cs) j b = false
