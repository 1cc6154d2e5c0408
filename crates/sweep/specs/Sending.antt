-- What a node sends depends on its word alone.
use Rattle.std.specs.Prelude.{ℕ, ◌+◌, Bool, false, cond, List, [], ◌∷◌, Some, None, Option, bit_or, slice_index, slice_set}
use Rattle.words.specs.Bit.{with_bit}
use Rattle.commands.specs.declared.command.Move.{Move}
use Rattle.commands.specs.declared.command.Move.TheVariants.{Down, On, Stay, Mark}
use Rattle.commands.specs.declared.command.Command.{Command}
use Rattle.commands.specs.declared.command.Command.TheVariants.{Value, And, Or, Not, Define, When, Make, Done, End}
use Rattle.sweep.specs.declared.place.Place.{Place}
use Rattle.sweep.specs.declared.sending.Sending.{Sending}
use Rattle.sweep.specs.Falling.{acting}

abbrev pub nothing_sent : Sending
nothing_sent = record { here = 0; down = 0; on = 0 }

-- with the move
abbrev pub with_move : Move → Sending → Sending
with_move (Down q) s = record { here = s.here; down = with_bit s.down (40 + q); on = s.on }
with_move (On q) s = record { here = s.here; down = s.down; on = with_bit s.on (40 + q) }
with_move (Stay q) s = record { here = with_bit s.here (40 + q); down = s.down; on = s.on }
with_move Mark s = s

-- what a node of the word w sends: the state, whether the rule acts, and what was sent so far
abbrev pub sending : ℕ → List Command → ℕ → Bool → Sending → Sending
sending w [] j b s = s
sending w (Value x ∷ cs) j b s = s
sending w (And ∷ cs) j b s = s
sending w (Or ∷ cs) j b s = s
sending w (Not ∷ cs) j b s = s
sending w (Define ∷ cs) j b s = s
sending w (When p ∷ cs) j b s = sending w cs j (acting (bit_or w s.here) j p) s
sending w (Make m ∷ cs) j b s = sending w cs j b (cond b (with_move m s) s)
sending w (Done ∷ cs) j b s = sending w cs (j + 1) false s
sending w (End ∷ cs) j b s = s

-- the states m enter the node
abbrev pub entered_all : ℕ → Option ℕ → List ℕ → List ℕ
entered_all m None ws = ws
entered_all m (Some w) ws = slice_set ws w (bit_or (slice_index ws w) m)

-- what was sent enters
abbrev pub delivered : Place → Sending → List ℕ → List ℕ
delivered a s ws = entered_all s.on a.next (entered_all s.down a.first (entered_all s.here (Some a.node) ws))
