-- The sweeps keep the length of the work area.
use Rattle.std.proofs.Common.{◌≡◌, ℕ, zero, suc, ◌+◌, Bool, true, false, cond, List, [], ◌∷◌, length, get_or, Some, None, Option, refl, ◌∙◌, length-set}
use Rattle.rows.specs.Rows.{Row}
use Rattle.words.specs.Bit.{with_bit}
use Rattle.commands.specs.declared.command.Move.{Move}
use Rattle.commands.specs.declared.command.Move.TheVariants.{Down, On, Stay, Mark}
use Rattle.commands.specs.declared.command.Command.{Command}
use Rattle.commands.specs.declared.command.Command.TheVariants.{Value, And, Or, Not, Define, When, Make, Done, End}
use Rattle.sweep.specs.declared.place.Place.{Place}
use Rattle.sweep.specs.Falling.{entered, made, acting, sent, place_at, fallen}

length_entered : (q : ℕ) (o : Option ℕ) (ws : List ℕ) → length (entered q o ws) ≡ length ws
length_entered q None ws = refl
length_entered q (Some w) ws = length-set ws w (with_bit (get_or ws w 0) (40 + q))

length_made : (m : Move) (a : Place) (ws : List ℕ) → length (made m a ws) ≡ length ws
length_made (Down q) a ws = length_entered q a.first ws
length_made (On q) a ws = length_entered q a.next ws
length_made (Stay q) a ws = length_entered q (Some a.node) ws
length_made Mark a ws = refl

length_maybe : (b : Bool) (m : Move) (a : Place) (ws : List ℕ) → length (cond b (made m a ws) ws) ≡ length ws
length_maybe true m a ws = length_made m a ws
length_maybe false m a ws = refl

length_sent : (a : Place) (cs : List Command) (j : ℕ) (b : Bool) (ws : List ℕ) → length (sent a cs j b ws) ≡ length ws
length_sent a [] j b ws = refl
length_sent a (Value x ∷ cs) j b ws = refl
length_sent a (And ∷ cs) j b ws = refl
length_sent a (Or ∷ cs) j b ws = refl
length_sent a (Not ∷ cs) j b ws = refl
length_sent a (Define ∷ cs) j b ws = refl
length_sent a (When p ∷ cs) j b ws = length_sent a cs j (acting (get_or ws a.node 0) j p) ws
length_sent a (Make m ∷ cs) j b ws = length_sent a cs j b (cond b (made m a ws) ws) ∙ length_maybe b m a ws
length_sent a (Done ∷ cs) j b ws = length_sent a cs (j + 1) false ws
length_sent a (End ∷ cs) j b ws = refl

pub length_fallen : (rows : List Row) (cs : List Command) (v k : ℕ) (ws : List ℕ) → length (fallen rows cs v k ws) ≡ length ws
length_fallen rows cs v zero ws = refl
length_fallen rows cs v (suc k) ws = length_fallen rows cs (suc v) k (sent (place_at rows v) cs 0 false ws) ∙ length_sent (place_at rows v) cs 0 false ws
