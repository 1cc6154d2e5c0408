-- A node that no sending state enters makes no move and is not marked.
use Rattle.std.proofs.Common.{◌≡◌, ℕ, ◌+◌, ◌^◌, ◌<◌, Bool, false, ◌&&◌, List, [], ◌∷◌, get_or, refl, ap, ◌∙◌, arith}
use Rattle.words.specs.Bit.{bit}
use Rattle.words.proofs.Bits.{bit_past}
use Rattle.commands.specs.declared.command.Command.{Command}
use Rattle.commands.specs.declared.command.Command.TheVariants.{Value, And, Or, Not, Define, When, Make, Done, End}
use Rattle.sweep.specs.declared.place.Place.{Place}
use Rattle.sweep.specs.Falling.{acting, sent, marking}

idle_acting : (w j p : ℕ) → w < 2 ^ 40 → acting w j p ≡ false
idle_acting w j p h = ap (λ (b : Bool). b && bit w p) (bit_past 40 w (40 + j) h (omega arith))

pub idle_sent : (a : Place) (cs : List Command) (j : ℕ) (ws : List ℕ) → get_or ws a.node 0 < 2 ^ 40 → sent a cs j false ws ≡ ws
idle_sent a [] j ws h = refl
idle_sent a (Value x ∷ cs) j ws h = refl
idle_sent a (And ∷ cs) j ws h = refl
idle_sent a (Or ∷ cs) j ws h = refl
idle_sent a (Not ∷ cs) j ws h = refl
idle_sent a (Define ∷ cs) j ws h = refl
idle_sent a (When p ∷ cs) j ws h = ap (λ (b : Bool). sent a cs j b ws) (idle_acting (get_or ws a.node 0) j p h) ∙ idle_sent a cs j ws h
idle_sent a (Make m ∷ cs) j ws h = idle_sent a cs j ws h
idle_sent a (Done ∷ cs) j ws h = idle_sent a cs (j + 1) ws h
idle_sent a (End ∷ cs) j ws h = refl

pub idle_marking : (w : ℕ) (cs : List Command) (j : ℕ) → w < 2 ^ 40 → marking w cs j false ≡ false
idle_marking w [] j h = refl
idle_marking w (Value x ∷ cs) j h = refl
idle_marking w (And ∷ cs) j h = refl
idle_marking w (Or ∷ cs) j h = refl
idle_marking w (Not ∷ cs) j h = refl
idle_marking w (Define ∷ cs) j h = refl
idle_marking w (When p ∷ cs) j h = ap (λ (b : Bool). marking w cs j b) (idle_acting w j p h) ∙ idle_marking w cs j h
idle_marking w (Make m ∷ cs) j h = idle_marking w cs j h
idle_marking w (Done ∷ cs) j h = idle_marking w cs (j + 1) h
idle_marking w (End ∷ cs) j h = refl
