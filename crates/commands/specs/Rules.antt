-- The commands of the sending states.
use Rattle.std.specs.Prelude.{Bool, true, false, cond, List, [], ◌∷◌}
use Rattle.commands.specs.declared.command.Command.{Command}
use Rattle.commands.specs.declared.command.Command.TheVariants.{Value, And, Or, Not, Define, When, Make, Done, End}

-- the commands of deciding states
abbrev pub deciding : Command → Bool
deciding (Value a) = true
deciding And = true
deciding Or = true
deciding Not = true
deciding Define = true
deciding (When p) = false
deciding (Make m) = false
deciding Done = false
deciding End = false

-- the commands from the first sending state on
abbrev pub after_deciding : List Command → List Command
after_deciding [] = []
after_deciding (c ∷ cs) = cond (deciding c) (after_deciding cs) (c ∷ cs)
