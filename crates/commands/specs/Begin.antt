-- Where the sending states begin.
use Rattle.std.specs.Prelude.{ℕ, ◌+◌, cond, List, [], ◌∷◌}
use Rattle.commands.specs.declared.command.Command.{Command}
use Rattle.commands.specs.Commands.{commands_of}
use Rattle.commands.specs.Decoded.{width}
use Rattle.commands.specs.Rules.{deciding}

-- the bytes of the commands before the first of a sending state
abbrev pub lead : List Command → ℕ
lead [] = 0
lead (c ∷ cs) = cond (deciding c) (width c + lead cs) 0

abbrev pub rules_at : List ℕ → ℕ
rules_at bs = lead (commands_of bs)
