-- The commands that bytes spell, as far as they can be read.
use Rattle.std.specs.Prelude.{ℕ, zero, suc, List, [], ◌∷◌, length, Some, None}
use Rattle.commands.specs.declared.command.Command.{Command}
use Rattle.commands.specs.Bytes.{Taken, taken}

-- a command, and what the bytes after it spell
abbrev pub spelled : Taken → (List ℕ → List Command) → List Command
spelled None f = []
spelled (Some t) f = t.0 ∷ f t.1

-- at most n commands
abbrev pub commands : ℕ → List ℕ → List Command
commands zero bs = []
commands (suc n) bs = spelled (taken bs) (commands n)

-- each command takes a byte or more
unfoldable pub commands_of : List ℕ → List Command
commands_of bs = commands (length bs) bs
