-- Commands as bytes: an opcode, operands of fixed width, and the bytes after them. Two-byte numbers have their high byte first.
use Rattle.std.specs.Prelude.{ℕ, ◌+◌, ◌*◌, cond, List, [], ◌∷◌, length, take, drop, Some, None, Option, ◌==◌, nat_lt}
use Rattle.std.specs.Borrow.{Bor}
use Rattle.growth.specs.declared.command.Command.{Command}
use Rattle.growth.specs.declared.command.Command.TheVariants.{Open, Shut, Text, Name}
use Rattle.feedfile.specs.declared.command.FileCommand.{FileCommand}
use Rattle.feedfile.specs.declared.command.FileCommand.TheVariants.{Feed, Seal}

-- the bytes that a command's operands take
abbrev pub width : Command → ℕ
width (Open c) = 2
width Shut = 0
width Text = 0
width (Name s) = 32

abbrev pub file_width : FileCommand → ℕ
file_width (Feed c) = width c
file_width Seal = 0

-- OPEN: a label in two bytes
abbrev pub label : List ℕ → Option FileCommand
label [] = None
label (h ∷ []) = None
label (h ∷ (l ∷ bs)) = Some (Feed (Open (h * 256 + l)))

-- NAME: a slot of 32 bytes
abbrev pub slot : List ℕ → Option FileCommand
slot bs = cond (nat_lt (length bs) 32) None (Some (Feed (Name (take 32 bs))))

-- the command of an opcode and the bytes after it
abbrev pub command_of : ℕ → List ℕ → Option FileCommand
command_of op bs =
    cond (op == 0x01) (label bs)
    (cond (op == 0x02) (Some (Feed Shut))
    (cond (op == 0x03) (Some (Feed Text))
    (cond (op == 0x04) (slot bs)
    (cond (op == 0x0f) (Some Seal) None))))

-- a command and the bytes after it
abbrev pub Taken : Type 0
Taken = Option (FileCommand × List ℕ)

abbrev pub with_rest : List ℕ → Option FileCommand → Taken
with_rest bs None = None
with_rest bs (Some c) = Some (c, drop (file_width c) bs)

-- the first command of a file's bytes
abbrev pub taken : List ℕ → Taken
taken [] = None
taken (op ∷ bs) = with_rest bs (command_of op bs)

abbrev pub split : Option (FileCommand × Bor (List ℕ)) → Taken
split None = None
split (Some t) = Some (t.0, t.1.now)
