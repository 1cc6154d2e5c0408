-- Commands as bytes: an opcode, operands of fixed width, and the bytes after them.
use Rattle.std.specs.Prelude.{ℕ, ◌+◌, ◌*◌, cond, List, [], ◌∷◌, Some, None, Option, ◌==◌}
use Rattle.std.specs.Borrow.{Bor}
use Rattle.commands.specs.declared.command.Kind.TheVariants.{Root, Text, Element}
use Rattle.commands.specs.declared.command.Atom.TheVariants.{Kind as OfKind, Label, True, First, Next, Here}
use Rattle.commands.specs.declared.command.Move.TheVariants.{Down, On, Stay, Mark}
use Rattle.commands.specs.declared.command.Command.{Command}
use Rattle.commands.specs.declared.command.Command.TheVariants.{Value, And, Or, Not, Define, When, Make, Done, End}

-- a command and the bytes after it
abbrev pub Taken : Type 0
Taken = Option (Command × List ℕ)

abbrev pub split : Option (Command × Bor (List ℕ)) → Taken
split None = None
split (Some t) = Some (t.0, t.1.now)

-- a command without an operand, with one, and with one of two bytes, the high one first
abbrev pub plain : Command → List ℕ → Taken
plain c bs = Some (c, bs)

abbrev pub one : (ℕ → Command) → List ℕ → Taken
one f [] = None
one f (p ∷ bs) = Some (f p, bs)

abbrev pub two : (ℕ → Command) → List ℕ → Taken
two f [] = None
two f (h ∷ []) = None
two f (h ∷ (l ∷ bs)) = Some (f (h * 256 + l), bs)

abbrev pub kind_of : ℕ → List ℕ → Taken
kind_of k bs =
    cond (k == 0) (Some (Value (OfKind Root), bs))
    (cond (k == 1) (Some (Value (OfKind Text), bs))
    (cond (k == 2) (Some (Value (OfKind Element), bs)) None))

abbrev pub kind : List ℕ → Taken
kind [] = None
kind (k ∷ bs) = kind_of k bs

-- by the opcode
abbrev pub operands : ℕ → List ℕ → Taken
operands op bs =
    cond (op == 0x10) (kind bs)
    (cond (op == 0x11) (two (λ c. Value (Label c)) bs)
    (cond (op == 0x12) (plain (Value True) bs)
    (cond (op == 0x13) (one (λ p. Value (First p)) bs)
    (cond (op == 0x14) (one (λ p. Value (Next p)) bs)
    (cond (op == 0x15) (one (λ p. Value (Here p)) bs)
    (cond (op == 0x18) (plain And bs)
    (cond (op == 0x19) (plain Or bs)
    (cond (op == 0x1a) (plain Not bs)
    (cond (op == 0x1f) (plain Define bs)
    (cond (op == 0x20) (one When bs)
    (cond (op == 0x21) (one (λ q. Make (Down q)) bs)
    (cond (op == 0x22) (one (λ q. Make (On q)) bs)
    (cond (op == 0x23) (one (λ q. Make (Stay q)) bs)
    (cond (op == 0x24) (plain (Make Mark) bs)
    (cond (op == 0x2f) (plain Done bs)
    (cond (op == 0xff) (plain End bs) None))))))))))))))))

abbrev pub taken : List ℕ → Taken
taken [] = None
taken (op ∷ bs) = operands op bs
