-- A command is taken off the front, and the rest spells the others.
use Rattle.std.proofs.Common.{length, sym, ap, rules}
use Rattle.commands.proofs.Spells.{commands_more, commands_none}
use Rattle.program.proofs.decode.CommandsIterator.next.Goals as goal

pub returns-in_err-command-clause-steps : goal.returns-in_err-command-clause-steps
returns-in_err-command-clause-steps c =
    let none = commands_none c.args.self.now.bytes.now (sym (c.in_err-command.ensures)) in
    rw c.from_residual.ensures (none, none)

pub returns-clause-steps : goal.returns-clause-steps
returns-clause-steps c = commands_more c.args.self.now.bytes.now c.in_ok-command.command c.in_ok-command.rest.now (sym (c.in_ok-command.ensures))

pub returns-clause-goes : goal.returns-clause-goes
returns-clause-goes c =
    let fewer = ap length (commands_more c.args.self.now.bytes.now c.in_ok-command.command c.in_ok-command.rest.now (sym (c.in_ok-command.ensures))) in
    search rules
