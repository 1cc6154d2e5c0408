use Rattle.commands.proofs.Encodes.{read_back}
use Rattle.commands.proofs.Denotes.{one_program, reading}
use Rattle.commands.proofs.laws_stand.Goals as goal

pub returns : goal.returns
returns c = record { back = read_back; one = one_program; reading = reading }
