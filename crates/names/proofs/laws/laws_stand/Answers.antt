use Rattle.names.proofs.Slots.{names_decided, names_apart}
use Rattle.names.proofs.Labels.{lookup}
use Rattle.names.proofs.laws.laws_stand.Goals as goal

pub returns : goal.returns
returns c = record { means = names_decided; apart = names_apart; lookup = lookup }
