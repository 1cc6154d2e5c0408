use Rattle.growth.proofs.Growth.{then_due}
use Rattle.growth.proofs.Histories.{commands_hold, feeds_show, names_stand}
use Rattle.growth.proofs.Shown.{sealed_shows}
use Rattle.growth.proofs.laws_stand.Goals as goal

pub returns : goal.returns
returns c = record { due = then_due; held = commands_hold; shown = sealed_shows; feeds = feeds_show; names = names_stand }
