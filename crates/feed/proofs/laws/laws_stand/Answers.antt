use Rattle.growth.proofs.Histories.{feeds_show, names_stand}
use Rattle.feed.proofs.laws.laws_stand.Goals as goal

pub returns : goal.returns
returns c = record { feeds = feeds_show; names = names_stand }
