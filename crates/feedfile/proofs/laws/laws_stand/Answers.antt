use Rattle.feedfile.proofs.Files.{reading_tells, file_shows}
use Rattle.feedfile.proofs.laws.laws_stand.Goals as goal

pub returns : goal.returns
returns c = record { tells = reading_tells; shows = file_shows }
