use Rattle.rows.proofs.Laws.{lawful_decided}
use Rattle.rows.proofs.Questions.{questions}
use Rattle.rows.proofs.Excerpts.{excerpts}
use Rattle.rows.proofs.laws_stand.Goals as goal

pub returns : goal.returns
returns c = record { decided = lawful_decided; answered = questions; excerpted = excerpts }
