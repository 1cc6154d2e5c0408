use Rattle.sweep.proofs.Risen.{rises_right}
use Rattle.sweep.proofs.Fallen.{falls_right}
use Rattle.sweep.proofs.Marked.{marks_right}
use Rattle.sweep.proofs.laws_stand.Goals as goal

pub returns : goal.returns
returns c = record { rises = rises_right; falls = falls_right; marks = marks_right }
