use Rattle.selection.proofs.Theorem.{marks_selected, translates}
use Rattle.selection.proofs.Accepted.{accepted_limited}
use Rattle.selection.proofs.Limits.{translations_fit}
use Rattle.selection.proofs.laws_stand.Goals as goal

pub returns : goal.returns
returns c = record {
  most = λ names q ok. (translations_fit names q ok).deciding_few;
  selected = marks_selected;
  means = translates;
  limited = accepted_limited;
  fits = translations_fit;
}
