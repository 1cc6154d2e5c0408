use Rattle.translation.proofs.Says.{says_program}
use Rattle.translation.proofs.Translations.{translation_short, some_translation}
use Rattle.translation.proofs.laws_stand.Goals as goal

pub returns : goal.returns
returns c = record { most = translation_short; said = says_program; some = some_translation }
