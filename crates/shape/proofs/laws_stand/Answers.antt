use Rattle.shape.proofs.Laws.{rows_back_law, two_each, parens_placed, relations_shown, bits_packed_law, example_packed}
use Rattle.shape.proofs.laws_stand.Goals as goal

pub returns : goal.returns
returns c = record { back = rows_back_law; each = two_each; placed = parens_placed; relations = relations_shown; packed = bits_packed_law; example = example_packed }
