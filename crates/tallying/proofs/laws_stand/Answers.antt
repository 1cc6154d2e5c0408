use Rattle.tallying.proofs.Stages.{stages}
use Rattle.tallying.proofs.Bits.{rise_bits, fall_bits}
use Rattle.tallying.proofs.Same.{words_settle}
use Rattle.tallying.proofs.laws_stand.Goals as goal

pub returns : goal.returns
returns c = record { stages = stages; settled = words_settle; rises = rise_bits; falls = fall_bits }
