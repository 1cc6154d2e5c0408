use Rattle.std.proofs.Common.{ap}
use Rattle.spelling.proofs.Shapes.{row}
use Rattle.spelling.proofs.Whole as whole
use Rattle.spelling.proofs.spell_whole.Goals as goal

pub returns : goal.returns
returns c = whole.spelled c.args.query.now c.args.writer.now c.write_steps.new.self c.in-Some.step.slash c.requires.len c.requires.word (λ h. ap (λ z. z.slash) (row c.step_at.result c.in-Some.step _ c.in-Some.is c.step_at.ensures h)) c.write_steps.ensures
