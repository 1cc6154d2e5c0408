use Rattle.translate.proofs.Writing.{puts_more}
use Rattle.translate.proofs.steps.put_named.Goals as goal

pub returns : goal.returns
returns c = puts_more (puts_more c.put.ensures c.put-2.ensures) c.put_element.ensures
