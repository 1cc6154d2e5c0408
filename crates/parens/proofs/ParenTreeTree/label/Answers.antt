use Rattle.std.proofs.Common.{ℕ, Option, ap, ◌∙◌, arith}
use Rattle.std.specs.Option.{unwrap_or}
use Rattle.parens.proofs.Facts.{label_is}
use Rattle.parens.proofs.ParenTreeTree.label.Goals as goal

pub returns : goal.returns
returns c =
    c.unwrap_or.ensures ∙ ap (λ (o : Option ℕ). unwrap_or o 65535) c.copied.ensures ∙ c.get.ensures.lookup.4 (omega arith) 65535
    ∙ label_is c.args.self.now c.args.v
