use Rattle.std.proofs.Common.{rules}
use Rattle.translate.proofs.Sizes.{granted}
use Rattle.translate.proofs.write_program.Goals as goal

pub returns : goal.returns
returns c =
    granted c.args.names.now c.args.query.now c.new-writer.result c.put_program.new.out c.args.out.now _ c.finish.result
    c.new-writer.ensures.out c.new-writer.ensures.at c.put_program.ensures c.finish.ensures.count (search rules)
