use Rattle.std.proofs.Common.{rules}
use Rattle.tally.proofs.Joins.{copied}
use Rattle.tally.proofs.leading.LeadingTwelveTally.joined.Goals as goal

pub returns : goal.returns
returns c =
    copied c.args.self.nodes c.args.other.nodes c.copy_from_slice.new.self c.args.self.len c.args.other.len _ c.min-taken.result c.args.self.more c.args.other.more
    (search rules) (search rules) c.args.self.ok c.args.other.ok c.min-taken.ensures c.copy_from_slice.ensures.after
