use Rattle.feed.proofs.types.Growing.apply.Goals as goal

pub returns-in-Shut-clause-answers : goal.returns-in-Shut-clause-answers
returns-in-Shut-clause-answers c = rw c.in-Shut.is (c.shut.ensures.answers c.args.labels.now)
