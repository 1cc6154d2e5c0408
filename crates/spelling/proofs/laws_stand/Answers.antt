use Rattle.std.proofs.Common.{arith, length-take}
use Rattle.grammar.proofs.Spelt.{reads_back, shortest}
use Rattle.query.specs.Queries.{text_of, query_of}
use Rattle.query.proofs.Shown.{query_reads}
use Rattle.spelling.proofs.laws_stand.Goals as goal

pub returns : goal.returns
returns c =
    let q = c.args.query.now in
    record { back = reads_back (text_of q) (query_of q) (query_reads q); shortest = omega (arith, shortest (text_of q) (query_of q) (query_reads q), length-take q.len q.text) }
