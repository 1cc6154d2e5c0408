use Rattle.std.proofs.Common.{ℕ, List, take, drop, refl}
use Rattle.std.proofs.lemmas.Result.{err_from_is_err_and}
use Rattle.rows.specs.Rows.{Row, Lawful}
use Rattle.rows.proofs.Laws.{to_lawful}
use Rattle.scan.specs.Trees.{rows_of}
use Rattle.query.specs.Queries.{query_of}
use Rattle.selection.specs.Selects.{Store}
use Rattle.feedfile.specs.Files.{Grown}
use Rattle.choosing.specs.Choosing.{Input}
use Rattle.choosing.proofs.choose.answer.Goals as goal

begun : (input : List ℕ) (end : ℕ) (rows : List Row) (names_fed : ℕ) (store : Store) → Grown input end rows names_fed store → Lawful rows → Input input rows (take names_fed store) (drop end input)
begun input end rows names_fed store g l = record { end = end; names_fed = names_fed; store = store; grown = g; lawful = l; named = refl; rest = refl }

pub returns-in_err-query : goal.returns-in_err-query
returns-in_err-query c =
    let p = err_from_is_err_and c.from_residual-in_err-query.result c.from_residual-in_err-query.ensures.1 in
    let tree = c.read_tree.new.tree in
    let rows = rows_of tree.bits.now tree.labels.now in
    let input = c.args.input.now in
    rw (p.1, p.2) (
      c.requires,
      (
        rows,
        take c.in_ok-end.end.names c.read_tree.new.names,
        drop c.in_ok-end.end.place input,
        begun input c.in_ok-end.end.place rows c.in_ok-end.end.names c.read_tree.new.names c.in_ok-end.ensures.shows (to_lawful rows tree.law),
        c.in_err-query.ensures,
      ),
    )

pub returns : goal.returns
returns c =
    let tree = c.read_tree.new.tree in
    let rows = rows_of tree.bits.now tree.labels.now in
    let input = c.args.input.now in (
      c.requires,
      (
        rows,
        take c.in_ok-end.end.names c.read_tree.new.names,
        drop c.in_ok-end.end.place input,
        query_of c.in_ok-query.query,
        begun input c.in_ok-end.end.place rows c.in_ok-end.end.names c.read_tree.new.names c.in_ok-end.ensures.shows (to_lawful rows tree.law),
        c.in_ok-query.ensures.1,
        c.in_ok-select_text.ensures,
      ),
    )
