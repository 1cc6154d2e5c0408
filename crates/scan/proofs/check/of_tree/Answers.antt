use Rattle.std.proofs.Common.{◌*◌, length, sym, ap, ◌∙◌, arith}
use Rattle.std.proofs.lemmas.Bool.{false≢true}
use Rattle.shape.specs.Bits.{bits_of}
use Rattle.scan.proofs.Blocks.{directory_length}
use Rattle.scan.proofs.Decided.{tree_from, tree_walks}
use Rattle.scan.proofs.check.of_tree.Goals as goal
use Rattle.scan.proofs.check.of_tree.Goals.{then-directory-blocks_for-via-then-directory-blocks_for, then-directory-blocks_for-via-else-directory-blocks_for+then-not-shape_holds}

pub returns-then-directory-blocks_for : goal.returns-then-directory-blocks_for
returns-then-directory-blocks_for c =
    let xs = c.args.bits.now in
    let ls = c.args.labels.now in
    let ds = c.args.directory.now in
    let n = c.args.count in (
      λ e. absurd (false≢true e),
      λ t. elim c.then-directory-blocks_for.branch [
        | then-directory-blocks_for-via-then-directory-blocks_for w ↦ absurd (w.if-directory-blocks_for.true (ap length t.blocks ∙ directory_length (bits_of xs) (2 * n) ∙ sym c.blocks_for.ensures))
        | then-directory-blocks_for-via-else-directory-blocks_for+then-not-shape_holds w ↦ sym w.if-not-shape_holds.true ∙ w.shape_holds.ensures ∙ tree_walks xs ls ds n t
      ],
    )

pub returns : goal.returns
returns c =
    let d = c.has_directory.ensures in (
      λ e. tree_from c.args.bits.now c.args.labels.now c.args.directory.now c.args.count (omega (arith, c.if-bits-bytes_for.false, c.bytes_for.ensures)) c.if-labels-count.false (sym c.if-not-shape_holds.ensures) (d.0 e),
      λ t. d.1 t.blocks,
    )
