-- Buffers are those of a tree exactly where the walk over them ends well and the directory is theirs.
pub use Rattle.scan.proofs.Decided.{tree_from, tree_walks, tree_few, tree_of_rows}
