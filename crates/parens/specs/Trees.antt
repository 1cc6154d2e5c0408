-- The buffers of a tree and the rows that they show, under one name with how they are loaded.
pub use Rattle.scan.specs.Trees.{rows_of, OfTree, RowsShown}
