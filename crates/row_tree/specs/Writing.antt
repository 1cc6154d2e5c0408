-- What writing a tree as stored rows answers and leaves.
use Rattle.std.specs.Prelude.{◌≡◌, ℕ, cond, List, ◌++◌, length, take, drop, Ok, Err, Result, nat_lt}
use Rattle.tree.specs.declared.fault.Fault.{Fault}
use Rattle.tree.specs.declared.fault.Fault.TheVariants.{Memory}
use Rattle.rows.specs.Rows.{Row, count_of}
use Rattle.stored.specs.declared.row.StoredRow.{StoredRow}
use Rattle.stored.specs.Stored.{stored_of, rows_of, OfTree}

-- refused below one stored row a node; otherwise the number of nodes
abbrev pub write_answer : List Row → List StoredRow → Result ℕ Fault
write_answer rows out = cond (nat_lt (length out) (count_of rows)) (Err Memory) (Ok (count_of rows))

-- the buffer after: a refusal changes nothing, and stored rows past the tree's stay
abbrev pub written : List Row → List StoredRow → List StoredRow
written rows out = cond (nat_lt (length out) (count_of rows)) out (stored_of rows ++ drop (count_of rows) out)

-- what was written loads, and shows the rows that it was written from
abbrev pub Reloads : List Row → List StoredRow → Result ℕ Fault → Type 0
Reloads rows out (Ok n) = OfTree (take n out) × (rows_of (take n out) ≡ rows)
Reloads rows out (Err f) = Unit {0}
