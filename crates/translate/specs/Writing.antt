-- What a writer writes, from the end of a program on, and what the rows of a query say.
use Rattle.std.specs.Prelude.{◌≡◌, ℕ, ◌+◌, ◌≤◌, List, length}
use Rattle.automata.specs.Program.{Formula, Program}
use Rattle.query.specs.declared.table.NodeTest.{NodeTest}
use Rattle.query.specs.declared.table.Step.{Step}
use Rattle.translation.specs.Table.{test_says, step_says, inside_says, outside_says, insides, outsides, program_of}
use Rattle.translation.specs.Written.{Adds, Remains}
use Rattle.translate.specs.declared.bytes.Writer.{Writer}
use Rattle.translate.specs.declared.query_rows.Rows.{Rows}
use Rattle.translate.specs.Outcome.{text_in}

-- room for n bytes more
abbrev pub HasRoom : Writer → ℕ → Type 0
HasRoom w n = w.at + n ≤ length w.out.now

-- from the writer w to v: `bs` was written before what stood there, into the same buffer
pub record Puts (w v : Writer) (bs : List ℕ) : Type 0 where
  pub same : v.out.ghost_name ≡ w.out.ghost_name
  pub long : length v.out.now ≡ length w.out.now
  pub adds : Adds w.out.now w.at v.out.now v.at bs

-- of the bytes `whole` that are to be written from the writer w on, v has all but `left`
pub record Leaves (whole : List ℕ) (w : Writer) (left : List ℕ) (v : Writer) : Type 0 where
  pub same : v.out.ghost_name ≡ w.out.ghost_name
  pub long : length v.out.now ≡ length w.out.now
  pub remains : Remains whole w.out.now w.at left v.out.now v.at

-- what the rows say
abbrev pub test_of : Rows → NodeTest → Formula
test_of r t = test_says r.names.now (text_in r.query.now) t

abbrev pub step_of : Rows → Step → Formula
step_of r w = step_says r.names.now (text_in r.query.now) r.query.now.table w

abbrev pub inside_of : Rows → ℕ → Formula
inside_of r i = inside_says r.names.now (text_in r.query.now) r.query.now.table i

abbrev pub outside_of : Rows → ℕ → Formula
outside_of r i = outside_says r.names.now (text_in r.query.now) r.query.now.table i

abbrev pub insides_of : Rows → List Formula
insides_of r = insides r.names.now (text_in r.query.now) r.query.now.table 0 r.query.now.table.inside_count

abbrev pub outsides_of : Rows → List Formula
outsides_of r = outsides r.names.now (text_in r.query.now) r.query.now.table 0 r.query.now.table.outside_count

abbrev pub program_in : Rows → Program
program_in r = program_of r.names.now (text_in r.query.now) r.query.now.table
