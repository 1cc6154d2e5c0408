-- What is proved of feeds.
use Rattle.std.specs.Prelude.{◌≡◌, ℕ, ◌*◌, Bool, List, [], ◌∷◌, ◌++◌, length, take, Ok}
use Rattle.rows.specs.Rows.{Row, row, lone}
use Rattle.shape.specs.Bits.{bits_of}
use Rattle.shape.specs.Shape.{closing, parens_onto}
use Rattle.scan.specs.Directory.{bytes}
use Rattle.scan.specs.Filling.{filled}
use Rattle.scan.specs.declared.block.Block.{Block}
use Rattle.parens.specs.Trees.{rows_of}
use Rattle.parens.specs.Loading.{Enough, Fronts}
use Rattle.growth.specs.declared.command.Command.{Command}
use Rattle.growth.specs.Steps.{Fed, begin_check, begun, open_check, opened, text_check, texted, shut_check, shut, seal_check, cleared, named}
use Rattle.growth.specs.Store.{name_check}
use Rattle.growth.specs.Commands.{rows_fed, fed_rows, Granted}
use Rattle.growth.specs.Holding.{Holds, Names}

-- what is written, with the closings that are due, are the parentheses of the rows
abbrev pub ThenDue : Type 0
ThenDue = (rs : List Row) (f : Fed) (t : List Bool) → Holds rs f → take f.written f.bits ++ closing f.due t ≡ parens_onto 0 rs t

-- a new feed holds the root
abbrev pub BegunHolds : Type 0
BegunHolds = (bits : List Bool) (labels : List ℕ) → begin_check bits labels ≡ Ok tt → Holds lone (begun bits labels)

-- an element or a text is a row more, as deep as there are open nodes
abbrev pub OpenedHolds : Type 0
OpenedHolds = (rs : List Row) (f : Fed) (c : ℕ) → Holds rs f → open_check f c ≡ Ok tt → Holds (rs ++ row f.due c ∷ []) (opened f c)

abbrev pub TextedHolds : Type 0
TextedHolds = (rs : List Row) (f : Fed) → Holds rs f → text_check f ≡ Ok tt → Holds (rs ++ row f.due 1 ∷ []) (texted f)

-- closing an element keeps the rows
abbrev pub ShutHolds : Type 0
ShutHolds = (rs : List Row) (f : Fed) → Holds rs f → shut_check f ≡ Ok tt → Holds rs (shut f)

-- so does a name
abbrev pub NamedHolds : Type 0
NamedHolds = (rs : List Row) (f : Fed) (slots : List (List ℕ)) (s : List ℕ) → Holds rs f → name_check f.names slots s ≡ Ok tt → Holds rs (named f)

-- a feed holds the rows that its commands fed
abbrev pub CommandsHold : Type 0
CommandsHold = (cs : List Command) (f g : Fed) (ss us : List (List ℕ)) (rs : List Row) → Holds rs f → Granted f ss cs g us → Holds (rs ++ rows_fed f.due cs) g

-- the memory of a sealed feed is that of a tree, which shows the rows fed
abbrev pub SealedShows : Type 0
SealedShows = (rs : List Row) (f : Fed) (new : List ℕ) (directory : List Block) → Holds rs f →
    seal_check f (length directory) ≡ Ok tt → bits_of new ≡ cleared f.bits f.written (8 * bytes f.nodes) →
    Enough new f.labels (filled new f.nodes directory) f.nodes × Fronts new f.labels (filled new f.nodes directory) f.nodes
    × (rows_of (take (bytes f.nodes) new) (take f.nodes f.labels) ≡ rs)

-- for every sequence of commands that a new feed grants, if the buffers are otherwise untouched: where sealing is granted,
-- the memory that it leaves is that of a tree, so that it loads, and the tree's rows are exactly the root and the nodes fed
abbrev pub FeedsShow : Type 0
FeedsShow = (cs : List Command) (bits : List Bool) (labels : List ℕ) (ss us : List (List ℕ)) (g : Fed) (new : List ℕ) (directory : List Block) →
    begin_check bits labels ≡ Ok tt → Granted (begun bits labels) ss cs g us →
    seal_check g (length directory) ≡ Ok tt → bits_of new ≡ cleared g.bits g.written (8 * bytes g.nodes) →
    Enough new g.labels (filled new g.nodes directory) g.nodes × Fronts new g.labels (filled new g.nodes directory) g.nodes
    × (rows_of (take (bytes g.nodes) new) (take g.nodes g.labels) ≡ fed_rows cs)

-- after every sequence of commands that a new feed grants, the slots counted hold names, each another
abbrev pub NamesStand : Type 0
NamesStand = (cs : List Command) (bits : List Bool) (labels : List ℕ) (ss us : List (List ℕ)) (g : Fed) → Granted (begun bits labels) ss cs g us → Names g.names us
