-- What is printed for which input.
use Rattle.std.specs.Prelude.{◌≡◌, ℕ, ◌<◌, ◌≤◌, List, ◌++◌, length, take, drop, codes, decimal, Ok, Err, Some, None, Option, Result, String, string_bytes}
use Rattle.std.specs.declared.alloc.Global.{Global}
use Rattle.rows.specs.Rows.{Row, Lawful, count_of}
use Rattle.shape.specs.Bits.{bits_of}
use Rattle.grammar.specs.Syntax.{Path}
use Rattle.grammar.specs.Machine.{outcome, accepted, refused}
use Rattle.query.specs.Faults as query
use Rattle.selection.specs.Selects.{Store, Selects}
use Rattle.tallying.specs.Nodes.{Lists}
use Rattle.feedfile.specs.declared.command.FileFault.{FileFault}
use Rattle.feedfile.specs.Faults as file
use Rattle.feedfile.specs.Files.{Grown}
use Rattle.feedtree.specs.Answer.{tree_answer}
use Rattle.choosing.specs.declared.chosen.Fault.{Fault}
use Rattle.choosing.specs.declared.chosen.Fault.TheVariants.{TooLong, Feed, Query as TextOfQuery}
use Rattle.choosing.specs.declared.chosen.ChooseError.{ChooseError}
use Rattle.choosing.specs.declared.chosen.ChooseError.TheVariants.{Refused, OutOfMemory}
use Rattle.choosing.specs.Printed.{printed}

-- the number and the place of each fault: those of feed and query keep their own
abbrev pub code_of : Fault → ℕ
code_of TooLong = 11
code_of (Feed f) = file.code_of f
code_of (TextOfQuery f) = query.code_of f

abbrev pub place_of : Fault → ℕ
place_of TooLong = 65536
place_of (Feed f) = file.place_of f
place_of (TextOfQuery f) = query.place_of f

-- a refusal as it is printed
abbrev pub refusal_text : Fault → List ℕ
refusal_text f = codes "refused " ++ (decimal (code_of f) ++ (codes " at " ++ decimal (place_of f)))

-- what is printed where there is no text: nothing is said of want of memory
abbrev pub failure_text : ChooseError → Option (List ℕ)
failure_text (Refused f) = Some (refusal_text f)
failure_text OutOfMemory = None

-- a text tells of the nodes that the query q selects in a tree, all of them in order
abbrev pub Tells : Store → Path → List Row → List ℕ → Type 0
Tells names q rows text = (vs : List ℕ) × Lists (Selects names q rows) 0 (count_of rows) vs × (text ≡ printed (count_of rows) vs)

-- a feed file is refused by a fault, in memory for the largest tree, whatever that held
abbrev pub FeedRefused : List ℕ → FileFault → Type 0
FeedRefused input f =
    (bits labels : List ℕ) × (store : Store) × (length bits ≡ 2048) × (length labels ≡ 8192) × (length store ≡ 512) × (tree_answer input (bits_of bits) labels store 64 ≡ Err f)

-- an input begins with a feed, which makes the tree of the rows and the names fed; after its end comes the text of the query
pub record Input (input : List ℕ) (rows : List Row) (names : Store) (text : List ℕ) : Type 0 where
  pub end : ℕ
  pub names_fed : ℕ
  pub store : Store
  pub grown : Grown input end rows names_fed store
  pub lawful : Lawful rows
  pub named : names ≡ take names_fed store
  pub rest : text ≡ drop end input

-- what is answered to an input: refused as too long, by a command of its feed or in its query; or the text for the query.
-- Where memory runs out nothing is said.
abbrev pub Chooses : List ℕ → Result (String Global) ChooseError → Type 0
Chooses input (Err OutOfMemory) = Unit {0}
Chooses input (Err (Refused TooLong)) = 65536 < length input
Chooses input (Err (Refused (Feed f))) = (length input ≤ 65536) × FeedRefused input f
Chooses input (Err (Refused (TextOfQuery f))) =
    (length input ≤ 65536) × ((rows : List Row) × (names : Store) × (text : List ℕ) × Input input rows names text × (outcome text ≡ refused (query.code_of f) (query.place_of f)))
Chooses input (Ok s) =
    (length input ≤ 65536) × ((rows : List Row) × (names : Store) × (text : List ℕ) × (q : Path) × Input input rows names text × (outcome text ≡ accepted q) × Tells names q rows (string_bytes s))
