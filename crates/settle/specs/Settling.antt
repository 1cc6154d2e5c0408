-- Loading a program and both sweeps over all nodes, in one call.
use Rattle.std.specs.Prelude.{◌≡◌, ℕ, ◌-◌, ◌≤◌, List, length, None, Option, nat_le}
use Rattle.rows.specs.Rows.{Row, count_of}
use Rattle.grammar.specs.Syntax.{Path}
use Rattle.selection.specs.Selects.{Store, Selects}
use Rattle.commands.specs.Commands.{commands_of}
use Rattle.commands.specs.Rules.{after_deciding}
use Rattle.commands.specs.Checked.{accepted}
use Rattle.sweep.specs.Rising.{risen}
use Rattle.sweep.specs.Falling.{fallen}
use Rattle.tallying.specs.Nodes.{Lists}
use Rattle.selector.specs.Codes.{bad_program}
use Rattle.selector.specs.declared.fault.Fault.{Fault}
use Rattle.selector.specs.declared.fault.Fault.TheVariants.{SmallWork}
use Rattle.selector.specs.declared.phase.Phase.TheVariants.{Settled}
use Rattle.selector.specs.Calls.{tally}
use Rattle.selector.specs.Steps.{State, refusal, unless_so, before, granted_or, told_nodes}

-- refused where the program breaks a rule, then where the work area has fewer words than the tree has nodes
abbrev pub settle_refusal : List Row → List ℕ → List ℕ → Option Fault
settle_refusal rows b ws = before (unless_so (accepted b) bad_program) (unless_so (nat_le (count_of rows) (length ws)) SmallWork)

-- granted, the selector has the program and is settled
abbrev pub settled_state : List Row → List ℕ → State → List ℕ → State
settled_state rows b s ws = granted_or (settle_refusal rows b ws) s (record { bytes = b; count = count_of rows; phase = Settled })

-- and the words are those of a rise over all nodes and then a fall over all
abbrev pub swept : List Row → List ℕ → List ℕ → List ℕ
swept rows b ws = fallen rows (after_deciding (commands_of b)) 0 (count_of rows) (risen rows (commands_of b) 0 (count_of rows) ws)

abbrev pub settled_words : List Row → List ℕ → List ℕ → List ℕ
settled_words rows b ws = granted_or (settle_refusal rows b ws) ws (swept rows b ws)

-- every tally of a span in the tree is granted, and tells of the nodes of the span that the query selects, in order
abbrev pub Ready : Store → Path → List Row → State → List ℕ → Type 0
Ready names q rows s ws = (lo hi : ℕ) → lo ≤ hi → hi ≤ count_of rows →
    (refusal s (count_of rows) (length ws) (tally lo hi) ≡ None) × Lists (Selects names q rows) lo (hi - lo) (told_nodes s ws lo hi)
