-- What the commands of a feed answer and leave.
use Rattle.std.specs.Prelude.{ℕ, ◌+◌, ◌-◌, ◌*◌, Bool, true, false, cond, ◌||◌, List, ◌++◌, length, take, drop, Ok, Err, Result, nat_le, nat_lt, slice_set}
use Rattle.shape.specs.Shape.{closing}
use Rattle.scan.specs.Directory.{blocks}
use Rattle.growth.specs.declared.fault.Fault.{Fault}
use Rattle.growth.specs.declared.fault.Fault.TheVariants.{Label, Full, Memory, RootOnly, StillOpen}

-- the numbers of a feed, and what its memory holds: parentheses and labels
pub record Fed : Type 0 where
  pub nodes : ℕ
  pub written : ℕ
  pub due : ℕ
  pub names : ℕ
  pub bits : List Bool
  pub labels : List ℕ

-- what is left after a command: a refusal changes nothing
abbrev pub after : {A : Type 0} → Result A Fault → Fed → Fed → Fed
after (Ok x) f g = g
after (Err e) f g = f

-- the bits from one place up to another cleared
abbrev pub cleared : List Bool → ℕ → ℕ → List Bool
cleared bs p q = take p bs ++ closing (q - p) (drop q bs)

-- the root
abbrev pub begin_check : List Bool → List ℕ → Result (Unit {0}) Fault
begin_check bits labels = cond (nat_lt (length bits) 2 || nat_lt (length labels) 1) (Err Memory) (Ok tt)

abbrev pub begun : List Bool → List ℕ → Fed
begun bits labels = record { nodes = 1; written = 1; due = 1; names = 0; bits = slice_set bits 0 true; labels = slice_set labels 0 0 }

-- a node more: 8192 at most, and memory for its two parentheses and its label beside those written and due
abbrev pub room : Fed → Result (Unit {0}) Fault
room f =
    cond (nat_le 8192 f.nodes) (Err Full)
    (cond (nat_lt (length f.bits) (f.written + f.due + 2) || nat_le (length f.labels) f.nodes) (Err Memory) (Ok tt))

-- an element of a label that has a name
abbrev pub open_check : Fed → ℕ → Result (Unit {0}) Fault
open_check f label = cond (nat_lt label 2 || nat_lt (f.names + 1) label) (Err Label) (room f)

abbrev pub opened : Fed → ℕ → Fed
opened f label = record {
  nodes = f.nodes + 1;
  written = f.written + 1;
  due = f.due + 1;
  names = f.names;
  bits = slice_set f.bits f.written true;
  labels = slice_set f.labels f.nodes label;
}

-- a text, which is closed at once
abbrev pub text_check : Fed → Result (Unit {0}) Fault
text_check f = room f

abbrev pub texted : Fed → Fed
texted f = record {
  nodes = f.nodes + 1;
  written = f.written + 2;
  due = f.due;
  names = f.names;
  bits = slice_set (slice_set f.bits f.written true) (f.written + 1) false;
  labels = slice_set f.labels f.nodes 1;
}

-- the innermost element closed
abbrev pub shut_check : Fed → Result (Unit {0}) Fault
shut_check f = cond (nat_lt (length f.bits) (f.written + f.due)) (Err Memory) (cond (nat_lt f.due 2) (Err RootOnly) (Ok tt))

abbrev pub shut : Fed → Fed
shut f = record {
  nodes = f.nodes;
  written = f.written + 1;
  due = f.due - 1;
  names = f.names;
  bits = slice_set f.bits f.written false;
  labels = f.labels;
}

-- the end: memory for all parentheses and for d blocks of the directory, and no element open
abbrev pub seal_check : Fed → ℕ → Result (Unit {0}) Fault
seal_check f d =
    cond (nat_lt (length f.bits) (f.written + f.due) || nat_lt d (blocks (2 * f.nodes))) (Err Memory)
    (cond (nat_lt 1 f.due) (Err StillOpen) (Ok tt))

-- a name more
abbrev pub named : Fed → Fed
named f = record { nodes = f.nodes; written = f.written; due = f.due; names = f.names + 1; bits = f.bits; labels = f.labels }
