use Rattle.std.proofs.Common.{◌≡◌, ◌++◌, take, string_bytes}
use Rattle.choosing.specs.Printed.{numbers_text}
use Rattle.choosing.proofs.report.add_numbers.Given as goal

abbrev pub invariant-loop-node : goal.invariant-loop-node
invariant-loop-node l = string_bytes l.text ≡ string_bytes l.initial.text ++ numbers_text (take l.node-index l.nodes)
