-- What an extent and the leading twelve of the code mean.
use Rattle.std.specs.Prelude.{Option, Some, None, take}
use Rattle.tally.specs.Values.{Extent, Leading, leading}
use Rattle.tally.specs.Values.Extent.{nowhere, across}
use Rattle.tally.specs.declared.extent.Ends.{Ends}
use Rattle.tally.specs.declared.leading.LeadingTwelve.{LeadingTwelve}

abbrev pub reach : Option Ends → Extent
reach None = nowhere
reach (Some e) = across e.first e.last

abbrev pub leading_of : LeadingTwelve → Leading
leading_of t = leading (take t.len t.nodes) t.more
