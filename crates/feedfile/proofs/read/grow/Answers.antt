use Rattle.std.proofs.Common.{◌≡◌, length, Some, Ok, Err, sym, ap, ◌∙◌, arith}
use Rattle.std.proofs.lemmas.Grind.{common_steps}
use Rattle.growth.specs.Commands.{step_check}
use Rattle.growth.specs.declared.fault.Fault.{Fault}
use Rattle.feed.specs.Fed.{fed}
use Rattle.feedfile.specs.declared.command.FileCommand.{FileCommand}
use Rattle.feedfile.specs.declared.command.FileCommand.TheVariants.{Feed}
use Rattle.feedfile.specs.Bytes.{taken, split}
use Rattle.feedfile.proofs.Takes.{shorter}
use Rattle.feedfile.proofs.Readings.{refuse, go_on}
use Rattle.feedfile.proofs.read.grow.Goals as goal

pub loop-item-smaller : goal.loop-item-smaller
loop-item-smaller c = shorter c.loop-item.rest.now c.in-Some.after.now c.in-Some.item (sym c.take_command.ensures ∙ ap split c.in-Some.is)

pub loop-item-preserved : goal.loop-item-preserved
loop-item-preserved c =
    let bs = c.loop-item.rest.now in
    let rest = c.in-Some.after.now in
    let f = fed c.loop-item.feed c.loop-item.bits c.loop-item.labels in
    let g = fed c.apply.new.self c.apply.new.bits c.apply.new.labels in
    let first : taken bs ≡ Some (c.in-Some.item, rest) = sym c.take_command.ensures ∙ ap split c.in-Some.is in
    let granted : Ok tt ≡ step_check f c.loop-item.names c.in-Feed.command = grind arith in
    let less = shorter bs rest c.in-Some.item first in (
      omega (arith, c.loop-item.invariant.0),
      go_on (length c.args.file.now) bs rest f g c.loop-item.names c.apply.new.names c.in-Feed.command
          (first ∙ ap (λ (x : FileCommand). Some (x, rest)) c.in-Feed.is) granted c.apply.ensures.leaves c.apply.ensures.stores
          ∙ c.loop-item.invariant.1,
    )

pub returns-in_err-map_err-clause-reads : goal.returns-in_err-map_err-clause-reads
returns-in_err-map_err-clause-reads c =
    let n = length c.args.file.now in
    let bs = c.loop-item.rest.now in
    let rest = c.in-Some.after.now in
    let f = fed c.loop-item.feed c.loop-item.bits c.loop-item.labels in
    let g = fed c.apply.new.self c.apply.new.bits c.apply.new.labels in
    let first : taken bs ≡ Some (Feed c.in-Feed.command, rest) =
    (sym c.take_command.ensures ∙ ap split c.in-Some.is) ∙ ap (λ (x : FileCommand). Some (x, rest)) c.in-Feed.is in
    let refused = λ (e : Fault) (a : Err e ≡ step_check f c.loop-item.names c.in-Feed.command).
    refuse n bs rest f g c.loop-item.names c.apply.new.names c.in-Feed.command e first a c.apply.ensures.leaves c.apply.ensures.stores in
    grind (arith, common_steps, refused)
