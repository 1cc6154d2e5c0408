use Rattle.std.proofs.Common.{Bool, true, false, sym, subst}
use Rattle.grammar.specs.declared.tokens.Symbol.TheVariants.{Slash}
use Rattle.grammar.specs.Syntax.{self, following_sibling, axis_word}
use Rattle.query.specs.Shown.{axis_of}
use Rattle.spelling.specs.declared.writer.Writer.{Writer}
use Rattle.spelling.specs.Writing.{Emits}
use Rattle.spelling.specs.Spellings.{named_t, lead_t, only}
use Rattle.spelling.proofs.Writes.{emits}
use Rattle.spelling.proofs.writer.Writer.write_axis.Goals as goal

self_lead : (b : Bool) (v w : Writer) → Emits (λ us. only Slash b (named_t (axis_word self) us)) v w → Emits (lead_t b self) v w
self_lead true v w h = h
self_lead false v w h = h

sibling_lead : (b : Bool) (v w : Writer) → Emits (λ us. only Slash b (named_t (axis_word following_sibling) us)) v w → Emits (lead_t b following_sibling) v w
sibling_lead true v w h = h
sibling_lead false v w h = h

pub returns-in-SelfNode : goal.returns-in-SelfNode
returns-in-SelfNode c = subst (λ a. Emits (lead_t c.args.slash (axis_of a)) c.args.self.now c.write_named_axis.new.self) (sym c.in-SelfNode.is) (self_lead c.args.slash c.args.self.now c.write_named_axis.new.self (emits (only Slash c.args.slash) (named_t (axis_word self)) c.args.self.now c.write_if.new.self c.write_named_axis.new.self c.write_if.ensures c.write_named_axis.ensures))

pub returns-in-FollowingSibling : goal.returns-in-FollowingSibling
returns-in-FollowingSibling c = subst (λ a. Emits (lead_t c.args.slash (axis_of a)) c.args.self.now c.write_named_axis-in-FollowingSibling.new.self) (sym c.in-FollowingSibling.is) (sibling_lead c.args.slash c.args.self.now c.write_named_axis-in-FollowingSibling.new.self (emits (only Slash c.args.slash) (named_t (axis_word following_sibling)) c.args.self.now c.write_if-in-FollowingSibling.new.self c.write_named_axis-in-FollowingSibling.new.self c.write_if-in-FollowingSibling.ensures c.write_named_axis-in-FollowingSibling.ensures))
