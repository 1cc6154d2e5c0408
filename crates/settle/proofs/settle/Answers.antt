use Rattle.std.proofs.Common.{ℕ, length, ap, sym, ◌∙◌, subst₂, arith}
use Rattle.rows.specs.Rows.{count_of}
use Rattle.commands.specs.Checked.{accepted}
use Rattle.selector.specs.Calls.{rise, fall}
use Rattle.selector.specs.Steps.{state_of, refusal, state_after, words_after}
use Rattle.settle.specs.Settling.{Ready}
use Rattle.settle.proofs.Swept.{ok_so, all_swept, rise_granted, fall_granted, granted_so, ready}
use Rattle.settle.proofs.settle.Goals as goal

pub returns-in_err-rise : goal.returns-in_err-rise
returns-in_err-rise g c =
    let rows = g.T.Tree.rows c.args.tree.now in
    let b = c.args.program.now in
    let ws = c.args.work.now in
    let ok = ok_so (accepted b) c.in_ok-check.field-0 c.in_ok-check.ensures.exact in
    let none = rise_granted rows b (state_of c.args.selector.now) (state_of c.load.new.self) ws ok (omega arith) c.load.ensures.state in
    absurd (granted_so c.rise.result _ _ _ c.rise.ensures.answer (ap (λ (n : ℕ). refusal (state_of c.load.new.self) (count_of rows) (length ws) (rise n)) c.count-n.ensures ∙ none) c.in_err-rise.was)

pub returns-in_err-fall : goal.returns-in_err-fall
returns-in_err-fall g c =
    let rows = g.T.Tree.rows c.args.tree.now in
    let b = c.args.program.now in
    let ws = c.args.work.now in
    let ok = ok_so (accepted b) c.in_ok-check.field-0 c.in_ok-check.ensures.exact in
    let n = c.count-n.ensures in
    let s1 = state_of c.load.new.self in
    let s2 = state_of c.rise.new.self in
    let w2 = c.rise.new.work in
    let none = fall_granted rows b (state_of c.args.selector.now) s1 s2 ws w2 ok (omega arith) c.load.ensures.state (c.rise.ensures.state ∙ ap (λ (k : ℕ). state_after rows s1 ws (rise k)) n) c.rise.auto.work in
    absurd (granted_so c.fall.result _ _ _ c.fall.ensures.answer (ap (λ (k : ℕ). refusal s2 (count_of rows) (length w2) (fall k)) n ∙ none) c.in_err-fall.was)

pub returns-clause-ready : goal.returns-clause-ready
returns-clause-ready g c names q t y =
    let rows = g.T.Tree.rows c.args.tree.now in
    let b = c.args.program.now in
    let s = state_of c.args.selector.now in
    let ws = c.args.work.now in
    let ok = ok_so (accepted b) c.in_ok-check.field-0 c.in_ok-check.ensures.exact in
    let n = c.count-n.ensures in
    let s1 = state_of c.load.new.self in
    let s2 = state_of c.rise.new.self in
    let w2 = c.rise.new.work in
    let all = all_swept rows b s s1 s2 (state_of c.fall.new.self) ws w2 c.fall.new.work ok (omega arith) c.load.ensures.state
    (c.rise.ensures.state ∙ ap (λ (k : ℕ). state_after rows s1 ws (rise k)) n) (c.rise.ensures.words ∙ ap (λ (k : ℕ). words_after rows s1 ws (rise k)) n)
    (c.fall.ensures.state ∙ ap (λ (k : ℕ). state_after rows s2 w2 (fall k)) n) (c.fall.ensures.words ∙ ap (λ (k : ℕ). words_after rows s2 w2 (fall k)) n) in
    subst₂ (Ready names q rows) (sym all.0) (sym all.1) (ready rows b ws (g.T.Tree.lawful c.args.tree.now) ok (omega arith) names q t)
