use Rattle.std.proofs.Common.{◌≡◌, ℕ, ◌+◌, ◌-◌, take, drop, sym, ap, ◌∙◌, arith}
use Rattle.std.proofs.lemmas.List.{drop-take}
use Rattle.commands.specs.Commands.{commands_of}
use Rattle.commands.proofs.Ends.{rules_begin}
use Rattle.selector.proofs.selector.Selector.sending.Goals as goal

pub returns : goal.returns
returns c =
    let s = c.args.self.now in
    let r = s.rules in
    let n = s.len in
    let whole : r + (n - r) ≡ n = omega (arith, s.within) in
    ap commands_of (sym (drop-take r (n - r) s.program) ∙ ap (λ (k : ℕ). drop r (take k s.program)) whole ∙ ap (λ (k : ℕ). drop k (take n s.program)) s.begins)
    ∙ rules_begin (take n s.program)
