use Rattle.std.proofs.Common.{ℕ, List, ◌++◌, length, Some, sym, ◌∙◌, ap₂}
use Rattle.std.proofs.lemmas.List.{drop-replicate}
use Rattle.std.proofs.lemmas.Bool.{cond-false, le-ltb}
use Rattle.names.proofs.slot.slot_of.Goals as goal

pub returns : goal.returns
returns c =
    ap₂ (λ (a b : List ℕ). Some (a ++ b)) c.copy_from_slice.ensures.after (drop-replicate (length c.args.name.now) 32 0)
    ∙ sym (cond-false _ _ _ (le-ltb _ _ c.if-name-gt32.false))
