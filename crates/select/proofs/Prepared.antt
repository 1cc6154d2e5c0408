-- A translation settles.
use Rattle.std.proofs.Common.{◌≡◌, ℕ, ◌-◌, ◌≤◌, true, List, length, take, None, ap, ◌∙◌, arith}
use Rattle.rows.specs.Rows.{Row, count_of}
use Rattle.query.specs.declared.parsed.Query.{Query}
use Rattle.query.specs.Queries.{query_of}
use Rattle.selection.specs.Selects.{Store}
use Rattle.grammar.specs.Syntax.{Path}
use Rattle.commands.specs.Checked.{accepted}
use Rattle.commands.proofs.Denotes.{loads}
use Rattle.history.proofs.Loads.{loads_accepted}
use Rattle.translation.specs.Translation.{Translation}
use Rattle.translate.specs.Outcome.{Granted}
use Rattle.settle.specs.Settling.{settle_refusal}
use Rattle.settle.proofs.Swept.{asks_none}

-- a translation is accepted
taken : (names : Store) (q : Path) (b : List ℕ) → Translation names q b → accepted b ≡ true
taken names q b t = loads_accepted b (loads b t.0 t.1)

-- so it settles
pub settles : (names : Store) (q : Query) (rows : List Row) (old new ws : List ℕ) (n : ℕ) → count_of rows ≤ length ws → Granted names q old new n → settle_refusal rows (take (n - 0) new) ws ≡ None
settles names q rows old new ws n fit g =
    let z : n - 0 ≡ n = omega arith in
    ap (λ (k : ℕ). settle_refusal rows (take k new) ws) z ∙ asks_none rows (take n new) ws (taken names (query_of q) (take n new) g.translation) fit
