-- A whole query is written.
use Rattle.std.proofs.Common.{◌≡◌, ℕ, ◌+◌, ◌<◌, ◌≤◌, Bool, false, List, [], length, take, Some, None, refl, ap, ◌∙◌, subst, arith}
use Rattle.grammar.specs.Machine.{outer}
use Rattle.grammar.specs.Spelling.{path_t, spell}
use Rattle.grammar.proofs.Reading.{sound}
use Rattle.grammar.proofs.Spelt.{shortest}
use Rattle.query.specs.declared.parsed.Query.{Query}
use Rattle.query.specs.Queries.{text_of, query_of}
use Rattle.query.specs.Shown.{step_at}
use Rattle.query.proofs.Shown.{query_reads, query_shows}
use Rattle.spelling.specs.declared.writer.Writer.{Writer}
use Rattle.spelling.specs.Writing.{total, Emits}
use Rattle.spelling.specs.Spellings.{Part, rest_t, parts, root, ShowsFrom, preds_parts}
use Rattle.spelling.proofs.Shapes.{from_path, path_parts, preds_parts_lem, preds_path_lem}
use Rattle.spelling.proofs.Writes.{all_written}

pub spelled : (q : Query) (v w : Writer) (z : Bool) → v.len ≡ 0 → v.word ≡ false → (0 < 16 → z ≡ (step_at outer q.table 0).slash)
    → ((ps : List Part) (s a c : ℕ) → ShowsFrom outer (text_of q) q.table (Some 0) ps s a c → c + preds_parts ps ≤ 46 → 46 ≤ 46 → Emits (rest_t z ps) v w) → take w.len w.bytes ≡ spell (query_of q)
spelled q v w z n k sl g =
    let x = query_of q in
    let r = sound (text_of q) x (query_reads q) in
    let pp = from_path (text_of q) q.table outer x None 0 0 0 [] (λ k. omega (arith, r.outside)) (omega (arith, r.inside)) (query_shows q).path refl in
    let flag : z ≡ root x = sl (omega arith) ∙ pp.1 in
    let told = g (parts x []) 0 0 0 pp.0 (omega (arith, preds_parts_lem x [], preds_path_lem x, r.inside)) (omega arith) in
    let small = shortest (text_of q) x (query_reads q) in
    all_written (path_t x []) v w n k (omega (arith, small, r.short)) (λ us h. let e = path_parts x [] [] in ap (total v) e ∙ subst (λ b. Emits (rest_t b (parts x [])) v w) flag told [] (subst (λ l. length (total v l) ≤ 512) e h))
