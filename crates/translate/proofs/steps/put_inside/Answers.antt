use Rattle.std.proofs.Common.{◌≡◌, ◌+◌, ◌-◌, [], ◌∷◌, ◌++◌, sym, refl, ap, ◌∙◌, arith}
use Rattle.std.proofs.lemmas.List.{append_assoc}
use Rattle.grammar.specs.Machine.{inner}
use Rattle.query.specs.Shown.{axis_of, step_at}
use Rattle.translation.specs.Table.{state_of, next_says}
use Rattle.translation.specs.Written.{code, both_code, looking_code}
use Rattle.translation.proofs.Parts.{inside_by, inside_long}
use Rattle.translate.specs.Outcome.{text_in}
use Rattle.translate.specs.Writing.{step_of}
use Rattle.translate.proofs.Sizes.{good, inside_few}
use Rattle.translate.proofs.Writing.{puts_as, puts_more}
use Rattle.translate.proofs.steps.put_inside.Goals as goal

pub bounds-table-i : goal.bounds-table-i
bounds-table-i c = let few = inside_few c.args.rows.now.query.now in omega (arith, c.requires.within)

pub put_looking-requires : goal.put_looking-requires
put_looking-requires c =
    let q = c.args.rows.now.query.now in
    let p : q.table.inside_count - (c.args.i + 1) ≡ state_of q.table c.args.i = omega arith in
    let l = inside_long c.args.rows.now.names.now (text_in q) q.table c.args.i (step_at inner q.table c.args.i) _ refl p in
    omega (arith, c.requires.room, c.put.ensures.adds.many, c.put.ensures.long)

pub put_next-requires : goal.put_next-requires
put_next-requires c =
    let q = c.args.rows.now.query.now in
    let p : q.table.inside_count - (c.args.i + 1) ≡ state_of q.table c.args.i = omega arith in
    let l = inside_long c.args.rows.now.names.now (text_in q) q.table c.args.i (step_at inner q.table c.args.i) _ refl p in
    record {
      good = ((good c.args.rows.now.names.now q).inside c.args.i c.requires.within).next;
      room = omega (arith, c.requires.room, c.put.ensures.adds.many, c.put.ensures.long, c.put_looking.ensures.adds.many, c.put_looking.ensures.long);
    }

pub put_step-requires : goal.put_step-requires
put_step-requires c =
    let q = c.args.rows.now.query.now in
    let p : q.table.inside_count - (c.args.i + 1) ≡ state_of q.table c.args.i = omega arith in
    let l = inside_long c.args.rows.now.names.now (text_in q) q.table c.args.i (step_at inner q.table c.args.i) _ refl p in
    record {
      good = ((good c.args.rows.now.names.now q).inside c.args.i c.requires.within).step;
      room = omega (arith, c.requires.room, c.put.ensures.adds.many, c.put.ensures.long, c.put_looking.ensures.adds.many, c.put_looking.ensures.long, c.put_next.ensures.adds.many, c.put_next.ensures.long);
    }

pub returns : goal.returns
returns c =
    let r = c.args.rows.now in
    let q = r.query.now in
    let w = step_at inner q.table c.args.i in
    let s = q.table.inside_count - (c.args.i + 1) in
    let p : s ≡ state_of q.table c.args.i = omega arith in
    let a = code (step_of r w) in
    let b = both_code (next_says q.table w.next) in
    let d = looking_code (axis_of w.axis) s in
    puts_as (sym (ap (λ x. x ++ (0x1f ∷ [])) (inside_by r.names.now (text_in q) q.table c.args.i w s refl p) ∙ append_assoc a (b ++ d) (0x1f ∷ []) ∙ ap (λ x. a ++ x) (append_assoc b d (0x1f ∷ []))))
    (puts_more (puts_more (puts_more c.put.ensures c.put_looking.ensures) c.put_next.ensures) c.put_step.ensures)
