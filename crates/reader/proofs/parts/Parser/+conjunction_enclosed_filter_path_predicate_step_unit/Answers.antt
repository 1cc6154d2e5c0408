use Rattle.std.proofs.Common.{◌≡◌, ℕ, ◌∷◌, Ok, Err, Result, sym, ap, ◌∙◌, subst, arith}
use Rattle.std.proofs.lemmas.Result.{err_from_is_err_and}
use Rattle.grammar.specs.Tokens.{token, word}
use Rattle.grammar.specs.Syntax.{Pred, and, or, and_word, or_word}
use Rattle.grammar.specs.Machine.{start}
use Rattle.grammar.specs.Descent as descent
use Rattle.grammar.proofs.Descent.{one_unit, and_unit, one_conj, or_conj}
use Rattle.query.specs.declared.fault.Fault.{Fault}
use Rattle.query.specs.declared.table.Table.{Table}
use Rattle.query.specs.declared.table.Shape.TheVariants as shape
use Rattle.lexer.specs.declared.Reader.{Reader}
use Rattle.lexer.specs.Readers.{tokens_of, end_of}
use Rattle.reader.specs.declared.parts.Parser.{Parser}
use Rattle.reader.specs.Rows.{Pushes}
use Rattle.query.specs.Shown.{where_of}
use Rattle.reader.specs.Heads.{outer_left, inner_left, Onward}
use Rattle.reader.specs.Parsing.{Fit, PredRead, PathTells, EnclosedTells, PredTells, ConjTells, UnitTells, told, failed, Walked, slash_of}
use Rattle.reader.proofs.Keeping.{on_moved, on_same, same_end, on_trans}
use Rattle.reader.proofs.Telling.{with, holding, fit_with, pred_fit, enclosed_err, enclosed_ok, enclosed_none, filter_some, filter_none, not_unit, path_told, join_fit, join_gained, join_row, join_is, join_left, join_right, join_told}
use Rattle.reader.proofs.Walking.{walk_start, step_read, walk_done, walk_on, walk_err, step_fit}
use Rattle.reader.proofs.parts.Parser.+conjunction_enclosed_filter_path_predicate_step_unit.Goals as goal

-- what the exit of a `?` returns
exit : {X : Type 0} {Q : Fault → Type 0} (T : Result X Fault → Type 0) (r : Result X Fault) (f : Fault) (b : (y : Fault) × (r ≡ Err y) × Q y) → b.0 ≡ f → T (Err f) → T r
exit T r f b e h = subst T (sym (b.1 ∙ ap Err e)) h

abbrev ConjOf : ℕ → Parser → descent.Read Pred → Type 0
ConjOf l p x = descent.ConjTold (end_of p.reader) l (outer_left p) (inner_left p) (tokens_of p.reader) x

abbrev PredOf : ℕ → Parser → descent.Read Pred → Type 0
PredOf l p x = descent.PredTold (end_of p.reader) l (outer_left p) (inner_left p) (tokens_of p.reader) x

abbrev UnitOf : ℕ → Parser → descent.Read Pred → Type 0
UnitOf l p x = descent.UnitTold (end_of p.reader) l (outer_left p) (inner_left p) (tokens_of p.reader) x

-- `and` and a unit
and_next : (l a : ℕ) (b p : Parser) (s : Reader) (y : Pred) (x : descent.Read Pred) → tokens_of p.reader ≡ token (word and_word) a ∷ tokens_of s → Onward b.reader p.reader → Onward p.reader s → ConjOf l b (told p y) → UnitOf l (with p s) x → ConjOf l b (descent.mapped (and y) x)
and_next l a b p s y x e on mv f g =
    and_unit (end_of b.reader) l (outer_left b) (inner_left b) (tokens_of b.reader) y (outer_left p) (inner_left p) a (tokens_of s) x
    (subst (λ ts. ConjOf l b (descent.ok y (outer_left p) (inner_left p) ts)) e f)
    (subst (λ n. descent.UnitTold n l (outer_left p) (inner_left p) (tokens_of s) x) (same_end b.reader s (on_trans b.reader p.reader s on mv)) g)

or_next : (l a : ℕ) (b p : Parser) (s : Reader) (y : Pred) (x : descent.Read Pred) → tokens_of p.reader ≡ token (word or_word) a ∷ tokens_of s → Onward b.reader p.reader → Onward p.reader s → PredOf l b (told p y) → ConjOf l (with p s) x → PredOf l b (descent.mapped (or y) x)
or_next l a b p s y x e on mv f g =
    or_conj (end_of b.reader) l (outer_left b) (inner_left b) (tokens_of b.reader) y (outer_left p) (inner_left p) a (tokens_of s) x
    (subst (λ ts. PredOf l b (descent.ok y (outer_left p) (inner_left p) ts)) e f)
    (subst (λ n. descent.ConjTold n l (outer_left p) (inner_left p) (tokens_of s) x) (same_end b.reader s (on_trans b.reader p.reader s on mv)) g)

and_joined : (l i j r : ℕ) (b p q : Parser) (s : Reader) (u : Table) (x y : Pred) → Fit p → PredRead l i b p x → Onward p.reader s → PredRead l j (with p s) q y → Pushes (record { negations = 0; shape = shape.And i j }) r q.table u → PredRead l r b (holding q u) (and x y)
and_joined l i j r b p q s u x y f gx on gy n = record {
  gained = join_gained shape.And l i j r b p q s u x y f gx on gy n;
  row = join_row shape.And l i j r b p q s u x y f gx on gy n;
  nested = omega arith;
  shows = (join_is shape.And l i j r b p q s u x y f gx on gy n, join_left shape.And l i j r b p q s u x y f gx on gy n, join_right shape.And l i j r b p q s u x y f gx on gy n);
}

or_joined : (l i j r : ℕ) (b p q : Parser) (s : Reader) (u : Table) (x y : Pred) → Fit p → PredRead l i b p x → Onward p.reader s → PredRead l j (with p s) q y → Pushes (record { negations = 0; shape = shape.Or i j }) r q.table u → PredRead l r b (holding q u) (or x y)
or_joined l i j r b p q s u x y f gx on gy n = record {
  gained = join_gained shape.Or l i j r b p q s u x y f gx on gy n;
  row = join_row shape.Or l i j r b p q s u x y f gx on gy n;
  nested = omega arith;
  shows = (join_is shape.Or l i j r b p q s u x y f gx on gy n, join_left shape.Or l i j r b p q s u x y f gx on gy n, join_right shape.Or l i j r b p q s u x y f gx on gy n);
}

-- the turns of the two loops
and_turn : (l i j r a : ℕ) (b p q : Parser) (s : Reader) (u : Table) (x : Pred) → Fit p → tokens_of p.reader ≡ token (word and_word) a ∷ tokens_of s → Onward p.reader s → UnitTells l (Ok j) (with p s) q → Pushes (record { negations = 0; shape = shape.And i j }) r q.table u → PredRead l i b p x → ConjOf l b (told p x) → (y : Pred) × PredRead l r b (holding q u) y × ConjOf l b (told (holding q u) y)
and_turn l i j r a b p q s u x f e on g n gx t =
    (and x g.0, and_joined l i j r b p q s u x g.0 f gx on g.1 n, join_told shape.And l i j r b p q s u x g.0 f gx on g.1 n (ConjOf l b) (and x g.0) (and_next l a b p s x (told q g.0) e gx.gained.on on t g.2))

or_turn : (l i j r a : ℕ) (b p q : Parser) (s : Reader) (u : Table) (x : Pred) → Fit p → tokens_of p.reader ≡ token (word or_word) a ∷ tokens_of s → Onward p.reader s → ConjTells l (Ok j) (with p s) q → Pushes (record { negations = 0; shape = shape.Or i j }) r q.table u → PredRead l i b p x → PredOf l b (told p x) → (y : Pred) × PredRead l r b (holding q u) y × PredOf l b (told (holding q u) y)
or_turn l i j r a b p q s u x f e on g n gx t =
    (or x g.0, or_joined l i j r b p q s u x g.0 f gx on g.1 n, join_told shape.Or l i j r b p q s u x g.0 f gx on g.1 n (PredOf l b) (or x g.0) (or_next l a b p s x (told q g.0) e gx.gained.on on t g.3))

pub conjunction-loop-self-init : goal.conjunction-loop-self-init
conjunction-loop-self-init t c = let g = c.in_ok-left.ensures in (pred_fit _ _ _ _ g.0 c.requires.fit g.1, λ p x f a b. (x, a, b))

pub conjunction-loop-self-preserved : goal.conjunction-loop-self-preserved
conjunction-loop-self-preserved t c =
    let l = c.args.levels in
    let p = c.loop-self.self in
    let s = c.keyword.new.self in
    let k = c.loop-self-test.ensures in
    let on = on_moved p.reader s k.2 in
    let q = c.unit-in-loop-self.new.self in
    let g : UnitTells l (Ok c.in_ok-right.right) (with p s) q = c.in_ok-right.ensures in
    let fit = c.loop-self.invariant.0 in
    let x0 = c.in_ok-left.ensures in
    let e = c.args.self.now in
    let left = c.loop-self.invariant.1 e x0.0 c.requires.fit x0.1 (one_unit (end_of e.reader) l (outer_left e) (inner_left e) (tokens_of e.reader) (told c.unit.new.self x0.0) x0.2) in (
      join_fit shape.And l c.loop-self.left c.in_ok-right.right c.push-left.result e p q s c.push-left.new.table left.0 g.0 fit left.1 on g.1 c.push-left.ensures,
      λ b x f a d. let y = c.loop-self.invariant.1 b x f a d in and_turn l c.loop-self.left c.in_ok-right.right c.push-left.result k.0 b p q s c.push-left.new.table y.0 fit k.1 on g c.push-left.ensures y.1 y.2,
    )

pub conjunction-returns : goal.conjunction-returns
conjunction-returns t c =
    let l = c.args.levels in
    let e = c.args.self.now in
    let p = c.loop-self.self in
    let x0 = c.in_ok-left.ensures in
    let y = c.loop-self.invariant.1 e x0.0 c.requires.fit x0.1 (one_unit (end_of e.reader) l (outer_left e) (inner_left e) (tokens_of e.reader) (told c.unit.new.self x0.0) x0.2) in
    let k = c.loop-self-test.ensures in
    subst (λ r. ConjTells l (Ok c.loop-self.left) e (with p r)) (sym k.0) (y.0, y.1, k.1, y.2)

pub enclosed-returns-in-Some : goal.enclosed-returns-in-Some
enclosed-returns-in-Some t c = enclosed_ok c.args.levels c.args.at c.args.shut c.args.self.now c.predicate.new.self c.if-levels-eq0.false c.in_ok-inner.inner c.in-Some.field-0 c.accept.new.self c.in_ok-inner.ensures c.in-Some.ensures

pub enclosed-returns-in-None : goal.enclosed-returns-in-None
enclosed-returns-in-None t c = enclosed_none c.args.levels c.args.at c.args.shut c.args.self.now c.predicate.new.self c.if-levels-eq0.false c.in_ok-inner.inner c.accept.new.self c.unexpected.result c.in_ok-inner.ensures c.in-None.ensures c.unexpected.ensures.code c.unexpected.ensures.place

pub filter-returns-in_ok-enclosed-in-Some : goal.filter-returns-in_ok-enclosed-in-Some
filter-returns-in_ok-enclosed-in-Some t c = filter_some c.args.levels c.in-Some.at c.in_ok-enclosed-in-Some.field-0 c.args.self.now c.enclosed.new.self c.accept.new.self c.requires.fit c.in-Some.ensures c.in_ok-enclosed-in-Some.ensures

pub filter-returns-in-None : goal.filter-returns-in-None
filter-returns-in-None t c = filter_none c.args.levels c.args.self.now c.accept.new.self c.requires.fit c.in-None.ensures

-- a path that begins
pub path-returns-in_err-after : goal.path-returns-in_err-after
path-returns-in_err-after t c =
    let w = where_of c.args.region in
    let l = c.args.levels in
    let e = c.args.self.now in
    let g = walk_start w l c.lead-before.result e c.lead-before.new.reader c.requires.fit c.requires.starts c.lead-before.ensures in
    let d = c.loop-after.invariant.1 e (start (slash_of c.lead-before.result)) (subst (λ s. Walked w l c.lead-before.result s e (with e c.lead-before.new.reader) (start (slash_of c.lead-before.result))) (sym c.is_slash-slash.ensures) g) in
    let b = err_from_is_err_and c.from_residual.result c.from_residual.ensures.1 in
    exit (λ r. PathTells w l r e c.step.new.self) c.from_residual.result c.in_err-after.field-0.0 b b.2
    (walk_err w l c.loop-after.before c.loop-after.slash e c.loop-after.self c.step.new.self d.0 d.1 c.in_err-after.field-0.0 c.in_err-after.ensures)

pub path-returns-then-not-is_slash : goal.path-returns-then-not-is_slash
path-returns-then-not-is_slash t c =
    let w = where_of c.args.region in
    let l = c.args.levels in
    let e = c.args.self.now in
    let g = walk_start w l c.lead-before.result e c.lead-before.new.reader c.requires.fit c.requires.starts c.lead-before.ensures in
    let d = c.loop-after.invariant.1 e (start (slash_of c.lead-before.result)) (subst (λ s. Walked w l c.lead-before.result s e (with e c.lead-before.new.reader) (start (slash_of c.lead-before.result))) (sym c.is_slash-slash.ensures) g) in
    walk_done w l c.loop-after.before c.loop-after.slash e c.loop-after.self c.step.new.self d.0 d.1 c.in_ok-after.after (sym c.is_slash.ensures ∙ c.if-not-is_slash.true) c.in_ok-after.ensures

pub path-loop-after-preserved : goal.path-loop-after-preserved
path-loop-after-preserved t c =
    let w = where_of c.args.region in
    let l = c.args.levels in (
      step_fit w l c.loop-after.before c.loop-after.slash c.in_ok-after.after c.loop-after.self c.step.new.self c.loop-after.invariant.0 c.in_ok-after.ensures,
      λ p b g. let d = c.loop-after.invariant.1 p b g in walk_on w l c.loop-after.before c.loop-after.slash p c.loop-after.self c.step.new.self d.0 d.1 c.in_ok-after.after (sym c.is_slash.ensures ∙ c.if-not-is_slash.false) c.in_ok-after.ensures,
    )

pub predicate-loop-self-init : goal.predicate-loop-self-init
predicate-loop-self-init t c = let g = c.in_ok-left.ensures in (pred_fit _ _ _ _ g.0 c.requires.fit g.1, g.2, λ p x f a b. (x, a, b))

pub predicate-returns-in_err-right : goal.predicate-returns-in_err-right
predicate-returns-in_err-right t c =
    let l = c.args.levels in
    let e = c.args.self.now in
    let p = c.loop-self.self in
    let s = c.keyword.new.self in
    let k = c.loop-self-test.ensures in
    let on = on_moved p.reader s k.2 in
    let x0 = c.in_ok-left.ensures in
    let y = c.loop-self.invariant.2 e x0.0 c.requires.fit x0.1 (one_conj (end_of e.reader) l (outer_left e) (inner_left e) (tokens_of e.reader) (told c.conjunction.new.self x0.0) x0.3) in
    let f = c.in_err-right.field-0.0 in
    let b = err_from_is_err_and c.from_residual-in_err-right.result c.from_residual-in_err-right.ensures.1 in
    exit (λ r. PredTells l r e c.conjunction-in-loop-self.new.self) c.from_residual-in_err-right.result f b b.2
    (or_next l k.0 e p s y.0 (failed f) k.1 y.1.gained.on on y.2 c.in_err-right.ensures)

pub predicate-loop-self-preserved : goal.predicate-loop-self-preserved
predicate-loop-self-preserved t c =
    let l = c.args.levels in
    let p = c.loop-self.self in
    let s = c.keyword.new.self in
    let k = c.loop-self-test.ensures in
    let on = on_moved p.reader s k.2 in
    let q = c.conjunction-in-loop-self.new.self in
    let g : ConjTells l (Ok c.in_ok-right.right) (with p s) q = c.in_ok-right.ensures in
    let fit = c.loop-self.invariant.0 in
    let x0 = c.in_ok-left.ensures in
    let e = c.args.self.now in
    let left = c.loop-self.invariant.2 e x0.0 c.requires.fit x0.1 (one_conj (end_of e.reader) l (outer_left e) (inner_left e) (tokens_of e.reader) (told c.conjunction.new.self x0.0) x0.3) in (
      join_fit shape.Or l c.loop-self.left c.in_ok-right.right c.push-left.result e p q s c.push-left.new.table left.0 g.0 fit left.1 on g.1 c.push-left.ensures,
      g.2,
      λ b x f a d. let y = c.loop-self.invariant.2 b x f a d in or_turn l c.loop-self.left c.in_ok-right.right c.push-left.result k.0 b p q s c.push-left.new.table y.0 fit k.1 on g c.push-left.ensures y.1 y.2,
    )

pub predicate-returns : goal.predicate-returns
predicate-returns t c =
    let l = c.args.levels in
    let e = c.args.self.now in
    let p = c.loop-self.self in
    let x0 = c.in_ok-left.ensures in
    let y = c.loop-self.invariant.2 e x0.0 c.requires.fit x0.1 (one_conj (end_of e.reader) l (outer_left e) (inner_left e) (tokens_of e.reader) (told c.conjunction.new.self x0.0) x0.3) in
    let k = c.loop-self-test.ensures in
    subst (λ r. PredTells l (Ok c.loop-self.left) e (with p r)) (sym k.0) (y.0, y.1, k.1, c.loop-self.invariant.1, y.2)

pub step-returns : goal.step-returns
step-returns t c =
    let w = where_of c.args.region in
    let p = c.args.self.now in
    let h = c.in_ok-head.ensures in
    let g = c.in_ok-bracket.ensures in
    step_read w c.args.levels c.args.before c.args.slash c.lead-after.result p c.head.new.self c.filter.new.self c.lead-after.new.reader c.write_step.new.table c.in_ok-head.head h.0 g.0 c.in_ok-bracket.bracket c.next_step-next.result c.next_index-index.result c.requires.fit h.1 g.1 c.lead-after.ensures c.next_index-index.ensures c.next_step-next.ensures c.write_step.ensures

pub unit-returns-in-Some : goal.unit-returns-in-Some
unit-returns-in-Some t c = not_unit c.args.levels c.in-Some.at c.in_ok-inner.inner c.args.self.now c.enclosed.new.self c.negation.new.self c.negate.new.table c.requires.fit (omega (arith, c.ranges.levels.fits)) c.in-Some.ensures c.in_ok-inner.ensures c.negate.ensures

pub unit-returns : goal.unit-returns
unit-returns t c =
    let l = c.args.levels in
    let p = c.args.self.now in
    let s = c.accept.new.self in
    let same : s ≡ p.reader = c.in_default-accept.ensures.0 ∙ c.in_default.ensures.0 in
    let q = c.path.new.self in
    let u = c.push.new.table in
    let fit = fit_with p s c.requires.fit (on_same p.reader s same) in
    subst (λ z. UnitTells l (Ok c.push.result) (with p z) (holding q u)) same (path_told l c.push.result (with p s) q u fit c.in_ok-path.ensures c.push.ensures)
