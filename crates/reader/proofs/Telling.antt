-- How the calls of the reader join: predicates, groups and brackets.
use Rattle.std.proofs.Common.{◌≡◌, ℕ, suc, ◌+◌, ◌-◌, ◌<◌, ◌≤◌, true, false, cond, List, [], ◌∷◌, Some, None, Ok, Err, sym, refl, ap, ◌∙◌, subst, arith}
use Rattle.grammar.specs.declared.tokens.Symbol.{Symbol}
use Rattle.grammar.specs.declared.tokens.Symbol.TheVariants as symbols
use Rattle.grammar.specs.Tokens.{Placed, token, bad, symbol, word}
use Rattle.grammar.specs.Syntax.{plain, holds, Pred, some, not, own, in_path, in_pred, or_word, and_word}
use Rattle.grammar.specs.Machine.{inner, unit, Opened, bracket, group, negate, Side, no, conj, disj, ext, begin, tested, stepped, united, move, down, act, turn, run, refused, join_of, joined}
use Rattle.grammar.specs.Glances.{next_is, next_word, fault_code, fault_place}
use Rattle.grammar.specs.Descent as descent
use Rattle.query.specs.declared.fault.Fault.{Fault}
use Rattle.query.specs.Faults.{code_of, place_of}
use Rattle.query.specs.declared.table.Table.{Table}
use Rattle.query.specs.declared.table.Shape.{Shape}
use Rattle.query.specs.declared.table.Shape.TheVariants as shape
use Rattle.query.specs.Shown.{predicate_at, preds_path, below, ShowsPred}
use Rattle.lexer.specs.declared.Reader.{Reader}
use Rattle.lexer.specs.Readers.{tokens_of, end_of}
use Rattle.reader.specs.declared.parts.Parser.{Parser}
use Rattle.reader.specs.Rows.{Pushes, Negated}
use Rattle.reader.specs.Heads.{Onward, outer_left, inner_left}
use Rattle.reader.specs.Parsing.{Fit, Gained, runs, fails, PathTells, FilterTells, nots, PredRead, closer, closed, onto, opens, EnclosedTells, told, PredTells, UnitTells}
use Rattle.grammar.specs.Machine.{AsJoin, isor, isand}
use Rattle.lexer.specs.Readers.{Accepts, Negates}
use Rattle.std.proofs.lemmas.Bool.{cond-false}
use Rattle.grammar.specs.Machine.{same}
use Rattle.grammar.proofs.Descent.{path_unit}
use Rattle.grammar.proofs.Glance.{plain_step}
use Rattle.reader.proofs.Keeping.{preds_path_lem, preds_below, own_one, stay_pred, stay_path, nots_in, raise, keeps_trans, on_moved, on_same, gain, gain_as, moves, same_end, fit_after, pushed, negated}

pub nope : {X : Type 0} → true ≡ false → X
nope h = let z : ◌≡◌ {A = ℕ} 0 1 = cc in absurd (omega arith)

-- a level closes
close_ok : (e : ℕ) (k : Opened) (s n : Side) (u x : Pred) (l o i z : ℕ) (ts : List Placed) (m : Symbol) → disj s (conj n u) ≡ x → closer k ≡ m → run e (united k s n u) l o i (token (symbol m) z ∷ ts) ≡ run e (closed k x) (suc l) o i ts
close_ok e (bracket c b v t) s n u x l o i z ts m h g = subst (λ m. run e (united (bracket c b v t) s n u) l o i (token (symbol m) z ∷ ts) ≡ run e (closed (bracket c b v t) x) (suc l) o i ts) g (ap (λ y. run e (stepped c (ext b v t (holds y))) (suc l) o i ts) h)
close_ok e (group k q r) s n u x l o i z ts m h g = subst (λ m. run e (united (group k q r) s n u) l o i (token (symbol m) z ∷ ts) ≡ run e (closed (group k q r) x) (suc l) o i ts) g (ap (λ y. run e (united k q r y) (suc l) o i ts) h)
close_ok e (negate k q r) s n u x l o i z ts m h g = subst (λ m. run e (united (negate k q r) s n u) l o i (token (symbol m) z ∷ ts) ≡ run e (closed (negate k q r) x) (suc l) o i ts) g (ap (λ y. run e (united k q r (not y)) (suc l) o i ts) h)

no_join : (w : List ℕ) → same w or_word ≡ false → same w and_word ≡ false → join_of w ≡ AsJoin.isnt
no_join w h g = cond-false (same w or_word) isor (cond (same w and_word) isand AsJoin.isnt) h ∙ cond-false (same w and_word) isand AsJoin.isnt g

close_stuck : (e : ℕ) (k : Opened) (s n : Side) (u : Pred) (l o i : ℕ) (ts : List Placed) → next_is (closer k) ts ≡ false → next_word or_word ts ≡ false → next_word and_word ts ≡ false → run e (united k s n u) l o i ts ≡ refused (fault_code ts) (fault_place e ts)
close_stuck e k s n u l o i [] h f g = refl
close_stuck e k s n u l o i (bad d a ∷ ts) h f g = refl
close_stuck e k s n u l o i (token (symbol symbols.Slash) a ∷ ts) h f g = refl
close_stuck e k s n u l o i (token (symbol symbols.DoubleSlash) a ∷ ts) h f g = refl
close_stuck e k s n u l o i (token (symbol symbols.LeftBracket) a ∷ ts) h f g = refl
close_stuck e (bracket c b v t) s n u l o i (token (symbol symbols.RightBracket) a ∷ ts) h f g = nope h
close_stuck e (group k q r) s n u l o i (token (symbol symbols.RightBracket) a ∷ ts) h f g = refl
close_stuck e (negate k q r) s n u l o i (token (symbol symbols.RightBracket) a ∷ ts) h f g = refl
close_stuck e k s n u l o i (token (symbol symbols.LeftParen) a ∷ ts) h f g = refl
close_stuck e (bracket c b v t) s n u l o i (token (symbol symbols.RightParen) a ∷ ts) h f g = refl
close_stuck e (group k q r) s n u l o i (token (symbol symbols.RightParen) a ∷ ts) h f g = nope h
close_stuck e (negate k q r) s n u l o i (token (symbol symbols.RightParen) a ∷ ts) h f g = nope h
close_stuck e k s n u l o i (token (symbol symbols.Star) a ∷ ts) h f g = refl
close_stuck e k s n u l o i (token (symbol symbols.DoubleColon) a ∷ ts) h f g = refl
close_stuck e k s n u l o i (token (word w) a ∷ ts) h f g = ap (λ j. onto e (turn (act (joined j k s n u)) a l o i) ts) (no_join w f g)

-- a parser whose reader alone is another
abbrev pub with : Parser → Reader → Parser
with p r = record { reader = r; table = p.table }

abbrev pub holding : Parser → Table → Parser
holding p u = record { reader = p.reader; table = u }

pub fit_with : (p : Parser) (r : Reader) → Fit p → Onward p.reader r → Fit (with p r)
fit_with p r f on = fit_after p (with p r) 0 0 0 f (moves p r f.inside on) (omega arith)

pub pred_fit : (l j : ℕ) (p q : Parser) (x : Pred) → Fit p → PredRead l j p q x → Fit q
pred_fit l j p q x f g = fit_after p q 0 (in_pred x) (below x + 1) f g.gained (omega (arith, preds_below x))

-- the reader goes on after a predicate
pred_on : (l j : ℕ) (p q : Parser) (r : Reader) (x : Pred) → Onward q.reader r → PredRead l j p q x → PredRead l j p (with q r) x
pred_on l j p q r x on g = record {
  gained = gain_as p (with q r) (0 + 0) (in_pred x + 0) (below x + 1 + 0) 0 (in_pred x) (below x + 1) (omega arith) (omega arith) (omega arith) (gain p q (with q r) 0 (in_pred x) (below x + 1) 0 0 0 g.gained (moves q r g.gained.most on));
  row = g.row;
  nested = g.nested;
  shows = g.shows;
}

-- the reader had gone on before a predicate
pub pred_from : (l j : ℕ) (p q : Parser) (r : Reader) (x : Pred) → p.table.inside_count ≤ 23 → Onward p.reader r → PredRead l j (with p r) q x → PredRead l j p q x
pred_from l j p q r x h on g = record {
  gained = gain_as p q (0 + 0) (0 + in_pred x) (0 + (below x + 1)) 0 (in_pred x) (below x + 1) (omega arith) (omega arith) (omega arith) (gain p (with p r) q 0 0 0 0 (in_pred x) (below x + 1) (moves p r h on) g.gained);
  row = g.row;
  nested = g.nested;
  shows = subst (λ z. ShowsPred z.now q.table x 0 p.table.inside_count p.table.predicate_count) on.text g.shows;
}

module _ (l a : ℕ) (m : Symbol) (p q : Parser) (some_level : l ≡ 0 → ⊥) where
  level : l ≡ suc (l - 1)
  level = omega arith

  pub enclosed_err : (f : Fault) → PredTells (l - 1) (Err f) p q → EnclosedTells l a m (Err f) p q
  enclosed_err f g k h = subst (λ n. opens a p k n ≡ fails f) (sym level) (g k)

  pub enclosed_ok : (j z : ℕ) (r : Reader) → PredTells (l - 1) (Ok j) p q → Accepts m (Some z) q.reader r → EnclosedTells l a m (Ok j) p (with q r)
  enclosed_ok j z r g h = (
    g.0,
    pred_on (l - 1) j p q r g.0 (on_moved q.reader r h.1) g.1,
    omega (arith, some_level),
    λ k e. subst (λ n. opens a p k n ≡ runs p (with q r) (closed k g.0) n) (sym level)
        (g.4.4 k ∙ ap (run (end_of p.reader) (united k g.4.0 g.4.1 g.4.2) (l - 1) (outer_left q) (inner_left q)) h.0 ∙ close_ok (end_of p.reader) k g.4.0 g.4.1 g.4.2 g.0 (l - 1) (outer_left q) (inner_left q) z (tokens_of r) m g.4.3 e),
  )

  pub enclosed_none : (j : ℕ) (r : Reader) (f : Fault) → PredTells (l - 1) (Ok j) p q → Accepts m None q.reader r → code_of f ≡ fault_code (tokens_of r) → place_of f ≡ fault_place (end_of r) (tokens_of r) → EnclosedTells l a m (Err f) p (with q r)
  enclosed_none j r f g h x y k e =
      let en : end_of q.reader ≡ end_of p.reader = same_end p.reader q.reader g.1.gained.on in
      let ts = tokens_of q.reader in
      subst (λ n. opens a p k n ≡ fails f) (sym level)
      (g.4.4 k ∙ close_stuck (end_of p.reader) k g.4.0 g.4.1 g.4.2 (l - 1) (outer_left q) (inner_left q) ts (subst (λ s. next_is s ts ≡ false) (sym e) h.1) g.2 g.3
      ∙ ap (λ n. refused (fault_code ts) (fault_place n ts)) (sym en) ∙ ap (λ z. refused (fault_code (tokens_of z)) (fault_place (end_of z) (tokens_of z))) (sym h.0) ∙ ap (λ n. refused n (fault_place (end_of r) (tokens_of r))) (sym x) ∙ ap (refused (code_of f)) (sym y))

-- brackets
pub filter_some : (l a j : ℕ) (p q : Parser) (r : Reader) → Fit p → Accepts symbols.LeftBracket (Some a) p.reader r → EnclosedTells l a symbols.RightBracket (Ok j) (with p r) q → FilterTells l (Ok (Some j)) p q
filter_some l a j p q r f h g =
    let on = on_moved p.reader r h.1 in
    let x = g.0 in
    let pr = pred_from (l - 1) j p q r x f.inside on g.1 in (
      holds x,
      record {
        gained = pr.gained;
        shows = (ap Some pr.row, pr.shows);
        tells = λ c b v t. ap (run (end_of p.reader) (tested c b v t) l (outer_left p) (inner_left p)) h.0 ∙ subst (λ n. onto n (move (down (begin (unit (bracket c b v t) no no))) a l (outer_left p) (inner_left p)) (tokens_of r) ≡ run n (stepped c (ext b v t (holds x))) l (outer_left q) (inner_left q) (tokens_of q.reader)) (same_end p.reader r on) (g.3 (bracket c b v t) refl);
      },
    )

pub filter_none : (l : ℕ) (p : Parser) (r : Reader) → Fit p → Accepts symbols.LeftBracket None p.reader r → FilterTells l (Ok None) p (with p r)
filter_none l p r f h = (
  plain,
  record {
    gained = moves p r f.inside (on_same p.reader r h.0);
    shows = refl;
    tells = λ c b v t. plain_step (end_of p.reader) c b v t l (outer_left p) (inner_left p) (tokens_of p.reader) h.1 ∙ ap (λ z. run (end_of p.reader) (stepped c (ext b v t plain)) l (outer_left p) (inner_left p) (tokens_of z)) (sym h.0);
  },
)

-- `not` and a level
pub not_unit : (l b j : ℕ) (p q : Parser) (r : Reader) (u : Table) → Fit p → l < 256 → Negates (Some b) p.reader r → EnclosedTells l b symbols.RightParen (Ok j) (with p r) q → Negated j q.table u → UnitTells l (Ok j) p (holding q u)
not_unit l b j p q r u f lt h g n =
    let on = on_moved p.reader r h.2 in
    let x = g.0 in
    let pr = pred_from (l - 1) j p q r x f.inside on g.1 in
    let fq = pred_fit (l - 1) j p q x f pr in
    let bs = p.reader.text.now in
    let c = p.table.predicate_count in
    let small : j < 46 = omega (arith, pr.row, pr.gained.predicates, fq.room, fq.inside) in
    let count : (predicate_at q.table j).negations ≡ nots x = ap (λ k. (predicate_at q.table k).negations) pr.row ∙ nots_in bs q.table x 0 p.table.inside_count c pr.shows ∙ omega arith in
    let is = n.is small (omega (arith, count, pr.nested, g.2)) in (
      not x,
      record {
        gained = negated q j u pr.gained.most n p 0 (in_pred x) (below x + 1) (omega (arith, pr.row)) pr.gained;
        row = pr.row;
        nested = omega (arith, pr.nested, g.2);
        shows = raise bs q.table u x 0 p.table.inside_count c j pr.row is n pr.shows;
      },
      λ k s o. ap (run (end_of p.reader) (begin (unit k s o)) l (outer_left p) (inner_left p)) h.1
          ∙ subst (λ e. onto e (move (down (begin (unit (negate k s o) no no))) b l (outer_left p) (inner_left p)) (tokens_of r) ≡ run e (united k s o (not x)) l (outer_left q) (inner_left q) (tokens_of q.reader)) (same_end p.reader r on) (g.3 (negate k s o) refl)
          ∙ ap (λ z. run (end_of p.reader) (united k s o (not x)) l (16 - z) (inner_left q) (tokens_of q.reader)) (sym n.counted.outside)
          ∙ ap (λ z. run (end_of p.reader) (united k s o (not x)) l (16 - u.outside_count) (23 - z) (tokens_of q.reader)) (sym n.counted.inside),
    )

-- a path
pub path_told : (l r : ℕ) (p q : Parser) (u : Table) → Fit p → PathTells inner l (Ok tt) p q → Pushes (record { negations = 0; shape = shape.Path p.table.inside_count }) r q.table u → UnitTells l (Ok r) p (holding q u)
path_told l r p q u f g n =
    let x = g.0 in
    let pr = g.1 in
    let c = p.table.predicate_count in
    let small : r < 46 = omega (arith, n.at, pr.gained.predicates, pr.gained.inside, pr.gained.most, f.room, preds_path_lem x, own_one x) in
    let pu = pushed q (record { negations = 0; shape = shape.Path p.table.inside_count }) r u pr.gained.most small n in
    let row : r ≡ c + preds_path x = n.at ∙ pr.gained.predicates in (
      some x,
      record {
        gained = gain_as p (holding q u) (0 + 0) (own x + in_path x + 0) (preds_path x + 1) 0 (own x + in_path x) (preds_path x + 1) (omega arith) (omega arith) (omega arith) (gain p q (holding q u) 0 (own x + in_path x) (preds_path x) 0 0 1 pr.gained pu);
        row = row;
        nested = omega arith;
        shows = (
          subst (λ k. predicate_at u k ≡ record { negations = 0; shape = shape.Path p.table.inside_count }) row (n.is small),
          stay_path p.reader.text.now q.table u pu.keeps x p.table.inside_count c (omega (arith, pr.gained.inside)) (omega (arith, pr.gained.predicates)) pr.shows,
        );
      },
      retold (path_unit (end_of p.reader) l (outer_left p) (inner_left p) (tokens_of p.reader) x (outer_left q) (inner_left q) (tokens_of q.reader) pr.tells pr.slash pr.double),
    )
  where
    retold : descent.UnitTold (end_of p.reader) l (outer_left p) (inner_left p) (tokens_of p.reader) (descent.ok (some g.0) (outer_left q) (inner_left q) (tokens_of q.reader)) → descent.UnitTold (end_of p.reader) l (outer_left p) (inner_left p) (tokens_of p.reader) (told (holding q u) (some g.0))
    retold h = subst (λ i. descent.UnitTold (end_of p.reader) l (outer_left p) (inner_left p) (tokens_of p.reader) (descent.ok (some g.0) (16 - u.outside_count) i (tokens_of q.reader))) (ap (λ z. 23 - z) (sym n.counted.inside))
        (subst (λ o. descent.UnitTold (end_of p.reader) l (outer_left p) (inner_left p) (tokens_of p.reader) (descent.ok (some g.0) o (inner_left q) (tokens_of q.reader))) (ap (λ z. 16 - z) (sym n.counted.outside)) h)

-- two predicates joined
module _ (mk : ℕ → ℕ → Shape) (l i j r : ℕ) (b p q : Parser) (s : Reader) (u : Table) (x y : Pred) (f : Fit p) (gx : PredRead l i b p x) (on : Onward p.reader s) (gy : PredRead l j (with p s) q y) (n : Pushes (record { negations = 0; shape = mk i j }) r q.table u) where
  gy1 : PredRead l j p q y
  gy1 = pred_from l j p q s y f.inside on gy

  fq : Fit q
  fq = pred_fit l j p q y f gy1

  room : r < 46
  room = omega (arith, n.at, fq.inside, f.room, gy1.gained.predicates, gy1.gained.inside, preds_below y)

  pu : Gained q (holding q u) 0 0 1
  pu = pushed q (record { negations = 0; shape = mk i j }) r u gy1.gained.most room n

  pub join_fit : Fit (holding q u)
  join_fit = record { short = fq.short; inside = pu.most; room = omega (arith, pu.predicates, pu.inside, f.room, gy1.gained.predicates, gy1.gained.inside, preds_below y) }

  pub join_gained : Gained b (holding q u) 0 (in_pred x + in_pred y) (below x + 1 + (below y + 1) + 1)
  join_gained = gain_as b (holding q u) (0 + 0 + 0) (in_pred x + in_pred y + 0) (below x + 1 + (below y + 1) + 1) 0 (in_pred x + in_pred y) (below x + 1 + (below y + 1) + 1) (omega arith) (omega arith) refl
      (gain b q (holding q u) (0 + 0) (in_pred x + in_pred y) (below x + 1 + (below y + 1)) 0 0 1 (gain b p q 0 (in_pred x) (below x + 1) 0 (in_pred y) (below y + 1) gx.gained gy1.gained) pu)

  pub join_row : r ≡ b.table.predicate_count + (below x + 1 + (below y + 1))
  join_row = omega (arith, n.at, gx.gained.predicates, gy1.gained.predicates)

  pub join_is : predicate_at u (b.table.predicate_count + (below x + 1 + (below y + 1))) ≡ record { negations = 0; shape = mk (b.table.predicate_count + below x) (b.table.predicate_count + (below x + 1) + below y) }
  join_is =
      let right : j ≡ b.table.predicate_count + (below x + 1) + below y = gy.row ∙ ap (λ z. z + below y) gx.gained.predicates in
      subst (λ k. predicate_at u k ≡ record { negations = 0; shape = mk (b.table.predicate_count + below x) (b.table.predicate_count + (below x + 1) + below y) }) join_row
      (n.is room ∙ ap (λ k. record { negations = 0; shape = mk k j }) gx.row ∙ ap (λ k. record { negations = 0; shape = mk (b.table.predicate_count + below x) k }) right)

  pub join_left : ShowsPred b.reader.text.now u x 0 b.table.inside_count b.table.predicate_count
  join_left = stay_pred b.reader.text.now p.table u (keeps_trans p.table q.table u gy1.gained.keeps pu.keeps (omega (arith, gy1.gained.outside)) (omega (arith, gy1.gained.inside)) (omega (arith, gy1.gained.predicates))) x 0 b.table.inside_count b.table.predicate_count (omega (arith, gx.gained.inside)) (omega (arith, gx.gained.predicates)) gx.shows

  pub join_right : ShowsPred b.reader.text.now u y 0 (b.table.inside_count + in_pred x) (b.table.predicate_count + (below x + 1))
  join_right =
      let here : ShowsPred p.reader.text.now u y 0 p.table.inside_count p.table.predicate_count = stay_pred p.reader.text.now q.table u pu.keeps y 0 p.table.inside_count p.table.predicate_count (omega (arith, gy1.gained.inside)) (omega (arith, gy1.gained.predicates)) gy1.shows in
      subst (λ k. ShowsPred b.reader.text.now u y 0 (b.table.inside_count + in_pred x) k) gx.gained.predicates
      (subst (λ k. ShowsPred b.reader.text.now u y 0 k p.table.predicate_count) gx.gained.inside
      (subst (λ z. ShowsPred z.now u y 0 p.table.inside_count p.table.predicate_count) gx.gained.on.text here))

  same_left : {X : Type 0} (T : descent.Read X → Type 0) (v : X) → T (told q v) → T (told (holding q u) v)
  same_left T v h = subst (λ k. T (descent.ok v (16 - u.outside_count) k (tokens_of q.reader))) (ap (λ z. 23 - z) (sym n.counted.inside))
      (subst (λ k. T (descent.ok v k (inner_left q) (tokens_of q.reader))) (ap (λ z. 16 - z) (sym n.counted.outside)) h)

  pub join_told : {X : Type 0} (T : descent.Read X → Type 0) (v : X) → T (told q v) → T (told (holding q u) v)
  join_told T v h = same_left T v h
