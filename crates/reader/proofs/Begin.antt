-- How a step without its bracket is read.
use Rattle.std.proofs.Common.{◌≡◌, ℕ, suc, ◌+◌, ◌-◌, ◌<◌, Bool, true, false, List, ◌∷◌, length, Ok, Err, Result, sym, ap, ◌∙◌, subst, arith}
use Rattle.grammar.specs.declared.tokens.Symbol.TheVariants as symbols
use Rattle.grammar.specs.Tokens.{Placed, token, symbol, word}
use Rattle.grammar.specs.Syntax as syntax
use Rattle.grammar.specs.Syntax.{child, descendant}
use Rattle.grammar.specs.Machine.{Where, outer, inner, where_is, Context, Before, State, due, test, pend, named, tested, begins, to, turn, run, refused, AsAxis, axis_of_word, on_axis, act}
use Rattle.grammar.specs.Glances.{next_is}
use Rattle.grammar.proofs.Glance.{child_step}
use Rattle.grammar.proofs.Refusals.{onward}
use Rattle.grammar.proofs.Descent.{due_word, far_word}
use Rattle.query.specs.declared.table.Table.{Table}
use Rattle.query.specs.Shown.{axis_of, ShowsTest}
use Rattle.lexer.specs.declared.Reader.{Reader}
use Rattle.lexer.specs.Readers.{tokens_of, end_of, Moved}
use Rattle.reader.specs.declared.parts.Head.{Head}
use Rattle.reader.specs.declared.parts.Parser.{Parser}
use Rattle.reader.specs.Rows.{index_in, most, grown}
use Rattle.query.specs.declared.fault.Fault.{Fault}
use Rattle.query.specs.Faults.{code_of, place_of}
use Rattle.query.specs.declared.table.Axis.{Axis}
use Rattle.query.specs.declared.table.Axis.TheVariants.{Child, Descendant}
use Rattle.query.specs.declared.table.NodeTest.{NodeTest}
use Rattle.reader.specs.Heads.{starting, worded, NamedTells, TestTells, WordTells, HeadTells, outer_left, inner_left}

pub begun : (e : ℕ) (w : Where) (t u : Table) → index_in w t < most w → u ≡ grown w t → (s : State) (a d l : ℕ) (ts : List Placed) → onward e (turn (begins w a (to s)) d l (16 - t.outside_count) (23 - t.inside_count)) ts ≡ run e s l (16 - u.outside_count) (23 - u.inside_count) ts
begun e outer t u room eq s a d l ts =
    let n : 16 - t.outside_count ≡ suc (16 - (t.outside_count + 1)) = omega arith in
    ap (λ o. onward e (turn (begins outer a (to s)) d l o (23 - t.inside_count)) ts) n ∙ sym (ap (λ x. run e s l (16 - x.outside_count) (23 - x.inside_count) ts) eq)
begun e inner t u room eq s a d l ts =
    let n : 23 - t.inside_count ≡ suc (23 - (t.inside_count + 1)) = omega arith in
    ap (λ i. onward e (turn (begins inner a (to s)) d l (16 - t.outside_count) i) ts) n ∙ sym (ap (λ x. run e s l (16 - x.outside_count) (23 - x.inside_count) ts) eq)

-- the parser p has read a word and begun a step with it
pub record Began (w : Where) (p : Parser) (z : List ℕ) (a : ℕ) (r : Reader) (u : Table) : Type 0 where
  pub tokens : tokens_of p.reader ≡ token (word z) a ∷ tokens_of r
  pub moved : Moved p.reader r
  pub room : index_in w p.table < most w
  pub table : u ≡ grown w p.table

module _ (w : Where) (p : Parser) (z : List ℕ) (a : ℕ) (r : Reader) (u : Table) (g : Began w p z a r u) where
  began_run : (far : Bool) (c : Context) (b : Before) (l : ℕ) → where_is c ≡ w → run (end_of p.reader) (starting far c b) l (outer_left p) (inner_left p) (tokens_of p.reader) ≡ run (end_of p.reader) (worded far c b z) l (16 - u.outside_count) (23 - u.inside_count) (tokens_of r)
  began_run false c b l h =
      let e = end_of p.reader in
      ap (run e (due c b) l (outer_left p) (inner_left p)) g.tokens ∙ due_word e c b w z l (outer_left p) (inner_left p) a (tokens_of r) h ∙ begun e w p.table u g.room g.table (pend c b z) a a l (tokens_of r)
  began_run true c b l h =
      let e = end_of p.reader in
      ap (run e (test c b descendant true) l (outer_left p) (inner_left p)) g.tokens ∙ far_word e c b descendant w z l (outer_left p) (inner_left p) a (tokens_of r) h ∙ begun e w p.table u g.room g.table (named c b descendant z) a a l (tokens_of r)

  same_end : end_of r ≡ end_of p.reader
  same_end = ap (λ x. length x.now) g.moved.text

  pub head_from : (far : Bool) (x : Result Head Fault) (q : Reader) → WordTells far z x r q → HeadTells w far x p (record { reader = q; table = u })
  head_from far (Ok h) q f = (
    f.0,
    record {
      test = subst (λ x. ShowsTest x.now h.test f.0) g.moved.text f.1;
      went = record { text = f.2.text ∙ g.moved.text; on = omega (arith, g.moved.on, f.2.on); inside = omega (arith, g.moved.on, g.moved.fits) };
      room = g.room;
      table = g.table;
      tells = λ c b l e. began_run far c b l e ∙ subst (λ n. run n (worded far c b z) l (16 - u.outside_count) (23 - u.inside_count) (tokens_of r) ≡ run n (tested c b (axis_of h.axis) f.0) l (16 - u.outside_count) (23 - u.inside_count) (tokens_of q)) same_end (f.3 c b l (16 - u.outside_count) (23 - u.inside_count));
    },
  )
  head_from far (Err k) q f = λ c b l e. began_run far c b l e ∙ subst (λ n. run n (worded far c b z) l (16 - u.outside_count) (23 - u.inside_count) (tokens_of r) ≡ refused (code_of k) (place_of k)) same_end (f c b l (16 - u.outside_count) (23 - u.inside_count))

colon : (e : ℕ) (c : Context) (b : Before) (z : List ℕ) (v : syntax.Axis) (l o i a : ℕ) (ts us : List Placed) → axis_of_word z ≡ AsAxis.is v → ts ≡ token (symbol symbols.DoubleColon) a ∷ us → run e (pend c b z) l o i ts ≡ run e (test c b v false) l o i us
colon e c b z v l o i a ts us h g = ap (run e (pend c b z) l o i) g ∙ ap (λ m. onward e (turn (act (on_axis m c b)) a l o i) us) h

abbrev pub heads : Axis → Result NodeTest Fault → Result Head Fault
heads v (Ok x) = Ok (record { axis = v; test = x })
heads v (Err f) = Err f

module _ (r q s : Reader) (z : List ℕ) (on : Moved r q) where
  -- after `::`
  pub axis_head : (v : Axis) (x : Result NodeTest Fault) (a : ℕ) → tokens_of r ≡ token (symbol symbols.DoubleColon) a ∷ tokens_of q → axis_of_word z ≡ AsAxis.is (axis_of v) → TestTells x q s → WordTells false z (heads v x) r s
  axis_head v (Ok x) a g h f = (
    f.0,
    subst (λ y. ShowsTest y.now x f.0) on.text f.1,
    record { text = f.2.text ∙ on.text; on = omega (arith, on.on, f.2.on) },
    λ c b l o i. colon (end_of r) c b z (axis_of v) l o i a (tokens_of r) (tokens_of q) h g ∙ subst (λ n. run n (test c b (axis_of v) false) l o i (tokens_of q) ≡ run n (tested c b (axis_of v) f.0) l o i (tokens_of s)) (ap (λ y. length y.now) on.text) (f.3 c b (axis_of v) l o i),
  )
  axis_head v (Err k) a g h f = λ c b l o i. colon (end_of r) c b z (axis_of v) l o i a (tokens_of r) (tokens_of q) h g ∙ subst (λ n. run n (test c b (axis_of v) false) l o i (tokens_of q) ≡ refused (code_of k) (place_of k)) (ap (λ y. length y.now) on.text) (f c b (axis_of v) l o i)

-- no `::`
pub child_head : (r q : Reader) (z : List ℕ) (x : Result NodeTest Fault) → next_is symbols.DoubleColon (tokens_of r) ≡ false → NamedTells z x r q → WordTells false z (heads Child x) r q
child_head r q z (Ok x) h f = (f.0, f.1, f.2, λ c b l o i. child_step (end_of r) c b z l o i (tokens_of r) h ∙ f.3 c b child l o i)
child_head r q z (Err k) h f = λ c b l o i. child_step (end_of r) c b z l o i (tokens_of r) h ∙ f c b child l o i

-- after `//`
pub far_head : (r q : Reader) (z : List ℕ) (x : Result NodeTest Fault) → NamedTells z x r q → WordTells true z (heads Descendant x) r q
far_head r q z (Ok x) h = (h.0, h.1, h.2, λ c b l o i. h.3 c b descendant l o i)
far_head r q z (Err k) h = λ c b l o i. h c b descendant l o i
