-- The bytes of what a predicate says, by its row.
use Rattle.std.proofs.Common.{◌≡◌, ℕ, zero, suc, ◌+◌, ◌<◌, ◌≤◌, [], ◌∷◌, ◌++◌, length, refl, ap, ◌∙◌, subst, arith, length-append}
use Rattle.std.proofs.lemmas.List.{append_assoc}
use Rattle.grammar.specs.Syntax.{Axis, self, child, descendant, following_sibling}
use Rattle.query.specs.declared.table.Shape.{Shape}
use Rattle.query.specs.declared.table.Shape.TheVariants as shape
use Rattle.query.specs.declared.table.Table.{Table}
use Rattle.query.specs.Shown.{axis_of, step_at, predicate_at}
use Rattle.grammar.specs.Machine.{inner}
use Rattle.automata.specs.Program.{and, or}
use Rattle.selection.specs.Translate.{beginning}
use Rattle.translation.specs.Table.{asks_at, state_of, said, Reaching}
use Rattle.translation.specs.Written.{code, nots, beginning_code}
use Rattle.translation.proofs.Reaching.{Opened, opened}
use Rattle.translation.proofs.Codes.{code_and, code_or, code_negated}

pub code_beginning : (a : Axis) (p : ℕ) → code (beginning a p) ≡ beginning_code a p
unfolding code
code_beginning self p = refl
code_beginning child p = refl
code_beginning descendant p = refl
code_beginning following_sibling p = refl

pub nots_length : (n : ℕ) → length (nots n) ≡ n
nots_length zero = refl
nots_length (suc n) = let e = nots_length n in omega arith

beginning_length : (a : Axis) (p : ℕ) → length (beginning_code a p) ≡ 2
beginning_length self p = refl
beginning_length child p = refl
beginning_length descendant p = refl
beginning_length following_sibling p = refl

module _ (q : Table) where
  pub asks_length : (i : ℕ) → length (code (asks_at q i)) ≡ 2
  asks_length i = ap length (code_beginning (axis_of (step_at inner q i).axis) (state_of q i)) ∙ beginning_length (axis_of (step_at inner q i).axis) (state_of q i)

  pub record PathRow (i s : ℕ) : Type 0 where
    pub within : s < q.inside_count
    pub is : code (said q i) ≡ code (asks_at q s) ++ nots (predicate_at q i).negations
    pub long : length (code (said q i)) ≡ 2 + (predicate_at q i).negations

  pub record JoinRow (op i a b : ℕ) : Type 0 where
    pub left_below : a < i
    pub right_below : b < i
    pub left : Reaching q a
    pub right : Reaching q b
    pub is : code (said q i) ≡ code (said q a) ++ (code (said q b) ++ (op ∷ nots (predicate_at q i).negations))
    pub long : length (code (said q i)) ≡ length (code (said q a)) + (length (code (said q b)) + suc (predicate_at q i).negations)

  -- at the shape of a row
  as_shape : (i : ℕ) (x : Shape) → (predicate_at q i).shape ≡ x → Reaching q i → Opened q i x
  as_shape i x e r = subst (Opened q i) e (opened q i r)

  pub path_row : (i s : ℕ) → Reaching q i → (predicate_at q i).shape ≡ shape.Path s → PathRow i s
  path_row i s r e =
      let n = (predicate_at q i).negations in
      let o = as_shape i (shape.Path s) e r in
      let is : code (said q i) ≡ code (asks_at q s) ++ nots n = ap code o.1 ∙ code_negated n (asks_at q s) in
      let a = asks_length s in
      let l = nots_length n in
      record { within = o.0; is = is; long = ap length is ∙ simp length-append (omega arith) }

  joined : (op i a b : ℕ) → code (said q i) ≡ (code (said q a) ++ (code (said q b) ++ (op ∷ []))) ++ nots (predicate_at q i).negations
      → code (said q i) ≡ code (said q a) ++ (code (said q b) ++ (op ∷ nots (predicate_at q i).negations))
  joined op i a b e =
      let n = nots (predicate_at q i).negations in
      e ∙ append_assoc (code (said q a)) (code (said q b) ++ (op ∷ [])) n ∙ ap (λ x. code (said q a) ++ x) (append_assoc (code (said q b)) (op ∷ []) n)

  join_long : (op i a b : ℕ) → code (said q i) ≡ code (said q a) ++ (code (said q b) ++ (op ∷ nots (predicate_at q i).negations))
      → length (code (said q i)) ≡ length (code (said q a)) + (length (code (said q b)) + suc (predicate_at q i).negations)
  join_long op i a b e =
      let l = nots_length (predicate_at q i).negations in
      ap length e ∙ simp length-append (omega arith)

  pub and_row : (i a b : ℕ) → Reaching q i → (predicate_at q i).shape ≡ shape.And a b → JoinRow 0x18 i a b
  and_row i a b r e =
      let n = (predicate_at q i).negations in
      let o = as_shape i (shape.And a b) e r in
      let is = joined 0x18 i a b (ap code o.4 ∙ code_negated n (and (said q a) (said q b)) ∙ ap (λ x. x ++ nots n) (code_and (said q a) (said q b))) in
      record { left_below = o.0; right_below = o.1; left = o.2; right = o.3; is = is; long = join_long 0x18 i a b is }

  pub or_row : (i a b : ℕ) → Reaching q i → (predicate_at q i).shape ≡ shape.Or a b → JoinRow 0x19 i a b
  or_row i a b r e =
      let n = (predicate_at q i).negations in
      let o = as_shape i (shape.Or a b) e r in
      let is = joined 0x19 i a b (ap code o.4 ∙ code_negated n (or (said q a) (said q b)) ∙ ap (λ x. x ++ nots n) (code_or (said q a) (said q b))) in
      record { left_below = o.0; right_below = o.1; left = o.2; right = o.3; is = is; long = join_long 0x19 i a b is }

  -- a row has no more `not` than its bytes
  few_of : (i : ℕ) (x : Shape) → (predicate_at q i).shape ≡ x → Reaching q i → (predicate_at q i).negations ≤ length (code (said q i))
  few_of i (shape.Path s) e r = let l = (path_row i s r e).long in omega arith
  few_of i (shape.And a b) e r = let l = (and_row i a b r e).long in omega arith
  few_of i (shape.Or a b) e r = let l = (or_row i a b r e).long in omega arith

  pub few_nots : (i : ℕ) → Reaching q i → (predicate_at q i).negations ≤ length (code (said q i))
  few_nots i r = few_of i (predicate_at q i).shape refl r
