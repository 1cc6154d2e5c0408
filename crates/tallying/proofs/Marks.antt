-- Laws of the marks of a list of nodes.
use Rattle.std.proofs.Common.{◌≡◌, ℕ, zero, suc, ◌+◌, Bool, true, false, cond, List, [], ◌∷◌, ◌++◌, sym, refl, ap, ◌∙◌, arith}
use Rattle.tally.specs.Monoid.{marks_of, Laws}
use Rattle.commands.specs.declared.command.Command.{Command}
use Rattle.tallying.specs.Nodes.{is_marked, marked_nodes}

cond_append : (b : Bool) (v : ℕ) (xs ys : List ℕ) → cond b (v ∷ (xs ++ ys)) (xs ++ ys) ≡ cond b (v ∷ xs) xs ++ ys
cond_append true v xs ys = refl
cond_append false v xs ys = refl

-- the nodes of two spans that adjoin
pub marked_append : (rules : List Command) (ws : List ℕ) (v n m k : ℕ) → v + n ≡ k → marked_nodes rules ws v (n + m) ≡ marked_nodes rules ws v n ++ marked_nodes rules ws k m
marked_append rules ws v zero m k e =
    let a : zero + m ≡ m = omega arith in
    let b : v ≡ k = omega arith in
    ap (marked_nodes rules ws v) a ∙ ap (λ (j : ℕ). marked_nodes rules ws j m) b
marked_append rules ws v (suc n) m k e =
    let a : suc n + m ≡ suc (n + m) = omega arith in
    ap (marked_nodes rules ws v) a
    ∙ ap (λ (l : List ℕ). cond (is_marked rules ws v) (v ∷ l) l) (marked_append rules ws (v + 1) n m k (omega arith))
    ∙ cond_append (is_marked rules ws v) v (marked_nodes rules ws (v + 1) n) (marked_nodes rules ws k m)

module _ {V : Type 0} {empty : V} {join : V → V → V} (laws : Laws empty join) (mark : ℕ → V) where
  pub marks_append : (xs ys : List ℕ) → marks_of empty mark join (xs ++ ys) ≡ join (marks_of empty mark join xs) (marks_of empty mark join ys)
  marks_append [] ys = sym (laws.left (marks_of empty mark join ys))
  marks_append (x ∷ xs) ys = ap (join (mark x)) (marks_append xs ys) ∙ sym (laws.assoc (mark x) (marks_of empty mark join xs) (marks_of empty mark join ys))

  -- one marked node more
  pub marks_next : (rules : List Command) (ws : List ℕ) (lo n v : ℕ) → lo + n ≡ v → is_marked rules ws v ≡ true →
      join (marks_of empty mark join (marked_nodes rules ws lo n)) (mark v) ≡ marks_of empty mark join (marked_nodes rules ws lo (n + 1))
  marks_next rules ws lo n v e h =
      let one : marked_nodes rules ws v 1 ≡ v ∷ [] = ap (λ (x : Bool). cond x (v ∷ []) []) h in
      ap (join (marks_of empty mark join (marked_nodes rules ws lo n))) (sym (laws.right (mark v)))
      ∙ sym (marks_append (marked_nodes rules ws lo n) (v ∷ []))
      ∙ ap (marks_of empty mark join) (ap (λ (l : List ℕ). marked_nodes rules ws lo n ++ l) (sym one) ∙ sym (marked_append rules ws lo n 1 v e))

-- one node more that is not marked
pub unmarked_next : (rules : List Command) (ws : List ℕ) (lo n v : ℕ) → lo + n ≡ v → is_marked rules ws v ≡ false → marked_nodes rules ws lo n ≡ marked_nodes rules ws lo (n + 1)
unmarked_next rules ws lo n v e h =
    let none : marked_nodes rules ws v 1 ≡ [] = ap (λ (x : Bool). cond x (v ∷ []) []) h in
    sym (marked_append rules ws lo n 1 v e ∙ ap (λ (l : List ℕ). marked_nodes rules ws lo n ++ l) none ∙ nil (marked_nodes rules ws lo n))
  where
    nil : (l : List ℕ) → l ++ [] ≡ l
    nil [] = refl
    nil (x ∷ xs) = ap (λ (t : List ℕ). x ∷ t) (nil xs)
