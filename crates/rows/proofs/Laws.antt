-- The test of rows decides whether they are lawful.
use Rattle.std.proofs.Common.{◌≡◌, ℕ, zero, suc, ◌<◌, ◌≤◌, Bool, true, ◌&&◌, eqb, leb, List, [], ◌∷◌, length, get_or, refl, arith}
use Rattle.std.proofs.lemmas.Bool.Decides.{nat_tests}
use Rattle.std.proofs.lemmas.Bool.{and_parts, and_from}
use Rattle.rows.specs.Rows.{Row, nobody, depth_of, label_of, Lawful}
use Rattle.rows.specs.Lawful.{inner_label, reach, follow, IsLawful}
use Rattle.rows.specs.Claims.{LawfulDecided}

-- the row r may stand right after the row p
record Follows (p r : Row) : Type 0 where
  pub below : 0 < r.depth
  pub step : r.depth ≤ suc p.depth
  pub text : p.label ≡ 1 → r.depth ≤ p.depth
  pub label : (1 ≤ r.label) × (r.label ≤ 513)

abbrev may_follow : Row → Row → Bool
may_follow p r = leb 1 r.depth && leb r.depth (reach p) && inner_label r.label

to_follows : (p r : Row) → may_follow p r ≡ true → Follows p r
to_follows p r e = record { below = grind (arith, nat_tests); step = grind (arith, nat_tests); text = λ t. grind (arith, nat_tests); label = (grind (arith, nat_tests), grind (arith, nat_tests)) }

of_follows : (p r : Row) → Follows p r → may_follow p r ≡ true
of_follows p r f =
    let a = f.below in
    let b = f.step in
    let c = f.text in
    let d = f.label in
    grind (arith, nat_tests)

follow_at : (p : Row) (rs : List Row) (k : ℕ) → follow p rs ≡ true → k < length rs → Follows (get_or (p ∷ rs) k nobody) (get_or rs k nobody)
follow_at p [] k e h = absurd (omega arith)
follow_at p (r ∷ rs) zero e h = to_follows p r (and_parts _ _ e).0
follow_at p (r ∷ rs) (suc k) e h = follow_at r rs k (and_parts _ _ e).1 (omega arith)

follow_all : (p : Row) (rs : List Row) → ((k : ℕ) → k < length rs → Follows (get_or (p ∷ rs) k nobody) (get_or rs k nobody)) → follow p rs ≡ true
follow_all p [] f = refl
follow_all p (r ∷ rs) f = and_from _ _ (of_follows p r (f 0 (omega arith))) (follow_all r rs (λ k h. f (suc k) (omega arith)))

pub to_lawful : (rows : List Row) → IsLawful rows → Lawful rows
to_lawful [] e = let z : ◌≡◌ {A = ℕ} 0 1 = cc in absurd (omega arith)
to_lawful (r ∷ rs) e =
    let a = (and_parts (eqb r.depth 0 && eqb r.label 0 && leb (length rs) 8191) (follow r rs) e).0 in
    let f = (and_parts (eqb r.depth 0 && eqb r.label 0 && leb (length rs) 8191) (follow r rs) e).1 in
    record {
      some = omega arith;
      few = grind (arith, nat_tests);
      root_depth = grind (arith, nat_tests);
      root_label = grind (arith, nat_tests);
      other_depth = λ v z h. other v z h (λ k l. (follow_at r rs k f l).below);
      other_label = λ v z h. label v z h (λ k l. (follow_at r rs k f l).label);
      steps = λ v h. (follow_at r rs v f (omega arith)).step;
      texts = λ v h t. (follow_at r rs v f (omega arith)).text t;
    }
  where
    other : (v : ℕ) → 0 < v → v < length (r ∷ rs) → ((k : ℕ) → k < length rs → 0 < (get_or rs k nobody).depth) → 0 < depth_of (r ∷ rs) v
    other zero z h g = absurd (omega arith)
    other (suc k) z h g = g k (omega arith)

    label : (v : ℕ) → 0 < v → v < length (r ∷ rs) → ((k : ℕ) → k < length rs → (1 ≤ (get_or rs k nobody).label) × ((get_or rs k nobody).label ≤ 513))
        → (1 ≤ label_of (r ∷ rs) v) × (label_of (r ∷ rs) v ≤ 513)
    label zero z h g = absurd (omega arith)
    label (suc k) z h g = g k (omega arith)

pub of_lawful : (rows : List Row) → Lawful rows → IsLawful rows
of_lawful [] l = let h = l.some in absurd (omega arith)
of_lawful (r ∷ rs) l =
    let d = l.root_depth in
    let c = l.root_label in
    let n = l.few in
    and_from _ _ (head d c n)
    (follow_all r rs (λ k h. record { below = l.other_depth (suc k) (omega arith) (omega arith); step = l.steps k (omega arith); text = l.texts k (omega arith); label = l.other_label (suc k) (omega arith) (omega arith) }))
  where
    head : r.depth ≡ 0 → r.label ≡ 0 → length (r ∷ rs) ≤ 8192 → (eqb r.depth 0 && eqb r.label 0 && leb (length rs) 8191) ≡ true
    head d c n = grind (arith, nat_tests)

pub lawful_decided : LawfulDecided
lawful_decided rows = (to_lawful rows, of_lawful rows)
