-- What the writing of rows does.
use Rattle.std.specs.Prelude.{◌≡◌, ℕ, ◌+◌, ◌<◌, ◌≤◌, ◌≢◌, Ok, Err, Result}
use Rattle.grammar.specs.Machine.{Where, outer, inner}
use Rattle.query.specs.declared.fault.Fault.{Fault}
use Rattle.query.specs.declared.fault.Fault.TheVariants.{Many}
use Rattle.query.specs.declared.table.Step.{Step}
use Rattle.query.specs.declared.table.Predicate.{Predicate}
use Rattle.query.specs.declared.table.Table.{Table}
use Rattle.query.specs.Shown.{step_at, predicate_at, index}

abbrev pub index_in : Where → Table → ℕ
index_in w t = index w t.outside_count t.inside_count

-- a table in which one step more has begun
abbrev pub grown : Where → Table → Table
grown outer t = record { outside = t.outside; outside_count = t.outside_count + 1; inside = t.inside; inside_count = t.inside_count; predicates = t.predicates; predicate_count = t.predicate_count }
grown inner t = record { outside = t.outside; outside_count = t.outside_count; inside = t.inside; inside_count = t.inside_count + 1; predicates = t.predicates; predicate_count = t.predicate_count }

-- the most steps
abbrev pub most : Where → ℕ
most outer = 16
most inner = 23

abbrev pub Counts : ℕ → ℕ → ℕ → Result ℕ Fault → Type 0
Counts n m a (Ok k) = (n < m) × (k ≡ n + 1)
Counts n m a (Err f) = (m ≤ n) × (f ≡ Many a)

abbrev pub Begun : Where → ℕ → Result Unit Fault → Table → Table → Type 0
Begun w a (Ok x) t u = (index_in w t < most w) × (u ≡ grown w t)
Begun w a (Err f) t u = (most w ≤ index_in w t) × (f ≡ Many a)

-- tables that differ in steps of one region, or in predicates
pub record Counted (t u : Table) : Type 0 where
  pub outside : u.outside_count ≡ t.outside_count
  pub inside : u.inside_count ≡ t.inside_count

abbrev pub Writes : Where → ℕ → Step → Table → Table → Type 0
Writes w i s t u = (i < most w → step_at w u i ≡ s) × ((x : Where) (k : ℕ) → (x ≡ w → k ≢ i) → step_at x u k ≡ step_at x t k) × (u.predicates ≡ t.predicates) × (u.predicate_count ≡ t.predicate_count) × Counted t u

pub record Pushes (p : Predicate) (r : ℕ) (t u : Table) : Type 0 where
  pub at : r ≡ t.predicate_count
  pub more : r < 46 → u.predicate_count ≡ r + 1
  pub is : r < 46 → predicate_at u r ≡ p
  pub others : (k : ℕ) → k ≢ r → predicate_at u k ≡ predicate_at t k
  pub outside : u.outside ≡ t.outside
  pub inside : u.inside ≡ t.inside
  pub counted : Counted t u

pub record Negated (i : ℕ) (t u : Table) : Type 0 where
  pub is : i < 46 → (predicate_at t i).negations < 255 → predicate_at u i ≡ record { negations = (predicate_at t i).negations + 1; shape = (predicate_at t i).shape }
  pub others : (k : ℕ) → k ≢ i → predicate_at u k ≡ predicate_at t k
  pub outside : u.outside ≡ t.outside
  pub inside : u.inside ≡ t.inside
  pub count : u.predicate_count ≡ t.predicate_count
  pub counted : Counted t u
