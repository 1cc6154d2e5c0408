-- The measures by which queries are limited, beside the numbers of steps.
use Rattle.std.specs.Prelude.{ℕ, suc, ◌+◌, ◌≤◌, max}
use Rattle.grammar.specs.Syntax.{Path, first, more, Filter, plain, holds, Pred, some, not, and, or, own, in_path}

abbrev mutual
  -- the words `or`, `and` and `not`
  pub path_words : Path → ℕ
  path_words (first s a t f) = filter_words f
  path_words (more p a t f) = path_words p + filter_words f

  pub filter_words : Filter → ℕ
  filter_words plain = 0
  filter_words (holds p) = words p

  pub words : Pred → ℕ
  words (some p) = path_words p
  words (not p) = suc (words p)
  words (and p q) = suc (words p + words q)
  words (or p q) = suc (words p + words q)

-- where a predicate stands: by itself, beside `and`, or right of `and`
pub data Place : Type 0 where
  alone conjoined unit : Place

-- a level more, where an `and` or an `or` has to be put in parentheses
abbrev pub level_and : Place → ℕ → ℕ
level_and alone n = n
level_and conjoined n = n
level_and unit n = suc n

abbrev pub level_or : Place → ℕ → ℕ
level_or alone n = n
level_or conjoined n = suc n
level_or unit n = suc n

abbrev mutual
  -- the levels of brackets, `not` and grouping that the query needs
  pub path_levels : Path → ℕ
  path_levels (first s a t f) = filter_levels f
  path_levels (more p a t f) = max (path_levels p) (filter_levels f)

  pub filter_levels : Filter → ℕ
  filter_levels plain = 0
  filter_levels (holds p) = suc (levels p alone)

  pub levels : Pred → Place → ℕ
  levels (some p) c = path_levels p
  levels (not p) c = suc (levels p alone)
  levels (and p q) c = level_and c (max (levels p conjoined) (levels q unit))
  levels (or p q) c = level_or c (max (levels p alone) (levels q conjoined))

-- the limits that every accepted query keeps
pub record Limited (q : Path) : Type 0 where
  pub outside : own q ≤ 16
  pub inside : in_path q ≤ 23
  pub deep : path_levels q ≤ 12
  pub short : path_words q ≤ 512
