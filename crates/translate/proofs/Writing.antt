-- Writes from the end on.
use Rattle.std.proofs.Common.{◌≡◌, ℕ, List, [], ◌++◌, refl, ◌∙◌}
use Rattle.translate.specs.declared.bytes.Writer.{Writer}
use Rattle.translate.specs.Writing.{Puts, Leaves}
use Rattle.translation.proofs.Written.{adds_none, adds_as, adds_more, remains_all, remains_less, remains_none}

pub puts_none : (w : Writer) → Puts w w []
puts_none w = record { same = refl; long = refl; adds = adds_none w.out.now w.at }

pub puts_more : {u v w : Writer} {xs ys : List ℕ} → Puts u v xs → Puts v w ys → Puts u w (ys ++ xs)
puts_more f g = record { same = g.same ∙ f.same; long = g.long ∙ f.long; adds = adds_more f.adds g.adds }

pub puts_as : {w v : Writer} {xs ys : List ℕ} → xs ≡ ys → Puts w v xs → Puts w v ys
puts_as e p = record { same = p.same; long = p.long; adds = adds_as e p.adds }

pub leaves_less : {whole left less xs : List ℕ} {w v u : Writer} → Leaves whole w left v → left ≡ less ++ xs → Puts v u xs → Leaves whole w less u
leaves_less {less = less} l e p = record { same = p.same ∙ l.same; long = p.long ∙ l.long; remains = remains_less {less = less} l.remains e p.adds }

pub leaves_none : {whole left : List ℕ} {w v u : Writer} → Leaves whole w left v → Puts v u left → Puts w u whole
leaves_none {left = left} l p = record { same = p.same ∙ l.same; long = p.long ∙ l.long; adds = remains_none {left = left} l.remains p.adds }
