-- What `deciding`, `states` and `below` read, as relations.
use Rattle.std.proofs.Common.{◌≡◌, ℕ, ◌<◌, ◌≤◌, Bool, true, false, cond, ◌&&◌, eqb, ltb, leb, List, [], ◌∷◌, length, Some, None, Option, refl, subst, arith}
use Rattle.std.proofs.lemmas.Bool.{ltb-true, leb-true, eqb-true, and_parts}
use Rattle.automata.specs.Program.{Formula, Rule, Program}
use Rattle.automata.specs.Program as program
use Rattle.commands.specs.declared.command.Atom.{Atom}
use Rattle.commands.specs.declared.command.Move.{Move}
use Rattle.commands.specs.declared.command.Command.{Command}
use Rattle.commands.specs.declared.command.Command.TheVariants.{Value, And, Or, Not, Define, When, Make, Done, End}
use Rattle.commands.specs.Decoded.{formula, move, mapped, deciding, states, below, with_sending, program_of, widths, decoded}
use Rattle.commands.specs.Commands.{commands_of}
use Rattle.commands.specs.Rules.{after_deciding}

-- a command that opens a sending state
abbrev pub Opens : Command → Type 0
Opens (Value a) = ⊥
Opens And = ⊥
Opens Or = ⊥
Opens Not = ⊥
Opens Define = ⊥
Opens (When p) = Unit {0}
Opens (Make m) = ⊥
Opens Done = Unit {0}
Opens End = ⊥

-- from the stack on, the commands define the formulas
pub data Defines : List Command → List Formula → List Formula → List Command → Type 0 where
  value : {a : Atom} {cs rest : List Command} {st fs : List Formula} → length st < 32 → Defines cs (formula a ∷ st) fs rest → Defines (Value a ∷ cs) st fs rest
  and : {f g : Formula} {cs rest : List Command} {st fs : List Formula} → Defines cs (program.and f g ∷ st) fs rest → Defines (And ∷ cs) (g ∷ (f ∷ st)) fs rest
  or : {f g : Formula} {cs rest : List Command} {st fs : List Formula} → Defines cs (program.or f g ∷ st) fs rest → Defines (Or ∷ cs) (g ∷ (f ∷ st)) fs rest
  not : {f : Formula} {cs rest : List Command} {st fs : List Formula} → Defines cs (program.not f ∷ st) fs rest → Defines (Not ∷ cs) (f ∷ st) fs rest
  define : {f : Formula} {cs rest : List Command} {fs : List Formula} → Defines cs [] fs rest → Defines (Define ∷ cs) (f ∷ []) (f ∷ fs) rest
  stop : {c : Command} {cs : List Command} → Opens c → Defines (c ∷ cs) [] [] (c ∷ cs)

mutual
  -- at the opening of a state
  pub data Sends : List Command → List (List Rule) → Type 0 where
    opened : {p : ℕ} {cs : List Command} {ms : List program.Move} {rs : List Rule} {ss : List (List Rule)} → Below cs ms rs ss → Sends (When p ∷ cs) ((record { when = p; moves = ms } ∷ rs) ∷ ss)
    idle : {cs : List Command} {ss : List (List Rule)} → Sends cs ss → Sends (Done ∷ cs) ([] ∷ ss)
    ended : Sends (End ∷ []) []

  -- below a WHEN
  pub data Below : List Command → List program.Move → List Rule → List (List Rule) → Type 0 where
    again : {p : ℕ} {cs : List Command} {ms : List program.Move} {rs : List Rule} {ss : List (List Rule)} → Below cs ms rs ss → Below (When p ∷ cs) [] (record { when = p; moves = ms } ∷ rs) ss
    made : {m : Move} {cs : List Command} {ms : List program.Move} {rs : List Rule} {ss : List (List Rule)} → Below cs ms rs ss → Below (Make m ∷ cs) (move m ∷ ms) rs ss
    done : {cs : List Command} {ss : List (List Rule)} → Sends cs ss → Below (Done ∷ cs) [] [] ss

-- where a value comes through `mapped`
from_mapped : {A B : Type 0} (f : A → B) (o : Option A) (y : B) → mapped f o ≡ Some y → (x : A) × (o ≡ Some x) × (f x ≡ y)
from_mapped f None y e = let z : ◌≡◌ {A = ℕ} 0 1 = cc in absurd (omega arith)
from_mapped f (Some x) y e = (x, refl, cc)

nothing : {A : Type 0} {X : Type 0} (y : A) → ◌≡◌ {A = Option A} None (Some y) → X
nothing y e = let z : ◌≡◌ {A = ℕ} 0 1 = cc in absurd (omega arith)

from_cond : {A : Type 0} (b : Bool) (o : Option A) (y : A) → cond b o None ≡ Some y → (b ≡ true) × (o ≡ Some y)
from_cond true o y e = (refl, e)
from_cond false o y e = nothing y e

abbrev Deciding : Type 0
Deciding = List Formula × List Command

pub defines : (cs : List Command) (st : List Formula) (d : Deciding) → deciding cs st ≡ Some d → Defines cs st d.0 d.1
defines [] st d e = nothing d e
defines (Value a ∷ cs) st d e =
    let r = from_cond (ltb (length st) 32) (deciding cs (formula a ∷ st)) d e in
    value (ltb-true (length st) 32 r.0) (defines cs (formula a ∷ st) d r.1)
defines (And ∷ cs) [] d e = nothing d e
defines (And ∷ cs) (g ∷ []) d e = nothing d e
defines (And ∷ cs) (g ∷ (f ∷ st)) d e = and (defines cs (program.and f g ∷ st) d e)
defines (Or ∷ cs) [] d e = nothing d e
defines (Or ∷ cs) (g ∷ []) d e = nothing d e
defines (Or ∷ cs) (g ∷ (f ∷ st)) d e = or (defines cs (program.or f g ∷ st) d e)
defines (Not ∷ cs) [] d e = nothing d e
defines (Not ∷ cs) (f ∷ st) d e = not (defines cs (program.not f ∷ st) d e)
defines (Define ∷ cs) [] d e = nothing d e
defines (Define ∷ cs) (f ∷ []) d e =
    let r = from_mapped (λ (x : Deciding). (f ∷ x.0, x.1)) (deciding cs []) d e in
    subst (λ (x : Deciding). Defines (Define ∷ cs) (f ∷ []) x.0 x.1) r.2 (define (defines cs [] r.0 r.1))
defines (Define ∷ cs) (g ∷ (f ∷ st)) d e = nothing d e
defines (When p ∷ cs) [] d e = let k : ◌≡◌ {A = Deciding} ([], When p ∷ cs) d = cc in subst (λ (x : Deciding). Defines (When p ∷ cs) [] x.0 x.1) k (stop tt)
defines (When p ∷ cs) (f ∷ st) d e = nothing d e
defines (Make m ∷ cs) st d e = nothing d e
defines (Done ∷ cs) [] d e = let k : ◌≡◌ {A = Deciding} ([], Done ∷ cs) d = cc in subst (λ (x : Deciding). Defines (Done ∷ cs) [] x.0 x.1) k (stop tt)
defines (Done ∷ cs) (f ∷ st) d e = nothing d e
defines (End ∷ cs) st d e = nothing d e

abbrev Under : Type 0
Under = List program.Move × List Rule × List (List Rule)

mutual
  pub sends : (cs : List Command) (ss : List (List Rule)) → states cs ≡ Some ss → Sends cs ss
  sends [] ss e = nothing ss e
  sends (Value a ∷ cs) ss e = nothing ss e
  sends (And ∷ cs) ss e = nothing ss e
  sends (Or ∷ cs) ss e = nothing ss e
  sends (Not ∷ cs) ss e = nothing ss e
  sends (Define ∷ cs) ss e = nothing ss e
  sends (When p ∷ cs) ss e =
      let r = from_mapped (λ (x : Under). (record { when = p; moves = x.0 } ∷ x.1) ∷ x.2) (below cs) ss e in
      subst (Sends (When p ∷ cs)) r.2 (opened (belows cs r.0 r.1))
  sends (Make m ∷ cs) ss e = nothing ss e
  sends (Done ∷ cs) ss e =
      let r = from_mapped (λ (x : List (List Rule)). [] ∷ x) (states cs) ss e in
      subst (Sends (Done ∷ cs)) r.2 (idle (sends cs r.0 r.1))
  sends (End ∷ []) ss e = let k : ◌≡◌ {A = List (List Rule)} [] ss = cc in subst (Sends (End ∷ [])) k ended
  sends (End ∷ (c ∷ cs)) ss e = nothing ss e

  belows : (cs : List Command) (u : Under) → below cs ≡ Some u → Below cs u.0 u.1 u.2
  belows [] u e = nothing u e
  belows (Value a ∷ cs) u e = nothing u e
  belows (And ∷ cs) u e = nothing u e
  belows (Or ∷ cs) u e = nothing u e
  belows (Not ∷ cs) u e = nothing u e
  belows (Define ∷ cs) u e = nothing u e
  belows (When p ∷ cs) u e =
      let r = from_mapped (λ (x : Under). ([], record { when = p; moves = x.0 } ∷ x.1, x.2)) (below cs) u e in
      subst (λ (x : Under). Below (When p ∷ cs) x.0 x.1 x.2) r.2 (again (belows cs r.0 r.1))
  belows (Make m ∷ cs) u e =
      let r = from_mapped (λ (x : Under). (move m ∷ x.0, x.1, x.2)) (below cs) u e in
      subst (λ (x : Under). Below (Make m ∷ cs) x.0 x.1 x.2) r.2 (made (belows cs r.0 r.1))
  belows (Done ∷ cs) u e =
      let r = from_mapped (λ (x : List (List Rule)). ([], [], x)) (states cs) u e in
      subst (λ (x : Under). Below (Done ∷ cs) x.0 x.1 x.2) r.2 (done (sends cs r.0 r.1))
  belows (End ∷ cs) u e = nothing u e

abbrev Reads : List Command → Program → Type 0
Reads cs P = (rest : List Command) × Defines cs [] P.deciding rest × Sends rest P.sending

from_sending : (o : Option Deciding) (P : Program) → with_sending o ≡ Some P → (d : Deciding) × (o ≡ Some d) × ((ss : List (List Rule)) × (states d.1 ≡ Some ss) × (record { deciding = d.0; sending = ss } ≡ P))
from_sending None P e = nothing P e
from_sending (Some d) P e = (d, refl, from_mapped (λ (ss : List (List Rule)). record { deciding = d.0; sending = ss }) (states d.1) P e)

pub program_reads : (cs : List Command) (P : Program) → program_of cs ≡ Some P → Reads cs P
program_reads cs P e =
    let r = from_sending (deciding cs []) P e in
    let d = r.0 in
    let s = r.2 in
    subst (Reads cs) s.2 (d.1, defines cs [] d r.1, sends d.1 s.0 s.1)

-- what a decoded program is
pub record Decoded (bs : List ℕ) (P : Program) : Type 0 where
  pub short : length bs ≤ 2048
  pub whole : widths (commands_of bs) ≡ length bs
  pub rest : List Command
  pub defined : Defines (commands_of bs) [] P.deciding rest
  pub sent : Sends rest P.sending

pub decoded_reads : (bs : List ℕ) (P : Program) → decoded bs ≡ Some P → Decoded bs P
unfolding decoded
decoded_reads bs P e =
    let cs = commands_of bs in
    let a = from_cond (leb (length bs) 2048 && eqb (widths cs) (length bs)) (program_of cs) P e in
    let b = and_parts (leb (length bs) 2048) (eqb (widths cs) (length bs)) a.0 in
    let r = program_reads cs P a.1 in
    record { short = leb-true (length bs) 2048 b.0; whole = eqb-true (widths cs) (length bs) b.1; rest = r.0; defined = r.1; sent = r.2 }

opens_rest : (c : Command) (cs : List Command) → Opens c → after_deciding (c ∷ cs) ≡ c ∷ cs
opens_rest (When p) cs o = refl
opens_rest Done cs o = refl
opens_rest (Value a) cs o = absurd o
opens_rest And cs o = absurd o
opens_rest Or cs o = absurd o
opens_rest Not cs o = absurd o
opens_rest Define cs o = absurd o
opens_rest (Make m) cs o = absurd o
opens_rest End cs o = absurd o

-- the sending part is what follows the deciding part
pub rest_after : {cs rest : List Command} {st fs : List Formula} → Defines cs st fs rest → after_deciding cs ≡ rest
rest_after (value l d) = rest_after d
rest_after (and d) = rest_after d
rest_after (or d) = rest_after d
rest_after (not d) = rest_after d
rest_after (define d) = rest_after d
rest_after (stop {c = c} {cs = cs} o) = opens_rest c cs o
