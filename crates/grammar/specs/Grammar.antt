-- The grammar. `IsPath l ts p us`: the tokens ts begin with a text of p, us are the tokens after it,
-- and l levels of brackets, `not` and grouping suffice.
--   Query = [ "/" | "//" ] Step { ( "/" | "//" ) Step }
--   Step  = [ Axis "::" ] Test [ "[" Pred "]" ]      (no axis after "//")
--   Test  = "*" | Name | "text" "(" ")" | "node" "(" ")"
--   Pred  = Conj { "or" Conj }     Conj = Unit { "and" Unit }
--   Unit  = "not" "(" Pred ")" | "(" Pred ")" | Query
use Rattle.std.specs.Prelude.{◌≡◌, ℕ, suc, true, false, List, ◌∷◌}
use Rattle.grammar.specs.declared.tokens.Symbol.TheVariants.{Slash, DoubleSlash, LeftBracket, RightBracket, LeftParen, RightParen, Star, DoubleColon}
use Rattle.grammar.specs.Tokens.{symbol, word, Placed, token}
use Rattle.grammar.specs.Syntax.{Axis, child, descendant, NodeTest, element, name, text, node, Path, first, more, Filter, plain, holds, Pred, some, not, and, or, axis_word, text_word, node_word, not_word, or_word, and_word}

pub data IsTest : List Placed → NodeTest → List Placed → Type 0 where
  is_any : {a : ℕ} {us : List Placed} → IsTest (token (symbol Star) a ∷ us) element us
  is_name : {w : List ℕ} {a : ℕ} {us : List Placed} → IsTest (token (word w) a ∷ us) (name w) us
  is_text : {w : List ℕ} {a b c : ℕ} {us : List Placed} → w ≡ text_word → IsTest (token (word w) a ∷ token (symbol LeftParen) b ∷ token (symbol RightParen) c ∷ us) text us
  is_node : {w : List ℕ} {a b c : ℕ} {us : List Placed} → w ≡ node_word → IsTest (token (word w) a ∷ token (symbol LeftParen) b ∷ token (symbol RightParen) c ∷ us) node us

mutual
  pub data IsPath : ℕ → List Placed → Path → List Placed → Type 0 where
    is_first : {l : ℕ} {ts us : List Placed} {v : Axis} {t : NodeTest} {f : Filter} → IsStep l ts v t f us → IsPath l ts (first false v t f) us
    is_root : {l a : ℕ} {ts us : List Placed} {v : Axis} {t : NodeTest} {f : Filter} → IsStep l ts v t f us → IsPath l (token (symbol Slash) a ∷ ts) (first true v t f) us
    is_deep : {l a : ℕ} {ts us : List Placed} {t : NodeTest} {f : Filter} → IsTail l ts t f us → IsPath l (token (symbol DoubleSlash) a ∷ ts) (first true descendant t f) us
    is_more : {l a : ℕ} {ts us vs : List Placed} {p : Path} {v : Axis} {t : NodeTest} {f : Filter} → IsPath l ts p (token (symbol Slash) a ∷ us) → IsStep l us v t f vs → IsPath l ts (more p v t f) vs
    is_far : {l a : ℕ} {ts us vs : List Placed} {p : Path} {t : NodeTest} {f : Filter} → IsPath l ts p (token (symbol DoubleSlash) a ∷ us) → IsTail l us t f vs → IsPath l ts (more p descendant t f) vs

  pub data IsStep : ℕ → List Placed → Axis → NodeTest → Filter → List Placed → Type 0 where
    is_axis : {l a b : ℕ} {w : List ℕ} {ts us : List Placed} {v : Axis} {t : NodeTest} {f : Filter} → w ≡ axis_word v → IsTail l ts t f us → IsStep l (token (word w) a ∷ token (symbol DoubleColon) b ∷ ts) v t f us
    is_child : {l : ℕ} {ts us : List Placed} {t : NodeTest} {f : Filter} → IsTail l ts t f us → IsStep l ts child t f us

  pub data IsTail : ℕ → List Placed → NodeTest → Filter → List Placed → Type 0 where
    is_tail : {l : ℕ} {ts us vs : List Placed} {t : NodeTest} {f : Filter} → IsTest ts t us → IsFilter l us f vs → IsTail l ts t f vs

  pub data IsFilter : ℕ → List Placed → Filter → List Placed → Type 0 where
    is_plain : {l : ℕ} {us : List Placed} → IsFilter l us plain us
    is_holds : {l a b : ℕ} {us vs : List Placed} {p : Pred} → IsPred l us p (token (symbol RightBracket) b ∷ vs) → IsFilter (suc l) (token (symbol LeftBracket) a ∷ us) (holds p) vs

  pub data IsPred : ℕ → List Placed → Pred → List Placed → Type 0 where
    is_conj : {l : ℕ} {ts us : List Placed} {p : Pred} → IsConj l ts p us → IsPred l ts p us
    is_or : {l a : ℕ} {w : List ℕ} {ts us vs : List Placed} {p q : Pred} → w ≡ or_word → IsPred l ts p (token (word w) a ∷ us) → IsConj l us q vs → IsPred l ts (or p q) vs

  pub data IsConj : ℕ → List Placed → Pred → List Placed → Type 0 where
    is_unit : {l : ℕ} {ts us : List Placed} {p : Pred} → IsUnit l ts p us → IsConj l ts p us
    is_and : {l a : ℕ} {w : List ℕ} {ts us vs : List Placed} {p q : Pred} → w ≡ and_word → IsConj l ts p (token (word w) a ∷ us) → IsUnit l us q vs → IsConj l ts (and p q) vs

  pub data IsUnit : ℕ → List Placed → Pred → List Placed → Type 0 where
    is_not : {l a b c : ℕ} {w : List ℕ} {us vs : List Placed} {p : Pred} → w ≡ not_word → IsPred l us p (token (symbol RightParen) c ∷ vs) → IsUnit (suc l) (token (word w) a ∷ token (symbol LeftParen) b ∷ us) (not p) vs
    is_group : {l b c : ℕ} {us vs : List Placed} {p : Pred} → IsPred l us p (token (symbol RightParen) c ∷ vs) → IsUnit (suc l) (token (symbol LeftParen) b ∷ us) p vs
    is_some : {l : ℕ} {ts us : List Placed} {p : Path} → IsPath l ts p us → IsUnit l ts (some p) us
