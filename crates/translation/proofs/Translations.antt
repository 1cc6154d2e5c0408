-- Translations are short, and there are some.
use Rattle.std.proofs.Common.{ℕ, ◌≤◌, List, length, refl, ap, arith}
use Rattle.grammar.specs.Syntax.{Path}
use Rattle.commands.specs.Encoded.{encoded}
use Rattle.selection.specs.Selects.{Store}
use Rattle.selection.specs.Translate.{translate}
use Rattle.selection.proofs.Limits.{translations_fit}
use Rattle.selection.proofs.Theorem.{translates}
use Rattle.translation.specs.Translation.{Translation}
use Rattle.translation.specs.Claims.{SomeTranslation}
use Rattle.translation.proofs.Codes.{encoded_length}

pub translation_short : (names : Store) (q : Path) (bs : List ℕ) → Translation names q bs → length bs ≤ 2048
translation_short names q bs t =
    let e = encoded_length t.0 in
    let s = t.1.0.short in
    let g = ap length t.1.1 in
    omega arith

pub some_translation : SomeTranslation
some_translation names p ok = (encoded (translate names p), (translate names p, (translations_fit names p ok, refl), translates names p))
