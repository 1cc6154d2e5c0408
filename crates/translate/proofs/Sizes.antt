-- A query's program has room in 2,048 bytes, and is a translation.
use Rattle.std.proofs.Common.{◌≡◌, ℕ, ◌+◌, ◌≤◌, List, [], ◌∷◌, ◌++◌, reverse, length, take, drop, sym, refl, ap, ◌∙◌, subst, arith, length-append}
use lib.Seq.{take-append_seam, drop-append_seam}
use Rattle.query.specs.declared.parsed.Query.{Query}
use Rattle.query.proofs.Shown.{query_reads, query_shows}
use Rattle.commands.specs.Encoded.{encoded}
use Rattle.selection.specs.Selects.{Store}
use Rattle.selection.specs.Limits.{Limited}
use Rattle.selection.specs.Translate as selection
use Rattle.selection.proofs.Accepted.{accepted_limited}
use Rattle.selection.proofs.Limits.{translations_fit}
use Rattle.selection.proofs.Theorem.{translates}
use Rattle.translation.specs.Table.{insides, outsides, sends, program_of, Good}
use Rattle.translation.specs.Written.{states_code, rules_codes, Adds}
use Rattle.translation.proofs.Says.{says_program}
use Rattle.translation.proofs.Codes.{encoded_length}
use Rattle.translation.proofs.States.{program_code}
use Rattle.translate.specs.declared.bytes.Writer.{Writer}
use Rattle.translate.specs.Writing.{Puts}
use Rattle.translate.specs.Outcome.{text_in, path, Granted}

module _ (names : Store) (q : Query) where
  limited : Limited (path q)
  limited = accepted_limited (text_in q) (path q) (query_reads q)

  pub good : Good (text_in q) q.table
  good = (says_program names (text_in q) q.table (path q) (query_shows q) limited).0

  program_is : program_of names (text_in q) q.table ≡ selection.translate names (path q)
  program_is = (says_program names (text_in q) q.table (path q) (query_shows q) limited).1

  pub short : length (encoded (program_of names (text_in q) q.table)) ≤ 2048
  short =
      let s = (translations_fit names (path q) limited).short in
      let l = encoded_length (selection.translate names (path q)) in
      let e = ap (λ P. length (encoded P)) program_is in
      omega arith

  pub sizes : length (states_code (insides names (text_in q) q.table 0 q.table.inside_count))
      + (2 + (length (states_code (outsides names (text_in q) q.table 0 q.table.outside_count)) + (length (rules_codes (sends q.table 0 (q.table.outside_count + 1))) + 1))) ≤ 2048
  sizes =
      let s = short in
      let e : length (encoded (program_of names (text_in q) q.table))
      ≡ length (states_code (insides names (text_in q) q.table 0 q.table.inside_count))
      + (2 + (length (states_code (outsides names (text_in q) q.table 0 q.table.outside_count)) + (length (rules_codes (sends q.table 0 (q.table.outside_count + 1))) + 1)))
      = ap length (program_code names (text_in q) q.table) ∙ simp length-append (omega arith) in
      omega arith

  append_none : (xs : List ℕ) → xs ++ [] ≡ xs
  append_none [] = refl
  append_none (x ∷ xs) = ap (λ y. x ∷ y) (append_none xs)

  -- what was written from its end on, turned round
  pub turned : (out o end : List ℕ) (n : ℕ) → Adds out 0 o n (encoded (program_of names (text_in q) q.table)) → end ≡ reverse (take n o) ++ drop n o
      → Granted names q out end n
  turned out o end n a e =
      let bs = encoded (program_of names (text_in q) q.table) in
      let t : reverse (take n o) ≡ bs = a.text ∙ append_none bs in
      let l : n ≡ length bs = let m = a.many in omega arith in
      let g : end ≡ bs ++ drop n o = e ∙ ap (λ x. x ++ drop n o) t in
      let front : take n end ≡ bs = ap (take n) g ∙ ap (λ k. take k (bs ++ drop n o)) l ∙ take-append_seam bs (drop n o) in
      let back : drop n end ≡ drop n out = ap (drop n) g ∙ ap (λ k. drop k (bs ++ drop n o)) l ∙ drop-append_seam bs (drop n o) ∙ a.rest in
      let s = short in
      let same : encoded (selection.translate names (path q)) ≡ take n end = sym (ap encoded program_is) ∙ sym front in
      record { few = omega arith; translation = (selection.translate names (path q), (translations_fit names (path q) limited, same), translates names (path q)); rest = back }

-- what a writer wrote into an empty buffer, turned round
pub granted : (names : Store) (q : Query) (w v : Writer) (out end : List ℕ) (n : ℕ) → w.out.now ≡ out → w.at ≡ 0 → Puts w v (encoded (program_of names (text_in q) q.table)) → n ≡ v.at
    → end ≡ reverse (take v.at v.out.now) ++ drop v.at v.out.now → Granted names q out end n
granted names q w v out end n o a p m e =
    let bs = encoded (program_of names (text_in q) q.table) in
    let adds : Adds out 0 v.out.now v.at bs = subst (λ x. Adds x 0 v.out.now v.at bs) o (subst (λ x. Adds w.out.now x v.out.now v.at bs) a p.adds) in
    subst (λ x. Granted names q out end x) (sym m) (turned names q out v.out.now end v.at adds e)

-- a query has few steps
pub inside_few : (q : Query) → q.table.inside_count ≤ 23
inside_few q = (good [] q).inside_few

pub outside_few : (q : Query) → q.table.outside_count ≤ 16
outside_few q = (good [] q).outside_few
