use Rattle.std.proofs.Common.{◌≡◌, ◌*◌, true, not, ◌&&◌, eqb, int_eq, List, get_or, sym, refl, ap, ◌∙◌, arith}
use Rattle.std.proofs.lemmas.List.{ext_get_or}
use Rattle.std.proofs.lemmas.Bool.{false≢true, and_from, eq-eqb}
use Rattle.std.proofs.lemmas.Bool.Decides.{Decides-int_eq}
use Rattle.shape.specs.Bits.{bits_of}
use Rattle.scan.specs.Directory.{directory_of}
use Rattle.scan.specs.declared.block.Block.{Block}
use Rattle.scan.proofs.Blocks.{blank, directory_at, directory_length}
use Rattle.scan.proofs.nesting.Nesting.has_directory.Goals as goal

-- what `==` tells of equal blocks
same_block : (a b : Block) → a ≡ b → (eqb a.before b.before && int_eq a.least b.least) ≡ true
same_block a b e =
    and_from _ _ (eq-eqb a.before b.before (ap (λ (x : Block). x.before) e)) ((Decides-int_eq a.least b.least).1 (ap (λ (x : Block). x.least) e))

pub returns-then-ne : goal.returns-then-ne
returns-then-ne c =
    let bs = bits_of c.args.self.now.bits.now in
    let m = 2 * c.args.self.now.count in
    let j = c.loop-j.j in (
      λ e. absurd (false≢true e),
      λ d.
          let here = ap (λ (l : List Block). get_or l j blank) d ∙ directory_at bs m j (omega arith) ∙ sym c.next_block-block.ensures.is in
          sym (ap not (same_block _ _ here)) ∙ sym c.ne.ensures ∙ c.if-ne.true,
    )

pub returns : goal.returns
returns c =
    let bs = bits_of c.args.self.now.bits.now in
    let m = 2 * c.args.self.now.count in
    let d = c.args.directory.now in
    let n = directory_length bs m in
    (λ e. ext_get_or blank d (directory_of bs m) (omega arith) (λ i h. c.loop-j.invariant.0 i (omega arith) ∙ sym (directory_at bs m i (omega arith))), λ e. refl)
