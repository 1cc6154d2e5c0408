use Rattle.std.proofs.Common.{◌≡◌, ℕ, ◌+◌, ◌*◌, min, List, ◌++◌, get_or, take, drop, set, sym, ap, ◌∙◌, add-one, arith, take_all}
use Rattle.std.proofs.lemmas.List.{drop_all, append-nil}
use Rattle.shape.specs.Bits.{bits_of, openings}
use Rattle.scan.specs.Directory.{directory_of}
use Rattle.scan.specs.declared.block.Block.{Block}
use Rattle.scan.proofs.Blocks.{blank, directory_at, directory_length, fill_more}
use Rattle.scan.proofs.nesting.Nesting.write_directory.Goals as goal

pub loop-j-preserved : goal.loop-j-preserved
loop-j-preserved c =
    let bs = bits_of c.args.self.now.bits.now in
    let m = 2 * c.args.self.now.count in
    let made = directory_of bs m in
    let j = c.loop-j.j in
    let old = c.args.directory.now in
    let long = directory_length bs m in
    let block : c.next_block.result ≡ get_or made j blank = c.next_block.ensures.is ∙ sym (directory_at bs m j (omega arith)) in
    let next : 256 * j + 256 ≡ 256 * (j + 1) = omega arith in (
      ap (λ (d : List Block). set d j c.next_block.result) c.loop-j.invariant.0 ∙ ap (set (take j made ++ drop j old) j) block
          ∙ fill_more made old j blank (omega arith) (omega arith) ∙ ap (λ (k : ℕ). take k made ++ drop k old) (sym (add-one j)),
      c.next_block.ensures.moves ∙ ap (λ (k : ℕ). openings (take (min m k) bs)) next,
    )

pub returns : goal.returns
returns c =
    let m = 2 * c.args.self.now.count in
    let made = directory_of (bits_of c.args.self.now.bits.now) m in
    let old = c.args.directory.now in
    let long = directory_length (bits_of c.args.self.now.bits.now) m in
    c.loop-j.invariant.0 ∙ ap (λ (l : List Block). l ++ drop c.loop-j.j old) (take_all c.loop-j.j made (omega arith)) ∙ ap (λ (l : List Block). made ++ l) (drop_all c.loop-j.j old (omega arith)) ∙ append-nil made
