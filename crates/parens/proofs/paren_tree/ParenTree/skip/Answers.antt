use Rattle.std.proofs.Common.{◌≡◌, ℕ, ◌+◌, ◌-◌, ◌*◌, get_or, pos, ◌+ℤ◌, ◌≤ℤ◌, ap, arith, w16, SFits, rules}
use Rattle.std.proofs.lemmas.Int.{ints}
use Rattle.scan.specs.declared.block.Block.{Block}
use Rattle.scan.proofs.Blocks.{blank}
use Rattle.parens.proofs.Facts.{directory_long, bits_long, before_grows, skip_room, skip}
use Rattle.parens.proofs.paren_tree.ParenTree.skip.Goals as goal

pub overflow_cast-excess : goal.overflow_cast-excess
overflow_cast-excess c = let d = directory_long c.args.self.now in let f = c.args.self.now.few in search (rules, ints)

pub overflow_add-excess : goal.overflow_add-excess
overflow_add-excess c = let d = directory_long c.args.self.now in let f = c.args.self.now.few in search (rules, ints)

-- the openings before the next block
next_before : (c : goal.After-struct_known-2-1) → c.in_ok-next.next.now.before ≡ (get_or c.args.self.now.directory.now (c.args.j + 1) blank).before
next_before c = ap (λ (b : Block). b.before) (c.in_ok-next.ensures.lookup.4 (omega arith) blank)

pub overflow_sub-result : goal.overflow_sub-result
overflow_sub-result c =
    let n = next_before c in
    let g = before_grows c.args.self.now c.args.j c.in_ok-next.ensures.lookup.3.0 in
    omega arith

pub overflow_add-result : goal.overflow_add-result
overflow_add-result c = let d = directory_long c.args.self.now in let f = c.args.self.now.few in search rules

stays : (c : goal.After-struct_known-2-1) → pos 0 ≤ℤ (pos c.args.excess +ℤ (get_or c.args.self.now.directory.now c.args.j blank).least)
stays c =
    let d = directory_long c.args.self.now in
    let f = c.args.self.now.few in
    let s : SFits w16 (get_or c.args.self.now.directory.now c.args.j blank).least = search rules in
    omega (arith, ints, c.if-excess-here-lt0.false)

pub overflow_sub-result-2 : goal.overflow_sub-result-2
overflow_sub-result-2 c =
    let n = next_before c in
    let r = skip_room c.args.self.now c.args.j c.in_ok-next.ensures.lookup.3.0 c.args.excess (stays c) in
    omega arith

pub returns : goal.returns
returns c =
    let t = c.args.self.now in
    let j = c.args.j in
    let more = c.in_ok-next.ensures.lookup.3.0 in
    let s = skip t j more c.args.excess _ c.requires.low (stays c) (ap (λ (n : ℕ). c.args.excess + 2 * (n - (get_or t.directory.now j blank).before) - 256) (next_before c)) in
    (s.0, s.1, omega (arith, directory_long t, bits_long t, more))
