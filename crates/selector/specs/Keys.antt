-- Where the word of a node is kept.
use Rattle.std.specs.Prelude.{ℕ, ◌*◌, ◌%◌, ◌^◌, bit_xor}
use Rattle.memo.specs.Spread.{spread}
use Rattle.selector.specs.declared.seen.Seen.{Seen}

abbrev pub place_of : Seen → ℕ
place_of s =
    let n = s.0 in
    spread (bit_xor (bit_xor n.label ((n.first * 0xc2b2_ae3d_27d4_eb4f) % 2 ^ 64)) ((n.next * 0x1656_67b1_9e37_79f9) % 2 ^ 64))
