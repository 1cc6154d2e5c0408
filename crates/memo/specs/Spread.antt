-- Where a word's answer is kept: by the highest four bits, after a multiplication that spreads the lower ones.
use Rattle.std.specs.Prelude.{ℕ, ◌*◌, ◌/◌, ◌%◌, ◌^◌}

abbrev pub spread : ℕ → ℕ
spread w = (w * 0x9e37_79b9_7f4a_7c15) % 2 ^ 64 / 2 ^ 60
