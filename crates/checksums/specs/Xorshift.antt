-- Marsaglia's xorshift on 64 bits, with the shifts 13, 7 and 17.
use Rattle.std.specs.Prelude.{ℕ, ◌*◌, ◌/◌, ◌%◌, ◌^◌}
use Rattle.std.specs.Int.Bits.{bit_xor}

abbrev pub left_by : ℕ → ℕ → ℕ
left_by i x = bit_xor x (x * 2 ^ i % 2 ^ 64)

abbrev pub right_by : ℕ → ℕ → ℕ
right_by i x = bit_xor x (x / 2 ^ i)

abbrev pub xorshifted : ℕ → ℕ
xorshifted x = left_by 17 (right_by 7 (left_by 13 x))

-- A checksum that a number joins.
abbrev pub joined : ℕ → ℕ → ℕ
joined sum n = xorshifted (bit_xor sum n)
