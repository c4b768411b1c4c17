-- Worked: of 1 the shifts leave the digits 0, 6, 13, 17, 23 and 30; a number that is the checksum itself joins to 0.
use Rattle.std.specs.Prelude.{◌≡◌, refl}
use Rattle.checksums.specs.Xorshift.{xorshifted, joined}

pub of_one : xorshifted 1 ≡ 1082269761
of_one = refl

pub joins-itself : joined 7 7 ≡ 0
joins-itself = refl
