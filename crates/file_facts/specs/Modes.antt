-- What is read from the facts of a file. The mode's lowest nine bits are the permissions; the four from bit 12 on are the kind, 8 for a
-- regular file.
use Rattle.std.specs.Prelude.{ℕ, ◌/◌, ◌%◌, Bool, not, ◌&&◌, eqb}
use Rattle.file_facts.specs.declared.Facts.{Facts}

abbrev pub there : Facts → Bool
there f = not (eqb f.mode 0)

abbrev pub regular : Facts → Bool
regular f = eqb (f.mode / 4096 % 16) 8

abbrev pub same_file : Facts → Facts → Bool
same_file a b = there a && (there b && (eqb a.device b.device && eqb a.number b.number))

abbrev pub permission_bits : Facts → ℕ
permission_bits f = f.mode % 512
