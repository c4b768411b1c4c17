-- The bytes before the index are written, and those of the rest make it all.
use Rattle.std.proofs.Common.{◌≡◌, ◌++◌, ◌-◌, length, take}
use Rattle.slot_spec.specs.LittleEndian.{bytes}
use Rattle.readout_parts.proofs.put_number.Given as goal

abbrev pub invariant-loop-byte : goal.invariant-loop-byte
invariant-loop-byte l =
    let w = length l.initial.part in take l.byte-index l.part ++ bytes (w - l.byte-index) l.rest ≡ bytes w l.n
