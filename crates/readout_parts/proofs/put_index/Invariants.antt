-- The lines of the items before i are written, and those of the others make it all.
use Rattle.std.proofs.Common.{◌≡◌, ◌++◌, ◌+◌, ◌*◌, length, take, drop, map}
use Rattle.readout_spec.specs.File.{value_width, index_width, index, values_start}
use Rattle.survey_laws.specs.Items.{key_in}
use Rattle.readout_parts.proofs.put_index.Given as goal

abbrev pub invariant-loop-i : goal.invariant-loop-i
invariant-loop-i l =
    let start = values_start (length l.taken) in
    take (index_width * l.i) l.part ++ index (start + value_width * l.i) (map (key_in l.keys) (drop l.i l.taken)) ≡ index start (map (key_in l.keys) l.taken)
