-- The values of the items before i are written, and those of the others make it all.
use Rattle.std.proofs.Common.{◌≡◌, ◌++◌, ◌*◌, take, drop, map}
use Rattle.readout_spec.specs.File.{value_width, values_part}
use Rattle.survey_laws.specs.Items.{value_in}
use Rattle.readout_parts.proofs.put_values.Given as goal

abbrev pub invariant-loop-i : goal.invariant-loop-i
invariant-loop-i l =
    let f = value_in l.tree l.waiting in
    take (value_width * l.i) l.part ++ values_part (map f (drop l.i l.taken)) ≡ values_part (map f l.taken)
