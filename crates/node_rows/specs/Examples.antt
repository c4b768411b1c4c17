-- Where a link stands, as a word: the root link, the right link of key 0, which is no 0, and the left link of key 7.
use Rattle.std.specs.Prelude.{◌≡◌, refl, true, false}
use Rattle.method_spec.specs.Prog.{root, side}
use Rattle.node_rows.specs.Row.{from_in}

worked-froms : (from_in 0 ≡ root) × (from_in 8589934592 ≡ side 0 false) × (from_in 8589934607 ≡ side 7 true)
unfolding from_in
worked-froms = (refl, refl, refl)
