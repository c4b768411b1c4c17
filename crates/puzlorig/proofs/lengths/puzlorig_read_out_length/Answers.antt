-- `puzlorig::lengths::puzlorig_read_out_length` meets its contract.
use mathlib.Core.Path.{◌≡◌, sym, ◌∙◌, ap}
use mathlib.Core.Bool.{true}
use Prim.Native.Nat.{ℕ, ◌+◌, ◌*◌, ◌/◌}
use Rattle.slot_spec.specs.Tree.{slot_length}
use Rattle.state_spec.specs.Fit.{places}
use Rattle.host_spec.specs.Lengths.{known_size}
use Rattle.puzlorig.specs.LengthLaws.{file-unknown, file-known}
use Rattle.puzlorig.proofs.lengths.puzlorig_read_out_length.Goals as goal

-- src/lengths.rt:100:9
pub returns-then-not-in_range : goal.returns-then-not-in_range
returns-then-not-in_range c = file-unknown c.args.size (sym c.in_range.ensures ∙ c.if-not-in_range.true)

-- src/lengths.rt:95:1
pub returns : goal.returns
returns c =
    let known : known_size c.args.size ≡ true = sym c.in_range.ensures ∙ c.if-not-in_range.false in
    ap (λ (n : ℕ). 2 + (8 + 8) * (n / slot_length + places)) c.tree_length-slots.ensures ∙ file-known c.args.size known
