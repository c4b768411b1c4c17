-- `puzlorig::openings::puzlorig_open` meets its contract.
use Rattle.std.proofs.Common.{◌≡◌, ◌≤◌, sym, ◌∙◌, ap, ℕ, length, arith}
use Rattle.slot_spec.specs.Tree.{tree_length}
use Rattle.state_spec.specs.Fit.{largest_structure, largest_size}
use Rattle.lent_bytes_spec.specs.StateBytes.{state_bytes}
use Rattle.state_spec.specs.Opening.{empty}
use Rattle.host_spec.specs.Host.{host_opening}
use Rattle.puzlorig.specs.OpeningLaws.{bad-length, entry-refuses, entry-opens, number-none, tree-clears, found-cause, found-none}
use Rattle.puzlorig.proofs.openings.puzlorig_open.Goals as goal

pub returns-then-state-ne-STATE_LENGTH : goal.returns-then-state-ne-STATE_LENGTH
returns-then-state-ne-STATE_LENGTH c = let a = c.args in bad-length a.structure a.size a.tree.now a.state.now c.if-state-ne-STATE_LENGTH.true

pub returns-in-Err : goal.returns-in-Err
returns-in-Err c =
    let a = c.args in
    let n = found-cause c.check.result c.check.ensures c.in-Err.cause c.in-Err.is in
    let w = c.write_empty in
    let told = c.number_of-number.ensures ∙ n.0 in
    ap (λ (k : ℕ). host_opening k w.new.state a.tree.now) (c.from.ensures ∙ told)
    ∙ entry-refuses a.structure a.size a.tree.now a.state.now c.if-state-ne-STATE_LENGTH.false w.new.state n.1 (w.ensures ∙ ap (λ (k : ℕ). state_bytes (empty k 0 0)) told)

pub clear-requires : goal.clear-requires
clear-requires c =
    let a = c.args in
    let k = number-none a.structure a.size a.tree.now (found-none c.check.result c.check.ensures c.in_default.not-Err) in
    tree-clears a.size a.tree.now k.0.1.1 k.1

pub overflow_cast-structure : goal.overflow_cast-structure
overflow_cast-structure c =
    let a = c.args in
    let k = number-none a.structure a.size a.tree.now (found-none c.check.result c.check.ensures c.in_default.not-Err) in
    record { fits = omega (arith, k.0.0) }

pub overflow_cast-size : goal.overflow_cast-size
overflow_cast-size c =
    let a = c.args in
    let k = number-none a.structure a.size a.tree.now (found-none c.check.result c.check.ensures c.in_default.not-Err) in
    record { fits = omega (arith, k.0.1.1) }

pub returns : goal.returns
returns c =
    let a = c.args in
    entry-opens a.structure a.size a.tree.now a.state.now c.if-state-ne-STATE_LENGTH.false c.write_empty-2.new.state c.clear.new.tree
    (found-none c.check.result c.check.ensures c.in_default.not-Err) c.write_empty-2.ensures c.clear.ensures
