-- `steps_main::playing::gather` meets its contract. The invariant: the memory has room as said, and the held nodes are low. A node that
-- passed its test is as low as the link to it, which is as low as the root link and the held nodes.
use Prim.Native.Nat.{ℕ, ◌+◌, ◌<◌}
use native.Mathlib.Numerals.{add-one}
use mathlib.Core.Path.{◌≡◌, sym, ◌∙◌, ap}
use mathlib.Core.List.{List}
use lib.ListN.{length, get_or, set}
use Rattle.slot_spec.specs.declared.Link.{Link}
use Rattle.slot_spec.specs.declared.Node.{Node}
use Rattle.slot_spec.specs.Slot.{no_node}
use Rattle.slot_spec.specs.Row.{nodes_from}
use Rattle.leaf_spec.specs.Convert.{to_link, to_ahead, to_node}
use Rattle.operation_spec.specs.Method.{to_op, to_want, to_wanted, spares_in}
use Rattle.node_rows.specs.Row.{words, fetches}
use Rattle.node_rows.specs.Heights.{Low}
use Rattle.node_rows.specs.Held.{held_in, nodes_of}
use Rattle.node_rows.specs.HeldLaws.{row_more}
use Rattle.map_nodes.specs.HeightLaws.{lows-append}
use Rattle.state_spec.specs.Ticket.{structure_of}
use Rattle.structures.specs.WantLaws.{wanted-low, tested_low}
use Rattle.structures.specs.Operation.{LowHeld}
use native.Mathlib.Omega.{arith}
use Rattle.steps_main.proofs.playing.gather.Goals as goal

-- One more low node in the row.
low-more : {root : Link} {row : List ℕ} {count : ℕ} (more : List ℕ) (n : Node) → LowHeld root row count → count < fetches
    → nodes_from more ≡ set (nodes_from row) count n → length more ≡ words → Low 100 (to_node n) → LowHeld root more (count + 1)
low-more {row = row} {count = count} more n low room e sized h =
    record {
      sized = sized;
      few = omega arith;
      low = rw (add-one count, row_more row low.sized more count n (omega arith) e) (lows-append 100 (nodes_of (held_in row count)) (to_node n) low.low h);
      root-low = low.root-low;
    }

pub loop-count-preserved : goal.loop-count-preserved
loop-count-preserved c =
    let a = c.args in
    let held = c.loop-count.held in
    let count = c.loop-count.count in
    let low : LowHeld a.memory.root held count = c.loop-count.invariant.1.0 in
    let n : Node = get_or c.loop-count.m.nodes c.in-Some-find.i no_node in
    let room : count < fetches = c.loop-count-test.true in
    let asked = sym c.wanted-next.ensures.0 ∙ ap to_wanted c.in-Some.is in
    let passed = sym c.passes.ensures ∙ c.if-not-passes.false in
    let node-low : Low 100 (to_node n) =
    tested_low (structure_of a.structure) a.memory.entries (to_want c.in-Some.want) (to_node n) 100 passed (omega arith)
    (wanted-low (to_op a.op) (spares_in a.spares) 15 a.memory.entries (to_ahead a.spares.ahead) (to_link a.memory.root) (nodes_of (held_in held count)) 100 (omega arith) low.root-low low.low asked)
    in
    (c.without-m.ensures, (low-more _ n low room c.set_node.ensures.0 c.set_node.ensures.1 node-low, c.wanted-next.ensures.1))
