-- The code's steps and subtrees as the method's, at leaf numbers for tags.
use Rattle.std.specs.Prelude.{ℕ, None, Some}
use Rattle.std.specs.Prelude as code
use Rattle.std.proofs.Math.Option.{Option, none, some}
use Rattle.map_nodes.specs.declared.Sub as sub
use Rattle.map_nodes.specs.declared.Sub.TheVariants.{Stub, Top}
use Rattle.map_nodes.specs.declared.Step as step
use Rattle.method_spec.specs.Node.{Node}
use Rattle.method_spec.specs.Map.{Step, Sub, stub, top}
use Rattle.leaf_spec.specs.Convert.{to_link, to_node}
use Rattle.operation_spec.specs.Method.{to_bound}
use Rattle.slot_spec.specs.declared.Node as node

abbrev pub to_kid : code.Option node.Node → Option (Node ℕ)
to_kid None = none
to_kid (Some n) = some (to_node n)

abbrev pub to_sub : sub.Sub → Sub ℕ
to_sub (Stub l) = stub (to_link l)
to_sub (Top n l r) = top (to_node n) (to_kid l) (to_kid r)

abbrev pub to_step : step.Step → Step ℕ
to_step p =
    record {
      node = to_node p.node;
      was = p.was;
      way = p.left;
      low = to_bound p.low;
      high = to_bound p.high;
    }
