-- The structures with one fetch round a call, and the outcome of a step that makes at most one node.
use Rattle.std.specs.Prelude.{ℕ, Bool, true, false, option_to_list}
use Rattle.std.specs.Prelude as list
use Rattle.method_spec.specs.Answer.{Structure, map, stack, heap, queue}
use Rattle.method_spec.specs.Outcome.{Outcome}
use Rattle.leaf_spec.specs.Convert.{to_link, to_node}
use Rattle.operation_spec.specs.Method.{to_step_answer}
use Rattle.short_outcomes.specs.declared.OneMade.{OneMade}

abbrev pub one_fetch : Structure → Bool
one_fetch map = false
one_fetch stack = true
one_fetch heap = false
one_fetch queue = true

abbrev pub to_one_outcome : OneMade → Outcome ℕ
to_one_outcome o =
    record { nodes = list.map to_node (option_to_list o.node); root = to_link o.root; entries = o.entries; answer = to_step_answer o.answer }
