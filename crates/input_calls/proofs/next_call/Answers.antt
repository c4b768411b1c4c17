-- `input_calls::next_call` meets its contract: a call keeps the store's size, and its leaves are among the numbers of the buffer.
use Rattle.std.proofs.Common.{◌∙◌, ap, ◌*◌, arith}
use lib.ListN.{length-take}
use Rattle.state_spec.specs.Fetching.{rounds_of}
use Rattle.call_spec.specs.Store.{Ended}
use Rattle.walk_laws.specs.WalkLaws.{call-keeps, leaves-lent}
use Rattle.input_calls.proofs.next_call.Goals as goal

pub returns : goal.returns
returns c =
    let s = c.args.state in
    let kept = call-keeps s _ _ _ _ in
    let first = 2 * rounds_of s.structure s.size in
    let trace = c.call_in.new.trace in (
      ap (λ (e : Ended). e.state.size) c.call_in.ensures ∙ kept.size,
      omega (arith, leaves-lent _ first trace c.call_in.ensures kept.leaves, length-take first trace),
    )
