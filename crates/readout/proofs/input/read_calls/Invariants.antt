-- `readout::read_calls` is safe: every state has the opening's size.
use Rattle.std.proofs.Common.{◌≤◌}
use Rattle.state_spec.specs.Fit.{largest_size}
use Rattle.readout.proofs.input.read_calls.Given as goal

abbrev pub invariant-loop : goal.invariant-loop
invariant-loop l = (1 ≤ l.state.size) × (l.state.size ≤ largest_size)
