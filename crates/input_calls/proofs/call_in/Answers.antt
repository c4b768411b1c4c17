-- `input_calls::call_in` meets its contract: a tape of as many numbers as the call has draws, and a trace buffer of 2F.
use Rattle.std.proofs.Common.{◌≡◌, ◌∙◌, ap, ℕ, ◌*◌, ◌≤◌, length, take, drop, arith, take_at}
use Rattle.std.proofs.lemmas.List.{length-replicate, length-take-le}
use Rattle.state_spec.specs.Fetching.{rounds_of}
use Rattle.walk_laws.specs.WalkLaws.{call-in}
use Rattle.input_calls.proofs.call_in.Goals as goal

pub returns : goal.returns
returns c =
    let a = c.args in
    let f = c.rounds_of-leaves.ensures in
    let e = c.draws_of-draws.ensures in
    let leaves : ℕ = 2 * c.rounds_of-leaves.result in
    let trace-room : leaves ≤ length a.trace.now = rw c.requires.2 (rw length-replicate (omega (arith, f.1))) in
    let trace-length : length (take leaves a.trace.now) ≡ leaves = length-take-le leaves a.trace.now trace-room in
    let lent : length c.call.new.trace ≡ 2 * rounds_of a.state.structure a.state.size =
    c.call.auto.trace ∙ trace-length ∙ ap (λ (n : ℕ). 2 * n) f.0 in
    rw (take_at c.call.new.trace (drop leaves a.trace.now) (2 * rounds_of a.state.structure a.state.size) lent)
    (c.call.ensures
    ∙ call-in a.state a.tree.now a.input.now c.read_tape.new.tape _ a.trace.now c.rounds_of-leaves.result c.draws_of-draws.result f.0
    (omega (arith, f.1)) e.0 e.1 c.read_tape.auto.tape c.read_tape.ensures c.requires.2)
