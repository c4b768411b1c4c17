-- Document 02, change 6: "The figure is no part of the trace." All but the peak is as before.
use Rattle.std.specs.Prelude.{ℕ, ◌≡◌, refl, List}
use Rattle.state_spec.specs.declared.State.{State}
use Rattle.state_spec.specs.Ticket.{op_in, structure_of}
use Rattle.call_spec.specs.Store.{Ended, first_met, called}
use Rattle.promise_spec.specs.AsBefore.{EarlierEnded, called_before_peak, without_peak}
use Rattle.check_laws.specs.Decided.{decided-both, causes, asks-some}

-- Outcome, state, tree and trace are as before, for any state, tree, ticket, tape and trace buffer.
pub as_before : (s : State) (tree ticket tape trace : List ℕ) → without_peak (called s tree ticket tape trace) ≡ called_before_peak s tree ticket tape trace
unfolding called called_before_peak
as_before s tree ticket tape trace =
    decided-both (λ (e : Ended) (earlier : EarlierEnded). without_peak e ≡ earlier) (first_met (causes s tree ticket tape trace))
    (op_in (structure_of s.structure) ticket) (asks-some s tree ticket tape trace) (λ n first. refl) (λ op first asked. refl)
