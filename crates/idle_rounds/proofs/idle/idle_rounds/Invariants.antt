-- `idle_rounds::idle::idle_rounds` meets its contract. The invariant: the rounds that are left come to what all of them come to.
use Rattle.bucket_call_spec.specs.Call.{draw_of}
use Rattle.idle_rounds.specs.IdleLaws.{Idling}
use Rattle.idle_rounds.proofs.idle.idle_rounds.Given as goal

abbrev pub invariant-loop-i : goal.invariant-loop-i
invariant-loop-i l =
    Idling l.size l.n (draw_of l.size l.tape) l.count l.first l.at l.initial.w l.initial.tree l.initial.trace l.held l.i l.waiting l.peak l.w l.tree l.trace
