-- `one_round::ascends` meets its contract. The invariant: the keys ascend exactly if those from the last one seen on do.
use Rattle.std.proofs.Common.{◌≡◌, ◌-◌, drop}
use Rattle.list_spec.specs.Ascending.{ascending}
use Rattle.one_round.specs.OneRound.{keys_waiting}
use Rattle.one_round.proofs.ascends.Given as goal

abbrev pub invariant-loop-i : goal.invariant-loop-i
invariant-loop-i l = ascending (keys_waiting l.n l.w) ≡ ascending (drop (l.i - 1) (keys_waiting l.n l.w))
