-- `want_rounds::want_rounds` meets its contract. The invariant: so many rounds have gone on as nodes are held, and the rows have these.
use Rattle.std.proofs.Common.{◌≡◌, length}
use Rattle.bucket_call_spec.specs.Call.{draw_of}
use Rattle.node_rows.specs.Row.{words, fetches}
use Rattle.node_rows.specs.Held.{held_in}
use Rattle.held_keys.specs.Held.{most_held}
use Rattle.want_rounds.specs.Wanting.{held_by, Walked, InRows}
use Rattle.want_rounds.proofs.want_rounds.Given as goal

abbrev pub invariant-loop-i : goal.invariant-loop-i
invariant-loop-i l =
    Walked l.job (draw_of l.job.size l.tape) l.n l.initial.w l.initial.tree l.initial.trace (held_by (held_in l.held l.i) l.froms) l.waiting l.peak l.w l.tree l.trace
    × InRows (held_in l.held l.i) l.froms l.keys
    × (length l.held ≡ words) × (length l.froms ≡ fetches) × (length l.made ≡ words) × (length l.keys ≡ most_held)
