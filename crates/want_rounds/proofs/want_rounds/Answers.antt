-- `want_rounds::want_rounds` meets its contract: round by round.
use Rattle.std.proofs.Common.{◌≡◌, refl, sym, ◌∙◌, ap, List, ℕ, ◌+◌, ◌^◌, ◌≤◌, ◌<◌, length, set, true, arith, rules}
use Rattle.std.proofs.Math.Option.{some}
use Rattle.slot_spec.specs.declared.Node as node
use Rattle.method_spec.specs.Prog.{after}
use Rattle.bucket_call_spec.specs.Call.{draw_of}
use Rattle.operation_spec.specs.declared.Want.{Want}
use Rattle.operation_spec.specs.Method.{to_want, to_wanted, wanted_in}
use Rattle.node_rows.specs.Held.{Held, held_in, nodes_of}
use Rattle.node_rows.specs.HeldLaws.{row-places}
use Rattle.short_outcomes.specs.OneFetch.{one_fetch}
use Rattle.structures.specs.Operation.{LowHeld}
use Rattle.round_close.specs.Fault.{fault-marks, no-fault}
use Rattle.idle_rounds.specs.IdleLaws.{draw-leaf}
use Rattle.want_rounds.specs.declared.Job.{Job}
use Rattle.want_rounds.specs.Wanting.{program_of, Begins}
use Rattle.want_rounds.specs.WantingLaws.{walked-begins, walked_all, at_most, root-low}
use Rattle.want_rounds.specs.WalkLaws.{none-held, rows_none, rows_few, rows-ready, walks-on, walks-damaged, walks-overflow, walked_next}
use Rattle.want_rounds.proofs.want_rounds.Goals as goal

pub loop-i-init : goal.loop-i-init
loop-i-init c =
    let a = c.args in (
      rw (none-held a.held.now a.froms.now) (walked-begins a.job (draw_of a.job.size a.tape.now) c.requires.begins a.trace.now),
      rows_none a.held.now a.froms.now a.keys.now,
      search rules,
      search rules,
      search rules,
      search rules,
    )

pub wanted-next-requires : goal.wanted-next-requires
wanted-next-requires c =
    let job : Job = c.args.job in
    let draw : ℕ → ℕ = draw_of job.size c.args.tape.now in
    let is_leaf : (d : ℕ) → draw d < 2 ^ job.size = draw-leaf job.size c.args.tape.now in
    let begun : Begins job draw c.args.n c.args.w.now c.args.tree.now = c.requires.begins in
    let l = c.loop-i in
    let few : l.i ≤ 33 = rows_few job draw is_leaf begun c.args.trace.now l.invariant.0 l.invariant.1 in
    let low : LowHeld job.root l.held l.i = record { sized = l.invariant.2; few = few; low = rw l.invariant.1.nodes-are at l.invariant.0.low; root-low = root-low job draw is_leaf begun } in
    (low, (l.invariant.4, c.requires.more-fetches))

pub want_round-r-requires : goal.want_round-r-requires
want_round-r-requires c =
    let job : Job = c.args.job in
    let draw : ℕ → ℕ = draw_of job.size c.args.tape.now in
    let is_leaf : (d : ℕ) → draw d < 2 ^ job.size = draw-leaf job.size c.args.tape.now in
    let begun : Begins job draw c.args.n c.args.w.now c.args.tree.now = c.requires.begins in
    let l = c.loop-i in
    let want : Want = c.in-Some.want in
    let asked : wanted_in (after (program_of job) (nodes_of (held_in l.held l.i))) ≡ some (to_want want) = sym c.wanted-next.ensures.0 ∙ ap to_wanted c.in-Some.is in
    record { ready = rows-ready job draw is_leaf begun c.args.trace.now l.invariant.0 l.invariant.1 want asked; asked = search rules }

pub returns-in_default : goal.returns-in_default
returns-in_default c =
    let job : Job = c.args.job in
    let draw : ℕ → ℕ = draw_of job.size c.args.tape.now in
    let is_leaf : (d : ℕ) → draw d < 2 ^ job.size = draw-leaf job.size c.args.tape.now in
    let begun : Begins job draw c.args.n c.args.w.now c.args.tree.now = c.requires.begins in
    let l = c.loop-i in
    rw c.came_to.ensures
    (walks-on refl l.invariant.0 l.invariant.1 (rw l.invariant.1.nodes-are (sym c.wanted-next.ensures.0 ∙ ap to_wanted c.in_default.is)))

pub returns-in_default-node : goal.returns-in_default-node
returns-in_default-node c =
    let job : Job = c.args.job in
    let draw : ℕ → ℕ = draw_of job.size c.args.tape.now in
    let is_leaf : (d : ℕ) → draw d < 2 ^ job.size = draw-leaf job.size c.args.tape.now in
    let begun : Begins job draw c.args.n c.args.w.now c.args.tree.now = c.requires.begins in
    let l = c.loop-i in
    let want : Want = c.in-Some.want in
    let asked : wanted_in (after (program_of job) (nodes_of (held_in l.held l.i))) ≡ some (to_want want) = sym c.wanted-next.ensures.0 ∙ ap to_wanted c.in-Some.is in
    let more : l.i < job.rounds = c.loop-i-test.true in
    let room : l.i < length c.args.trace.now = omega (arith, more, c.requires.long.1) in
    let raised = c.max-peak.ensures in
    let round = c.want_round-r.ensures job.structure job.entries (λ node r said. search rules) in
    rw c.came_to-in_default-node.ensures
    (walks-damaged job draw is_leaf begun c.args.trace.now l.invariant.0 l.invariant.1 want asked more round raised room refl (rw c.in_default-node.is refl))

pub returns-then-is_some : goal.returns-then-is_some
returns-then-is_some c =
    let job : Job = c.args.job in
    let draw : ℕ → ℕ = draw_of job.size c.args.tape.now in
    let is_leaf : (d : ℕ) → draw d < 2 ^ job.size = draw-leaf job.size c.args.tape.now in
    let begun : Begins job draw c.args.n c.args.w.now c.args.tree.now = c.requires.begins in
    let l = c.loop-i in
    let want : Want = c.in-Some.want in
    let asked : wanted_in (after (program_of job) (nodes_of (held_in l.held l.i))) ≡ some (to_want want) = sym c.wanted-next.ensures.0 ∙ ap to_wanted c.in-Some.is in
    let more : l.i < job.rounds = c.loop-i-test.true in
    let room : l.i < length c.args.trace.now = omega (arith, more, c.requires.long.1) in
    let raised = c.max-peak.ensures in
    let round = c.want_round-r.ensures job.structure job.entries (λ node r said. search rules) in
    let word = c.word_of in
    let held-as = ap (λ (ns : List node.Node). record { nodes = ns; count = l.i + 1 }) c.set_node.ensures.0 in
    let n = c.in-Some-node.node in
    rw c.came_to-then-is_some.ensures
    (walks-overflow job draw is_leaf begun c.args.trace.now l.invariant.0 l.invariant.1 want asked more round raised room {x = record { key = n.key; value = n.value; tag = c.draw_at.result; left = n.left; right = n.right }} word.result held-as
    (rw c.in-Some-node.is refl) c.draw_at.ensures.0 word.ensures (row-places l.held l.invariant.2) l.invariant.3 l.invariant.5 (rw c.in-Some-node.is refl) refl
    (fault-marks c.want_round-r.result.fault (sym c.is_some.ensures ∙ c.if-is_some.true)))

pub loop-i-preserved : goal.loop-i-preserved
loop-i-preserved c =
    let job : Job = c.args.job in
    let draw : ℕ → ℕ = draw_of job.size c.args.tape.now in
    let is_leaf : (d : ℕ) → draw d < 2 ^ job.size = draw-leaf job.size c.args.tape.now in
    let begun : Begins job draw c.args.n c.args.w.now c.args.tree.now = c.requires.begins in
    let l = c.loop-i in
    let want : Want = c.in-Some.want in
    let asked : wanted_in (after (program_of job) (nodes_of (held_in l.held l.i))) ≡ some (to_want want) = sym c.wanted-next.ensures.0 ∙ ap to_wanted c.in-Some.is in
    let more : l.i < job.rounds = c.loop-i-test.true in
    let room : l.i < length c.args.trace.now = omega (arith, more, c.requires.long.1) in
    let raised = c.max-peak.ensures in
    let round = c.want_round-r.ensures job.structure job.entries (λ node r said. search rules) in
    let word = c.word_of in
    let held-as = ap (λ (ns : List node.Node). record { nodes = ns; count = l.i + 1 }) c.set_node.ensures.0 in
    let next = walked_next job draw is_leaf begun c.args.trace.now l.invariant.0 l.invariant.1 want asked more round raised room word.result held-as
    (rw c.in-Some-node.is refl) c.draw_at.ensures.0 word.ensures (row-places l.held l.invariant.2) l.invariant.3 l.invariant.5 (rw c.in-Some-node.is refl)
    (no-fault c.want_round-r.result.fault (sym c.is_some.ensures ∙ c.if-is_some.false)) in
    (next.0, next.1, search rules, search rules, search rules, search rules)

pub returns : goal.returns
returns c =
    let job : Job = c.args.job in
    let draw : ℕ → ℕ = draw_of job.size c.args.tape.now in
    let is_leaf : (d : ℕ) → draw d < 2 ^ job.size = draw-leaf job.size c.args.tape.now in
    let begun : Begins job draw c.args.n c.args.w.now c.args.tree.now = c.requires.begins in
    let l = c.loop-i in
    let all : l.i ≡ job.rounds = omega (arith, c.loop-i-test.false) in
    let inv = rw all at l.invariant in
    rw c.came_to-2.ensures
    (walks-on refl inv.0 inv.1 (walked_all job draw is_leaf begun c.args.trace.now inv.0 (omega (arith, inv.1.counted))))

pub bounds-froms-i : goal.bounds-froms-i
bounds-froms-i c =
    let job : Job = c.args.job in
    let draw : ℕ → ℕ = draw_of job.size c.args.tape.now in
    let is_leaf : (d : ℕ) → draw d < 2 ^ job.size = draw-leaf job.size c.args.tape.now in
    let begun : Begins job draw c.args.n c.args.w.now c.args.tree.now = c.requires.begins in
    let l = c.loop-i in
    omega (arith, at_most job draw is_leaf begun, c.loop-i-test.true)

pub bounds-keys-i : goal.bounds-keys-i
bounds-keys-i c =
    let job : Job = c.args.job in
    let draw : ℕ → ℕ = draw_of job.size c.args.tape.now in
    let is_leaf : (d : ℕ) → draw d < 2 ^ job.size = draw-leaf job.size c.args.tape.now in
    let begun : Begins job draw c.args.n c.args.w.now c.args.tree.now = c.requires.begins in
    let l = c.loop-i in
    omega (arith, at_most job draw is_leaf begun, c.loop-i-test.true)
