-- `fetch_rounds::fetch_rounds` meets its contract: the rounds that want a node closed the store, or the rounds that are left follow.
use Rattle.std.proofs.Common.{◌≡◌, sym, ◌∙◌, ℕ, ◌^◌, ◌≤◌, ◌<◌, arith, rules}
use Rattle.bucket_call_spec.specs.Call.{draw_of}
use Rattle.node_rows.specs.Held.{held_in}
use Rattle.round_close.specs.Fault.{mark_of, fault-marks, no-fault}
use Rattle.idle_rounds.specs.IdleLaws.{draw-leaf}
use Rattle.want_rounds.specs.declared.Job.{Job}
use Rattle.want_rounds.specs.declared.Fetched.{Fetched}
use Rattle.want_rounds.specs.Wanting.{held_by, Walked, InRows}
use Rattle.want_rounds.specs.WalkLaws.{rows_few}
use Rattle.fetch_rounds.specs.FetchLaws.{rows-between, rows-rest}
use Rattle.fetch_rounds.proofs.fetch_rounds.Goals as goal

pub returns-then-is_some : goal.returns-then-is_some
returns-then-is_some c =
    c.want_rounds-f.ensures.stops (fault-marks c.want_rounds-f.result.fault (sym c.is_some.ensures ∙ c.if-is_some.true))

pub overflow_sub-left : goal.overflow_sub-left
overflow_sub-left c =
    let f : Fetched = c.want_rounds-f.result in
    let new = c.want_rounds-f.new in
    let job : Job = c.args.job in
    let draw : ℕ → ℕ = draw_of job.size c.args.tape.now in
    let is_leaf : (d : ℕ) → draw d < 2 ^ job.size = draw-leaf job.size c.args.tape.now in
    let no-mark : mark_of f.fault ≡ 0 = no-fault f.fault (sym c.is_some.ensures ∙ c.if-is_some.false) in
    let inv : Walked job draw c.args.n c.args.w.now c.args.tree.now c.args.trace.now (held_by (held_in new.held f.count) new.froms) f.waiting f.peak new.w new.tree new.trace × InRows (held_in new.held f.count) new.froms new.keys =
    c.want_rounds-f.ensures.goes no-mark in
    omega (arith, inv.0.upto, inv.1.counted)

pub idle_rounds-r-requires : goal.idle_rounds-r-requires
idle_rounds-r-requires c =
    let f : Fetched = c.want_rounds-f.result in
    let new = c.want_rounds-f.new in
    let job : Job = c.args.job in
    let draw : ℕ → ℕ = draw_of job.size c.args.tape.now in
    let is_leaf : (d : ℕ) → draw d < 2 ^ job.size = draw-leaf job.size c.args.tape.now in
    let no-mark : mark_of f.fault ≡ 0 = no-fault f.fault (sym c.is_some.ensures ∙ c.if-is_some.false) in
    let inv : Walked job draw c.args.n c.args.w.now c.args.tree.now c.args.trace.now (held_by (held_in new.held f.count) new.froms) f.waiting f.peak new.w new.tree new.trace × InRows (held_in new.held f.count) new.froms new.keys =
    c.want_rounds-f.ensures.goes no-mark in
    let upto : f.count ≤ job.rounds = omega (arith, inv.0.upto, inv.1.counted) in (
      rows-between job draw is_leaf c.requires.begins c.args.trace.now inv.0 inv.1,
      (omega (arith, upto, c.requires.long.0), omega (arith, upto, inv.0.trace-sized, c.requires.long.1)),
    )

pub returns : goal.returns
returns c =
    let f : Fetched = c.want_rounds-f.result in
    let new = c.want_rounds-f.new in
    let job : Job = c.args.job in
    let draw : ℕ → ℕ = draw_of job.size c.args.tape.now in
    let is_leaf : (d : ℕ) → draw d < 2 ^ job.size = draw-leaf job.size c.args.tape.now in
    let no-mark : mark_of f.fault ≡ 0 = no-fault f.fault (sym c.is_some.ensures ∙ c.if-is_some.false) in
    let inv : Walked job draw c.args.n c.args.w.now c.args.tree.now c.args.trace.now (held_by (held_in new.held f.count) new.froms) f.waiting f.peak new.w new.tree new.trace × InRows (held_in new.held f.count) new.froms new.keys =
    c.want_rounds-f.ensures.goes no-mark in
    rows-rest job draw is_leaf c.requires.begins c.args.trace.now inv.0 inv.1 (c.want_rounds-f.ensures.finished no-mark) (omega (arith, c.requires.long.1)) c.max.ensures c.idle_rounds-r.ensures
