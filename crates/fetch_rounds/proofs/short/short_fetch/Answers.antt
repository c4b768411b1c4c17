use mathlib.Core.Path.{◌≡◌, refl, sym, ◌∙◌, ap}
use mathlib.Core.List.{List}
use mathlib.Core.Option.{none, some}
use Prim.Native.Nat.{ℕ, ◌^◌, ◌≤◌, ◌<◌}
use lib.ListN.{length}
use borrow.Author.Rules.{rules}
use Rattle.bucket_call_spec.specs.Call.{draw_of}
use Rattle.operation_spec.specs.declared.Want.{Want}
use Rattle.operation_spec.specs.Method.{to_want, to_wanted, wanted_in}
use Rattle.idle_rounds.specs.IdleLaws.{draw-leaf}
use Rattle.want_rounds.specs.declared.Job.{Job}
use Rattle.want_rounds.specs.Wanting.{program_of, Begins}
use Rattle.fetch_rounds.specs.ShortLaws.{rounds-one, structure-one, one-between, one-idle, one-ready, one-damaged, one-taken}
use native.Mathlib.Omega.{arith}
use Rattle.fetch_rounds.proofs.short.short_fetch.Goals as goal

pub idle_rounds-r-requires : goal.idle_rounds-r-requires
idle_rounds-r-requires c =
    let job : Job = c.args.job in
    let draw : ℕ → ℕ = draw_of job.size c.args.tape.now in
    let is_leaf : (d : ℕ) → draw d < 2 ^ job.size = draw-leaf job.size c.args.tape.now in
    let begins : Begins job draw c.args.n c.args.w.now c.args.tree.now = c.requires.begins in
    let trace₀ : List ℕ = c.args.trace.now in
    let one : job.rounds ≡ 1 = rounds-one job draw is_leaf begins trace₀ c.requires.one-fetch in
    let room : 1 ≤ length trace₀ = omega (arith, one, c.requires.long.1) in
    let drawable : 1 ≤ length c.args.tape.now = omega (arith, one, c.requires.long.0) in
    (one-between job draw is_leaf begins trace₀ c.requires.one-fetch, (omega (arith, drawable), omega (arith, room)))

pub returns-in_default : goal.returns-in_default
returns-in_default c =
    let job : Job = c.args.job in
    let draw : ℕ → ℕ = draw_of job.size c.args.tape.now in
    let is_leaf : (d : ℕ) → draw d < 2 ^ job.size = draw-leaf job.size c.args.tape.now in
    let begins : Begins job draw c.args.n c.args.w.now c.args.tree.now = c.requires.begins in
    let trace₀ : List ℕ = c.args.trace.now in
    let one : job.rounds ≡ 1 = rounds-one job draw is_leaf begins trace₀ c.requires.one-fetch in
    let room : 1 ≤ length trace₀ = omega (arith, one, c.requires.long.1) in
    let idled = c.idle_rounds-r.ensures in
    let finished : wanted_in (program_of job) ≡ none = sym (c.short_wanted-next.ensures job.spares job.limit) ∙ ap to_wanted c.in_default.is in
    rw c.came_to.ensures
    (one-idle job draw is_leaf begins trace₀ c.requires.one-fetch room finished idled)

pub bounds-trace-0 : goal.bounds-trace-0
bounds-trace-0 c =
    let job : Job = c.args.job in
    let draw : ℕ → ℕ = draw_of job.size c.args.tape.now in
    let is_leaf : (d : ℕ) → draw d < 2 ^ job.size = draw-leaf job.size c.args.tape.now in
    let begins : Begins job draw c.args.n c.args.w.now c.args.tree.now = c.requires.begins in
    let trace₀ : List ℕ = c.args.trace.now in
    let one : job.rounds ≡ 1 = rounds-one job draw is_leaf begins trace₀ c.requires.one-fetch in
    let room : 1 ≤ length trace₀ = omega (arith, one, c.requires.long.1) in
    omega (arith, room)

pub want_round-r-requires : goal.want_round-r-requires
want_round-r-requires c =
    let job : Job = c.args.job in
    let draw : ℕ → ℕ = draw_of job.size c.args.tape.now in
    let is_leaf : (d : ℕ) → draw d < 2 ^ job.size = draw-leaf job.size c.args.tape.now in
    let begins : Begins job draw c.args.n c.args.w.now c.args.tree.now = c.requires.begins in
    let trace₀ : List ℕ = c.args.trace.now in
    let want : Want = c.in-Some.want in
    let asked : wanted_in (program_of job) ≡ some (to_want want) = sym (c.short_wanted-next.ensures job.spares job.limit) ∙ ap to_wanted c.in-Some.is in
    let stack_or_queue = structure-one job draw is_leaf begins trace₀ c.requires.one-fetch in
    record { ready = one-ready job draw is_leaf begins trace₀ c.requires.one-fetch want asked; asked = search rules }

pub draw_at-requires : goal.draw_at-requires
draw_at-requires c =
    let job : Job = c.args.job in
    let draw : ℕ → ℕ = draw_of job.size c.args.tape.now in
    let is_leaf : (d : ℕ) → draw d < 2 ^ job.size = draw-leaf job.size c.args.tape.now in
    let begins : Begins job draw c.args.n c.args.w.now c.args.tree.now = c.requires.begins in
    let trace₀ : List ℕ = c.args.trace.now in
    let one : job.rounds ≡ 1 = rounds-one job draw is_leaf begins trace₀ c.requires.one-fetch in
    let drawable : 1 ≤ length c.args.tape.now = omega (arith, one, c.requires.long.0) in
    (omega (arith, drawable), begins.small)

pub returns-in_default-node : goal.returns-in_default-node
returns-in_default-node c =
    let job : Job = c.args.job in
    let draw : ℕ → ℕ = draw_of job.size c.args.tape.now in
    let is_leaf : (d : ℕ) → draw d < 2 ^ job.size = draw-leaf job.size c.args.tape.now in
    let begins : Begins job draw c.args.n c.args.w.now c.args.tree.now = c.requires.begins in
    let trace₀ : List ℕ = c.args.trace.now in
    let one : job.rounds ≡ 1 = rounds-one job draw is_leaf begins trace₀ c.requires.one-fetch in
    let room : 1 ≤ length trace₀ = omega (arith, one, c.requires.long.1) in
    let want : Want = c.in-Some.want in
    let asked : wanted_in (program_of job) ≡ some (to_want want) = sym (c.short_wanted-next.ensures job.spares job.limit) ∙ ap to_wanted c.in-Some.is in
    let round = c.want_round-r.ensures job.structure job.entries (λ node r said. search rules) in
    rw c.came_to-in_default-node.ensures
    (one-damaged job draw is_leaf begins trace₀ c.requires.one-fetch want asked room round (rw c.in_default-node.is refl))

pub returns : goal.returns
returns c =
    let job : Job = c.args.job in
    let draw : ℕ → ℕ = draw_of job.size c.args.tape.now in
    let is_leaf : (d : ℕ) → draw d < 2 ^ job.size = draw-leaf job.size c.args.tape.now in
    let begins : Begins job draw c.args.n c.args.w.now c.args.tree.now = c.requires.begins in
    let trace₀ : List ℕ = c.args.trace.now in
    let one : job.rounds ≡ 1 = rounds-one job draw is_leaf begins trace₀ c.requires.one-fetch in
    let room : 1 ≤ length trace₀ = omega (arith, one, c.requires.long.1) in
    let want : Want = c.in-Some.want in
    let asked : wanted_in (program_of job) ≡ some (to_want want) = sym (c.short_wanted-next.ensures job.spares job.limit) ∙ ap to_wanted c.in-Some.is in
    let round = c.want_round-r.ensures job.structure job.entries (λ node r said. search rules) in
    let n = c.in-Some-node.node in
    rw c.came_to-2.ensures
    (one-taken job draw is_leaf begins trace₀ c.requires.one-fetch want asked room round {x = record { key = n.key; value = n.value; tag = c.draw_at.result; left = n.left; right = n.right }} (rw c.in-Some-node.is refl) c.draw_at.ensures.0 (rw c.in-Some-node.is refl))
