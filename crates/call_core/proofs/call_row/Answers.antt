-- `call_core::call_row` meets its contract: one refusal after the other, in document 01's order, then the short run or the long one.
use Rattle.std.proofs.Common.{◌≡◌, ◌≤◌, ◌<◌, ◌+◌, ◌*◌, refl, sym, ◌∙◌, ap, Bool, true, false, Ok, Err, List, ℕ, nat_eq, length, get_or, Fits, w8, w16, w32, eqb-true, arith, rules}
use Rattle.std.proofs.lemmas.Bool.{eqb-false}
use Rattle.slot_spec.specs.LittleEndian.{Bytes}
use Rattle.slot_spec.specs.Tree.{tree_length}
use Rattle.operation_spec.specs.declared.Op.{Op}
use Rattle.operation_spec.specs.Method.{to_op, structure_asked}
use Rattle.state_spec.specs.Ticket.{ticket_length, out_of_keys, stray_fields}
use Rattle.state_spec.specs.Fetching.{rounds_of, draws_of}
use Rattle.state_spec.specs.Widths.{LinkWidths}
use Rattle.state_spec.specs.declared.State.{State}
use Rattle.call_spec.specs.declared.Refusal.{Refusal}
use Rattle.call_spec.specs.declared.Refusal.TheVariants.{TreeLength, TicketLength, UnknownKind, ShortTape, ShortTrace, NoKeyLeft, StrayField}
use Rattle.call_ending.specs.declared.Ran.{Ran}
use Rattle.std.specs.Prelude.{Option, Some, None}
use Rattle.tickets.specs.Asked.{asked}
use Rattle.short_outcomes.specs.OneFetch.{one_fetch}
use Rattle.want_rounds.specs.declared.Job.{Job}
use Rattle.fitness.specs.declared.Head.{Head}
use Rattle.call_core.specs.Run.{StandsFor, Stands, CallsAs, job_for, Runs, RanAs}
use Rattle.call_core.specs.CallLaws.{AheadWidths, Checked, bytes_of, head-sizes, head-rounds, head_few, head-spare, gives-3, gives-4, gives-5, gives-19, gives-17, gives-6, gives-7, all-checked, head-short, head-long, head-runs, core-refuses, core-ran}
use Rattle.call_core.proofs.call_row.Goals as goal

-- What owning a head tells of its links.
abbrev Owned : Head → Type 0
Owned h =
    Fits w8 h.structure
    × (Fits w8 h.size
    × (Fits w16 h.entries
    × ((Fits w32 h.root.key × (Fits w16 h.root.tag × (Fits w8 h.root.height × Unit {0})))
    × ((Fits w32 h.ahead.key × (Fits w16 h.ahead.tag × Unit {0})) × (Fits w16 h.waiting × Unit {0})))))

root-within : (h : Head) → Owned h → LinkWidths h.root
root-within h o = let r = o.1.1.1.0 in (r.1.1.0.fits, (r.0.fits, r.1.0.fits))

ahead-within : (h : Head) → Owned h → AheadWidths h.ahead
ahead-within h o = let a = o.1.1.1.1.0 in (a.0.fits, a.1.0.fits)

-- What is lent, and what each check finds.
module _ (tree ticket tape trace : List ℕ) {h : Head} {row : List ℕ} {F draws : ℕ} (r : Stands h row × ((F ≡ rounds_of h.structure h.size) × (draws ≡ draws_of h.structure h.size)))
    {size long : ℕ} (small : size ≡ h.size) (counted : long ≡ tree_length size) where
  abbrev Refuses : Refusal → Type 0
  Refuses n = CallsAs h row tree ticket tape trace row tree trace (Err n)

  whole-tree : long ≡ tree_length h.size
  whole-tree = counted ∙ ap tree_length small

  other-tree : (length tree ≡ long → ⊥) → Refuses TreeLength
  other-tree d = core-refuses r.0 TreeLength (λ s st. gives-3 st tree ticket tape trace (λ e. d (e ∙ sym whole-tree)))

  module _ (sized : length tree ≡ long) {whole : Bool} (length-told : whole ≡ nat_eq (length ticket) ticket_length) where
    tree_is : length tree ≡ tree_length h.size
    tree_is = sized ∙ whole-tree

    other-ticket : whole ≡ false → Refuses TicketLength
    other-ticket e = core-refuses r.0 TicketLength (λ s st. gives-4 st tree ticket tape trace tree_is (eqb-false (length ticket) 13 (sym length-told ∙ e)))

    module _ (good : whole ≡ true) {read : Option Op} (asked-is : read ≡ asked h.structure ticket) where
      ticket_is : length ticket ≡ ticket_length
      ticket_is = eqb-true (length ticket) 13 (sym length-told ∙ good)

      unknown : read ≡ None → Refuses UnknownKind
      unknown e = core-refuses r.0 UnknownKind (λ s st. gives-5 st tree ticket tape trace tree_is ticket_is (sym asked-is ∙ e))

      module _ {op : Op} (call : read ≡ Some op) {stray : Bool} (stray-told : stray ≡ stray_fields ticket) where
        asks : asked h.structure ticket ≡ Some op
        asks = sym asked-is ∙ call

        strays : stray ≡ true → Refuses StrayField
        strays e = core-refuses r.0 StrayField (λ s st. gives-19 st tree ticket tape trace tree_is ticket_is op asks (sym stray-told ∙ e))

        module _ (none-stray : stray ≡ false) {keyless : Bool} (keys-told : keyless ≡ out_of_keys (to_op op) h.ahead.key) where
          clean : stray_fields ticket ≡ false
          clean = sym stray-told ∙ none-stray

          no-key : keyless ≡ true → Refuses NoKeyLeft
          no-key e = core-refuses r.0 NoKeyLeft (λ s st. gives-17 st tree ticket tape trace tree_is ticket_is op asks clean (sym keys-told ∙ e))

          module _ (some-key : keyless ≡ false) where
            has_key : out_of_keys (to_op op) h.ahead.key ≡ false
            has_key = sym keys-told ∙ some-key

            short-tape : length tape < draws → Refuses ShortTape
            short-tape few = core-refuses r.0 ShortTape (λ s st. gives-6 st tree ticket tape trace tree_is ticket_is op asks clean has_key _ refl (omega (arith, few, r.1.1)))

            module _ (draws-there : draws ≤ length tape) where
              short-trace : length trace < 2 * F → Refuses ShortTrace
              short-trace few =
                  core-refuses r.0 ShortTrace (λ s st. gives-7 st tree ticket tape trace tree_is ticket_is op asks clean has_key F r.1.0 (omega (arith, draws-there, r.1.0, r.1.1)) few)

              job-asks : (h.size ≤ 8) × ((F ≤ 33) × (F + 1 < length tape))
              job-asks =
                  let st = r.0.for in
                  ((head-sizes st).1, (head_few st r.1.0, omega (arith, draws-there, r.1.0, r.1.1, head-rounds st r.1.0, head-spare st)))

              module _ (trace-long : 2 * F ≤ length trace) where
                enough : (Bytes tree) → Bytes ticket → LinkWidths h.root → AheadWidths h.ahead → (s : State) → StandsFor s h row
                    → Checked s op F tree ticket tape trace
                enough tree-bytes ticket-bytes root-widths ahead-widths s st =
                    all-checked st tree ticket tape trace tree_is ticket_is op asks clean has_key F r.1.0 (omega (arith, draws-there, r.1.0, r.1.1)) trace-long tree-bytes ticket-bytes
                    root-widths ahead-widths

-- What the job asks, once all checks were passed.
module _ (tree ticket tape trace : List ℕ) {h : Head} {row : List ℕ} {F draws : ℕ} (r : Stands h row × ((F ≡ rounds_of h.structure h.size) × (draws ≡ draws_of h.structure h.size)))
    {op : Op} (ok : (s : State) → StandsFor s h row → Checked s op F tree ticket tape trace) where
  module _ {job : Job} (job-is : job ≡ job_for h.structure h.size h.entries h.root h.ahead op F tape) {n : ℕ} (many : n ≡ h.waiting) where
    runs : Runs job n row tree tape trace
    runs = rw (job-is, many) (head-runs r.0.for (ok _ r.0.for))

    runs-short : F ≡ 1 → Runs job n row tree tape trace × (one_fetch (structure_asked job.op) ≡ true)
    runs-short e = (runs, rw job-is (head-short r.0.for (ok _ r.0.for) e))

    runs-long : (F ≡ 1 → ⊥) → Runs job n row tree tape trace × (one_fetch (structure_asked job.op) ≡ false)
    runs-long d = (runs, rw job-is (head-long r.0.for (ok _ r.0.for) d))

    ran : {x : Ran} {row' tree' trace' : List ℕ} → RanAs job n row tree tape trace row' tree' trace' x
        → CallsAs h row tree ticket tape trace row' tree' trace' (Ok x)
    ran {x} {row'} e = core-ran r.0 ok x row' (rw (job-is, many) at e)

pub tree_length-requires : goal.tree_length-requires
tree_length-requires c = omega (arith, head-sizes c.requires.0.for, c.from-size.ensures)

pub returns-then-tree-tree_length : goal.returns-then-tree-tree_length
returns-then-tree-tree_length c = other-tree c.args.tree.now c.args.ticket.now c.args.tape.now c.args.trace.now c.requires c.from-size.ensures c.tree_length.ensures c.if-tree-tree_length.true

pub returns-then-not-is_whole : goal.returns-then-not-is_whole
returns-then-not-is_whole c =
    other-ticket c.args.tree.now c.args.ticket.now c.args.tape.now c.args.trace.now c.requires c.from-size.ensures c.tree_length.ensures c.if-tree-tree_length.false c.is_whole.ensures c.if-not-is_whole.true

pub returns-in_default : goal.returns-in_default
returns-in_default c =
    unknown c.args.tree.now c.args.ticket.now c.args.tape.now c.args.trace.now c.requires c.from-size.ensures c.tree_length.ensures c.if-tree-tree_length.false c.is_whole.ensures c.if-not-is_whole.false
    c.read_ticket.ensures c.in_default.is

pub returns-then-has_stray : goal.returns-then-has_stray
returns-then-has_stray c =
    strays c.args.tree.now c.args.ticket.now c.args.tape.now c.args.trace.now c.requires c.from-size.ensures c.tree_length.ensures c.if-tree-tree_length.false c.is_whole.ensures c.if-not-is_whole.false
    c.read_ticket.ensures c.in-Some.is c.has_stray.ensures c.if-has_stray.true

pub returns-then-out_of_keys : goal.returns-then-out_of_keys
returns-then-out_of_keys c =
    no-key c.args.tree.now c.args.ticket.now c.args.tape.now c.args.trace.now c.requires c.from-size.ensures c.tree_length.ensures c.if-tree-tree_length.false c.is_whole.ensures c.if-not-is_whole.false
    c.read_ticket.ensures c.in-Some.is c.has_stray.ensures c.if-has_stray.false c.out_of_keys.ensures c.if-out_of_keys.true

pub returns-then-tape-draws : goal.returns-then-tape-draws
returns-then-tape-draws c =
    short-tape c.args.tree.now c.args.ticket.now c.args.tape.now c.args.trace.now c.requires c.from-size.ensures c.tree_length.ensures c.if-tree-tree_length.false c.is_whole.ensures c.if-not-is_whole.false
    c.read_ticket.ensures c.in-Some.is c.has_stray.ensures c.if-has_stray.false c.out_of_keys.ensures c.if-out_of_keys.false c.if-tape-draws.true

pub returns-then-trace-rounds : goal.returns-then-trace-rounds
returns-then-trace-rounds c =
    short-trace c.args.tree.now c.args.ticket.now c.args.tape.now c.args.trace.now c.requires c.from-size.ensures c.tree_length.ensures c.if-tree-tree_length.false c.is_whole.ensures c.if-not-is_whole.false
    c.read_ticket.ensures c.in-Some.is c.has_stray.ensures c.if-has_stray.false c.out_of_keys.ensures c.if-out_of_keys.false c.if-tape-draws.false
    c.if-trace-rounds.true

pub job_for-job-requires : goal.job_for-job-requires
job_for-job-requires c =
    job-asks c.args.tree.now c.args.ticket.now c.args.tape.now c.args.trace.now c.requires c.from-size.ensures c.tree_length.ensures c.if-tree-tree_length.false
    c.is_whole.ensures c.if-not-is_whole.false c.read_ticket.ensures c.in-Some.is c.has_stray.ensures c.if-has_stray.false c.out_of_keys.ensures
    c.if-out_of_keys.false c.if-tape-draws.false

pub run_short-requires : goal.run_short-requires
run_short-requires c =
    let a = c.args in
    let ok : (s : State) → StandsFor s a.head a.w.now → Checked s c.in-Some.op a.rounds a.tree.now a.ticket.now a.tape.now a.trace.now =
    (enough a.tree.now a.ticket.now a.tape.now a.trace.now c.requires c.from-size.ensures c.tree_length.ensures c.if-tree-tree_length.false c.is_whole.ensures c.if-not-is_whole.false
    c.read_ticket.ensures c.in-Some.is c.has_stray.ensures c.if-has_stray.false c.out_of_keys.ensures c.if-out_of_keys.false c.if-tape-draws.false
    c.if-trace-rounds.false (bytes_of a.tree.now (λ i. let f : Fits w8 (get_or a.tree.now i 0) = search rules in f.fits)) (bytes_of a.ticket.now (λ i. (c.type_inv.ticket i).fits))
    (root-within a.head (search rules)) (ahead-within a.head (search rules))) in
    runs-short a.tree.now a.ticket.now a.tape.now a.trace.now c.requires ok c.job_for-job.ensures c.from-n.ensures c.if-rounds-eq1.true

pub returns-then-rounds-eq1 : goal.returns-then-rounds-eq1
returns-then-rounds-eq1 c =
    let a = c.args in
    let ok : (s : State) → StandsFor s a.head a.w.now → Checked s c.in-Some.op a.rounds a.tree.now a.ticket.now a.tape.now a.trace.now =
    (enough a.tree.now a.ticket.now a.tape.now a.trace.now c.requires c.from-size.ensures c.tree_length.ensures c.if-tree-tree_length.false c.is_whole.ensures c.if-not-is_whole.false
    c.read_ticket.ensures c.in-Some.is c.has_stray.ensures c.if-has_stray.false c.out_of_keys.ensures c.if-out_of_keys.false c.if-tape-draws.false
    c.if-trace-rounds.false (bytes_of a.tree.now (λ i. let f : Fits w8 (get_or a.tree.now i 0) = search rules in f.fits)) (bytes_of a.ticket.now (λ i. (c.type_inv.ticket i).fits))
    (root-within a.head (search rules)) (ahead-within a.head (search rules))) in
    ran a.tree.now a.ticket.now a.tape.now a.trace.now c.requires ok c.job_for-job.ensures c.from-n.ensures c.run_short.ensures

pub run-requires : goal.run-requires
run-requires c =
    let a = c.args in
    let ok : (s : State) → StandsFor s a.head a.w.now → Checked s c.in-Some.op a.rounds a.tree.now a.ticket.now a.tape.now a.trace.now =
    (enough a.tree.now a.ticket.now a.tape.now a.trace.now c.requires c.from-size.ensures c.tree_length.ensures c.if-tree-tree_length.false c.is_whole.ensures c.if-not-is_whole.false
    c.read_ticket.ensures c.in-Some.is c.has_stray.ensures c.if-has_stray.false c.out_of_keys.ensures c.if-out_of_keys.false c.if-tape-draws.false
    c.if-trace-rounds.false (bytes_of a.tree.now (λ i. let f : Fits w8 (get_or a.tree.now i 0) = search rules in f.fits)) (bytes_of a.ticket.now (λ i. (c.type_inv.ticket i).fits))
    (root-within a.head (search rules)) (ahead-within a.head (search rules))) in
    runs-long a.tree.now a.ticket.now a.tape.now a.trace.now c.requires ok c.job_for-job.ensures c.from-n.ensures c.if-rounds-eq1.false

pub returns-else-rounds-eq1 : goal.returns-else-rounds-eq1
returns-else-rounds-eq1 c =
    let a = c.args in
    let ok : (s : State) → StandsFor s a.head a.w.now → Checked s c.in-Some.op a.rounds a.tree.now a.ticket.now a.tape.now a.trace.now =
    (enough a.tree.now a.ticket.now a.tape.now a.trace.now c.requires c.from-size.ensures c.tree_length.ensures c.if-tree-tree_length.false c.is_whole.ensures c.if-not-is_whole.false
    c.read_ticket.ensures c.in-Some.is c.has_stray.ensures c.if-has_stray.false c.out_of_keys.ensures c.if-out_of_keys.false c.if-tape-draws.false
    c.if-trace-rounds.false (bytes_of a.tree.now (λ i. let f : Fits w8 (get_or a.tree.now i 0) = search rules in f.fits)) (bytes_of a.ticket.now (λ i. (c.type_inv.ticket i).fits))
    (root-within a.head (search rules)) (ahead-within a.head (search rules))) in
    ran a.tree.now a.ticket.now a.tape.now a.trace.now c.requires ok c.job_for-job.ensures c.from-n.ensures c.run.ensures
