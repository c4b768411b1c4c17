-- The one fetch round of a stack or a queue.
use Rattle.std.specs.Prelude.{◌≡◌, refl, Bool, true, false, List, [], ◌∷◌, ℕ, max, ◌+◌, ◌-◌, ◌^◌, ◌≤◌, ◌<◌, eqb, length, set, None, Some}
use Rattle.std.proofs.Common.{sym, ◌∙◌, ap, arith}
use Rattle.std.proofs.Math.Option.{Option, none, some}
use Rattle.std.proofs.Math.Decide.{ℕ_discrete}
use Rattle.list_spec.specs.Choice.{pick}
use Rattle.method_spec.specs.Node.{Link, Node, retag}
use Rattle.method_spec.specs.Prog as prog
use Rattle.method_spec.specs.Prog.{Want, Prog, start, done, want, after}
use Rattle.method_spec.specs.Outcome.{Outcome}
use Rattle.method_spec.specs.Stack.{pop_prog}
use Rattle.method_spec.specs.Queue.{dequeue_prog}
use Rattle.bucket_call_spec.specs.Fetch as fetch
use Rattle.leaf_spec.specs.Convert.{to_link, to_node}
use Rattle.slot_spec.specs.declared.Node as node
use Rattle.state_spec.specs.Ticket.{structure_of}
use Rattle.operation_spec.specs.declared.Op.{Op}
use Rattle.operation_spec.specs.declared.Op.TheVariants.{Get, Put, Remove, Push, Pop, Add, Take, Enqueue, Dequeue}
use Rattle.operation_spec.specs.declared.Spares.{Spares}
use Rattle.operation_spec.specs.declared.Want as code
use Rattle.operation_spec.specs.Method.{structure_asked, to_from, to_want, program_for, wanted_in}
use Rattle.short_outcomes.specs.OneFetch.{one_fetch}
use Rattle.short_outcomes.specs.OneFetchLaws.{clash, one-round}
use Rattle.short_steps.specs.ShortLaws.{program-push, program-pop, program-enqueue, program-dequeue, push-wants-none, enqueue-wants-none}
use Rattle.one_round.specs.declared.Took.{Took}
use Rattle.one_round.specs.OneRound.{RoundReady, taken_as, Wanted, took, node_taken}
use Rattle.idle_rounds.specs.declared.idle.Idle.{Idle}
use Rattle.idle_rounds.specs.Idle.{Between, IdledAll}
use Rattle.round_close.specs.Fault.{mark_of, fault-marks}
use Rattle.round_close.specs.declared.Fault.{Fault}
use Rattle.std.specs.Prelude as prelude
use Rattle.want_rounds.specs.declared.Job.{Job}
use Rattle.want_rounds.specs.Wanting.{structure_in, program_of, Begins, Walked, FetchedAs}
use Rattle.want_rounds.specs.WantingLaws.{after_none, walked-begins, walked-between, want-ready, walked-shut, walked_on}
use Rattle.want_rounds.specs.WalkLaws.{not_taken}
use Rattle.fetch_rounds.specs.FetchLaws.{rest-fetched, all-walked}

-- ---- what it wants, it wants by the root link
no-want : {A : Type 0} {w : Want ℕ} → ◌≡◌ {A = Option (Want ℕ)} none (some w) → A
no-want e = let z : ◌≡◌ {A = ℕ} 0 1 = cc in absurd (omega arith)

-- A program that wants the root's node or is done.
starts : (b : Bool) (o : Outcome ℕ) (l : Link ℕ) (k : Node ℕ → Prog ℕ (Outcome ℕ)) {w : Want ℕ} → wanted_in (pick b (done o) (want (start l) k)) ≡ some w → w.from ≡ prog.root
starts true o l k e = no-want e
starts false o l k {w} e = let same : start l ≡ w = cc in sym (ap (λ (v : Want ℕ). v.from) same)

pub from-root : (op : Op) (s : Spares) (limit entries : ℕ) (l : Link ℕ) {w : Want ℕ} → one_fetch (structure_asked op) ≡ true
    → wanted_in (program_for op s limit entries l) ≡ some w → w.from ≡ prog.root
unfolding pop_prog dequeue_prog
from-root (Get k) s limit entries l one e = clash one
from-root (Put k v) s limit entries l one e = clash one
from-root (Remove k) s limit entries l one e = clash one
from-root (Add v) s limit entries l one e = clash one
from-root Take s limit entries l one e = clash one
from-root (Push v) s limit entries l one e = no-want (push-wants-none v s.first entries limit l ∙ sym (ap wanted_in (program-push (Push v) s limit entries l refl)) ∙ e)
from-root Pop s limit entries l one e = starts (eqb l.height 0) _ l _ (sym (ap wanted_in (program-pop Pop s limit entries l refl)) ∙ e)
from-root (Enqueue v) s limit entries l one e = no-want (enqueue-wants-none v _ _ entries limit _ l ∙ sym (ap wanted_in (program-enqueue (Enqueue v) s limit entries l refl)) ∙ e)
from-root Dequeue s limit entries l one e = starts (eqb entries 0) _ l _ (sym (ap wanted_in (program-dequeue Dequeue s limit entries l refl)) ∙ e)

-- No mark is no fault.
unmarked : (f : prelude.Option Fault) → mark_of f ≡ 0 → f ≡ None
unmarked None e = refl
unmarked (Some f) e = absurd (fault-marks (Some f) refl e)

module _ (j : Job) (draw : ℕ → ℕ) (is_IsLeaf : (d : ℕ) → draw d < 2 ^ j.size) {n : ℕ} {row tree : List ℕ} (b : Begins j draw n row tree)
    (trace : List ℕ) (one : one_fetch (structure_in j) ≡ true) where
  pub rounds-one : j.rounds ≡ 1
  rounds-one = b.rounds-are ∙ one-round (structure_in j) j.size one

  pub structure-one : one_fetch (structure_of j.structure) ≡ true
  structure-one = rw b.structure-is one

  inv : Walked j draw n row tree trace [] n 0 row tree trace
  inv = walked-begins j draw b trace

  pub one-between : Between j.size n row tree []
  one-between = walked-between j draw is_IsLeaf b trace inv

  -- It wants none.
  pub one-idle : 1 ≤ length trace → wanted_in (program_of j) ≡ none → {row' tree' trace' : List ℕ} {r : Idle} → IdledAll j.size n draw 1 0 0 row tree trace [] row' tree' trace' r
      → FetchedAs j draw n row tree trace [] row' tree' trace' (record { count = 0; waiting = r.waiting; fault = r.fault; leaves = r.shown; peak = r.peak })
  one-idle room finished {row'} {tree'} {trace'} {r} idled =
      let left : j.rounds - 0 ≡ 1 = omega (arith, rounds-one) in
      let shown : 0 + r.shown ≡ r.shown = omega arith in
      let rest : IdledAll j.size n draw (j.rounds - 0) 0 0 row tree trace [] row' tree' trace' r = rw left idled in
      rw shown at (rest-fetched j draw is_IsLeaf b trace inv {count = 0} refl (rw (after_none (program_of j)) finished) (omega (arith, rounds-one)) {peak' = r.peak} (omega arith) rest)

  -- It wants a node.
  module _ (want : code.Want) (asked : wanted_in (program_of j) ≡ some (to_want want)) where
    asked-now : wanted_in (after (program_of j) []) ≡ some (to_want want)
    asked-now = rw (after_none (program_of j)) asked

    pub one-ready : RoundReady j.size want.link.tag n row tree []
    one-ready = want-ready j draw is_IsLeaf b trace inv want asked-now

    module _ {row' tree' : List ℕ} {r : Took} (room : 1 ≤ length trace) (round : Wanted j.structure j.entries j.size n want row tree [] row' tree' r) where
      fewer : 0 < j.rounds
      fewer = omega (arith, rounds-one)

      raised : r.count ≡ max 0 r.count
      raised = omega arith

      abbrev trace' : List ℕ
      trace' = set trace 0 want.link.tag

      -- Nothing was taken out.
      pub one-damaged : took r ≡ false
          → FetchedAs j draw n row tree trace [] row' tree' trace' (record { count = 0; waiting = r.waiting; fault = r.fault; leaves = 1; peak = r.count })
      one-damaged t = walked-shut j draw is_IsLeaf b trace inv want asked-now fewer round raised room false t (not_taken round t) {count = 0} refl

      -- The node is held.
      module _ {x : node.Node} {d : ℕ} (same : x ≡ record { key = (node_taken r).key; value = (node_taken r).value; tag = d; left = (node_taken r).left; right = (node_taken r).right })
          (drawn : d ≡ draw 0) (taken : took r ≡ true) where
        abbrev held : List fetch.Held
        held = record { from = prog.root; node = to_node x } ∷ []

        held-is : held ≡ taken_as want (draw 0) (to_node (node_taken r)) ∷ []
        held-is =
            let from_is : to_from want.from ≡ prog.root = from-root j.op j.spares j.limit j.entries (to_link j.root) one asked in
            let node-is : to_node x ≡ retag (draw 0) (to_node (node_taken r)) = ap to_node same ∙ ap (λ (t : ℕ). retag t (to_node (node_taken r))) drawn in
            rw (from_is, node-is)

        pub one-taken : FetchedAs j draw n row tree trace held row' tree' trace' (record { count = 1; waiting = r.waiting; fault = r.fault; leaves = 1; peak = r.count })
        one-taken = rw held-is (go (ℕ_discrete (mark_of r.fault) 0))
          where
            go : Dec (mark_of r.fault ≡ 0)
                → FetchedAs j draw n row tree trace (taken_as want (draw 0) (to_node (node_taken r)) ∷ []) row' tree' trace' (record { count = 1; waiting = r.waiting; fault = r.fault; leaves = 1; peak = r.count })
            go (no marked) = walked-shut j draw is_IsLeaf b trace inv want asked-now fewer round raised room true taken marked {count = 1} refl
            go (yes e) =
                rw (unmarked r.fault e) (all-walked j draw is_IsLeaf b trace (walked_on j draw is_IsLeaf b trace inv want asked-now fewer round raised room taken e) {count = 1} refl (sym rounds-one) {leaves = 1} (sym rounds-one))
