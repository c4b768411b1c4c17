-- One call of a list: from a store that simulates a memory of the method, it is refused for what it brings and changes nothing, or it counts, and
-- is the call over buckets with the ticket's op and the tape's draws.
use Rattle.std.specs.Prelude.{ℕ, ◌≤◌, ◌≡◌, refl, true, false}
use Rattle.std.proofs.Common.{sym, ◌∙◌, ap, arith}
use Rattle.std.proofs.Math.Option.{some}
use Rattle.slot_spec.specs.LittleEndian.{Bytes}
use Rattle.method_spec.specs.Answer.{Structure, map, stack, heap, queue, Op}
use Rattle.method_spec.specs.Plain.{Contents}
use Rattle.method_spec.specs.Rounds.{rounds}
use Rattle.method_spec.specs.Call.{capacity, Memory}
use Rattle.method_laws.specs.Represented.{Held}
use Rattle.bucket_call_spec.specs.Fetch.{CallLeft}
use Rattle.bucket_call_spec.specs.Call.{Store, draw_of, bucket_call}
use Rattle.bucket_call_spec.specs.Peak.{call_peak}
use Rattle.leaf_spec.specs.Entries.{OpFits, KeyLeft}
use Rattle.bucket_call_spec.specs.Simulates.{Simulates}
use Rattle.simulation_laws.specs.Relation as relation
use Rattle.state_spec.specs.Ticket.{op_in, structure_of}
use Rattle.call_spec.specs.Store.{ending}
use Rattle.demand_spec.specs.History.{Brought, call_on, structure_number}
use Rattle.demand_laws.specs.Checks.{IllBrought, Verdict, closed, unfit, other-tree, ill-brought, counts, verdict}
use Rattle.demand_laws.specs.OpenStates.{state_of, kept_of, store-back}
use Rattle.demand_laws.specs.FitKept.{state-fits}
use Rattle.demand_laws.specs.HistorySteps.{Refuses, next}
use Rattle.fitness_laws.specs.Tickets.{op_fits, key_left}

pub structure-back : (st : Structure) → structure_of (structure_number st) ≡ st
structure-back map = refl
structure-back stack = refl
structure-back heap = refl
structure-back queue = refl

module _ (st : Structure) (k : ℕ) where
  -- What the rounds leave, of a store and a call that counts.
  abbrev pub leaving : Store → Brought → Op st → CallLeft
  leaving s b op = bucket_call k (rounds st k) op (draw_of k b.tape) s

  -- Their peak.
  abbrev pub peaking : Store → Brought → Op st → ℕ
  peaking s b op = call_peak k (rounds st k) op (draw_of k b.tape) s

  pub data Step (s : Store) (b : Brought) : Type 0 where
    refused : (n : ℕ) → IllBrought n → Refuses (kept_of st k s) b n → Step s b
    runs : (op : Op st) → op_in st b.ticket ≡ some op → OpFits op → KeyLeft op s.ahead.key
        → call_on (kept_of st k s) b ≡ ending (state_of st k s) b.trace (leaving s b op) (peaking s b op) → Step s b

  -- A call whose mark is 0 leaves the open state of the store that it leaves.
  pub left_open : (s : Store) (b : Brought) (l : CallLeft) → l.mark ≡ 0
      → next (kept_of st k s) b l ≡ kept_of st k (relation.left_by l)
  left_open s b l e =
      ap (λ (m : ℕ). next (kept_of st k s) b (record {
        mark = m;
        entries = l.entries;
        root = l.root;
        ahead = l.ahead;
        waiting = l.waiting;
        tree = l.tree;
        leaves = l.leaves;
        answer = l.answer;
      }))
      e

  module _ (positive : 1 ≤ k) (small : k ≤ 8) (s : Store) (m : Memory ℕ) (sim : Simulates k s m)
      (t : Contents st) (held : Held 0 st (capacity k) t m) where
    pub step : (b : Brought) → Bytes b.ticket → Step s b
    step b bytes = go (verdict st (state_of st k s) s.tree b.ticket b.tape b.trace (structure-back st))
      where
        go : Verdict st (state_of st k s) s.tree b.ticket b.tape b.trace (call_on (kept_of st k s) b) → Step s b
        go (closed h e) = absurd (h refl)
        go (unfit h e) = let z : true ≡ false = sym (state-fits st k positive small s m sim t held) ∙ h in let y : ◌≡◌ {A = ℕ} 0 1 = cc in absurd (omega arith)
        go (other-tree h e) = absurd (h sim.kept.is-tree.sized)
        go (ill-brought n h e) = refused n h e
        go (counts fit sized op h keyed long e) =
            runs op h (op_fits st b.ticket bytes op h) (key_left op s.ahead.key sim.known.key keyed)
            (e
            ∙ ap (λ (x : Store). ending (state_of st k s) b.trace (leaving x b op) (peaking x b op))
            (store-back st k s))
