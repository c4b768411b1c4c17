-- The put rounds of a call.
use Rattle.std.specs.Prelude.{◌≡◌, false, List, [], ◌++◌, ℕ, ◌≤◌}
use Rattle.std.proofs.lemmas.List.Edits.{sets}
use Rattle.list_spec.specs.Distinct.{All}
use Rattle.method_spec.specs.Prog.{done}
use Rattle.method_spec.specs.Answer.{Structure}
use Rattle.method_spec.specs.Outcome.{Outcome}
use Rattle.method_spec.specs.Call.{draws_from}
use Rattle.round_spec.specs.Round.{none_twice}
use Rattle.round_spec.specs.Whole.{IsTree}
use Rattle.list_spec.specs.Ascending.{ascending}
use Rattle.bucket_call_spec.specs.Call.{put_rounds}
use Rattle.bucket_call_spec.specs.Peak.{rounds_from, peak_of}
use Rattle.leaf_spec.specs.Leaf.{ProperLeaf}
use Rattle.stash_laws.specs.Waiting.{waiting_in, Holds}
use Rattle.one_round.specs.OneRound.{going, ended_with, keys_waiting}
use Rattle.round_close.specs.Fault.{mark_of}
use Rattle.idle_rounds.specs.declared.idle.Idle.{Idle}

-- After the step: the tree is one of that size, the waiting nodes are proper and have room, and where their keys do not ascend
-- one of them stands twice.
pub record Stepped (k n : ℕ) (row tree : List ℕ) : Type 0 where
  pub small : k ≤ 8
  pub is-tree : IsTree k tree
  pub holds : Holds n row
  pub proper : All (ProperLeaf k) (waiting_in n row)
  pub few : n ≤ 65
  pub twice : ascending (keys_waiting n row) ≡ false → none_twice (keys_waiting n row) ≡ false

-- The F put rounds, from draw `first` on, came to mark and waiting nodes as said, for any leaves revealed before and any outcome, and have that peak;
-- their leaves follow those of the F fetch rounds in the trace.
pub record Puts (k n : ℕ) (draw : ℕ → ℕ) (F first : ℕ) (row tree trace row' tree' trace' : List ℕ) (r : Idle) : Type 0 where
  pub rounds : (ls : List ℕ) (o : Outcome ℕ) → put_rounds k draw F first o (going n row tree [] ls)
      ≡ ended_with (mark_of r.fault) (going r.waiting row' tree' [] (ls ++ draws_from draw r.shown first)) (done o)
  pub peaked : (s : Structure) (e : ℕ) (ls : List ℕ) (o : Outcome ℕ) → peak_of (rounds_from s e k draw F first (done o) (going n row tree [] ls)) ≡ r.peak
  pub revealed : trace' ≡ sets trace F (draws_from draw r.shown first)
  pub holds : Holds r.waiting row'
  pub no_more : r.shown ≤ F
  pub all_shown : mark_of r.fault ≡ 0 → r.shown ≡ F
