-- Rounds that want none, one after the other: the fetch rounds that are left once the walk is done, and the put rounds.
use Rattle.std.specs.Prelude.{◌≡◌, List, ◌++◌, map, ℕ, ◌+◌, ◌≤◌, length}
use Rattle.std.proofs.lemmas.List.Edits.{sets}
use Rattle.list_spec.specs.Distinct.{All}
use Rattle.method_spec.specs.Prog.{done}
use Rattle.method_spec.specs.Answer.{Structure}
use Rattle.method_spec.specs.Outcome.{Outcome}
use Rattle.method_spec.specs.Call.{draws_from}
use Rattle.round_spec.specs.Whole.{IsTree}
use Rattle.bucket_call_spec.specs.Fetch.{Held}
use Rattle.bucket_call_spec.specs.Call.{put_rounds}
use Rattle.bucket_call_spec.specs.Peak.{rounds_from, peak_of}
use Rattle.leaf_spec.specs.Leaf.{ProperLeaf}
use Rattle.stash_laws.specs.Waiting.{waiting_in}
use Rattle.one_round.specs.OneRound.{going, ended_with, Rests}
use Rattle.round_close.specs.Fault.{mark_of}
use Rattle.idle_rounds.specs.declared.idle.Idle.{Idle}

-- A store between two rounds: the tree is one of that size, and the waiting nodes are proper and have room.
pub record Between (k n : ℕ) (row tree held : List ℕ) : Type 0 where
  pub small : k ≤ 8
  pub is-tree : IsTree k tree
  pub rests : Rests n row held
  pub proper : All (ProperLeaf k) (waiting_in n row)
  pub few : n + length held ≤ 65

abbrev pub keys_held : List Held → List ℕ
keys_held hs = map (λ (h : Held). h.node.key) hs

-- The rounds from draw `first` on came to mark and waiting nodes as said, for any nodes that are held under these keys, any leaves
-- revealed before and any outcome; as rounds of a program that is done they have that peak; each revealed its draw, in the trace from place `at` on.
pub record IdledAll (k n : ℕ) (draw : ℕ → ℕ) (count first at : ℕ) (row tree trace held row' tree' trace' : List ℕ) (r : Idle) : Type 0 where
  pub rounds : (hs : List Held) (ls : List ℕ) (o : Outcome ℕ) → keys_held hs ≡ held
      → put_rounds k draw count first o (going n row tree hs ls)
      ≡ ended_with (mark_of r.fault) (going r.waiting row' tree' hs (ls ++ draws_from draw r.shown first)) (done o)
  pub peaked : (s : Structure) (e : ℕ) (hs : List Held) (ls : List ℕ) (o : Outcome ℕ) → keys_held hs ≡ held
      → peak_of (rounds_from s e k draw count first (done o) (going n row tree hs ls)) ≡ r.peak
  pub revealed : trace' ≡ sets trace at (draws_from draw r.shown first)
  pub rests : Rests r.waiting row' held
  pub no_more : r.shown ≤ count
  pub all_shown : mark_of r.fault ≡ 0 → r.shown ≡ count
