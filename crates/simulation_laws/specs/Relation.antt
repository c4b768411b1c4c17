-- When a bucket store simulates a memory of the method at leaves, between calls and between the rounds of a call, and what a call
-- over buckets comes to.
use Rattle.std.specs.Prelude.{◌≡◌, List, [], ◌++◌, map, ℕ, ◌+◌, ◌≤◌, ◌<◌, length, replicate}
use Rattle.std.proofs.Math.Option.{none, some}
use Rattle.list_spec.specs.Perm.{Perm}
use Rattle.slot_spec.specs.Tree.{tree_length}
use Rattle.method_spec.specs.Node.{Node, absent, none_ahead}
use Rattle.method_spec.specs.Plain.{Pair}
use Rattle.method_spec.specs.Outcome.{Outcome}
use Rattle.method_spec.specs.Call.{Memory, Called}
use Rattle.round_spec.specs.Round.{all_good, read_buckets, stash_limit}
use Rattle.leaf_spec.specs.Leaf.{leaf_format, ProperLeaf}
use Rattle.bucket_call_spec.specs.Fetch.{Held, Going, held_keys, CallLeft, Round}
use Rattle.bucket_call_spec.specs.Call.{Store}
use Rattle.round_spec.specs.Whole.{all_buckets, contents, KeptStore, Ascending}
use Rattle.leaf_spec.specs.Entries.{pair_of}
use Rattle.bucket_call_spec.specs.Simulates.{Simulates, Remains}

-- ---- between calls

-- The store that a good opening leaves, and the one that a call leaves.
abbrev pub empty_store : ℕ → Store
empty_store k = record { entries = 0; root = absent 0; ahead = none_ahead 0; waiting = []; tree = replicate (tree_length k) 0 }

abbrev pub left_by : CallLeft → Store
left_by l = record { entries = l.entries; root = l.root; ahead = l.ahead; waiting = l.waiting; tree = l.tree }

-- The keys and values of all nodes of a store, and of a memory.
abbrev pub store_entries : ℕ → Store → List Pair
store_entries k st = map pair_of (contents leaf_format k st.tree ++ st.waiting)

abbrev pub memory_entries : Memory ℕ → List Pair
memory_entries m = map pair_of m.nodes

-- The call over buckets did what the method's call did.
pub record Matches (k : ℕ) (l : CallLeft) (r : Called ℕ) : Type 0 where
  pub mark : l.mark ≡ 0
  pub answer : l.answer ≡ r.answer
  pub leaves : l.leaves ≡ r.revealed
  pub simulates : Simulates k (left_by l) r.memory

-- The call over buckets, whose fetch rounds came to x, met overflow: more than 64 wait; it revealed the first part of what the method's
-- call reveals; no entry is lost; and no slot is bad.
pub record Overflowed (k : ℕ) (m : Memory ℕ) (x : Round (Outcome ℕ)) (l : CallLeft) (r : Called ℕ) : Type 0 where
  pub mark : l.mark ≡ 9
  pub answer : l.answer ≡ none
  pub many : stash_limit < length l.waiting
  pub rest : List ℕ
  pub leaves : r.revealed ≡ l.leaves ++ rest
  pub nothing-lost : Remains (Perm (memory_entries m)) (Perm (memory_entries r.memory)) (store_entries k (left_by l)) x
  pub none-bad : all_good (read_buckets leaf_format k l.tree (all_buckets k)) ≡ some (contents leaf_format k l.tree)

-- ---- between the rounds of a call

abbrev pub held_nodes : Going → List (Node ℕ)
held_nodes g = map (λ (h : Held). h.node) g.held

-- The nodes not fetched are, in another order, those of the tree and those that wait; the store is kept, with the keys of the held
-- nodes; those that wait are in ascending order of keys; and no entry is lost: all of them are those of the nodes held and of those
-- not fetched.
pub record Stands (k : ℕ) (all : List Pair) (g : Going) (ns : List (Node ℕ)) : Type 0 where
  pub there : Perm ns (contents leaf_format k g.tree ++ g.waiting)
  pub kept : KeptStore leaf_format ProperLeaf k g.tree g.waiting (held_keys g)
  pub ascends : Ascending leaf_format g.waiting
  pub whole : Perm all (map pair_of (held_nodes g) ++ map pair_of ns)

-- At most 64 wait or are held; or more.
abbrev pub Few : Going → Type 0
Few g = length g.waiting + length g.held ≤ stash_limit

abbrev pub Many : Going → Type 0
Many g = stash_limit < length g.waiting + length g.held
