-- When a bucket store keeps a memory of the method at leaves, between two calls, and what a call that met overflow left.
use Rattle.std.specs.Prelude.{◌≡◌, List, [], ◌++◌, ℕ, ◌^◌, ◌≤◌, ◌<◌, length}
use Rattle.list_spec.specs.Perm.{Perm}
use Rattle.method_spec.specs.Node.{Ahead}
use Rattle.method_spec.specs.Prog.{done}
use Rattle.method_spec.specs.Plain.{Pair}
use Rattle.method_spec.specs.Outcome.{Outcome}
use Rattle.method_spec.specs.Call.{Memory}
use Rattle.round_spec.specs.Round.{stash_limit}
use Rattle.round_spec.specs.Whole.{contents, KeptStore, Ascending}
use Rattle.leaf_spec.specs.Leaf.{leaf_format, ProperLeaf}
use Rattle.bucket_call_spec.specs.Fetch.{Going, Round, on, shut}
use Rattle.bucket_call_spec.specs.Call.{Store}

-- What is known ahead is within its widths: a key, and a leaf.
pub record AheadFits (k : ℕ) (a : Ahead ℕ) : Type 0 where
  pub key : a.key < 2 ^ 32
  pub tag : a.tag < 2 ^ k

-- The same entries, root link and what is known ahead, which is within its widths; the memory's nodes are, in another order, those of the tree and those that wait; the store is kept;
-- and at most 64 wait, in ascending order of keys.
pub record Simulates (k : ℕ) (st : Store) (m : Memory ℕ) : Type 0 where
  pub entries : st.entries ≡ m.entries
  pub root : st.root ≡ m.root
  pub ahead : st.ahead ≡ m.ahead
  pub known : AheadFits k st.ahead
  pub there : Perm m.nodes (contents leaf_format k st.tree ++ st.waiting)
  pub kept : KeptStore leaf_format ProperLeaf k st.tree st.waiting []
  pub few : length st.waiting ≤ stash_limit
  pub ascends : Ascending leaf_format st.waiting

-- What a call that met overflow left, by where its fetch rounds came to: the pairs as before it where a fetch round closed the store, as
-- after it where a put round did.
pub data Remains (Before After : List Pair → Type 0) (left : List Pair) : Round (Outcome ℕ) → Type 0 where
  as_before : (g : Going) → Before left → Remains Before After left (shut 9 g)
  as-after : (g : Going) (o : Outcome ℕ) → After left → Remains Before After left (on g (done o))
