-- What a call leaves keeps all entries, where it closes the store and where it answers.
use Rattle.std.specs.Prelude.{◌≡◌, refl, ◌⊎◌, List, [], ◌++◌, ℕ, ◌≤◌, ◌<◌, length}
use Rattle.std.proofs.Common.{sym, ◌∙◌, ap, inl, inr, append-nil, arith}
use Rattle.std.proofs.lemmas.List.{length-map}
use Rattle.list_spec.specs.Perm.{trans}
use Rattle.list_laws.specs.PermLaws.{perm-sym, perm-of-eq, perm_append_comm, perm-map}
use Rattle.list_laws.specs.DistinctLaws.{all_append, all-perm}
use Rattle.method_spec.specs.Node.{Link, Ahead}
use Rattle.method_spec.specs.Prog.{Prog}
use Rattle.method_spec.specs.Outcome.{Outcome}
use Rattle.method_spec.specs.Plain.{Pair}
use Rattle.round_spec.specs.Round.{join, stash_limit}
use Rattle.leaf_spec.specs.Leaf.{leaf_format, ProperLeaf}
use Rattle.bucket_call_spec.specs.Fetch.{Held, Going, moved_node, moved_nodes, closing, Round, on, total}
use Rattle.bucket_call_spec.specs.Call.{after_puts}
use Rattle.round_spec.specs.Whole.{contents}
use Rattle.round_laws.specs.Lists.{join-perm}
use Rattle.round_laws.specs.Room.{join-length}
use Rattle.none_lost_laws.specs.Fitting.{LinkFits, fit-of-link}
use Rattle.leaf_spec.specs.Entries.{pair_of}
use Rattle.none_lost_laws.specs.AtHand.{pairs-left}
use Rattle.none_lost_laws.specs.Sound.{nodes_in, entries_with, Sound, After, goes, closes, places_for}
use Rattle.none_lost_laws.specs.Moved.{moved-entries, moved-root, moved-proper}
use Rattle.none_lost_laws.specs.Putting.{Resting}
use Rattle.none_lost_laws.specs.Ends.{Keeps, Closed, Answered}

-- A call that closes the store: the held nodes wait too.
pub closing-keeps : {k b : ℕ} {r : Link ℕ} {all : List Pair} {g : Going} → k ≤ 16 → b < 256 → LinkFits k b r → Sound k r all g → total g ≤ places_for k → (m entries : ℕ) (a : Ahead ℕ)
    → Keeps k all (closing m entries r a g)
unfolding closing
closing-keeps {k} {g = g} small low f sound room m entries a =
    let again = moved_nodes g.held in
    let tree = contents leaf_format k g.tree in
    let size = join-length leaf_format again g.waiting in
    let held = length-map g.held (λ (h : Held). moved_node g.held h.node) in
    record {
      is-tree = sound.is-tree;
      proper =
          all-perm {P = ProperLeaf k} (perm-sym (join-perm leaf_format again g.waiting))
          (all_append {P = ProperLeaf k} again (moved-proper sound small) sound.waiting);
      room = omega arith;
      root = fit-of-link low (moved-root sound f);
      leaves = sound.leaves;
      whole =
          trans sound.whole
          (pairs-left tree (g.waiting ++ nodes_in g.held) (join leaf_format again g.waiting)
          (trans (pairs-left g.waiting (nodes_in g.held) again (perm-of-eq (sym (moved-entries g.held))))
          (perm-map pair_of (trans (perm_append_comm g.waiting again) (perm-sym (join-perm leaf_format again g.waiting))))));
    }

-- A call that answers.
resting-keeps : {k b : ℕ} {all : List Pair} {g : Going} (a : Ahead ℕ) (o : Outcome ℕ) → b < 256 → LinkFits k b o.root → Sound k o.root all g → total g ≤ stash_limit → g.held ≡ []
    → (p : Prog ℕ (Outcome ℕ)) → Keeps k all (after_puts a o (on g p))
unfolding after_puts
resting-keeps {k} {g = g} a o low f sound few rests p =
    record {
      is-tree = sound.is-tree;
      proper = sound.waiting;
      room = omega arith;
      root = fit-of-link low f;
      leaves = sound.leaves;
      whole =
          trans sound.whole
          (perm-of-eq
          (ap (λ (hs : List Held). entries_with k g.tree (g.waiting ++ nodes_in hs)) rests ∙ ap (entries_with k g.tree) (append-nil g.waiting)));
    }

pub closing-mark : (m entries : ℕ) (r : Link ℕ) (a : Ahead ℕ) (g : Going) → (closing m entries r a g).mark ≡ m
unfolding closing
closing-mark m entries r a g = refl

pub closing-closed : {m shown : ℕ} (entries : ℕ) (r : Link ℕ) (a : Ahead ℕ) (g : Going) → (m ≡ 8) ⊎ (m ≡ 9) → length g.leaves ≤ shown → Closed shown (closing m entries r a g)
unfolding closing
closing-closed entries r a g mark seen = record { mark = mark; answer = refl; leaves = seen }

-- After the put rounds.
pub puts-end : {k b shown : ℕ} {now : List Pair} (a : Ahead ℕ) (o : Outcome ℕ) {x : Round (Outcome ℕ)} → k ≤ 16 → b < 256 → LinkFits k b o.root
    → After k o.root now shown (Resting o) x
    → Keeps k now (after_puts a o x) × (Closed shown (after_puts a o x) ⊎ Answered shown o.answer (after_puts a o x))
unfolding after_puts
puts-end a o small low f (closes {m = m} {g = h} mark sound room seen) = (
  closing-keeps small low f sound room m o.entries a,
  inl (closing-closed o.entries o.root a h mark seen),
)
puts-end a o small low f (goes {g = h} {q = q} sound few seen next) = (
  resting-keeps a o low f sound few next.none-held q,
  inr (record { mark = refl; answer = refl; leaves = seen; few = omega arith }),
)
