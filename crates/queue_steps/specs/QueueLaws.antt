-- The queue's programs: what they want, and what they come to; and what is known ahead.
use Rattle.std.specs.Prelude.{ℕ, suc, pred, ◌≤◌, ◌<◌, ◌^◌, ◌≡◌, [], ◌∷◌, eqb}
use Rattle.std.proofs.Common.{sym, ap, subst, eq-eqb, ne_eqb, lt-ltb, le-ltb}
use Rattle.std.proofs.Math.Option.{none, some}
use Rattle.list_spec.specs.Choice.{pick}
use Rattle.method_spec.specs.Node.{Link, Node, Ahead, absent, link_one, link_ahead}
use Rattle.method_spec.specs.Answer.{queued, dequeued, empty, full}
use Rattle.method_spec.specs.Prog.{Prog, done, after, start}
use Rattle.method_spec.specs.Outcome.{Outcome}
use Rattle.method_spec.specs.Queue.{next_ahead, newest, enqueue_prog, enqueue_ahead, dequeue_prog, dequeue_ahead}
use Rattle.slot_spec.specs.Slot.{no_link}
use Rattle.slot_spec.specs.declared.Link as slot
use Rattle.leaf_spec.specs.Convert.{to_link}
use Rattle.leaf_spec.specs.Entries.{KeyLeft}
use Rattle.operation_spec.specs.declared.Op.{Op}
use Rattle.operation_spec.specs.declared.Op.TheVariants.{Enqueue}
use Rattle.operation_spec.specs.Method.{to_op, nothing, wanted_in}

-- An in has a key for the node that comes next.
pub in-has-key : {op : Op} {value next : ℕ} → op ≡ Enqueue value → KeyLeft (to_op op) next → suc next < 2 ^ 32
in-has-key {next = next} e k = subst (λ (o : Op). KeyLeft (to_op o) next) e k

-- The new node, by its parts.
pub newest-parts : (value draw1 draw2 entries : ℕ) (a : Ahead ℕ) {tag : ℕ} {next : Ahead ℕ} {none : slot.Link}
    → tag ≡ pick (eqb entries 0) draw1 a.tag → next ≡ next_ahead draw2 a → none ≡ no_link
    → ◌≡◌ {A = Node ℕ} (record { key = a.key; value = value; tag = tag; left = link_ahead next; right = to_link none })
    (newest 0 value draw1 draw2 entries a)
newest-parts value draw1 draw2 entries a e f g = rw (e, f, g)

module _ (value draw1 draw2 entries limit : ℕ) (a : Ahead ℕ) (l : Link ℕ) where
  pub enqueue-full : limit ≤ entries → enqueue_prog 0 value draw1 draw2 entries limit a l ≡ done (nothing l entries full)
  unfolding enqueue_prog
  enqueue-full k = rw (le-ltb entries limit k)

  -- The program of an in that stores a node.
  abbrev pub stores : Node ℕ → Prog ℕ (Outcome ℕ)
  stores n = done (record { nodes = n ∷ []; root = pick (eqb entries 0) (link_one n) l; entries = suc entries; answer = queued })

  pub enqueue-one : {n : Node ℕ} → n ≡ newest 0 value draw1 draw2 entries a → entries < limit
      → enqueue_prog 0 value draw1 draw2 entries limit a l ≡ stores n
  unfolding enqueue_prog
  enqueue-one e k = rw (lt-ltb entries limit k) (ap stores (sym e))

module _ (draw2 entries limit : ℕ) (a : Ahead ℕ) where
  pub ahead-full : limit ≤ entries → enqueue_ahead draw2 entries limit a ≡ a
  unfolding enqueue_ahead
  ahead-full k = rw (le-ltb entries limit k)

  pub ahead-one : entries < limit → enqueue_ahead draw2 entries limit a ≡ next_ahead draw2 a
  unfolding enqueue_ahead
  ahead-one k = rw (lt-ltb entries limit k)

module _ (entries : ℕ) (l : Link ℕ) where
  pub dequeue-wants-none : entries ≡ 0 → wanted_in (dequeue_prog 0 entries l) ≡ none
  unfolding dequeue_prog
  dequeue-wants-none e = rw (eq-eqb entries 0 e)

  pub dequeue-wants-oldest : (entries ≡ 0 → ⊥) → wanted_in (dequeue_prog 0 entries l) ≡ some (start l)
  unfolding dequeue_prog
  dequeue-wants-oldest e = rw (ne_eqb entries 0 e)

  module _ (n : Node ℕ) where
    pub dequeue-empty : entries ≡ 0 → after (dequeue_prog 0 entries l) (n ∷ []) ≡ done (nothing l entries empty)
    unfolding dequeue_prog after
    dequeue-empty e = rw (eq-eqb entries 0 e)

    pub dequeue-oldest : (entries ≡ 0 → ⊥)
        → after (dequeue_prog 0 entries l) (n ∷ [])
        ≡ done (nothing (pick (eqb entries 1) (absent 0) n.left) (pred entries) (dequeued n.value))
    unfolding dequeue_prog after
    dequeue-oldest e = rw (ne_eqb entries 0 e)

module _ (entries : ℕ) (a : Ahead ℕ) where
  pub ahead-last : entries ≡ 1 → dequeue_ahead 0 entries a ≡ record { key = a.key; tag = 0 }
  unfolding dequeue_ahead
  ahead-last e = rw (eq-eqb entries 1 e)

  pub ahead-kept : (entries ≡ 1 → ⊥) → dequeue_ahead 0 entries a ≡ a
  unfolding dequeue_ahead
  ahead-kept e = rw (ne_eqb entries 1 e)
