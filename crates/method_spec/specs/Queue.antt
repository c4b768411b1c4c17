-- The queue's walk and step (document 02, change 5). Keys count up; each node's left link, of height 1, leads to the key after its
-- own, under a tag that is drawn before that node is there.
use Rattle.std.specs.Prelude.{ℕ, suc, pred, Bool, ◌&&◌, [], ◌∷◌, eqb, ltb}
use Rattle.list_spec.specs.Choice.{pick}
use Rattle.method_spec.specs.Node.{Link, Node, Ahead, absent, link_one, link_ahead}
use Rattle.method_spec.specs.Prog.{Want, Prog, done, want, start}
use Rattle.method_spec.specs.Answer.{queued, dequeued, empty, full}
use Rattle.method_spec.specs.Outcome.{Outcome}

module _ {T : Type 0} where
  -- ---- in
  -- Draw 2 is the next tag drawn ahead, for the key after this one.
  abbrev pub next_ahead : (draw2 : T) → Ahead T → Ahead T
  next_ahead draw2 a = record { key = suc a.key; tag = draw2 }

  -- "In on an empty queue tags its node with draw 1, else with the tag drawn ahead."
  abbrev pub newest : (nil : T) (value : ℕ) (draw1 draw2 : T) (entries : ℕ) → Ahead T → Node T
  newest nil value draw1 draw2 entries a =
      record {
        key = a.key;
        value = value;
        tag = pick (eqb entries 0) draw1 a.tag;
        left = link_ahead (next_ahead draw2 a);
        right = absent nil;
      }

  -- An in fetches none. On an empty queue the root link leads to the new node.
  unfoldable pub enqueue_prog : (nil : T) (value : ℕ) (draw1 draw2 : T) (entries limit : ℕ) → Ahead T → Link T → Prog T (Outcome T)
  enqueue_prog nil value draw1 draw2 entries limit a l =
      let n = newest nil value draw1 draw2 entries a in
      pick (ltb entries limit)
      (done (record { nodes = n ∷ []; root = pick (eqb entries 0) (link_one n) l; entries = suc entries; answer = queued }))
      (done (record { nodes = []; root = l; entries = entries; answer = full }))

  -- "When a node is stored, draw 2 is the next tag drawn ahead, kept in the state."
  unfoldable pub enqueue_ahead : (draw2 : T) (entries limit : ℕ) → Ahead T → Ahead T
  enqueue_ahead draw2 entries limit a = pick (ltb entries limit) (next_ahead draw2 a) a

  -- ---- out
  -- An out fetches the oldest, and the root link becomes its left link; with the last one gone there is none.
  unfoldable pub dequeue_prog : (nil : T) (entries : ℕ) → Link T → Prog T (Outcome T)
  dequeue_prog nil entries l =
      pick (eqb entries 0) (done (record { nodes = []; root = l; entries = entries; answer = empty }))
      (want (start l)
      (λ n. done
      (record {
        nodes = [];
        root = pick (eqb entries 1) (absent nil) n.left;
        entries = pred entries;
        answer = dequeued n.value;
      })))

  -- "The tag drawn ahead is dropped when the queue empties"; the next unused key stays.
  unfoldable pub dequeue_ahead : (nil : T) (entries : ℕ) → Ahead T → Ahead T
  dequeue_ahead nil entries a = pick (eqb entries 1) (record { key = a.key; tag = nil }) a

  -- ---- the queue's fetch test
  -- "a left link of height 1 with the next key, and no right link"
  unfoldable pub queue_test : Want T → Node T → Bool
  queue_test w n = eqb n.left.height 1 && (eqb n.left.key (suc n.key) && eqb n.right.height 0)
