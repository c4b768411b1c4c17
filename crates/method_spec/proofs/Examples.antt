-- Document 01's worked cases that need no bytes, and more of the same kind, by computation.
use Rattle.std.specs.Prelude.{◌≡◌, refl, ℕ, zero, suc, ◌%◌, List, [], ◌∷◌, ◌++◌, true, false}
use mathlib.Core.List as list
use Rattle.std.proofs.Math.Option.{none, some}
use Rattle.balance_spec.specs.Tree.{Tree, leaf, node}
use Rattle.balance_spec.specs.Least.{least}
use Rattle.balance_spec.specs.Shape.{shaped}
use Rattle.balance_spec.specs.Greatest.{tallest, greatest}
use Rattle.method_spec.specs.Node.{Link, Node}
use Rattle.method_spec.specs.Node as node-spec
use Rattle.method_spec.specs.Prog.{bind, start}
use Rattle.method_spec.specs.Answer.{Structure, map, stack, heap, queue, Op, get, put, remove, push, pop, add, take, enqueue, dequeue, found, absent, new, removed, full, pushed, popped, added, taken, queued, dequeued, empty}
use Rattle.method_spec.specs.Answer as answers
use Rattle.method_spec.specs.Map.{walk, balance_of, single, double, turn, raise, climb, unwind, unwound, get_step, get_prog, put_step, put_prog, lowest, take_out, remove_step, remove_prog}
use Rattle.method_spec.specs.Stack.{push_prog, pop_prog}
use Rattle.method_spec.specs.Heap.{turns_to, way_to, descend, settled, rise, topmost, add_prog, downward, child_of, sink, replace_root, take_prog, heap_test}
use Rattle.method_spec.specs.Queue.{enqueue_prog, enqueue_ahead, dequeue_prog, dequeue_ahead, queue_test}
use Rattle.list_spec.specs.Perm as perm
use Rattle.method_spec.specs.Plain.{lookup, store, erase, put_into, get_answer, remove_answer, plain, plain_answers, enter, taken_from, dequeued_from, numbered, in_row, Entries}
use Rattle.method_spec.specs.Rounds.{rounds, spare, put_draw, draws}
use Rattle.method_spec.specs.Call.{capacity, program, ahead_after, empty_memory, take_key, fetches, draws_from, stepped, answered, call, run, Ran}
use Rattle.method_spec.specs.Origin.{drawn, origins, names, leaf_of, leaf_run}

-- A store of a size after some calls that each bring that tape. Where this unfolds, so does all that a call computes with.
unfoldable pub after : {s : Structure} → (size : ℕ) → (tape : ℕ → ℕ) → List (Op s) → Ran ℕ
unfolding walk balance_of single double turn raise climb unwind unwound get_step get_prog put_step put_prog lowest take_out remove_step remove_prog push_prog pop_prog turns_to descend settled rise topmost add_prog downward child_of sink replace_root take_prog enqueue_prog enqueue_ahead dequeue_prog dequeue_ahead program ahead_after empty_memory take_key fetches draws_from stepped answered call run bind least shaped tallest greatest rounds spare origins leaf_of leaf_run
after {s} size tape ops = run 0 (rounds s size) (capacity size) (λ c. tape) 1 ops (empty_memory 0)

abbrev zeros : ℕ → ℕ
zeros d = 0

-- The tree of keys behind a link of that height.
behind : ℕ → Link ℕ → List (Node ℕ) → Tree ℕ
unfolding take_key
behind zero l ns = leaf
behind (suc fuel) l ns =
    elim (take_key l.key ns) [ none ↦ leaf | some t ↦ node (behind fuel t.node.left ns) l.key (behind fuel t.node.right ns) ]

-- A map's tree of keys, after some calls with a zero tape.
tree : (size : ℕ) → List (Op map) → Tree ℕ
unfolding after behind
tree size ops = let m = (after size zeros ops).memory in behind m.root.height m.root m.nodes

abbrev one : ℕ → Tree ℕ
one key = node leaf key leaf

-- ---- rounds

-- F for the sizes 1 to 8: three times the greatest heights 1, 2, 4, 5, 6, 8, 9, 11.
map-rounds : list.map (rounds map) (1 ∷ 2 ∷ 3 ∷ 4 ∷ 5 ∷ 6 ∷ 7 ∷ 8 ∷ []) ≡ 3 ∷ 6 ∷ 12 ∷ 15 ∷ 18 ∷ 24 ∷ 27 ∷ 33 ∷ []
unfolding after
map-rounds = refl

-- The draws of a call, and that of the first put round: for a map of size 2 (F = 6), a stack, a heap of size 2 (F = 6), and a queue.
worked-draws : (draws map 2 ≡ 13) × (put_draw map 6 0 ≡ 7) × (draws stack 2 ≡ 3) × (put_draw stack 1 0 ≡ 2) × (draws heap 2 ≡ 13)
    × (draws queue 2 ≡ 4) × (put_draw queue 1 0 ≡ 3)
unfolding after
worked-draws = (refl, refl, refl, refl, refl, refl, refl)

-- A fresh map of size 2, get 7, tape 0 to 12.
get_absent : (after 2 (λ d. d % 4) (get 7 ∷ [])).answers ≡ some absent ∷ []
unfolding after
get_absent = refl

get-absent-leaves : (after 2 (λ d. d % 4) (get 7 ∷ [])).revealed ≡ 0 ∷ 1 ∷ 2 ∷ 3 ∷ 0 ∷ 1 ∷ 3 ∷ 0 ∷ 1 ∷ 2 ∷ 3 ∷ 0 ∷ []
unfolding after
get-absent-leaves = refl

-- ---- the map's tree

-- Size 2, put 1, 2, 3: root 2.
ascending : tree 2 (put 1 10 ∷ put 2 20 ∷ put 3 30 ∷ []) ≡ node (one 1) 2 (one 3)
unfolding tree
ascending = refl

-- The mirror case.
descending : tree 2 (put 3 30 ∷ put 2 20 ∷ put 1 10 ∷ []) ≡ node (one 1) 2 (one 3)
unfolding tree
descending = refl

-- A double rotation on the left, and one on the right.
left-inward : tree 2 (put 3 30 ∷ put 1 10 ∷ put 2 20 ∷ []) ≡ node (one 1) 2 (one 3)
unfolding tree
left-inward = refl

right-inward : tree 2 (put 1 10 ∷ put 3 30 ∷ put 2 20 ∷ []) ≡ node (one 1) 2 (one 3)
unfolding tree
right-inward = refl

-- Size 3, put 2, 1, 4, 3, 5, remove 1: root 4, not 3.
leaning : tree 3 (put 2 0 ∷ put 1 0 ∷ put 4 0 ∷ put 3 0 ∷ put 5 0 ∷ remove 1 ∷ []) ≡ node (node leaf 2 (one 3)) 4 (one 5)
unfolding tree
leaning = refl

-- Size 2, put 2, 1, 3, remove 2: root 3 with left 1.
replaced : tree 2 (put 2 20 ∷ put 1 10 ∷ put 3 30 ∷ remove 2 ∷ []) ≡ node (one 1) 3 leaf
unfolding tree
replaced = refl

-- The whole of it: two entries, and their values.
replaced-memory : (after 2 zeros (put 2 20 ∷ put 1 10 ∷ put 3 30 ∷ remove 2 ∷ [])).memory
    ≡ record {
      entries = 2;
      root = record { height = 2; key = 3; tag = 0 };
      ahead = record { key = 0; tag = 0 };
      nodes =
          record {
            key = 3;
            value = 30;
            tag = 0;
            left = record { height = 1; key = 1; tag = 0 };
            right = record { height = 0; key = 0; tag = 0 };
          }
          ∷ record {
            key = 1;
            value = 10;
            tag = 0;
            left = record { height = 0; key = 0; tag = 0 };
            right = record { height = 0; key = 0; tag = 0 };
          }
          ∷ [];
    }
unfolding after
replaced-memory = refl

-- The next larger key is further down: 5, whose right side 6 comes up in its place.
further-down : tree 3 (put 4 0 ∷ put 2 0 ∷ put 7 0 ∷ put 1 0 ∷ put 5 0 ∷ put 8 0 ∷ put 6 0 ∷ remove 4 ∷ [])
    ≡ node (node (one 1) 2 leaf) 5 (node (one 6) 7 (one 8))
unfolding tree
further-down = refl

-- A tree of height 5 with as few entries as there can be. Remove 9: a double rotation at 10 and, as that side is lower
-- now, another at the root.
twelve : List (Op map)
twelve =
    put 8 0 ∷ put 3 0 ∷ put 10 0 ∷ put 2 0 ∷ put 6 0 ∷ put 9 0 ∷ put 12 0 ∷ put 1 0 ∷ put 5 0 ∷ put 7 0 ∷ put 11 0 ∷ put 4 0 ∷ []

least-tree : tree 4 twelve
    ≡ node (node (node (one 1) 2 leaf) 3 (node (node (one 4) 5 leaf) 6 (one 7))) 8 (node (one 9) 10 (node (one 11) 12 leaf))
unfolding tree twelve
least-tree = refl

twice-double : tree 4 (twelve ++ (remove 9 ∷ []))
    ≡ node (node (node (one 1) 2 leaf) 3 (node (one 4) 5 leaf)) 6 (node (one 7) 8 (node (one 10) 11 (one 12)))
unfolding tree twelve
twice-double = refl

-- ---- answers

-- Size 1, put 9 twice: new, then replaced. A full map takes no other key.
full-map : (after 1 zeros (put 9 1 ∷ put 9 2 ∷ get 9 ∷ put 8 3 ∷ get 8 ∷ get 9 ∷ [])).answers
    ≡ some new ∷ some (answers.replaced 1) ∷ some (found 2) ∷ some full ∷ some absent ∷ some (found 2) ∷ []
unfolding after
full-map = refl

-- The second put names the first one's spare draw (F = 3), which the node has for its tag, and the third the draw of the second's fetch; then each
-- its own draws.
full-map-names : names (rounds map 1) 1 (put 9 1 ∷ put 9 2 ∷ put 8 3 ∷ [])
    ≡ drawn 1 0 ∷ drawn 1 1 ∷ drawn 1 2 ∷ drawn 1 4 ∷ drawn 1 5 ∷ drawn 1 6
    ∷ drawn 1 3 ∷ drawn 2 1 ∷ drawn 2 2 ∷ drawn 2 4 ∷ drawn 2 5 ∷ drawn 2 6
    ∷ drawn 2 0 ∷ drawn 3 1 ∷ drawn 3 2 ∷ drawn 3 4 ∷ drawn 3 5 ∷ drawn 3 6 ∷ []
unfolding after
full-map-names = refl

-- Size 2 and full: a key below the root gets a new value, and all else stays.
full-map-below : (after 2 zeros (put 2 20 ∷ put 1 10 ∷ put 3 30 ∷ put 1 11 ∷ [])).memory
    ≡ (after 2 zeros (put 2 20 ∷ put 1 11 ∷ put 3 30 ∷ get 1 ∷ [])).memory
unfolding after
full-map-below = refl

-- The plain table of such calls; there is room again after a remove.
plain-table : plain_answers 1 (put 9 1 ∷ put 9 2 ∷ put 8 3 ∷ get 9 ∷ remove 9 ∷ put 8 3 ∷ []) []
    ≡ new ∷ answers.replaced 1 ∷ full ∷ found 2 ∷ removed 2 ∷ new ∷ []
unfolding plain_answers plain put_into store lookup erase get_answer remove_answer
plain-table = refl

push-pop : (after 2 zeros (push 50 ∷ pop ∷ pop ∷ [])).answers ≡ some pushed ∷ some (popped 50) ∷ some empty ∷ []
unfolding after
push-pop = refl

-- ---- the heap

-- The ways to positions 1, 2, 5 and 6: from the root, left, left and right, right and left.
ways : list.map way_to (1 ∷ 2 ∷ 5 ∷ 6 ∷ []) ≡ [] ∷ (true ∷ []) ∷ (true ∷ false ∷ []) ∷ (false ∷ true ∷ []) ∷ []
unfolding after
ways = refl

-- The numbers at positions 1 to n.
standing : (size : ℕ) → List (Op heap) → List ℕ
unfolding after
standing size ops = let m = (after size zeros ops).memory in numbers m.entries 1 m.nodes
  where
    numbers : (n i : ℕ) → List (Node ℕ) → List ℕ
    numbers zero i ns = []
    numbers (suc n) i ns = elim (take_key i ns) [ none ↦ [] | some t ↦ t.node.value ∷ numbers n (suc i) ns ]

-- An add that rises to the root, and one that rises part of the way.
rises : standing 2 (add 5 ∷ add 3 ∷ add 1 ∷ []) ≡ 1 ∷ 5 ∷ 3 ∷ []
unfolding standing
rises = refl

rises-some : standing 3 (add 1 ∷ add 5 ∷ add 3 ∷ add 4 ∷ []) ≡ 1 ∷ 4 ∷ 3 ∷ 5 ∷ []
unfolding standing
rises-some = refl

-- A take at one, two and three entries.
takes_one : (after 2 zeros (add 7 ∷ take ∷ take ∷ [])).answers ≡ some added ∷ some (taken 7) ∷ some empty ∷ []
unfolding after
takes_one = refl

takes_two : standing 2 (add 5 ∷ add 3 ∷ take ∷ []) ≡ 5 ∷ []
unfolding standing
takes_two = refl

takes-three : standing 2 (add 5 ∷ add 3 ∷ add 1 ∷ take ∷ []) ≡ 3 ∷ 5 ∷ []
unfolding standing
takes-three = refl

-- Equal children: 9 sinks to the left.
sinks-left : standing 3 (add 1 ∷ add 2 ∷ add 2 ∷ add 9 ∷ take ∷ []) ≡ 2 ∷ 9 ∷ 2 ∷ []
unfolding standing
sinks-left = refl

-- To the right, where the left child is larger.
sinks-right : standing 3 (add 1 ∷ add 3 ∷ add 2 ∷ add 9 ∷ take ∷ []) ≡ 2 ∷ 3 ∷ 9 ∷ []
unfolding standing
sinks-right = refl

-- Two levels down, on the left; the right child of the root is on the way to the last position, and is held already.
sinks-two : standing 3 (add 1 ∷ add 2 ∷ add 5 ∷ add 3 ∷ add 4 ∷ add 6 ∷ take ∷ []) ≡ 2 ∷ 3 ∷ 5 ∷ 6 ∷ 4 ∷ []
unfolding standing
sinks-two = refl

-- A full heap's add: 10, and it fetches none.
full-heap : (after 1 zeros (add 5 ∷ add 6 ∷ take ∷ [])).answers ≡ some added ∷ some full ∷ some (taken 5) ∷ []
unfolding after
full-heap = refl

full-heap-names : names (rounds heap 1) 1 (add 5 ∷ add 6 ∷ [])
    ≡ drawn 1 0 ∷ drawn 1 1 ∷ drawn 1 2 ∷ drawn 1 4 ∷ drawn 1 5 ∷ drawn 1 6
    ∷ drawn 2 0 ∷ drawn 2 1 ∷ drawn 2 2 ∷ drawn 2 4 ∷ drawn 2 5 ∷ drawn 2 6 ∷ []
unfolding after
full-heap-names = refl

-- The plain heap of the same calls: the smallest first, equal ones as often as they were added.
plain-heap : plain_answers 3 (add 3 ∷ add 5 ∷ add 3 ∷ add 9 ∷ take ∷ take ∷ take ∷ take ∷ []) []
    ≡ added ∷ added ∷ added ∷ full ∷ taken 3 ∷ taken 3 ∷ taken 5 ∷ empty ∷ []
unfolding plain_answers plain enter taken_from
plain-heap = refl

-- What a plain heap of 1, 3 and 5 holds, as pairs: 5 stands at position 2 and 3 at position 3, as in `rises`.
plain-pairs : Entries heap (1 ∷ 3 ∷ 5 ∷ [])
    (record { key = 3; value = 3 } ∷ record { key = 2; value = 5 } ∷ record { key = 1; value = 1 } ∷ [])
unfolding numbered
plain-pairs = (
  3 ∷ 5 ∷ 1 ∷ [],
  (perm.trans (perm.swap 1 3 (5 ∷ [])) (perm.cons 3 (perm.swap 1 5 [])), perm.cons _ (perm.cons _ (perm.cons _ perm.nil))),
)

-- The fetch test of position 1 in a heap with 2 entries passes a left link to position 2 and no right one. It refuses both links, no
-- link, a link to another position, a link of another height, the right one alone.
abbrev link_at : ℕ → ℕ → Link ℕ
link_at height key = record { height = height; key = key; tag = 3 }

abbrev first : Link ℕ → Link ℕ → Node ℕ
first left right = record { key = 1; value = 0; tag = 0; left = left; right = right }

heap-tests : list.map (heap_test 2 (start (link_at 1 1)))
    (first (link_at 1 2) (node-spec.absent 0) ∷ first (link_at 1 2) (link_at 1 3) ∷ first (node-spec.absent 0) (node-spec.absent 0)
    ∷ first (link_at 1 3) (node-spec.absent 0) ∷ first (link_at 2 2) (node-spec.absent 0) ∷ first (node-spec.absent 0) (link_at 1 3) ∷ [])
    ≡ true ∷ false ∷ false ∷ false ∷ false ∷ false ∷ []
unfolding heap_test
heap-tests = refl

-- Equal numbers stay: 4 is added below 4. Whole memory: the link to position 2 has its new node's tag, draw 6 of the second call.
equal-numbers : (after 2 (λ d. d) (add 4 ∷ add 4 ∷ [])).memory
    ≡ record {
      entries = 2;
      root = record { height = 1; key = 1; tag = 0 };
      ahead = record { key = 0; tag = 0 };
      nodes =
          record {
            key = 2;
            value = 4;
            tag = 6;
            left = record { height = 0; key = 0; tag = 0 };
            right = record { height = 0; key = 0; tag = 0 };
          }
          ∷ record {
            key = 1;
            value = 4;
            tag = 0;
            left = record { height = 1; key = 2; tag = 6 };
            right = record { height = 0; key = 0; tag = 0 };
          }
          ∷ [];
    }
unfolding after
equal-numbers = refl

-- ---- the queue

-- First in, first out; the third out finds none.
in-and-out : (after 2 zeros (enqueue 5 ∷ enqueue 6 ∷ dequeue ∷ dequeue ∷ dequeue ∷ [])).answers
    ≡ some queued ∷ some queued ∷ some (dequeued 5) ∷ some (dequeued 6) ∷ some empty ∷ []
unfolding after
in-and-out = refl

-- The whole memory after two ins whose tapes are 0 1 2 3: the first node has draw 1 as its tag, the second the tag drawn ahead by the
-- first; the newest's left link, to no node yet, carries the tag drawn ahead.
two_in : (after 2 (λ d. d) (enqueue 5 ∷ enqueue 6 ∷ [])).memory
    ≡ record {
      entries = 2;
      root = record { height = 1; key = 0; tag = 1 };
      ahead = record { key = 2; tag = 2 };
      nodes =
          record {
            key = 1;
            value = 6;
            tag = 2;
            left = record { height = 1; key = 2; tag = 2 };
            right = record { height = 0; key = 0; tag = 0 };
          }
          ∷ record {
            key = 0;
            value = 5;
            tag = 1;
            left = record { height = 1; key = 1; tag = 2 };
            right = record { height = 0; key = 0; tag = 0 };
          }
          ∷ [];
    }
unfolding after
two_in = refl

-- With the last one gone root link and tag drawn ahead are zero, and the next unused key stays.
emptied : (after 2 (λ d. d) (enqueue 5 ∷ dequeue ∷ [])).memory
    ≡ record { entries = 0; root = record { height = 0; key = 0; tag = 0 }; ahead = record { key = 1; tag = 0 }; nodes = [] }
unfolding after
emptied = refl

-- A full queue's in answers 10 and fetches none: the memory is as it was.
full-queue : (after 1 (λ d. d) (enqueue 5 ∷ enqueue 6 ∷ dequeue ∷ [])).answers ≡ some queued ∷ some full ∷ some (dequeued 5) ∷ []
unfolding after
full-queue = refl

full-queue-kept : (after 1 (λ d. d) (enqueue 5 ∷ enqueue 6 ∷ [])).memory ≡ (after 1 (λ d. d) (enqueue 5 ∷ [])).memory
unfolding after
full-queue-kept = refl

-- The plain queue of such calls.
plain-queue : plain_answers 2 (enqueue 3 ∷ enqueue 5 ∷ enqueue 9 ∷ dequeue ∷ dequeue ∷ dequeue ∷ []) []
    ≡ queued ∷ queued ∷ full ∷ dequeued 3 ∷ dequeued 5 ∷ empty ∷ []
unfolding plain_answers plain dequeued_from
plain-queue = refl

-- What the answers of such a queue with one place mean: the second in is the number 10, the out tells the value.
plain-queue-means : list.map answers.meaning (plain_answers 1 (enqueue 3 ∷ enqueue 5 ∷ dequeue ∷ []) [])
    ≡ record { number = 0; value = none; word = "queued" } ∷ record { number = 10; value = none; word = "refused" }
    ∷ record { number = 0; value = some 3; word = "dequeued" } ∷ []
unfolding plain_answers plain dequeued_from
plain-queue-means = refl

-- What a plain queue of 7 and 8 holds, as pairs, where the oldest has key 4.
queue-pairs : Entries queue (7 ∷ 8 ∷ []) (record { key = 4; value = 7 } ∷ record { key = 5; value = 8 } ∷ [])
unfolding in_row
queue-pairs = (4, perm.cons _ (perm.cons _ perm.nil))

-- The fetch test of key 1 passes a left link to key 2 and no right one. It refuses a right link, no link, a link to its own key or to
-- the one after the next, a link of another height.
queue-tests : list.map (queue_test (start (link_at 1 1)))
    (first (link_at 1 2) (node-spec.absent 0) ∷ first (link_at 1 2) (link_at 1 3) ∷ first (node-spec.absent 0) (node-spec.absent 0)
    ∷ first (link_at 1 1) (node-spec.absent 0) ∷ first (link_at 1 3) (node-spec.absent 0) ∷ first (link_at 2 2) (node-spec.absent 0) ∷ [])
    ≡ true ∷ false ∷ false ∷ false ∷ false ∷ false ∷ []
unfolding queue_test
queue-tests = refl

-- ---- the origin rule

-- In, in, out, out, out: the first out names the first node's draw 1, the second the draw 2 with which the first in drew ahead, the third
-- its own draw 0. Put rounds name draw 3.
queue-names : names (rounds queue 2) 2 (enqueue 5 ∷ enqueue 6 ∷ dequeue ∷ dequeue ∷ dequeue ∷ [])
    ≡ drawn 1 0 ∷ drawn 1 3 ∷ drawn 2 0 ∷ drawn 2 3 ∷ drawn 1 1 ∷ drawn 3 3 ∷ drawn 1 2 ∷ drawn 4 3 ∷ drawn 5 0 ∷ drawn 5 3 ∷ []
unfolding after
queue-names = refl

-- The third place of in, out: call 1, draw 1. After the queue has emptied, an in tags its node with its own draw 1 again.
refilled-names : names (rounds queue 2) 2 (enqueue 5 ∷ dequeue ∷ enqueue 6 ∷ dequeue ∷ [])
    ≡ drawn 1 0 ∷ drawn 1 3 ∷ drawn 1 1 ∷ drawn 2 3 ∷ drawn 3 0 ∷ drawn 3 3 ∷ drawn 3 1 ∷ drawn 4 3 ∷ []
unfolding after
refilled-names = refl

-- A take of three entries names the root, the last position, and then the left child: draws 6 of the calls that made them, but for
-- the root, which the second and the third add fetched: draw 0 of the third.
take-names : names (rounds heap 2) 2 (add 1 ∷ add 2 ∷ add 3 ∷ take ∷ [])
    ≡ drawn 1 0 ∷ drawn 1 1 ∷ drawn 1 2 ∷ drawn 1 3 ∷ drawn 1 4 ∷ drawn 1 5 ∷ drawn 1 7 ∷ drawn 1 8 ∷ drawn 1 9 ∷ drawn 1 10 ∷ drawn 1 11 ∷ drawn 1 12
    ∷ drawn 1 6 ∷ drawn 2 1 ∷ drawn 2 2 ∷ drawn 2 3 ∷ drawn 2 4 ∷ drawn 2 5 ∷ drawn 2 7 ∷ drawn 2 8 ∷ drawn 2 9 ∷ drawn 2 10 ∷ drawn 2 11 ∷ drawn 2 12
    ∷ drawn 2 0 ∷ drawn 3 1 ∷ drawn 3 2 ∷ drawn 3 3 ∷ drawn 3 4 ∷ drawn 3 5 ∷ drawn 3 7 ∷ drawn 3 8 ∷ drawn 3 9 ∷ drawn 3 10 ∷ drawn 3 11 ∷ drawn 3 12
    ∷ drawn 3 0 ∷ drawn 3 6 ∷ drawn 2 6 ∷ drawn 4 3 ∷ drawn 4 4 ∷ drawn 4 5 ∷ drawn 4 7 ∷ drawn 4 8 ∷ drawn 4 9 ∷ drawn 4 10 ∷ drawn 4 11 ∷ drawn 4 12 ∷ []
unfolding after
take-names = refl

-- Stack of size 2, push and pop: the third place is named call 1, draw 1.
pop-names : names (rounds stack 2) 2 (push 50 ∷ pop ∷ []) ≡ drawn 1 0 ∷ drawn 1 2 ∷ drawn 1 1 ∷ drawn 2 2 ∷ []
unfolding after
pop-names = refl

-- A push in its place: call 2, draw 0.
push-names : names (rounds stack 2) 2 (push 50 ∷ push 60 ∷ []) ≡ drawn 1 0 ∷ drawn 1 2 ∷ drawn 2 0 ∷ drawn 2 2 ∷ []
unfolding after
push-names = refl

-- The leaves of both, with the tapes 1 2 3 and 0 1 1.
pop-leaves : (leaf_run (rounds stack 2) 2 ((1 ∷ 2 ∷ 3 ∷ []) ∷ (0 ∷ 1 ∷ 1 ∷ []) ∷ []) (push 50 ∷ pop ∷ [])).revealed ≡ 1 ∷ 3 ∷ 2 ∷ 1 ∷ []
unfolding after
pop-leaves = refl

push-leaves : (leaf_run (rounds stack 2) 2 ((1 ∷ 2 ∷ 3 ∷ []) ∷ (0 ∷ 1 ∷ 1 ∷ []) ∷ []) (push 50 ∷ push 60 ∷ [])).revealed ≡ 1 ∷ 3 ∷ 0 ∷ 1 ∷ []
unfolding after
push-leaves = refl

-- Map of size 1, put 5 and get it twice: the first get names the new node's draw, and the second the draw that the first
-- get's fetch put there.
fetched-twice : names (rounds map 1) 1 (put 5 50 ∷ get 5 ∷ get 5 ∷ [])
    ≡ drawn 1 0 ∷ drawn 1 1 ∷ drawn 1 2 ∷ drawn 1 4 ∷ drawn 1 5 ∷ drawn 1 6
    ∷ drawn 1 3 ∷ drawn 2 1 ∷ drawn 2 2 ∷ drawn 2 4 ∷ drawn 2 5 ∷ drawn 2 6
    ∷ drawn 2 0 ∷ drawn 3 1 ∷ drawn 3 2 ∷ drawn 3 4 ∷ drawn 3 5 ∷ drawn 3 6 ∷ []
unfolding after
fetched-twice = refl
