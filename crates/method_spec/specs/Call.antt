-- One call of the method, and a list of calls, over any type of tags: F fetch rounds, the step, F put rounds. There are
-- no buckets, no waiting list and no bytes here: the nodes are a collection, found by key.
use Rattle.std.specs.Prelude.{ℕ, zero, suc, ◌+◌, ◌-◌, ◌^◌, Bool, List, [], ◌∷◌, ◌++◌, eqb}
use Rattle.std.proofs.Math.Option.{Option, none, some}
use Rattle.list_spec.specs.Choice.{pick}
use Rattle.method_spec.specs.Node.{Link, Node, Ahead, absent, none_ahead, retag}
use Rattle.method_spec.specs.Prog.{Want, Prog, done, want}
use Rattle.method_spec.specs.Answer.{Structure, map, stack, heap, queue, Op, get, put, remove, push, pop, add, take, enqueue, dequeue, Answer}
use Rattle.method_spec.specs.Rounds.{spare_draw, put_draw}
use Rattle.method_spec.specs.Outcome.{Outcome}
use Rattle.method_spec.specs.Map.{get_prog, put_prog, remove_prog, map_test}
use Rattle.method_spec.specs.Stack.{push_prog, pop_prog, stack_test}
use Rattle.method_spec.specs.Heap.{add_prog, take_prog, heap_test}
use Rattle.method_spec.specs.Queue.{enqueue_prog, enqueue_ahead, dequeue_prog, dequeue_ahead, queue_test}

-- At most 2^k - 1 entries.
abbrev pub capacity : ℕ → ℕ
capacity k = 2 ^ k - 1

module _ {T : Type 0} where
  -- The program of a ticket: for an absent link's tag, the spare draws, the capacity, the entries, what is known ahead and the root
  -- link. A new node's tag is the first spare draw, but for a queue with entries.
  unfoldable pub program : {s : Structure} (nil : T) → Op s → (spares : ℕ → T) → (limit entries : ℕ) → Ahead T → Link T → Prog T (Outcome T)
  program nil (get key) spares limit entries a l = get_prog key entries l
  program nil (put key value) spares limit entries a l = put_prog nil key value (spares 0) entries limit l
  program nil (remove key) spares limit entries a l = remove_prog key entries l
  program nil (push value) spares limit entries a l = push_prog nil value (spares 0) entries limit l
  program nil pop spares limit entries a l = pop_prog entries l
  program nil (add value) spares limit entries a l = add_prog nil value (spares 0) entries limit l
  program nil take spares limit entries a l = take_prog nil entries l
  program nil (enqueue value) spares limit entries a l = enqueue_prog nil value (spares 0) (spares 1) entries limit a l
  program nil dequeue spares limit entries a l = dequeue_prog nil entries l

  -- What is known ahead after the step. It does not depend on the nodes that were fetched.
  unfoldable pub ahead_after : {s : Structure} (nil : T) → Op s → (spares : ℕ → T) → (limit entries : ℕ) → Ahead T → Ahead T
  ahead_after nil (get key) spares limit entries a = a
  ahead_after nil (put key value) spares limit entries a = a
  ahead_after nil (remove key) spares limit entries a = a
  ahead_after nil (push value) spares limit entries a = a
  ahead_after nil pop spares limit entries a = a
  ahead_after nil (add value) spares limit entries a = a
  ahead_after nil take spares limit entries a = a
  ahead_after nil (enqueue value) spares limit entries a = enqueue_ahead (spares 1) entries limit a
  ahead_after nil dequeue spares limit entries a = dequeue_ahead nil entries a

  -- The fetch tests of a structure, for a store that has so many entries as the call starts.
  unfoldable pub test : Structure → (entries : ℕ) → Want T → Node T → Bool
  test map entries w n = map_test w n
  test stack entries w n = stack_test w n
  test heap entries w n = heap_test entries w n
  test queue entries w n = queue_test w n

-- The entries, the root link, what is known ahead and the nodes.
pub record Memory (T : Type 0) : Type 0 where
  pub entries : ℕ
  pub root : Link T
  pub ahead : Ahead T
  pub nodes : List (Node T)

unfoldable pub empty_memory : {T : Type 0} → T → Memory T
empty_memory nil = record { entries = 0; root = absent nil; ahead = none_ahead nil; nodes = [] }

-- A node taken out of a collection.
pub record Taken (T : Type 0) : Type 0 where
  pub node : Node T
  pub others : List (Node T)

-- Where a call stands after some of its fetch rounds: the program, the nodes not fetched, and the tags revealed.
pub record Fetched (T A : Type 0) : Type 0 where
  pub prog : Prog T A
  pub nodes : List (Node T)
  pub revealed : List T

pub record Called (T : Type 0) : Type 0 where
  pub memory : Memory T
  -- none: a link led to no node, or the walk was longer than the fetch rounds. From the empty structure that never is.
  pub answer : Option Answer
  pub revealed : List T

module _ {T : Type 0} where
  abbrev pub keep_first : Node T → Option (Taken T) → Option (Taken T)
  keep_first n none = none
  keep_first n (some t) = some (record { node = t.node; others = n ∷ t.others })

  -- The node with a key, and the others.
  unfoldable pub take_key : ℕ → List (Node T) → Option (Taken T)
  take_key key [] = none
  take_key key (n ∷ ns) =
      pick (eqb key n.key) (some (record { node = n; others = ns })) (keep_first n (take_key key ns))

  abbrev pub left_over : List (Node T) → Option (Taken T) → List (Node T)
  left_over ns none = ns
  left_over ns (some m) = m.others

  module _ {A : Type 0} where
    abbrev pub revealing : T → Fetched T A → Fetched T A
    revealing t f = record { prog = f.prog; nodes = f.nodes; revealed = t ∷ f.revealed }

    -- The program that goes on with a node under its new tag, where there is one.
    abbrev pub given : T → Prog T A → (Node T → Prog T A) → Option (Taken T) → Prog T A
    given t p k none = p
    given t p k (some m) = k (retag t m.node)

    -- n fetch rounds from round i. One that wants a node reveals the tag of the link to it, and the draw becomes the node's
    -- tag; one that wants none reveals its draw.
    unfoldable pub fetches : (draw : ℕ → T) → (n i : ℕ) → Prog T A → List (Node T) → Fetched T A
    fetches draw zero i p ns = record { prog = p; nodes = ns; revealed = [] }
    fetches draw (suc n) i (done a) ns = revealing (draw i) (fetches draw n (suc i) (done a) ns)
    fetches draw (suc n) i (want w k) ns =
        revealing w.link.tag
        (fetches draw n (suc i) (given (draw i) (want w k) k (take_key w.link.key ns))
        (left_over ns (take_key w.link.key ns)))

  -- n draws from draw d: what put rounds reveal.
  unfoldable pub draws_from : (draw : ℕ → T) → (n d : ℕ) → List T
  draws_from draw zero d = []
  draws_from draw (suc n) d = draw d ∷ draws_from draw n (suc d)

  -- The memory after the step, with what is known ahead then.
  unfoldable pub stepped : Memory T → Ahead T → List (Node T) → Prog T (Outcome T) → Memory T
  stepped m a ns (done o) =
      record { entries = o.entries; root = o.root; ahead = a; nodes = o.nodes ++ ns }
  stepped m a ns (want w k) = record { entries = m.entries; root = m.root; ahead = m.ahead; nodes = ns }

  unfoldable pub answered : Prog T (Outcome T) → Option Answer
  answered (done o) = some o.answer
  answered (want w k) = none

  -- The spare draws of a call with so many fetch rounds.
  abbrev pub spare_tags : (rounds : ℕ) → (draw : ℕ → T) → ℕ → T
  spare_tags rounds draw i = draw (spare_draw rounds i)

  -- One call with F fetch and F put rounds. Fetch round i uses draw i; which draws are spare and which one a put round uses,
  -- see Rounds.
  unfoldable pub call : {s : Structure} (nil : T) → (rounds limit : ℕ) → Op s → (draw : ℕ → T) → Memory T → Called T
  call {s} nil rounds limit op draw m =
      let spares = spare_tags rounds draw in
      let f = fetches draw rounds 0 (program nil op spares limit m.entries m.ahead m.root) m.nodes in
      record {
        memory = stepped m (ahead_after nil op spares limit m.entries m.ahead) f.nodes f.prog;
        answer = answered f.prog;
        revealed = f.revealed ++ draws_from draw rounds (put_draw s rounds 0);
      }

-- A list of calls, numbered from c: the answers, all that was revealed, and what is left.
pub record Ran (T : Type 0) : Type 0 where
  pub answers : List (Option Answer)
  pub revealed : List T
  pub memory : Memory T

module _ {T : Type 0} where
  abbrev pub and_then : Called T → Ran T → Ran T
  and_then r q =
      record { answers = r.answer ∷ q.answers; revealed = r.revealed ++ q.revealed; memory = q.memory }

  unfoldable pub run : {s : Structure} (nil : T) → (rounds limit : ℕ) → (draw : ℕ → ℕ → T) → (c : ℕ) → List (Op s) → Memory T → Ran T
  run nil rounds limit draw c [] m = record { answers = []; revealed = []; memory = m }
  run nil rounds limit draw c (op ∷ ops) m =
      let r = call nil rounds limit op (draw c) m in
      and_then r (run nil rounds limit draw (suc c) ops r.memory)
