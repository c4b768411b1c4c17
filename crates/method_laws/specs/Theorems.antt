-- The theorems of the method: of every structure, size and type of tags, for every list of calls from the empty structure.
use Rattle.std.specs.Prelude.{◌≡◌, refl, Bool, true, List, [], ◌++◌, map, ℕ, suc, ◌+◌, ◌*◌, ◌≤◌, ◌<◌, length, get_or}
use Rattle.std.proofs.Common.{sym, ◌∙◌, ap, arith}
use Rattle.std.proofs.lemmas.List.{map-append}
use Rattle.std.proofs.Math.Option.{some}
use Rattle.list_spec.specs.Perm.{Perm, trans}
use Rattle.list_laws.specs.PermLaws.{perm-of-eq, perm-map}
use Rattle.list_spec.specs.Distinct.{Distinct, All}
use Rattle.list_laws.specs.DistinctLaws.{distinct-left}
use Rattle.balance_spec.specs.Tree.{height, size}
use Rattle.balance_spec.specs.Shape.{shaped}
use Rattle.balance_spec.specs.Greatest.{greatest}
use Rattle.method_spec.specs.Node.{Node, none_ahead}
use Rattle.method_spec.specs.Prog.{Want, Prog}
use Rattle.method_spec.specs.Outcome.{Outcome}
use Rattle.method_spec.specs.Answer as answer
use Rattle.method_spec.specs.Answer.{Structure, stack, heap, queue, Op}
use Rattle.method_spec.specs.Plain.{Pair, Contents, nothing, plain_contents, plain_answers}
use Rattle.method_spec.specs.Rounds.{rounds, draws}
use Rattle.method_spec.specs.Call.{capacity, program, test, Memory, empty_memory, run, Ran}
use Rattle.method_spec.specs.Origin.{Origin, no_draw, drawn, origins, names, leaf_of, leaf_run}
use Rattle.run_laws.specs.Safe.{Safe, Within}
use Rattle.run_laws.specs.SafeLaws.{safe-map}
use Rattle.run_laws.specs.Fetches.{keys, safe-distinct}
use Rattle.run_laws.specs.Natural.{map_ran}
use Rattle.run_laws.specs.Leaves.{run-mapped, leaves, leaves-revealed, leaf-get_d}
use Rattle.run_laws.specs.Answers.{run-answers, represents-keeps}
use Rattle.run_laws.specs.Calls.{Keeps}
use Rattle.run_laws.specs.Origins.{OnTape, names-count, names-prefix, names-once, names-on-tapes, name-at}
use Rattle.run_laws.specs.StackRepresents.{HoldsStack, chain-countdown, cells-counted}
use Rattle.method_spec.specs.HeapShape.{HeapShape, countdown}
use Rattle.heap_laws.specs.HeapFacts.{heap-keys}
use Rattle.method_spec.specs.QueueShape.{QueueShape}
use Rattle.queue_laws.specs.QueueRepresents as queue
use Rattle.avl_laws.specs.Search.{Holds}
use Rattle.avl_laws.specs.Holds.{holds-height, holds-entries}
use Rattle.method_laws.specs.MapRepresents.{holds-low, holds-shaped}
use Rattle.method_laws.specs.Represented.{Held, represents, held-empty, held_fits}
use Rattle.method_laws.specs.Links.{all_links, link_for, links_ahead, one_link}

-- The map's memory: a balanced search tree of as many nodes as there are entries, no higher than H, whose root link says its
-- true height, one that the fitness test accepts.
pub record MapShape {T : Type 0} (nil : T) (k : ℕ) (table : List Pair) (m : Memory T) : Type 0 where
  pub holds : Holds nil (capacity k) table m
  pub counted : m.entries ≡ size holds.tree
  pub true-height : m.root.height ≡ height holds.tree
  pub low : m.root.height ≤ greatest k
  pub fit : shaped m.entries m.root.height ≡ true

-- The stack's memory: a chain of nodes with the keys entries, entries - 1, .., 1.
pub record StackShape {T : Type 0} (nil : T) (k : ℕ) (values : List ℕ) (m : Memory T) : Type 0 where
  pub holds : HoldsStack nil (capacity k) values m
  pub numbered : Perm (keys m.nodes) (countdown m.entries)

module _ {T : Type 0} (nil : T) (k : ℕ) (draw : ℕ → ℕ → T) where
  -- A list of calls on an empty store of size k, with these draws.
  abbrev pub ran : {s : Structure} → List (Op s) → Ran T
  ran {s} ops = run nil (rounds s k) (capacity k) draw 1 ops (empty_memory nil)

  -- ---- 1. Answers

  -- Every answer is the plain machine's.
  pub answers : {s : Structure} (ops : List (Op s))
      → (ran ops).answers ≡ map some (plain_answers (capacity k) ops (nothing s))
  answers {s} ops = (run-answers (represents nil s k) draw 1 ops (nothing s) (empty_memory nil) (held-empty nil s (capacity k))).0

  -- ---- 2. Shape

  -- The memory holds what the plain machine holds.
  pub held : {s : Structure} (ops : List (Op s))
      → Held nil s (capacity k) (plain_contents (capacity k) ops (nothing s)) (ran ops).memory
  held {s} ops = (run-answers (represents nil s k) draw 1 ops (nothing s) (empty_memory nil) (held-empty nil s (capacity k))).1

  pub map-shape : (ops : List (Op answer.map)) → MapShape nil k (plain_contents (capacity k) ops (nothing answer.map)) (ran ops).memory
  map-shape ops =
      let h = (held ops).0 in
      record {
        holds = h;
        counted = holds-entries h;
        true-height = holds-height h;
        low = holds-low k h;
        fit = holds-shaped h;
      }

  pub stack-shape : (ops : List (Op stack)) → StackShape nil k (plain_contents (capacity k) ops (nothing stack)) (ran ops).memory
  stack-shape ops =
      let h = (held ops).0 in
      record {
        holds = h;
        numbered =
            trans (perm-map (λ (n : Node T). n.key) h.there)
            (perm-of-eq (chain-countdown nil h.cells ∙ ap countdown (sym (cells-counted nil (capacity k) _ _ h))));
      }

  pub heap-shape : (ops : List (Op heap)) → HeapShape nil k (plain_contents (capacity k) ops (nothing heap)) (ran ops).memory
  heap-shape ops = let h = (held ops).0 in record { holds = h; numbered = heap-keys nil h }

  pub queue-shape : (ops : List (Op queue)) → QueueShape nil k (plain_contents (capacity k) ops (nothing queue)) (ran ops).memory
  queue-shape ops =
      let h = held ops in
      record { holds = h; numbered = h.in-row ∙ ap (λ (n : ℕ). h.first + n) (sym (queue.cells-counted nil (capacity k) _ _ h)) }

  -- Only a queue knows anything ahead.
  pub none_ahead_lem : (s : Structure) → (s ≡ queue → ⊥) → (ops : List (Op s)) → (ran ops).memory.ahead ≡ none_ahead nil
  none_ahead_lem answer.map other ops = (held ops).1
  none_ahead_lem stack other ops = (held ops).1
  none_ahead_lem heap other ops = (held ops).1
  none_ahead_lem queue other ops = absurd (other refl)

  -- Each node has one link to it, with its key, its tag and its height, and there is no other link but a queue's to the next node.
  pub one-link-each : {s : Structure} (ops : List (Op s))
      → Perm (all_links (ran ops).memory)
      (links_ahead s (ran ops).memory.entries (ran ops).memory.ahead ++ map (link_for s) (ran ops).memory.nodes)
  one-link-each {s} ops = one_link nil s (capacity k) _ (ran ops).memory (held ops)

  -- The entries never pass 2^k - 1.
  pub entries_fit : {s : Structure} (ops : List (Op s)) → (ran ops).memory.entries ≤ capacity k
  entries_fit {s} ops = held_fits nil s (capacity k) _ (ran ops).memory (held ops)

  -- ---- 3. Enough rounds

  -- The program of one more call, on the memory that the calls left.
  abbrev pub next_program : {s : Structure} → List (Op s) → Op s → (spares : ℕ → T) → Prog T (Outcome T)
  next_program ops op spares = program nil op spares (capacity k) (ran ops).memory.entries (ran ops).memory.ahead (ran ops).memory.root

  -- The fetch tests of that call.
  abbrev pub next_test : {s : Structure} → List (Op s) → Want T → Node T → Bool
  next_test {s} ops = test s (ran ops).memory.entries

  -- It never wants more than F nodes.
  pub enough-rounds : {s : Structure} (ops : List (Op s)) (op : Op s) (spares : ℕ → T)
      → Within (next_test ops) (rounds s k) (next_program ops op spares)
  enough-rounds {s} ops op spares = (represents nil s k).within _ (ran ops).memory (held ops) op spares

  -- Every wanted node is there, under its link's key and tag, and passes the fetch tests; none is fetched twice.
  pub wanted-nodes : {s : Structure} (ops : List (Op s)) (op : Op s) (spares : ℕ → T)
      → Safe (next_test ops) (λ o fetched others. Distinct (keys fetched)) (next_program ops op spares) [] (ran ops).memory.nodes
  wanted-nodes {s} ops op spares =
      safe-map (λ o fetched others h. distinct-left (keys fetched) (keys others) (rw map-append at h.1))
      (safe-distinct ((represents nil s k).distinct-keys _ (ran ops).memory (held ops))
      ((represents nil s k).safe _ (ran ops).memory (held ops) op spares))

-- ---- 4. The same at every tag

-- A run over tags, and then a function on them, is the run over what the function gives.
pub same-at-every-tag : {T S : Type 0} (f : T → S) (nil : T) (k : ℕ) (draw : ℕ → ℕ → T) {s : Structure} (ops : List (Op s))
    → ran (f nil) k (λ c d. f (draw c d)) ops ≡ map_ran f (ran nil k draw ops)
same-at-every-tag f nil k draw {s} ops = run-mapped f nil (rounds s k) (capacity k) draw ops

module _ {s : Structure} (k : ℕ) where
  -- Running at origins and then taking leaves is running at leaves.
  pub leaves-of-origins : (tapes : List (List ℕ)) (ops : List (Op s))
      → leaf_run (rounds s k) k tapes ops ≡ map_ran (leaf_of k tapes) (origins (rounds s k) k ops)
  leaves-of-origins tapes ops = leaves (rounds s k) k tapes ops

  -- The leaf revealed at each place is the leaf of the draw that the origin rule names there.
  pub leaf-at : (tapes : List (List ℕ)) (ops : List (Op s)) (place : ℕ)
      → get_or (leaf_run (rounds s k) k tapes ops).revealed place 0 ≡ leaf_of k tapes (get_or (names (rounds s k) k ops) place no_draw)
  leaf-at tapes ops place =
      rw (leaves-revealed (rounds s k) k tapes ops) (leaf-get_d k tapes (names (rounds s k) k ops) place)

-- ---- 5. Named once

-- A draw of one of the calls 1 to n, where each call has so many.
pub record DrawOf (count n : ℕ) (o : Origin) : Type 0 where
  pub numbered : 1 ≤ o.call
  pub of-the-list : o.call ≤ n
  pub used : o.draw < count

draw-of : (count n : ℕ) (o : Origin) → OnTape count 1 n o → DrawOf count n o
draw-of count n o on = record { numbered = on.0; of-the-list = omega arith; used = on.2 }

module _ {s : Structure} (k : ℕ) where
  -- Each call names 2F draws, one for each of its places.
  pub names-counted : (ops : List (Op s)) → length (names (rounds s k) k ops) ≡ length ops * (2 * rounds s k)
  names-counted ops = names-count (rounds s k) k ops

  -- In order: later calls name after those before them.
  pub names-in-order : (ops later : List (Op s))
      → (more : List Origin) × (names (rounds s k) k (ops ++ later) ≡ names (rounds s k) k ops ++ more)
  names-in-order ops later = names-prefix (rounds s k) k ops later

  keeps : Keeps s no_draw (rounds s k) (capacity k) (λ m. (t : Contents s) × Held no_draw s (capacity k) t m)
  keeps = represents-keeps (represents no_draw s k)

  -- No draw is named twice.
  pub named-once : (ops : List (Op s)) → Distinct (names (rounds s k) k ops)
  named-once = names-once k keeps (nothing s, held-empty no_draw s (capacity k))

  -- Each name is a draw of a call of the list.
  pub named-draws : (ops : List (Op s)) → All (DrawOf (draws s k) (length ops)) (names (rounds s k) k ops)
  named-draws ops o i =
      draw-of (draws s k) (length ops) o (names-on-tapes k keeps (nothing s, held-empty no_draw s (capacity k)) ops o i)

  -- At the places of call c + 1, a draw of that call or of an earlier one.
  pub named-at : (ops : List (Op s)) (c j : ℕ) → c < length ops → j < 2 * rounds s k
      → DrawOf (draws s k) (suc c) (get_or (names (rounds s k) k ops) (c * (2 * rounds s k) + j) no_draw)
  named-at ops c j before place =
      draw-of (draws s k) (suc c) _ (name-at k keeps (nothing s, held-empty no_draw s (capacity k)) ops c j before place)

  -- ---- 6. Tickets only

  -- The names are made from the tickets: `names` is given no tape and no answer. So the same tickets have the same names.
  pub tickets-only : (xs ys : List (Op s)) → xs ≡ ys → names (rounds s k) k xs ≡ names (rounds s k) k ys
  tickets-only xs ys e = ap (names (rounds s k) k) e
