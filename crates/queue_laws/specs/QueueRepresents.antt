-- The queue's memories hold a row, which every in and out keeps, with the plain queue's answers.
use Rattle.std.specs.Prelude.{◌≡◌, eqb}
use Rattle.std.proofs.Math.Path.{refl, ap}
use Rattle.std.proofs.Common.{sym, ◌∙◌, length-append}
use Rattle.std.proofs.Math.Bool.{true, false}
use mathlib.Core.List.{List, [], ◌∷◌, ◌++◌, map, map-append, append-nil}
use Prim.Native.Nat.{ℕ, suc, ◌+◌, ◌≤◌, ◌<◌}
use native.Mathlib.Omega.{arith}
use Rattle.std.proofs.Math.Dec.{ltb}
use Rattle.std.proofs.Math.ListN.{length, length-map}
use borrow.Author.Tests.{ne_eqb, ltb-true}
use Rattle.list_spec.specs.Choice.{pick}
use Rattle.list_spec.specs.Perm.{Perm, cons, swap, trans}
use Rattle.list_laws.specs.PermLaws.{perm-refl, perm-sym, perm-map, perm-of-eq, perm_append_comm}
use Rattle.list_laws.specs.DistinctLaws.{distinct-perm}
use Rattle.method_spec.specs.Node.{Node, Link, Ahead, absent, link_one, retag, Cell}
use Rattle.method_spec.specs.Answer.{queue, Op, enqueue, dequeue, queued, dequeued, empty, full}
use Rattle.method_spec.specs.Plain.{plain, dequeued_from}
use Rattle.method_spec.specs.Outcome.{Outcome}
use Rattle.method_spec.specs.Prog.{start}
use Rattle.method_spec.specs.Queue.{next_ahead, newest, enqueue_prog, enqueue_ahead, dequeue_prog, dequeue_ahead, queue_test}
use Rattle.method_spec.specs.Rounds.{spare}
use Rattle.method_spec.specs.Call.{program, ahead_after, test, Memory, empty_memory, draws_from}
use Rattle.run_laws.specs.Safe.{Safe, ends, meets}
use Rattle.run_laws.specs.SafeLaws.{safe-pick, within_more}
use Rattle.run_laws.specs.EnoughRounds.{program-within}
use Rattle.run_laws.specs.Calls.{memory_of, ahead_tags, given_tags}
use Rattle.run_laws.specs.Answers.{StepsTo, Represents}
use Rattle.method_spec.specs.QueueShape.{row_link, row_node, row, HoldsQueue}
use Rattle.queue_laws.specs.QueueRow.{row_more, row-distinct, row-passes}

module _ {T : Type 0} (nil : T) (limit : ℕ) where
  abbrev Holds : List ℕ → Memory T → Type 0
  Holds = HoldsQueue nil limit

  abbrev values_of : List (Cell T) → List ℕ
  values_of cells = map (λ (c : Cell T). c.value) cells

  pub cells-counted : (vs : List ℕ) (m : Memory T) (h : Holds vs m) → m.entries ≡ length h.cells
  cells-counted vs m h = h.counted ∙ sym (ap length h.values) ∙ length-map h.cells (λ (c : Cell T). c.value)

  -- ---- in
  module _ (value : ℕ) (draw1 draw2 : T) (m : Memory T) where
    abbrev given : ℕ → List T
    given entries = ahead_tags queue entries m.ahead ++ (draw1 ∷ draw2 ∷ [])

    -- The new node is the last of the row.
    abbrev cell : T → Cell T
    cell tag = record { value = value; tag = tag }

    abbrev storing : T → Link T → ℕ → Outcome T
    storing tag l entries =
        record { nodes = row_node nil m.ahead.key (cell tag) draw2 ∷ []; root = l; entries = suc entries; answer = queued }

    -- A row with one cell more.
    one_more : (first : ℕ) (cells : List (Cell T)) (tag : T) (l : Link T) → m.ahead.key ≡ first + length cells
        → l ≡ row_link nil first (cells ++ (cell tag ∷ [])) → Perm m.nodes (row nil first cells tag) → length cells < limit
        → Holds (values_of cells ++ (value ∷ [])) (memory_of (next_ahead draw2 m.ahead) (storing tag l (length cells)) m.nodes)
    one_more first cells tag l keyed rooted there room =
        let many = length-append cells (cell tag ∷ []) in
        let values = map-append (λ (c : Cell T). c.value) cells (cell tag ∷ []) in
        let total : length (values_of cells ++ (value ∷ [])) ≡ suc (length cells) =
        ap length (sym values) ∙ length-map (cells ++ (cell tag ∷ [])) (λ (c : Cell T). c.value) ∙ omega arith in
        record {
          first = first;
          cells = cells ++ (cell tag ∷ []);
          values = values;
          counted = sym total;
          in-row = omega arith;
          rooted = rooted;
          there =
              rw (row_more nil first cells (cell tag) draw2, keyed)
              (trans (cons (row_node nil (first + length cells) (cell tag) draw2) there)
              (perm_append_comm (row_node nil (first + length cells) (cell tag) draw2 ∷ []) (row nil first cells tag)));
          none-drawn = λ (e : suc (length cells) ≡ 0). let z : ⊥ = omega arith in absurd z;
          fits = omega arith;
        }

    in-room : (first : ℕ) (cells : List (Cell T)) → m.entries ≡ length cells → m.ahead.key ≡ first + length cells
        → m.root ≡ row_link nil first cells → Perm m.nodes (row nil first cells m.ahead.tag) → ltb m.entries limit ≡ true
        → StepsTo Holds (plain limit (enqueue value) (values_of cells)) (given m.entries) (enqueue_ahead draw2 m.entries limit m.ahead)
        (let n = newest nil value draw1 draw2 m.entries m.ahead in
        record { nodes = n ∷ []; root = pick (eqb m.entries 0) (link_one n) m.root; entries = suc m.entries; answer = queued })
        [] m.nodes
    unfolding plain enqueue_ahead row_link row
    in-room first [] counted keyed rooted there room =
        let small : ltb 0 limit ≡ true = rw counted at room in
        rw (room, counted)
        (record {
          contents = rw small (one_more m.ahead.key [] draw1 (record { height = 1; key = m.ahead.key; tag = draw1 }) (omega arith) refl there (ltb-true 0 limit small));
          answers = rw small;
          retagged = record { dropped = []; among = perm-refl (draw1 ∷ draw2 ∷ []) };
        })
    in-room first (c ∷ cells) counted keyed rooted there room =
        let all = c ∷ cells in
        let small : ltb (length all) limit ≡ true = rw counted at room in
        let same : length (values_of all) ≡ length all = length-map all (λ (b : Cell T). b.value) in
        rw (room, counted, ne_eqb (suc (length cells)) 0 (λ (e : suc (length cells) ≡ 0). omega arith))
        (record {
          contents = rw (same, small) (one_more first all m.ahead.tag m.root keyed rooted there (ltb-true (length all) limit small));
          answers = rw (same, small);
          retagged = record { dropped = draw1 ∷ []; among = cons m.ahead.tag (swap draw1 draw2 []) };
        })

    in-full : (vs : List ℕ) → Holds vs m → ltb m.entries limit ≡ false
        → StepsTo Holds (plain limit (enqueue value) vs) (given m.entries) (enqueue_ahead draw2 m.entries limit m.ahead)
        (record { nodes = []; root = m.root; entries = m.entries; answer = full }) [] m.nodes
    unfolding plain enqueue_ahead
    in-full vs h room =
        let same : ltb (length vs) limit ≡ false = ap (λ (n : ℕ). ltb n limit) (sym h.counted) ∙ room in
        record {
          contents = rw (same, room) h;
          answers = rw same;
          retagged = record { dropped = draw1 ∷ draw2 ∷ []; among = rw room (perm-of-eq (append-nil (given m.entries))) };
        }

    in-safe : (vs : List ℕ) → Holds vs m
        → Safe queue_test (StepsTo Holds (plain limit (enqueue value) vs) (given m.entries) (enqueue_ahead draw2 m.entries limit m.ahead))
        (enqueue_prog nil value draw1 draw2 m.entries limit m.ahead m.root) [] m.nodes
    unfolding enqueue_prog
    in-safe vs h =
        let counted : m.entries ≡ length h.cells = cells-counted vs m h in
        safe-pick (ltb m.entries limit)
        (λ room. ends (rw (← h.values) (in-room h.first h.cells counted h.in-row h.rooted h.there room)))
        (λ room. ends (in-full vs h room))

  -- ---- out
  module _ (draw1 draw2 : T) where
    abbrev ready : Ahead T → List T
    ready a = a.tag ∷ draw1 ∷ draw2 ∷ []

    out-empty : (m : Memory T) → m.entries ≡ 0 → Holds [] m
        → StepsTo Holds (plain limit dequeue []) (draw1 ∷ draw2 ∷ []) (dequeue_ahead nil 0 m.ahead)
        (record { nodes = []; root = m.root; entries = 0; answer = empty }) [] m.nodes
    unfolding plain dequeued_from dequeue_ahead
    out-empty m none h =
        record {
          contents = rw none at h;
          answers = refl;
          retagged = record { dropped = draw1 ∷ draw2 ∷ []; among = perm-refl (draw1 ∷ draw2 ∷ []) };
        }

    -- The only one: nothing is left but the next unused key.
    out-last : (a : Ahead T) (d : T) (c : Cell T) (first : ℕ)
        → StepsTo Holds (plain limit dequeue (c.value ∷ [])) (ready a) (dequeue_ahead nil 1 a)
        (record { nodes = []; root = absent nil; entries = 0; answer = dequeued c.value }) (retag d (row_node nil first c a.tag) ∷ []) []
    unfolding plain dequeued_from dequeue_ahead row_link row
    out-last a d c first =
        record {
          contents =
              record {
                first = a.key;
                cells = [];
                values = refl;
                counted = refl;
                in-row = omega arith;
                rooted = refl;
                there = perm-refl [];
                none-drawn = λ e. refl;
                fits = omega arith;
              };
          answers = refl;
          retagged = record { dropped = ready a ++ (d ∷ []); among = perm-refl (ready a ++ (d ∷ [])) };
        }

    -- One of several: the next is the oldest then.
    out_first : (a : Ahead T) (d : T) (c b : Cell T) (cells : List (Cell T)) (first : ℕ) → a.key ≡ suc first + suc (length cells)
        → suc (suc (length cells)) ≤ limit
        → StepsTo Holds (plain limit dequeue (c.value ∷ b.value ∷ values_of cells)) (ready a) a
        (record { nodes = []; root = row_link nil (suc first) (b ∷ cells); entries = suc (length cells); answer = dequeued c.value })
        (retag d (row_node nil first c b.tag) ∷ []) (row nil (suc first) (b ∷ cells) a.tag)
    unfolding plain dequeued_from
    out_first a d c b cells first keyed fits =
        let same = length-map cells (λ (x : Cell T). x.value) in
        record {
          contents =
              record {
                first = suc first;
                cells = b ∷ cells;
                values = refl;
                counted = omega arith;
                in-row = keyed;
                rooted = refl;
                there = perm-refl (row nil (suc first) (b ∷ cells) a.tag);
                none-drawn = λ (e : suc (length cells) ≡ 0). let z : ⊥ = omega arith in absurd z;
                fits = omega arith;
              };
          answers = refl;
          retagged = record { dropped = draw1 ∷ draw2 ∷ d ∷ []; among = perm-refl (a.tag ∷ draw1 ∷ draw2 ∷ d ∷ []) };
        }

    out-safe : (first : ℕ) (cells : List (Cell T)) (m : Memory T) → Holds (values_of cells) m → m.entries ≡ length cells → m.ahead.key ≡ first + length cells
        → m.root ≡ row_link nil first cells → Perm m.nodes (row nil first cells m.ahead.tag) → length cells ≤ limit
        → Safe queue_test
        (StepsTo Holds (plain limit dequeue (values_of cells)) (ahead_tags queue m.entries m.ahead ++ (draw1 ∷ draw2 ∷ [])) (dequeue_ahead nil m.entries m.ahead))
        (dequeue_prog nil m.entries m.root) [] m.nodes
    unfolding dequeue_prog dequeue_ahead row_link row
    out-safe first [] m h counted keyed rooted there fits = rw counted (ends (out-empty m counted h))
    out-safe first (c ∷ []) m h counted keyed rooted there fits =
        rw (counted, rooted)
        (meets (row_node nil first c m.ahead.tag) [] there refl refl (row-passes nil (start (row_link nil first (c ∷ []))) first c m.ahead.tag)
        (λ d. ends (out-last m.ahead d c first)))
    out-safe first (c ∷ b ∷ cells) m h counted keyed rooted there fits =
        let n = suc (suc (length cells)) in
        rw (
          counted,
          rooted,
          ne_eqb n 0 (λ (e : n ≡ 0). omega arith),
          ne_eqb n 1 (λ (e : n ≡ 1). omega arith),
        )
        (meets (row_node nil first c b.tag) (row nil (suc first) (b ∷ cells) m.ahead.tag) there refl refl
        (row-passes nil (start (row_link nil first (c ∷ b ∷ cells))) first c b.tag)
        (λ d. ends (out_first m.ahead d c b cells first (omega arith) fits)))

  -- ---- what the queue supplies
  pub queue-represents : (rounds : ℕ) → 1 ≤ rounds → Represents queue nil rounds limit Holds
  unfolding program ahead_after test spare draws_from
  queue-represents rounds enough =
      record {
        unordered = λ vs entries root a xs ys p h. record {
          first = h.first;
          cells = h.cells;
          values = h.values;
          counted = h.counted;
          in-row = h.in-row;
          rooted = h.rooted;
          there = trans (perm-sym p) h.there;
          none-drawn = h.none-drawn;
          fits = h.fits;
        };
        distinct-keys = λ vs m h.
            distinct-perm (perm-map (λ (n : Node T). n.key) (perm-sym h.there)) (row-distinct nil h.first h.cells m.ahead.tag);
        within = λ vs m h op spares. within_more enough (program-within nil op spares limit m.entries m.ahead m.root);
        safe = λ vs m h. safe-step vs m h;
      }
    where
      safe-step : (vs : List ℕ) (m : Memory T) → Holds vs m → (op : Op queue) (spares : ℕ → T)
          → Safe (test queue m.entries) (StepsTo Holds (plain limit op vs) (given_tags queue m spares) (ahead_after nil op spares limit m.entries m.ahead))
          (program nil op spares limit m.entries m.ahead m.root) [] m.nodes
      safe-step vs m h (enqueue value) spares = in-safe value (spares 0) (spares 1) m vs h
      safe-step vs m h dequeue spares =
          let counted : m.entries ≡ length h.cells = cells-counted vs m h in
          let fits = h.fits in
          let total = h.counted in
          rw (← h.values)
          (out-safe (spares 0) (spares 1) h.first h.cells m (rw h.values h) counted h.in-row h.rooted h.there (omega arith))

  pub empty-queue : Holds [] (empty_memory nil)
  unfolding empty_memory row_link row
  empty-queue =
      record {
        first = 0;
        cells = [];
        values = refl;
        counted = refl;
        in-row = refl;
        rooted = refl;
        there = perm-refl [];
        none-drawn = λ e. refl;
        fits = omega arith;
      }
