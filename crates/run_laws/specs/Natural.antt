-- Naturality in the tags: two programs that do the same up to a function on tags have runs that are the same up to it.
use Rattle.std.specs.Prelude.{◌≡◌, Bool, eqb, ltb}
use Rattle.std.proofs.Math.Path.{refl, ap}
use Rattle.std.proofs.Common.{◌∙◌}
use Rattle.std.proofs.Math.Bool.{true, false}
use mathlib.Core.List.{List, [], ◌∷◌, map, map-append}
use Rattle.std.proofs.Math.Option
use Rattle.std.proofs.Math.Option.{Option, none, some}
use Prim.Native.Nat.{ℕ, zero, suc}
use Rattle.list_spec.specs.Choice.{pick}
use Rattle.method_spec.specs.Node.{Node, Link, Ahead, retag}
use Rattle.method_spec.specs.Prog.{Want, Prog, done, want, bind}
use Rattle.method_spec.specs.Answer as answer
use Rattle.method_spec.specs.Answer.{Structure, Op}
use Rattle.method_spec.specs.Queue.{enqueue_ahead, dequeue_ahead}
use Rattle.method_spec.specs.Outcome.{Outcome}
use Rattle.method_spec.specs.Rounds.{put_draw}
use Rattle.method_spec.specs.Call.{Memory, Taken, keep_first, take_key, left_over, Fetched, revealing, given, fetches, draws_from, stepped, answered, program, ahead_after, spare_tags, Called, call, Ran, and_then, run}

module _ {T S : Type 0} (f : T → S) where
  -- ---- a function on tags, applied to all that holds tags

  abbrev pub map_link : Link T → Link S
  map_link l = record { height = l.height; key = l.key; tag = f l.tag }

  abbrev pub map_ahead : Ahead T → Ahead S
  map_ahead a = record { key = a.key; tag = f a.tag }

  abbrev pub map_node : Node T → Node S
  map_node n =
      record {
        key = n.key;
        value = n.value;
        tag = f n.tag;
        left = map_link n.left;
        right = map_link n.right;
      }

  abbrev pub map_nodes : List (Node T) → List (Node S)
  map_nodes = map map_node

  abbrev pub map_want : Want T → Want S
  map_want w = record { link = map_link w.link; from = w.from; low = w.low; high = w.high }

  abbrev pub map_outcome : Outcome T → Outcome S
  map_outcome o =
      record { nodes = map_nodes o.nodes; root = map_link o.root; entries = o.entries; answer = o.answer }

  abbrev pub map_memory : Memory T → Memory S
  map_memory m =
      record { entries = m.entries; root = map_link m.root; ahead = map_ahead m.ahead; nodes = map_nodes m.nodes }

  abbrev pub map_taken : Taken T → Taken S
  map_taken t = record { node = map_node t.node; others = map_nodes t.others }

  abbrev pub map_called : Called T → Called S
  map_called r =
      record { memory = map_memory r.memory; answer = r.answer; revealed = map f r.revealed }

  abbrev pub map_ran : Ran T → Ran S
  map_ran r =
      record { answers = r.answers; revealed = map f r.revealed; memory = map_memory r.memory }

  -- ---- programs that do the same

  -- Both are done, with results in the relation; or both want the same node, and do the same with whatever node comes.
  pub data Same {A B : Type 0} (R : A → B → Type 0) : Prog T A → Prog S B → Type 0 where
    both-done : {a : A} {b : B} → R a b → Same R (done a) (done b)
    both-want : {w : Want T} {k : Node T → Prog T A} {j : Node S → Prog S B}
        → ((n : Node T) → Same R (k n) (j (map_node n))) → Same R (want w k) (want (map_want w) j)

  pub same-bind : {A B C D : Type 0} {R : A → B → Type 0} {Q : C → D → Type 0} {g : A → Prog T C} {h : B → Prog S D} {p : Prog T A} {q : Prog S B}
      → Same R p q → ((a : A) (b : B) → R a b → Same Q (g a) (h b)) → Same Q (bind p g) (bind q h)
  unfolding bind
  same-bind (both-done {a} {b} r) next = next a b r
  same-bind (both-want more) next = both-want (λ n. same-bind (more n) next)

  pub same-pick : {A B : Type 0} {R : A → B → Type 0} {p r : Prog T A} {q s : Prog S B} (b : Bool)
      → Same R p q → Same R r s → Same R (pick b p r) (pick b q s)
  same-pick true x y = x
  same-pick false x y = y

  -- ---- fetch rounds

  keep_first-natural : (n : Node T) (t : Option (Taken T)) → keep_first (map_node n) (Option.map map_taken t) ≡ Option.map map_taken (keep_first n t)
  keep_first-natural n none = refl
  keep_first-natural n (some t) = refl

  pub take_key-natural : (key : ℕ) (ns : List (Node T)) → take_key key (map_nodes ns) ≡ Option.map map_taken (take_key key ns)
  unfolding take_key
  take_key-natural key [] = refl
  take_key-natural key (n ∷ ns) = go (eqb key n.key) (take_key-natural key ns)
    where
      go : (b : Bool) → take_key key (map_nodes ns) ≡ Option.map map_taken (take_key key ns)
          → pick b (some (record { node = map_node n; others = map_nodes ns })) (keep_first (map_node n) (take_key key (map_nodes ns)))
          ≡ Option.map map_taken (pick b (some (record { node = n; others = ns })) (keep_first n (take_key key ns)))
      go true e = refl
      go false e = ap (keep_first (map_node n)) e ∙ keep_first-natural n (take_key key ns)

  -- Where two calls stand after the same rounds.
  pub record SameFetched {A B : Type 0} (R : A → B → Type 0) (x : Fetched T A) (y : Fetched S B) : Type 0 where
    pub progs : Same R x.prog y.prog
    pub same_nodes : y.nodes ≡ map_nodes x.nodes
    pub same-revealed : y.revealed ≡ map f x.revealed

  module _ {A B : Type 0} {R : A → B → Type 0} (draw : ℕ → T) where
    revealed-too : {x : Fetched T A} {y : Fetched S B} (t : T) → SameFetched R x y
        → SameFetched R (revealing t x) (revealing (f t) y)
    revealed-too t s =
        record {
          progs = s.progs;
          same_nodes = s.same_nodes;
          same-revealed = ap (λ (l : List S). f t ∷ l) s.same-revealed;
        }

    pub fetches-natural : (n i : ℕ) {p : Prog T A} {q : Prog S B} (ns : List (Node T)) → Same R p q
        → SameFetched R (fetches draw n i p ns) (fetches (λ d. f (draw d)) n i q (map_nodes ns))
    unfolding fetches
    fetches-natural zero i ns s = record { progs = s; same_nodes = refl; same-revealed = refl }
    fetches-natural (suc n) i ns (both-done r) = revealed-too (draw i) (fetches-natural n (suc i) ns (both-done r))
    fetches-natural (suc n) i ns (both-want {w} {k} {j} more) =
        rw (take_key-natural w.link.key ns)
        (go (take_key w.link.key ns) (λ p q ms s. fetches-natural n (suc i) ms s))
      where
        go : (t : Option (Taken T))
            → ((p : Prog T A) (q : Prog S B) (ms : List (Node T)) → Same R p q
            → SameFetched R (fetches draw n (suc i) p ms) (fetches (λ d. f (draw d)) n (suc i) q (map_nodes ms)))
            → SameFetched R
            (revealing w.link.tag (fetches draw n (suc i) (given (draw i) (want w k) k t) (left_over ns t)))
            (revealing (f w.link.tag)
            (fetches (λ d. f (draw d)) n (suc i) (given (f (draw i)) (want (map_want w) j) j (Option.map map_taken t))
            (left_over (map_nodes ns) (Option.map map_taken t))))
        go none next = revealed-too w.link.tag (next (want w k) (want (map_want w) j) ns (both-want more))
        go (some t) next =
            revealed-too w.link.tag
            (next (k (retag (draw i) t.node)) (j (map_node (retag (draw i) t.node))) t.others (more (retag (draw i) t.node)))

  -- ---- calls

  abbrev pub SameOutcome : Outcome T → Outcome S → Type 0
  SameOutcome a b = b ≡ map_outcome a

  -- A structure's programs do the same at both types of tags.
  abbrev pub Natural : Structure → T → Type 0
  Natural s nil = (op : Op s) (spares : ℕ → T) (limit entries : ℕ) (a : Ahead T) (l : Link T)
      → Same SameOutcome (program nil op spares limit entries a l) (program (f nil) op (λ i. f (spares i)) limit entries (map_ahead a) (map_link l))

  ahead-pick : (b : Bool) (x y : Ahead T) → pick b (map_ahead x) (map_ahead y) ≡ map_ahead (pick b x y)
  ahead-pick true x y = refl
  ahead-pick false x y = refl

  -- What is known ahead after a step.
  ahead-natural : {s : Structure} (nil : T) (op : Op s) (spares : ℕ → T) (limit entries : ℕ) (a : Ahead T)
      → ahead_after (f nil) op (λ i. f (spares i)) limit entries (map_ahead a) ≡ map_ahead (ahead_after nil op spares limit entries a)
  unfolding ahead_after enqueue_ahead dequeue_ahead
  ahead-natural nil (answer.get key) spares limit entries a = refl
  ahead-natural nil (answer.put key value) spares limit entries a = refl
  ahead-natural nil (answer.remove key) spares limit entries a = refl
  ahead-natural nil (answer.push value) spares limit entries a = refl
  ahead-natural nil answer.pop spares limit entries a = refl
  ahead-natural nil (answer.add value) spares limit entries a = refl
  ahead-natural nil answer.take spares limit entries a = refl
  ahead-natural nil (answer.enqueue value) spares limit entries a =
      ahead-pick (ltb entries limit) (record { key = suc a.key; tag = spares 1 }) a
  ahead-natural nil answer.dequeue spares limit entries a = ahead-pick (eqb entries 1) (record { key = a.key; tag = nil }) a

  pub draws-natural : (draw : ℕ → T) (n d : ℕ) → draws_from (λ i. f (draw i)) n d ≡ map f (draws_from draw n d)
  unfolding draws_from
  draws-natural draw zero d = refl
  draws-natural draw (suc n) d = ap (λ (l : List S). f (draw d) ∷ l) (draws-natural draw n (suc d))

  answered-natural : {p : Prog T (Outcome T)} {q : Prog S (Outcome S)} → Same SameOutcome p q → answered q ≡ answered p
  unfolding answered
  answered-natural (both-done e) = ap (λ (o : Outcome S). some o.answer) e
  answered-natural (both-want more) = refl

  stepped-natural : (m : Memory T) (b : Ahead T) (ns : List (Node T)) {p : Prog T (Outcome T)} {q : Prog S (Outcome S)} → Same SameOutcome p q
      → stepped (map_memory m) (map_ahead b) (map_nodes ns) q ≡ map_memory (stepped m b ns p)
  unfolding stepped
  stepped-natural m b ns (both-done {a} e) = rw (e, map-append map_node a.nodes ns)
  stepped-natural m b ns (both-want more) = refl

  module _ {s : Structure} (nil : T) (natural : Natural s nil) (rounds limit : ℕ) where
    pub call-natural : (op : Op s) (draw : ℕ → T) (m : Memory T)
        → call (f nil) rounds limit op (λ d. f (draw d)) (map_memory m) ≡ map_called (call nil rounds limit op draw m)
    unfolding call
    call-natural op draw m =
        let spares = spare_tags rounds draw in
        let x = fetches draw rounds 0 (program nil op spares limit m.entries m.ahead m.root) m.nodes in
        let e = fetches-natural draw rounds 0 m.nodes (natural op spares limit m.entries m.ahead m.root) in
        rw (
          e.same_nodes,
          e.same-revealed,
          ahead-natural nil op spares limit m.entries m.ahead,
          stepped-natural m (ahead_after nil op spares limit m.entries m.ahead) x.nodes e.progs,
          answered-natural e.progs,
          draws-natural draw rounds (put_draw s rounds 0),
          ← (map-append f x.revealed (draws_from draw rounds (put_draw s rounds 0))),
        )

    -- The same tickets and draws, up to the function: the same answers, and tags up to the function.
    pub run-natural : (draw : ℕ → ℕ → T) (c : ℕ) (ops : List (Op s)) (m : Memory T)
        → run (f nil) rounds limit (λ i d. f (draw i d)) c ops (map_memory m) ≡ map_ran (run nil rounds limit draw c ops m)
    unfolding run
    run-natural draw c [] m = refl
    run-natural draw c (op ∷ ops) m =
        let r = call nil rounds limit op (draw c) m in
        let later = run nil rounds limit draw (suc c) ops r.memory in
        ap (λ (x : Called S). and_then x (run (f nil) rounds limit (λ i d. f (draw i d)) (suc c) ops x.memory))
        (call-natural op (draw c) m)
        ∙ ap (and_then (map_called r)) (run-natural draw (suc c) ops r.memory)
        ∙ rw (map-append f r.revealed later.revealed)
