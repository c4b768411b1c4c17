-- A list of calls of a structure whose programs are safe: the invariant stays, and no tag is lost or shown twice.
use Rattle.std.specs.Prelude.{◌≡◌}
use Rattle.std.proofs.Math.Path.{refl, ap}
use Rattle.std.proofs.Common.{sym, ◌∙◌, suc-add, le_refl}
use mathlib.Core.List.{List, [], ◌∷◌, ◌++◌, map-append, append-nil, append_assoc}
use Rattle.std.proofs.Math.Option.{some}
use Prim.Native.Nat.{ℕ, zero, suc, ◌+◌, ◌-◌, ◌*◌, ◌≤◌, ◌<◌}
use native.Mathlib.Omega.{arith}
use Rattle.std.proofs.Math.ListN.{length, length-append}
use Rattle.list_spec.specs.Perm.{Perm, trans}
use Rattle.list_laws.specs.PermLaws.{perm-refl, perm-sym, perm-of-eq, perm-append, perm-append-left, perm-append-right}
use Rattle.list_laws.specs.Shuffle.{part, ◌&◌, shuffle}
use Rattle.list_spec.specs.Distinct.{Distinct}
use Rattle.method_spec.specs.Node.{Node, Link, Ahead}
use Rattle.method_spec.specs.Answer as answer
use Rattle.method_spec.specs.Answer.{Structure, Op}
use Rattle.method_spec.specs.Rounds.{spare, put_draw}
use Rattle.method_spec.specs.Outcome.{Outcome}
use Rattle.method_spec.specs.Call.{program, ahead_after, spare_tags, test, Memory, empty_memory, fetches, draws_from, stepped, answered, Called, call, Ran, run}
use Rattle.run_laws.specs.Safe.{Safe, Within}
use Rattle.run_laws.specs.Fetches.{keys, tags, Unordered, test-untagged, fetches-length, safe-fetches}

-- A structure whose steps keep what is known ahead: any but the queue.
abbrev pub Unqueued : (T : Type 0) → Structure → Type 0
Unqueued T s = (nil : T) (op : Op s) (spares : ℕ → T) (limit entries : ℕ) (a : Ahead T) → ahead_after nil op spares limit entries a ≡ a

module _ {T : Type 0} where
  -- ---- draws

  pub draws-split : (draw : ℕ → T) (n m d : ℕ) → draws_from draw (n + m) d ≡ draws_from draw n d ++ draws_from draw m (d + n)
  unfolding draws_from
  draws-split draw zero m d = let e : 0 + m ≡ m = omega arith in let o : d + 0 ≡ d = omega arith in rw (e, o)
  draws-split draw (suc n) m d =
      let o : d + suc n ≡ suc d + n = omega arith in
      rw (suc-add n m, o) (ap (λ (l : List T). draw d ∷ l) (draws-split draw n m (suc d)))

  pub draws-length : (draw : ℕ → T) (n d : ℕ) → length (draws_from draw n d) ≡ n
  unfolding draws_from
  draws-length draw zero d = refl
  draws-length draw (suc n) d = ap suc (draws-length draw n (suc d))

  pub draws-after : (draw : ℕ → T) (r n d : ℕ) → draws_from (λ i. draw (r + i)) n d ≡ draws_from draw n (r + d)
  unfolding draws_from
  draws-after draw r zero d = refl
  draws-after draw r (suc n) d =
      let o : r + suc d ≡ suc (r + d) = omega arith in
      ap (λ (l : List T). draw (r + d) ∷ l) (rw o at (draws-after draw r n (suc d)))

  -- The spare draws of a call of a structure.
  abbrev pub spares_of : Structure → (spares : ℕ → T) → List T
  spares_of s spares = draws_from spares (spare s) 0

  -- The draws of one call that has so many.
  abbrev pub own_draws : (count : ℕ) → (ℕ → T) → List T
  own_draws count draw = draws_from draw count 0

  -- The draws of n calls from call c, where each has so many.
  unfoldable pub all_draws : (count : ℕ) → (ℕ → ℕ → T) → (c n : ℕ) → List T
  all_draws count draw c zero = []
  all_draws count draw c (suc n) = own_draws count (draw c) ++ all_draws count draw (suc c) n

  -- ---- how many places

  module _ {s : Structure} (nil : T) (rounds limit : ℕ) where
    pub call_length : (op : Op s) (draw : ℕ → T) (m : Memory T) → length (call nil rounds limit op draw m).revealed ≡ 2 * rounds
    unfolding call
    call_length op draw m =
        let p = program nil op (spare_tags rounds draw) limit m.entries m.ahead m.root in
        length-append (fetches draw rounds 0 p m.nodes).revealed (draws_from draw rounds (put_draw s rounds 0))
        ∙ omega (arith, fetches-length draw rounds 0 p m.nodes, draws-length draw rounds (put_draw s rounds 0))

    pub run_length : (draw : ℕ → ℕ → T) (c : ℕ) (ops : List (Op s)) (m : Memory T)
        → length (run nil rounds limit draw c ops m).revealed ≡ length ops * (2 * rounds)
    unfolding run
    run_length draw c [] m = omega arith
    run_length draw c (op ∷ ops) m =
        let r = call nil rounds limit op (draw c) m in
        length-append r.revealed (run nil rounds limit draw (suc c) ops r.memory).revealed
        ∙ omega (arith, call_length op (draw c) m, run_length draw (suc c) ops r.memory)

  -- ---- the spare draws of a program

  -- A program depends on the spare draws of its structure alone, and so does what is known ahead after it.
  abbrev pub AgreeOn : Structure → (x y : ℕ → T) → Type 0
  AgreeOn s x y = (i : ℕ) → i < spare s → x i ≡ y i

  pub program-agrees : {s : Structure} (nil : T) (op : Op s) (x y : ℕ → T) (limit entries : ℕ) (a : Ahead T) (l : Link T)
      → AgreeOn s x y → program nil op x limit entries a l ≡ program nil op y limit entries a l
  unfolding program spare
  program-agrees nil (answer.get key) x y limit entries a l e = refl
  program-agrees nil (answer.put key value) x y limit entries a l e = rw (e 0 (omega arith))
  program-agrees nil (answer.remove key) x y limit entries a l e = refl
  program-agrees nil (answer.push value) x y limit entries a l e = rw (e 0 (omega arith))
  program-agrees nil answer.pop x y limit entries a l e = refl
  program-agrees nil (answer.add value) x y limit entries a l e = rw (e 0 (omega arith))
  program-agrees nil answer.take x y limit entries a l e = refl
  program-agrees nil (answer.enqueue value) x y limit entries a l e = rw (e 0 (omega arith), e 1 (omega arith))
  program-agrees nil answer.dequeue x y limit entries a l e = refl

  pub ahead-agrees : {s : Structure} (nil : T) (op : Op s) (x y : ℕ → T) (limit entries : ℕ) (a : Ahead T)
      → AgreeOn s x y → ahead_after nil op x limit entries a ≡ ahead_after nil op y limit entries a
  unfolding ahead_after spare
  ahead-agrees nil (answer.get key) x y limit entries a e = refl
  ahead-agrees nil (answer.put key value) x y limit entries a e = refl
  ahead-agrees nil (answer.remove key) x y limit entries a e = refl
  ahead-agrees nil (answer.push value) x y limit entries a e = refl
  ahead-agrees nil answer.pop x y limit entries a e = refl
  ahead-agrees nil (answer.add value) x y limit entries a e = refl
  ahead-agrees nil answer.take x y limit entries a e = refl
  ahead-agrees nil (answer.enqueue value) x y limit entries a e = rw (e 1 (omega arith))
  ahead-agrees nil answer.dequeue x y limit entries a e = refl

  pub map-unqueued : Unqueued T answer.map
  unfolding ahead_after
  map-unqueued nil (answer.get key) spares limit entries a = refl
  map-unqueued nil (answer.put key value) spares limit entries a = refl
  map-unqueued nil (answer.remove key) spares limit entries a = refl

  pub stack-unqueued : Unqueued T answer.stack
  unfolding ahead_after
  stack-unqueued nil (answer.push value) spares limit entries a = refl
  stack-unqueued nil answer.pop spares limit entries a = refl

  pub heap-unqueued : Unqueued T answer.heap
  unfolding ahead_after
  heap-unqueued nil (answer.add value) spares limit entries a = refl
  heap-unqueued nil answer.take spares limit entries a = refl

  -- ---- a list of calls after another

  abbrev pub ran_then : Ran T → Ran T → Ran T
  ran_then r q =
      record { answers = r.answers ++ q.answers; revealed = r.revealed ++ q.revealed; memory = q.memory }

  pub run-append : {s : Structure} (nil : T) (rounds limit : ℕ) (draw : ℕ → ℕ → T) (c : ℕ) (xs ys : List (Op s)) (m : Memory T)
      → run nil rounds limit draw c (xs ++ ys) m
      ≡ ran_then (run nil rounds limit draw c xs m) (run nil rounds limit draw (c + length xs) ys (run nil rounds limit draw c xs m).memory)
  unfolding run
  run-append nil rounds limit draw c [] ys m = let e : c + 0 ≡ c = omega arith in rw e
  run-append nil rounds limit draw c (op ∷ xs) ys m =
      let r = call nil rounds limit op (draw c) m in
      let q = run nil rounds limit draw (suc c) xs r.memory in
      let e : c + suc (length xs) ≡ suc c + length xs = omega arith in
      let more = run nil rounds limit draw (suc c + length xs) ys q.memory in
      rw (
        e,
        run-append nil rounds limit draw (suc c) xs ys r.memory,
        append_assoc r.revealed q.revealed more.revealed,
      )

  -- ---- what a structure supplies

  -- The memory after a step with that outcome and what is known ahead then, where those nodes were not fetched.
  abbrev pub memory_of : Ahead T → Outcome T → List (Node T) → Memory T
  memory_of a o ns = record { entries = o.entries; root = o.root; ahead = a; nodes = o.nodes ++ ns }

  -- The tag drawn ahead, of a queue with entries: no node has it yet.
  abbrev pub ahead_tags : Structure → (entries : ℕ) → Ahead T → List T
  ahead_tags answer.map entries a = []
  ahead_tags answer.stack entries a = []
  ahead_tags answer.heap entries a = []
  ahead_tags answer.queue zero a = []
  ahead_tags answer.queue (suc n) a = a.tag ∷ []

  -- The tags of a memory: that one, and those of its nodes.
  abbrev pub tags_of : Structure → Memory T → List T
  tags_of s m = ahead_tags s m.entries m.ahead ++ tags m.nodes

  pub tags-empty : (s : Structure) (nil : T) → tags_of s (empty_memory nil) ≡ []
  unfolding empty_memory
  tags-empty answer.map nil = refl
  tags-empty answer.stack nil = refl
  tags-empty answer.heap nil = refl
  tags-empty answer.queue nil = refl

  -- What a step has at hand for tags besides those of the nodes fetched: the tag drawn ahead and the spare draws.
  abbrev pub given_tags : Structure → Memory T → (spares : ℕ → T) → List T
  given_tags s m spares = ahead_tags s m.entries m.ahead ++ spares_of s spares

  -- The tags of the nodes that wait again, and the tag drawn ahead then, are those of the nodes fetched and the ones given, each at most
  -- once.
  pub record Retagged (given ahead : List T) (held : List (Node T)) (o : Outcome T) : Type 0 where
    pub dropped : List T
    pub among : Perm (given ++ tags held) (tags o.nodes ++ (ahead ++ dropped))

  -- What a step must come to: the memory after it is in the invariant, and the tags are accounted for.
  abbrev pub Steps : {s : Structure} (nil : T) (limit : ℕ) (Inv : Memory T → Type 0) (m : Memory T) (op : Op s) (spares : ℕ → T)
      → Outcome T → List (Node T) → List (Node T) → Type 0
  Steps {s} nil limit Inv m op spares o held ns =
      let a = ahead_after nil op spares limit m.entries m.ahead in
      Inv (memory_of a o ns) × Retagged (given_tags s m spares) (ahead_tags s o.entries a) held o

  -- An invariant of memories under which every program is safe, takes no more than `rounds` nodes and keeps the invariant.
  pub record Keeps (s : Structure) (nil : T) (rounds limit : ℕ) (Inv : Memory T → Type 0) : Type 0 where
    pub unordered : (entries : ℕ) (root : Link T) (a : Ahead T) (xs ys : List (Node T)) → Perm xs ys
        → Inv (record { entries = entries; root = root; ahead = a; nodes = xs }) → Inv (record { entries = entries; root = root; ahead = a; nodes = ys })
    pub distinct-keys : (m : Memory T) → Inv m → Distinct (keys m.nodes)
    pub within : (m : Memory T) → Inv m → (op : Op s) (spares : ℕ → T)
        → Within (test s m.entries) rounds (program nil op spares limit m.entries m.ahead m.root)
    pub safe : (m : Memory T) → Inv m → (op : Op s) (spares : ℕ → T)
        → Safe (test s m.entries) (Steps nil limit Inv m op spares) (program nil op spares limit m.entries m.ahead m.root) [] m.nodes

  -- ---- one call

  -- What a call does whose program is safe: `left` are the nodes not fetched, and `a` is known ahead after it.
  pub record Stepped (s : Structure) (Post : Outcome T → List (Node T) → List (Node T) → Type 0) (a : Ahead T) (rounds : ℕ) (draw : ℕ → T)
      (m : Memory T) (r : Called T) : Type 0 where
    pub outcome : Outcome T
    pub fetched : List (Node T)
    pub left : List (Node T)
    pub holds : Post outcome fetched left
    pub remembers : r.memory ≡ memory_of a outcome left
    pub answers : r.answer ≡ some outcome.answer
    pub links : List T
    pub few : length links ≤ rounds
    pub shown : r.revealed ≡ links ++ draws_from draw (rounds - length links) (length links) ++ draws_from draw rounds (put_draw s rounds 0)
    pub old-tags : Perm (tags m.nodes) (links ++ tags left)
    pub new-tags : Perm (tags fetched) (draws_from draw (length links) 0)

  pub safe-call : {s : Structure} (nil : T) (rounds limit : ℕ) {Post : Outcome T → List (Node T) → List (Node T) → Type 0} → Unordered Post
      → (op : Op s) (draw : ℕ → T) (m : Memory T) → Distinct (keys m.nodes)
      → Within (test s m.entries) rounds (program nil op (spare_tags rounds draw) limit m.entries m.ahead m.root)
      → Safe (test s m.entries) Post (program nil op (spare_tags rounds draw) limit m.entries m.ahead m.root) [] m.nodes
      → Stepped s Post (ahead_after nil op (spare_tags rounds draw) limit m.entries m.ahead) rounds draw m (call nil rounds limit op draw m)
  unfolding call stepped answered
  safe-call {s} nil rounds limit unordered op draw m distinct within safe =
      let p = program nil op (spare_tags rounds draw) limit m.entries m.ahead m.root in
      let a = ahead_after nil op (spare_tags rounds draw) limit m.entries m.ahead in
      let f = fetches draw rounds 0 p m.nodes in
      let e = safe-fetches draw (test-untagged s m.entries) unordered rounds 0 p (le_refl rounds) distinct within safe in
      let o : 0 + length e.links ≡ length e.links = omega arith in
      record {
        outcome = e.result;
        fetched = e.fetched;
        left = f.nodes;
        holds = e.holds;
        remembers = ap (stepped m a f.nodes) e.ended;
        answers = ap answered e.ended;
        links = e.links;
        few = e.few;
        shown = rw (e.shown, o);
        old-tags = e.old-tags;
        new-tags = trans e.new-tags (perm-of-eq (append-nil (draws_from draw (length e.links) 0)));
      }

  -- ---- no tag is lost or shown twice

  -- What was shown, what waits and what was dropped are the tags from before and the draws, each once.
  pub record Accounted (s : Structure) (shown before draws : List T) (m : Memory T) : Type 0 where
    pub dropped : List T
    pub balanced : Perm (shown ++ tags_of s m ++ dropped) (before ++ draws)

  -- The draws of a call are those of the fetch rounds, the spare ones and those of the put rounds.
  draws-parts : (s : Structure) (draw : ℕ → T) (rounds j : ℕ) → j ≤ rounds
      → draws_from draw j 0
      ++ (draws_from draw (rounds - j) j
      ++ (spares_of s (spare_tags rounds draw) ++ draws_from draw rounds (put_draw s rounds 0)))
      ≡ own_draws (2 * rounds + spare s) draw
  draws-parts s draw rounds j h =
      let total : 2 * rounds + spare s ≡ j + (rounds - j + (spare s + rounds)) = omega arith in
      let first : 0 + j ≡ j = omega arith in
      let fetching : j + (rounds - j) ≡ rounds = omega arith in
      let none : rounds + 0 ≡ rounds = omega arith in
      let puts : rounds + spare s + 0 ≡ rounds + spare s = omega arith in
      sym
      (ap (λ (n : ℕ). draws_from draw n 0) total
      ∙ draws-split draw j (rounds - j + (spare s + rounds)) 0
      ∙ rw (
        first,
        draws-split draw (rounds - j) (spare s + rounds) j,
        fetching,
        draws-split draw (spare s) rounds rounds,
        draws-after draw rounds (spare s) 0,
        none,
        puts,
      ))

  -- links, unused draws of the fetch rounds, draws of the put rounds, new tags, tags left, dropped; the tag drawn ahead before and after
  account : (links unused puts new left dropped old used spares was is : List T)
      → Perm old (links ++ left) → Perm ((was ++ spares) ++ used) (new ++ (is ++ dropped))
      → Perm (links ++ unused ++ puts ++ (is ++ (new ++ left)) ++ dropped) ((was ++ old) ++ (used ++ (unused ++ (spares ++ puts))))
  account links unused puts new left dropped old used spares was is tagged among =
      trans
      (shuffle (links ∷ unused ∷ puts ∷ new ∷ left ∷ dropped ∷ is ∷ [])
      ((((part 0 & part 1) & part 2) & (part 6 & (part 3 & part 4))) & part 5)
      ((part 0 & part 4) & ((part 3 & (part 6 & part 5)) & (part 1 & part 2))) refl)
      (trans
      (perm-append (perm-sym tagged) (perm-append-right (unused ++ puts) (perm-sym among)))
      (shuffle (old ∷ spares ∷ used ∷ unused ∷ puts ∷ was ∷ [])
      (part 0 & (((part 5 & part 1) & part 2) & (part 3 & part 4))) ((part 5 & part 0) & (part 2 & (part 3 & (part 1 & part 4)))) refl))

  call-accounted : {s : Structure} {rounds : ℕ} {draw : ℕ → T} {m : Memory T} {r : Called T} {Post : Outcome T → List (Node T) → List (Node T) → Type 0}
      {a : Ahead T} (t : Stepped s Post a rounds draw m r)
      → Retagged (given_tags s m (spare_tags rounds draw)) (ahead_tags s t.outcome.entries a) t.fetched t.outcome
      → Accounted s r.revealed (tags_of s m) (own_draws (2 * rounds + spare s) draw) r.memory
  call-accounted {s} {rounds} {draw} {m} {r} {a = a} t g =
      let j = length t.links in
      let own = spares_of s (spare_tags rounds draw) in
      let was = ahead_tags s m.entries m.ahead in
      record {
        dropped = g.dropped;
        balanced =
            rw (t.shown, t.remembers, map-append (λ (n : Node T). n.tag) t.outcome.nodes t.left, ← (draws-parts s draw rounds j t.few))
            (account t.links (draws_from draw (rounds - j) j) (draws_from draw rounds (put_draw s rounds 0)) (tags t.outcome.nodes)
            (tags t.left) g.dropped (tags m.nodes) (draws_from draw j 0) own was (ahead_tags s t.outcome.entries a) t.old-tags
            (trans (perm-append-left (was ++ own) (perm-sym t.new-tags)) g.among));
      }

  accounted-then : {s : Structure} {shown later before draws more : List T} {m n : Memory T}
      → Accounted s shown before draws m → Accounted s later (tags_of s m) more n → Accounted s (shown ++ later) before (draws ++ more) n
  accounted-then {s} {shown} {later} {before} {draws} {more} {m} {n} a b =
      record {
        dropped = a.dropped ++ b.dropped;
        balanced =
            trans
            (shuffle (shown ∷ later ∷ tags_of s n ∷ a.dropped ∷ b.dropped ∷ [])
            (((part 0 & part 1) & part 2) & (part 3 & part 4)) ((part 0 & part 3) & ((part 1 & part 2) & part 4)) refl)
            (trans (perm-append-left (shown ++ a.dropped) b.balanced)
            (trans
            (shuffle (shown ∷ a.dropped ∷ tags_of s m ∷ more ∷ [])
            ((part 0 & part 1) & (part 2 & part 3)) (((part 0 & part 2) & part 1) & part 3) refl)
            (trans (perm-append-right more a.balanced) (perm-of-eq (append_assoc before draws more)))));
      }

  -- ---- lists of calls

  module _ {s : Structure} {nil : T} {rounds limit : ℕ} {Inv : Memory T → Type 0} (keeps : Keeps s nil rounds limit Inv) where
    keeps-unordered : (m : Memory T) (op : Op s) (spares : ℕ → T) → Unordered (Steps nil limit Inv m op spares)
    keeps-unordered m op spares o held xs ys p h =
        let a = ahead_after nil op spares limit m.entries m.ahead in
        (keeps.unordered o.entries o.root a (o.nodes ++ xs) (o.nodes ++ ys) (perm-append-left o.nodes p) h.0, h.1)

    pub keeps-call : (op : Op s) (draw : ℕ → T) (m : Memory T) → Inv m
        → Stepped s (Steps nil limit Inv m op (spare_tags rounds draw)) (ahead_after nil op (spare_tags rounds draw) limit m.entries m.ahead) rounds draw m
        (call nil rounds limit op draw m)
    keeps-call op draw m inv =
        let spares = spare_tags rounds draw in
        safe-call nil rounds limit (keeps-unordered m op spares) op draw m (keeps.distinct-keys m inv)
        (keeps.within m inv op spares) (keeps.safe m inv op spares)

    pub keeps-run : (draw : ℕ → ℕ → T) (c : ℕ) (ops : List (Op s)) (m : Memory T) → Inv m
        → Inv (run nil rounds limit draw c ops m).memory
        × Accounted s (run nil rounds limit draw c ops m).revealed (tags_of s m) (all_draws (2 * rounds + spare s) draw c (length ops))
        (run nil rounds limit draw c ops m).memory
    unfolding run all_draws
    keeps-run draw c [] m inv = (inv, record { dropped = []; balanced = perm-refl (tags_of s m ++ []) })
    keeps-run draw c (op ∷ ops) m inv =
        let t = keeps-call op (draw c) m inv in
        let r = call nil rounds limit op (draw c) m in
        let after : Inv r.memory = rw t.remembers t.holds.0 in
        let later = keeps-run draw (suc c) ops r.memory after in
        (later.0, accounted-then (call-accounted t t.holds.1) later.1)
