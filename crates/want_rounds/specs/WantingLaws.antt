-- One fetch round that wants a node after another.
use Rattle.std.proofs.Math.Path.{◌≡◌, refl, ap}
use Rattle.std.proofs.Common.{sym, ◌∙◌, ap₂, subst, add-zero, add-one, length-set, length-append, take-suc-set, drop-set-lt, drop-drop}
use Rattle.std.specs.Prelude.{Bool, true, false, length, take, drop, set}
use mathlib.Core.List.{List, [], ◌∷◌, ◌++◌, map-append, append-nil}
use Rattle.std.proofs.Math.Option.{Option, none, some}
use Prim.Native.Nat.{ℕ, zero, suc, max, ◌+◌, ◌-◌, ◌^◌, ◌≤◌, ◌<◌}
use Rattle.std.proofs.Math.Nat.{zero-add, sub-zero}
use native.Mathlib.Omega.{arith}
use Rattle.std.proofs.lemmas.List.{length-map}
use Rattle.list_spec.specs.Choice.{pick}
use Rattle.list_spec.specs.Distinct.{All}
use Rattle.balance_spec.specs.Least.{least}
use Rattle.balance_spec.specs.Shape.{shaped}
use Rattle.balance_spec.specs.Greatest.{tallest, greatest}
use Rattle.balance_laws.specs.GreatestLaws.{greatest-mono}
use Rattle.method_spec.specs.Node.{Node, retag}
use Rattle.method_spec.specs.Prog.{Want, Prog, done, want, after}
use Rattle.method_spec.specs.Answer as answer
use Rattle.method_spec.specs.Answer.{Structure}
use Rattle.method_spec.specs.Outcome.{Outcome}
use Rattle.method_spec.specs.Rounds.{rounds, spare}
use Rattle.method_spec.specs.Call.{capacity, program, spare_tags, test}
use Rattle.run_laws.specs.Calls.{AgreeOn, program-agrees, ahead-agrees}
use Rattle.round_spec.specs.Round.{Hand, read_half, stash_limit}
use Rattle.leaf_spec.specs.Leaf.{leaf_format, ProperLeaf}
use Rattle.bucket_call_spec.specs.Call.{put_rounds, ahead_then}
use Rattle.round_spec.specs.Whole.{IsTree}
use Rattle.bucket_call_spec.specs.Fetch as fetch
use Rattle.bucket_call_spec.specs.Fetch.{Going, held_keys, total, too_many, revealing, written, Round, on, shut, at_close, idle_round, want_round, fetch_round, fetch_rounds}
use Rattle.none_lost_laws.specs.Yields.{Yields, asks}
use Rattle.none_lost_laws.specs.Given.{Given, AskedFrom}
use Rattle.none_lost_laws.specs.Sound.{goes}
use Rattle.none_lost_laws.specs.Ends.{highest}
use Rattle.none_lost_laws.specs.Lost.{FetchEnds, fetch-rounds, never-left-wanting}
use Rattle.want_rounds.specs.Splits.{goes_on, fetches-none, fetches-next, fetches-split}
use Rattle.idle_rounds.specs.Idle.{Between, keys_held}
use Rattle.idle_rounds.specs.IdleLaws.{put-none, put-goes, put-shuts, goes_on_lem, stops-here, between-ready}
use Rattle.round_close.specs.Fault.{mark_of}
use Rattle.want_rounds.specs.declared.Job.{Job}
use Rattle.bucket_call_spec.specs.Peak.{rounds_from, peak_of, peak_at}
use Rattle.peak_laws.specs.PeakLaws.{wanting-round, peak-goes, peak-shuts}
use Rattle.want_rounds.specs.Wanting.{nodes_held, structure_in, program_of, store_at, fetched, Begins, Walked, FetchedAs}
use Rattle.operation_spec.specs.declared.Want as code
use Rattle.leaf_spec.specs.Convert.{to_link, to_ahead, to_node}
use Rattle.operation_spec.specs.Method.{to_op, to_want, wanted_in, spares_in, ahead_for}
use Rattle.node_rows.specs.Heights.{Low, Lows}
use Rattle.map_nodes.specs.HeightLaws.{lows-append}
use Rattle.state_laws.specs.FetchingLaws.{rounds-most}
use Rattle.structures.specs.WantLaws.{wanted-low, tested_low}
use Rattle.stash_laws.specs.WaitingLaws.{waiting-length}
use Rattle.one_round.specs.declared.Took.{Took}
use Rattle.one_round.specs.OneRound.{going, ended_with, RoundReady, Rests, held_too, taken_as, Wanted, took, node_taken}

-- ---- programs after some nodes
module _ {A : Type 0} where
  pub after_none : (q : Prog ℕ A) → after q [] ≡ q
  unfolding after
  after_none (done a) = refl
  after_none (want w c) = refl

  -- One node more.
  pub after_more : (p : Prog ℕ A) (ns : List (Node ℕ)) {w : Want ℕ} {c : Node ℕ → Prog ℕ A} (m : Node ℕ) → after p ns ≡ want w c → after p (ns ++ (m ∷ [])) ≡ c m
  unfolding after
  after_more (done a) [] m e = cc
  after_more (done a) (n ∷ ns) m e = cc
  after_more (want v k) [] {w} {c} m e = after_none (k m) ∙ same
    where
      same : k m ≡ c m
      same = let d : k ≡ c = cc in ap (λ (f : Node ℕ → Prog ℕ A). f m) d
  after_more (want v k) (n ∷ ns) m e = after_more (k n) ns m e

  -- A program that wants a node.
  pub record Wants (q : Prog ℕ A) (w : Want ℕ) : Type 0 where
    pub then : Node ℕ → Prog ℕ A
    pub is : q ≡ want w then

  pub wants : (q : Prog ℕ A) (w : Want ℕ) → wanted_in q ≡ some w → Wants q w
  wants (done a) w e = let z : ◌≡◌ {A = ℕ} 0 1 = cc in absurd (omega arith)
  wants (want v k) w e = let d : v ≡ w = cc in record { then = k; is = ap (λ (u : Want ℕ). want u k) d }

-- ---- one round more
module _ (s : Structure) (entries k : ℕ) (draw : ℕ → ℕ) (p : Prog ℕ (Outcome ℕ)) (g : Going) where
  one-round : (i : ℕ) (q : Prog ℕ (Outcome ℕ)) (h : Going) → fetch_rounds s entries k draw 1 i q h ≡ fetch_round s entries k (draw i) q h
  unfolding goes_on
  one-round i q h = fetches-next s entries k draw 0 i q h ∙ go (fetch_round s entries k (draw i) q h)
    where
      go : (x : Round (Outcome ℕ)) → goes_on s entries k draw x (λ h q. fetch_rounds s entries k draw 0 (suc i) q h) ≡ x
      go (shut m h) = refl
      go (on h q) = fetches-none s entries k draw (suc i) q h

  pub round-more : (i : ℕ) (h : Going) (w : Want ℕ) (c : Node ℕ → Prog ℕ (Outcome ℕ)) → fetch_rounds s entries k draw i 0 p g ≡ on h (want w c)
      → fetch_rounds s entries k draw (i + 1) 0 p g ≡ want_round s entries k (draw i) w c h
  unfolding goes_on fetch_round
  round-more i h w c e = fetches-split s entries k draw i 1 0 p g ∙ rw (e, zero-add i) (one-round i (want w c) h)

  -- A store that was closed stays so for the rounds that are left.
  pub closed-early : (i F : ℕ) (m : ℕ) (h : Going) → i ≤ F → fetch_rounds s entries k draw i 0 p g ≡ shut m h → fetch_rounds s entries k draw F 0 p g ≡ shut m h
  unfolding goes_on
  closed-early i F m h le e =
      let all : F ≡ i + (F - i) = omega arith in
      rw all (fetches-split s entries k draw i (F - i) 0 p g ∙ rw e)

  pub rounds-left : (i F : ℕ) (h : Going) (q : Prog ℕ (Outcome ℕ)) → i ≤ F → fetch_rounds s entries k draw i 0 p g ≡ on h q
      → fetch_rounds s entries k draw F 0 p g ≡ fetch_rounds s entries k draw (F - i) i q h
  unfolding goes_on
  rounds-left i F h q le e =
      let all : F ≡ i + (F - i) = omega arith in
      rw all (fetches-split s entries k draw i (F - i) 0 p g ∙ rw (e, zero-add i, ← all))

-- ---- what holds between the fetch rounds, on any content
most-high : (s : Structure) (k : ℕ) → k ≤ 8 → highest s k ≤ 100
unfolding highest least shaped tallest greatest
most-high answer.map k small = let most : greatest k ≤ 11 = greatest-mono small in omega arith
most-high answer.stack k small = omega arith
most-high answer.heap k small = omega arith
most-high answer.queue k small = omega arith

two-spare : (s : Structure) → spare s ≤ 2
unfolding spare
two-spare answer.map = omega arith
two-spare answer.stack = omega arith
two-spare answer.heap = omega arith
two-spare answer.queue = omega arith

-- A store between two fetch rounds.
pub record Midway (k i : ℕ) (g : Going) (q : Prog ℕ (Outcome ℕ)) : Type 0 where
  pub is-tree : IsTree k g.tree
  pub proper : All (ProperLeaf k) g.waiting
  pub few : total g ≤ stash_limit
  pub seen : length g.leaves ≡ i
  pub leads : (w : Want ℕ) (c : Node ℕ → Prog ℕ (Outcome ℕ)) → q ≡ want w c → w.link.tag < 2 ^ k

module _ (j : Job) (draw : ℕ → ℕ) (is_IsLeaf : (d : ℕ) → draw d < 2 ^ j.size) {n : ℕ} {row tree : List ℕ} (b : Begins j draw n row tree) where
  pub at_most : j.rounds ≤ 33
  at_most = rw b.rounds-are (rounds-most (structure_in j) j.size b.small)

  pub root-low : j.root.height ≤ 100
  root-low = let h = most-high (structure_in j) j.size b.small in omega (arith, b.fit.low)

  Ends : ℕ → Round (Outcome ℕ) → Type 0
  Ends i x = FetchEnds {s = structure_in j} j.size i (j.rounds - i) (to_op j.op) (store_at j n row tree) x

  -- The spare draws that the job has are those of the call.
  spares-agree : AgreeOn (structure_in j) (spares_in j.spares) (spare_tags j.rounds draw)
  spares-agree zero below = b.first-is ∙ ap draw (sym (add-zero j.rounds))
  spares-agree (suc zero) below = b.second_is
  spares-agree (suc (suc i)) below = let z : ⊥ = omega (arith, two-spare (structure_in j)) in absurd z

  pub same-program : program_of j
      ≡ program 0 (to_op j.op) (spare_tags (rounds (structure_in j) j.size) draw) (capacity j.size) j.entries (to_ahead j.spares.ahead) (to_link j.root)
  same-program =
      rw (← b.limit_is, ← b.rounds-are)
      (program-agrees 0 (to_op j.op) (spares_in j.spares) (spare_tags j.rounds draw) j.limit j.entries (to_ahead j.spares.ahead) (to_link j.root) spares-agree)

  -- What is known ahead after the step.
  pub same_ahead : ahead_for j.op j.spares j.limit j.entries ≡ ahead_then j.size j.rounds (to_op j.op) draw (store_at j n row tree)
  same_ahead =
      rw (← b.limit_is)
      (ahead-agrees 0 (to_op j.op) (spares_in j.spares) (spare_tags j.rounds draw) j.limit j.entries (to_ahead j.spares.ahead) spares-agree)

  ends : (i : ℕ) → i ≤ j.rounds → Ends i (fetched j draw i n row tree)
  unfolding Ends
  ends i h =
      rw same-program
      (fetch-rounds j.size b.some_size (omega (arith, b.small)) (to_op j.op) b.op_fits draw is_IsLeaf (store_at j n row tree) b.fit b.key_left i (j.rounds - i)
      (omega (arith, b.rounds-are)))

  pub midway : (i : ℕ) (g : Going) (q : Prog ℕ (Outcome ℕ)) → i ≤ j.rounds → fetched j draw i n row tree ≡ on g q → Midway j.size i g q
  unfolding Ends
  midway i g q h e = go (subst (Ends i) e (ends i h))
    where
      leads-to : {given : List (Node ℕ)} {Post : Outcome ℕ → List (Node ℕ) → Type 0} {t : Want ℕ → Node ℕ → Bool} (p : Prog ℕ (Outcome ℕ))
          → Yields (AskedFrom j.size (to_link j.root)) (Given j.size t) Post p given
          → (w : Want ℕ) (c : Node ℕ → Prog ℕ (Outcome ℕ)) → p ≡ want w c → w.link.tag < 2 ^ j.size
      leads-to (done o) y w c e = let z : ◌≡◌ {A = ℕ} 0 1 = cc in absurd (omega arith)
      leads-to (want v d) (asks right next) w c e = let same : v ≡ w = cc in rw (← same) right.0

      go : Ends i (on g q) → Midway j.size i g q
      go (goes sound few seen next) =
          record { is-tree = sound.is-tree; proper = sound.waiting; few = few; seen = omega (arith, seen); leads = leads-to q next.yields }

  -- No program is left with a want.
  pub all-fetched : (g : Going) (q : Prog ℕ (Outcome ℕ)) → fetched j draw j.rounds n row tree ≡ on g q → wanted_in q ≡ none
  all-fetched g (done o) e = refl
  all-fetched g (want w c) e =
      absurd
      (never-left-wanting j.size b.some_size (omega (arith, b.small)) (to_op j.op) b.op_fits draw is_IsLeaf (store_at j n row tree) b.fit b.key_left g w c
      (rw (← same-program, ← b.rounds-are) e))

-- ---- the rounds that want a node, one by one
-- The trace after one more leaf.
drop_more : (i : ℕ) (xs ys : List ℕ) → drop i xs ≡ drop i ys → drop (suc i) xs ≡ drop (suc i) ys
drop_more i xs ys e =
    let one : (l : List ℕ) → drop (suc i) l ≡ drop 1 (drop i l) = λ l. rw (drop-drop 1 i l, add-one i) in
    one xs ∙ ap (drop 1) e ∙ sym (one ys)

stored-later : (i : ℕ) (trace trace₀ : List ℕ) (v : ℕ) → drop i trace ≡ drop i trace₀ → drop (suc i) (set trace i v) ≡ drop (suc i) trace₀
stored-later i trace trace₀ v e = drop-set-lt (suc i) trace i v (omega arith) ∙ drop_more i trace trace₀ e

module _ (j : Job) (draw : ℕ → ℕ) (is_IsLeaf : (d : ℕ) → draw d < 2 ^ j.size) {n : ℕ} {row₀ tree₀ : List ℕ} (b : Begins j draw n row₀ tree₀)
    (trace₀ : List ℕ) {hs : List fetch.Held} {m peak : ℕ} {row tree trace : List ℕ} (inv : Walked j draw n row₀ tree₀ trace₀ hs m peak row tree trace) where
  abbrev i : ℕ
  i = length hs

  abbrev here : Going
  here = going m row tree hs (take i trace)

  abbrev q : Prog ℕ (Outcome ℕ)
  q = after (program_of j) (nodes_held hs)

  now-midway : Midway j.size i here q
  now-midway = midway j draw is_IsLeaf b i here q inv.upto inv.so_far

  pub walked-few : length hs ≤ 33
  walked-few = omega (arith, inv.upto, at_most j draw is_IsLeaf b)

  pub walked-between : Between j.size m row tree (keys_held hs)
  walked-between =
      let t = now-midway in
      record {
        small = b.small;
        is-tree = t.is-tree;
        rests = inv.rests;
        proper = t.proper;
        few = omega (arith, t.few, length-map hs (λ (h : fetch.Held). h.node.key), waiting-length inv.rests.holds);
      }

  -- After the last fetch round.
  pub walked_all : j.rounds ≤ length hs → wanted_in (after (program_of j) (nodes_held hs)) ≡ none
  walked_all e =
      let same : i ≡ j.rounds = omega (arith, inv.upto) in
      all-fetched j draw is_IsLeaf b here q (subst (λ (i : ℕ). fetched j draw i n row₀ tree₀ ≡ on here q) same inv.so_far)

  module _ (want : code.Want) (asked : wanted_in (after (program_of j) (nodes_held hs)) ≡ some (to_want want)) where
    there : Wants q (to_want want)
    there = wants q (to_want want) asked

    -- The round can begin.
    pub want-ready : RoundReady j.size want.link.tag m row tree (keys_held hs)
    want-ready = between-ready walked-between want.link.tag (now-midway.leads (to_want want) there.then there.is)

    module _ {row' tree' : List ℕ} {r : Took} (more : length hs < j.rounds) (round : Wanted j.structure j.entries j.size m want row tree (keys_held hs) row' tree' r)
        {peak' : ℕ} (raised : peak' ≡ max peak r.count) (room : length hs < length trace₀) where
      abbrev fetched_node : Node ℕ
      fetched_node = retag (draw i) (to_node (node_taken r))

      -- The node as it is held.
      abbrev pub now_held : fetch.Held
      now_held = taken_as want (draw i) (to_node (node_taken r))

      abbrev trace' : List ℕ
      trace' = set trace i want.link.tag

      abbrev ended : List fetch.Held → Going
      ended hs = going r.waiting row' tree' hs (take (i + 1) trace')

      one-leaf-more : take i trace ++ (want.link.tag ∷ []) ≡ take (i + 1) trace'
      one-leaf-more = rw (add-one i) (sym (take-suc-set trace i want.link.tag (omega (arith, inv.trace-sized))))

      this-round : (taken : Bool) → took r ≡ taken
          → want_round (structure_in j) j.entries j.size (draw i) (to_want want) there.then here
          ≡ ended_with (mark_of r.fault) (ended (hs ++ held_too taken now_held)) (there.then fetched_node)
      this-round taken t = rw (← b.structure-is, ← one-leaf-more, ← t) (round.round hs (take i trace) (draw i) there.then refl)

      next-round : (taken : Bool) → took r ≡ taken
          → fetched j draw (i + 1) n row₀ tree₀ ≡ ended_with (mark_of r.fault) (ended (hs ++ held_too taken now_held)) (there.then fetched_node)
      next-round taken t =
          round-more (structure_in j) j.entries j.size draw (program_of j) (going n row₀ tree₀ [] []) i here (to_want want) there.then
          (inv.so_far ∙ ap (on here) there.is)
          ∙ this-round taken t

      -- The same round as the next of those that are listed, and what it counts.
      abbrev listed_round : Round (Outcome ℕ)
      listed_round = fetch_round (structure_in j) j.entries j.size (draw i) q here

      listed-wants : listed_round ≡ want_round (structure_in j) j.entries j.size (draw i) (to_want want) there.then here
      listed-wants =
          ap (λ (p : Prog ℕ (Outcome ℕ)). fetch_round (structure_in j) j.entries j.size (draw i) p here) there.is
          ∙ wanting-round (structure_in j) j.entries j.size (draw i) (to_want want) there.then here

      most-then : max peak (peak_at listed_round) ≡ peak'
      most-then =
          ap (λ (x : Round (Outcome ℕ)). max peak (peak_at x)) listed-wants
          ∙ ap (max peak) (rw (← b.structure-is) (round.counted hs (take i trace) (draw i) there.then refl))
          ∙ sym raised

      rounds-then : j.rounds - i ≡ suc (j.rounds - (i + 1))
      rounds-then = omega arith

      trace-later : drop (i + 1) trace' ≡ drop (i + 1) trace₀
      trace-later = rw (add-one i) (stored-later i trace trace₀ want.link.tag inv.untouched)

      trace-length : length trace' ≡ length trace₀
      trace-length = length-set trace i want.link.tag ∙ inv.trace-sized

      keys-then : (taken : Bool) → keys_held (hs ++ held_too taken now_held) ≡ keys_held hs ++ held_too taken (node_taken r).key
      keys-then true = map-append (λ (h : fetch.Held). h.node.key) hs (now_held ∷ [])
      keys-then false = map-append (λ (h : fetch.Held). h.node.key) hs []

      rests-then : (taken : Bool) → took r ≡ taken → Rests r.waiting row' (keys_held (hs ++ held_too taken now_held))
      rests-then taken t = rw (keys-then taken, ← t) round.rests

      -- The wanted link is low, and so is the node that passed its test.
      node-low : took r ≡ true → Low 100 fetched_node
      node-low t =
          let low = wanted-low (to_op j.op) (spares_in j.spares) j.limit j.entries (to_ahead j.spares.ahead) (to_link j.root) (nodes_held hs) 100 (omega arith) (root-low j draw is_IsLeaf b) inv.low asked in
          let passed : test (structure_in j) j.entries (to_want want) (to_node (node_taken r)) ≡ true = rw (← b.structure-is) (round.tested t) in
          tested_low (structure_in j) j.entries (to_want want) (to_node (node_taken r)) 100 passed (omega arith) low

      nodes-more : nodes_held (hs ++ (now_held ∷ [])) ≡ nodes_held hs ++ (fetched_node ∷ [])
      nodes-more = map-append (λ (h : fetch.Held). h.node) hs (now_held ∷ [])

      lows-then : (taken : Bool) → took r ≡ taken → Lows 100 (nodes_held (hs ++ held_too taken now_held))
      lows-then true t = rw nodes-more (lows-append 100 (nodes_held hs) fetched_node inv.low (node-low t))
      lows-then false t = rw (append-nil hs) inv.low

      counted-then : (taken : Bool) → length (hs ++ held_too taken now_held) ≤ i + 1
      counted-then true = omega (arith, length-append hs (now_held ∷ []))
      counted-then false = omega (arith, ap length (append-nil hs))

      -- The store was closed in this round, whether the node was taken out, as with overflow, or not, as with damage.
      pub walked-shut : (taken : Bool) → took r ≡ taken → (mark_of r.fault ≡ 0 → ⊥) → {count : ℕ} → count ≡ length (hs ++ held_too taken now_held)
          → FetchedAs j draw n row₀ tree₀ trace₀ (hs ++ held_too taken now_held) row' tree' trace'
          (record { count = count; waiting = r.waiting; fault = r.fault; leaves = length hs + 1; peak = peak' })
      walked-shut taken t marked counted =
          let hs' = hs ++ held_too taken now_held in
          record {
            outcome =
                closed-early (structure_in j) j.entries j.size draw (program_of j) (going n row₀ tree₀ [] []) (i + 1) j.rounds (mark_of r.fault) (ended hs') (omega arith)
                (next-round taken t ∙ stops-here (mark_of r.fault) (ended hs') (there.then fetched_node) marked)
                ∙ sym (stops-here (mark_of r.fault) (ended hs') (after (program_of j) (nodes_held hs')) marked);
            peaked =
                inv.peaks ∙ rw rounds-then
                (peak-shuts (structure_in j) j.entries j.size draw (j.rounds - (i + 1)) i q here (ended hs') (mark_of r.fault)
                (listed-wants ∙ this-round taken t ∙ stops-here (mark_of r.fault) (ended hs') (there.then fetched_node) marked) peak
                ∙ most-then);
            finished = λ e. absurd (marked e);
            counted = counted;
            upto = omega (arith, counted-then taken);
            rests = rests-then taken t;
            low = lows-then taken t;
            no_more = omega arith;
            all_shown = λ e. absurd (marked e);
            trace-sized = trace-length;
            untouched = trace-later;
          }

      abbrev pub held_more : List fetch.Held
      held_more = hs ++ (now_held ∷ [])

      pub more-counted : length held_more ≡ length hs + 1
      more-counted = length-append hs (now_held ∷ [])

      went : mark_of r.fault ≡ 0 → ended_with (mark_of r.fault) (ended held_more) (there.then fetched_node) ≡ on (ended held_more) (after (program_of j) (nodes_held held_more))
      went e =
          goes_on_lem (mark_of r.fault) (ended held_more) (there.then fetched_node) e
          ∙ ap (on (ended held_more)) (sym (ap (after (program_of j)) nodes-more ∙ after_more (program_of j) (nodes_held hs) fetched_node there.is))

      -- The call goes on.
      pub walked_on : took r ≡ true → mark_of r.fault ≡ 0 → Walked j draw n row₀ tree₀ trace₀ held_more r.waiting peak' row' tree' trace'
      walked_on t e =
          record {
            upto = omega (arith, more-counted);
            so_far = rw more-counted (next-round true t ∙ went e);
            peaks =
                inv.peaks ∙ rw (rounds-then, more-counted)
                (peak-goes (structure_in j) j.entries j.size draw (j.rounds - (i + 1)) i q here (ended held_more)
                (after (program_of j) (nodes_held held_more)) (listed-wants ∙ this-round true t ∙ went e) peak
                ∙ ap₂ (λ (p i' : ℕ). max p (peak_of (rounds_from (structure_in j) j.entries j.size draw (j.rounds - (i + 1)) i' (after (program_of j) (nodes_held held_more)) (ended held_more))))
                most-then (sym (add-one i)));
            rests = rests-then true t;
            low = lows-then true t;
            trace-sized = trace-length;
            untouched = rw more-counted trace-later;
          }

-- ---- before the first
pub walked-begins : (j : Job) (draw : ℕ → ℕ) {n : ℕ} {row tree : List ℕ} → Begins j draw n row tree → (trace : List ℕ) → Walked j draw n row tree trace [] n 0 row tree trace
walked-begins j draw {n} {row} {tree} b trace =
    record {
      upto = omega arith;
      so_far =
          fetches-none (structure_in j) j.entries j.size draw 0 (program_of j) (going n row tree [] [])
          ∙ ap (on (going n row tree [] [])) (sym (after_none (program_of j)));
      peaks = rw (sub-zero j.rounds, after_none (program_of j)) (omega arith);
      rests = b.rests;
      low = tt;
      trace-sized = refl;
      untouched = refl;
    }

-- ---- once none is wanted
-- The rounds that are left want none, as put rounds do.
idle-same : (k leaf : ℕ) (p : Prog ℕ (Outcome ℕ)) (g : Going) (h : Going) (q : Prog ℕ (Outcome ℕ)) → idle_round k leaf p g ≡ on h q → q ≡ p
unfolding idle_round at_close
idle-same k leaf p g h q e = go (read_half leaf_format k g.tree leaf none (held_keys g) g.waiting) refl
  where
    go : (o : Option (Hand (Node ℕ))) → read_half leaf_format k g.tree leaf none (held_keys g) g.waiting ≡ o → q ≡ p
    go none r = let x : shut 8 (revealing leaf g) ≡ on h q = rw (r, idle_round) at e in let z : ◌≡◌ {A = ℕ} 0 1 = cc in absurd (omega arith)
    go (some d) r = close (too_many (written k leaf d.waiting g.held g)) (rw (r, idle_round, at_close) at e)
      where
        close : (t : Bool) → pick t (shut 9 (written k leaf d.waiting g.held g)) (on (written k leaf d.waiting g.held g) p) ≡ on h q → q ≡ p
        close true x = let z : ◌≡◌ {A = ℕ} 0 1 = cc in absurd (omega arith)
        close false x = cc

pub done-rounds : (s : Structure) (entries k : ℕ) (draw : ℕ → ℕ) (n i : ℕ) (o : Outcome ℕ) (g : Going)
    → fetch_rounds s entries k draw n i (done o) g ≡ put_rounds k draw n i o g
unfolding fetch_round goes_on
done-rounds s entries k draw zero i o g = fetches-none s entries k draw i (done o) g ∙ sym (put-none k draw i o g)
done-rounds s entries k draw (suc n) i o g =
    fetches-next s entries k draw n i (done o) g
    ∙ go (λ h. done-rounds s entries k draw n (suc i) o h) (idle_round k (draw i) (done o) g) refl
  where
    go : ((h : Going) → fetch_rounds s entries k draw n (suc i) (done o) h ≡ put_rounds k draw n (suc i) o h)
        → (x : Round (Outcome ℕ)) → idle_round k (draw i) (done o) g ≡ x
        → goes_on s entries k draw x (λ h q. fetch_rounds s entries k draw n (suc i) q h) ≡ put_rounds k draw (suc n) i o g
    go more (shut m h) e = sym (put-shuts k draw n i o g h m e)
    go more (on h q) e =
        let same : q ≡ done o = idle-same k (draw i) (done o) g h q e in
        rw same (more h) ∙ sym (put-goes k draw n i o g h (rw same at e))
