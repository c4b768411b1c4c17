-- A call of the method at leaf tags keeps all nodes proper: the keys and values are those of the plain machine's entries, and the tags are
-- those from before and draws.
use Rattle.std.proofs.Common.{subst, arith, pow_pos}
use mathlib.Core.List.Memᴰ
use Rattle.std.specs.Prelude.{List, ◌++◌, ℕ, zero, suc, ◌^◌, ◌≤◌, ◌<◌, eqb, ltb, length}
use Rattle.std.proofs.lemmas.List.{map-append}
use mathlib.Core.List as list
use Rattle.list_laws.specs.ChoiceLaws.{either}
use Rattle.list_laws.specs.PermLaws.{perm-sym}
use Rattle.list_spec.specs.Distinct.{All}
use Rattle.list_laws.specs.DistinctLaws.{all_nil, all_cons, all_append, all_left, all_right, all-perm}
use Rattle.method_spec.specs.Node.{Node, Ahead}
use Rattle.method_spec.specs.Answer.{Structure, map, stack, heap, queue, Op, get, put, remove, push, pop, add, take, enqueue, dequeue}
use Rattle.method_spec.specs.Queue.{next_ahead, enqueue_ahead, dequeue_ahead}
use Rattle.method_spec.specs.Plain.{Contents, plain}
use Rattle.method_spec.specs.Rounds.{rounds, spare, spare_draw}
use Rattle.method_spec.specs.Call.{capacity, ahead_after, spare_tags, draws_from, Memory, Called, call}
use Rattle.run_laws.specs.Fetches.{tags}
use Rattle.run_laws.specs.Calls.{ahead_tags, given_tags, Stepped}
use Rattle.run_laws.specs.Answers.{StepsTo, represents-call}
use Rattle.method_laws.specs.Represented.{Held, represents}
use Rattle.leaf_spec.specs.Leaf.{ProperLeaf}
use Rattle.leaf_laws.specs.Proper.{Fits}
use Rattle.leaf_spec.specs.Entries.{pair_of, OpFits, KeyLeft}
use Rattle.bucket_call_spec.specs.Simulates.{AheadFits}
use Rattle.simulation_laws.specs.Entries.{PairFits, EntriesFit, plain_fits, held-entries, pairs-fit, fit-entries}
use Rattle.simulation_laws.specs.HeldProper.{held-proper}

abbrev pub Leaf : ℕ → ℕ → Type 0
Leaf k t = t < 2 ^ k

all_of_map : {A B : Type 0} (P : B → Type 0) (f : A → B) (xs : List A) → All (λ a. P (f a)) xs → All P (list.map f xs)
all_of_map P f xs h b i = let r = Memᴰ.of_map f xs i in subst P r.2 (h r.0 r.1)

draws-leaves : (k : ℕ) (draw : ℕ → ℕ) → ((d : ℕ) → Leaf k (draw d)) → (n d : ℕ) → All (Leaf k) (draws_from draw n d)
unfolding draws_from
draws-leaves k draw h zero d = all_nil (Leaf k)
draws-leaves k draw h (suc n) d = all_cons {P = Leaf k} (h d) (draws-leaves k draw h n (suc d))

-- ---- what is known ahead

ahead-leaves : (s : Structure) (entries k : ℕ) (a : Ahead ℕ) → a.tag < 2 ^ k → All (Leaf k) (ahead_tags s entries a)
ahead-leaves map entries k a h = all_nil (Leaf k)
ahead-leaves stack entries k a h = all_nil (Leaf k)
ahead-leaves heap entries k a h = all_nil (Leaf k)
ahead-leaves queue zero k a h = all_nil (Leaf k)
ahead-leaves queue (suc n) k a h = all_cons {P = Leaf k} h (all_nil (Leaf k))

-- After a step: a draw, or none.
pub ahead_after_lem : {s : Structure} (k : ℕ) (op : Op s) (spares : ℕ → ℕ) → ((i : ℕ) → spares i < 2 ^ k) → (limit entries : ℕ) (a : Ahead ℕ)
    → KeyLeft op a.key → AheadFits k a → AheadFits k (ahead_after 0 op spares limit entries a)
unfolding ahead_after enqueue_ahead dequeue_ahead
ahead_after_lem k (get key) spares leaves limit entries a left f = f
ahead_after_lem k (put key value) spares leaves limit entries a left f = f
ahead_after_lem k (remove key) spares leaves limit entries a left f = f
ahead_after_lem k (push value) spares leaves limit entries a left f = f
ahead_after_lem k pop spares leaves limit entries a left f = f
ahead_after_lem k (add value) spares leaves limit entries a left f = f
ahead_after_lem k take spares leaves limit entries a left f = f
ahead_after_lem k (enqueue value) spares leaves limit entries a left f =
    either (AheadFits k) (ltb entries limit) {a = next_ahead (spares 1) a} {b = a} (record { key = left; tag = leaves 1 }) f
ahead_after_lem k dequeue spares leaves limit entries a left f =
    either (AheadFits k) (eqb entries 1) {a = record { key = a.key; tag = 0 }} {b = a} (record { key = f.key; tag = pow_pos k }) f

-- ---- a memory's own numbers

module _ (s : Structure) (k : ℕ) (t : Contents s) (m : Memory ℕ) (held : Held 0 s (capacity k) t m) where
  entries_fit : All (Fits k) m.nodes → EntriesFit s t
  entries_fit h =
      fit-entries s t (held-entries 0 s (capacity k) t m held)
      (all_of_map PairFits pair_of m.nodes (λ n i. let f = h n i in (f.key, f.value)))

  nodes-fit : m.ahead.key < 2 ^ 32 → EntriesFit s t → All (Leaf k) (tags m.nodes) → All (Fits k) m.nodes
  nodes-fit below h leaves n i =
      let f = pairs-fit s (capacity k) t m held below h (pair_of n) (Memᴰ.map pair_of i) in
      record { key = f.0; value = f.1; tag = leaves n.tag (Memᴰ.map (λ (n : Node ℕ). n.tag) i) }

-- ---- a call

module _ {s : Structure} (k : ℕ) (small : k ≤ 16) (t : Contents s) (m : Memory ℕ) (held : Held 0 s (capacity k) t m)
    (op : Op s) (draw : ℕ → ℕ) where
  abbrev called : Called ℕ
  called = call 0 (rounds s k) (capacity k) op draw m

  abbrev said : Contents s
  said = (plain (capacity k) op t).contents

  abbrev spares : ℕ → ℕ
  spares = spare_tags (rounds s k) draw

  abbrev ahead : Ahead ℕ
  ahead = ahead_after 0 op spares (capacity k) m.entries m.ahead

  steps : Stepped s (StepsTo (Held 0 s (capacity k)) (plain (capacity k) op t) (given_tags s m spares) ahead) ahead (rounds s k) draw m called
  steps = represents-call (represents 0 s k) t op draw m held

  pub call-held : Held 0 s (capacity k) said called.memory
  call-held = rw steps.remembers steps.holds.contents

  module _ (op_fits : OpFits op) (key_left : KeyLeft op m.ahead.key) (leaves : (d : ℕ) → draw d < 2 ^ k) (known : AheadFits k m.ahead)
      (fit : All (Fits k) m.nodes) where
    pub call-ahead : AheadFits k called.memory.ahead
    call-ahead = rw steps.remembers (ahead_after_lem k op spares (λ i. leaves (spare_draw (rounds s k) i)) (capacity k) m.entries m.ahead key_left known)

    step-leaves : All (Leaf k) (tags called.memory.nodes)
    step-leaves =
        let c = steps in
        let old : All (Leaf k) (tags m.nodes) = all_of_map (Leaf k) (λ (n : Node ℕ). n.tag) m.nodes (λ n i. (fit n i).tag) in
        let left : All (Leaf k) (tags c.left) = all_right {P = Leaf k} c.links (all-perm {P = Leaf k} c.old-tags old) in
        let fetched : All (Leaf k) (tags c.fetched) =
        all-perm {P = Leaf k} (perm-sym c.new-tags) (draws-leaves k draw leaves (length c.links) 0) in
        let again : All (Leaf k) (tags c.outcome.nodes) =
        all_left {P = Leaf k} (ahead_tags s c.outcome.entries ahead ++ c.holds.retagged.dropped)
        (all-perm {P = Leaf k} c.holds.retagged.among
        (all_append {P = Leaf k} (given_tags s m spares)
        (all_append {P = Leaf k} (ahead_tags s m.entries m.ahead) (ahead-leaves s m.entries k m.ahead known.tag)
        (draws-leaves k spares (λ i. leaves (spare_draw (rounds s k) i)) (spare s) 0)) fetched)) in
        rw (c.remembers, map-append (λ (n : Node ℕ). n.tag) c.outcome.nodes c.left)
        (all_append {P = Leaf k} (tags c.outcome.nodes) again left)

    pub call_fits : All (Fits k) called.memory.nodes
    call_fits =
        nodes-fit s k said called.memory call-held call-ahead.key
        (plain_fits k (omega arith) op op_fits t (entries_fit s k t m held fit)) step-leaves

    pub call-proper : All (ProperLeaf k) called.memory.nodes
    call-proper = held-proper k small s said called.memory call-held call-ahead call_fits
