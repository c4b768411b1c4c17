-- The read half over the words is the read half over the waiting nodes: damage in the one is damage in the other, else the words in hand
-- are those of the nodes in hand, which are within their widths.
use Rattle.std.specs.Prelude as prelude
use Rattle.std.specs.Prelude.{◌≡◌, refl, true, false, List, ◌++◌, map, ℕ, ◌^◌, ◌<◌, take, get_or}
use Rattle.std.proofs.Common.{sym, ◌∙◌, ap, subst, arith, get_or-take}
use mathlib.Core.List.Memᴰ
use Rattle.std.proofs.Math.Option
use Rattle.std.proofs.Math.Option.{Option, none, some}
use Rattle.list_spec.specs.Choice.{pick}
use Rattle.list_spec.specs.Distinct.{All}
use Rattle.list_laws.specs.DistinctLaws.{all_append, all_left, all_right, all-perm}
use Rattle.slot_spec.specs.Tree.{path}
use Rattle.slot_spec.specs.Slot.{fields_in, slot_bytes, node_of}
use Rattle.slot_spec.specs.declared.Slot.{Slot}
use Rattle.slot_spec.specs.declared.Node as node
use Rattle.method_spec.specs.Node.{Node}
use Rattle.round_spec.specs.Format.{full}
use Rattle.round_spec.specs.Round as round
use Rattle.round_spec.specs.Round.{Hand, slot_at, read_buckets, read_half}
use Rattle.round_spec.specs.Nodes.{words_format}
use Rattle.round_spec.specs.Whole.{listed, IsTree}
use Rattle.round_laws.specs.Paths.{path-in-tree}
use Rattle.round_laws.specs.Places.{slot-length, slot-bytes}
use Rattle.round_laws.specs.Readings.{good-member, bucket-readings, reading-of}
use Rattle.round_laws.specs.ReadHalf.{found, hand-perm}
use Rattle.round_laws.specs.Same.{map_hand}
use Rattle.leaf_spec.specs.Leaf.{leaf_format}
use Rattle.leaf_spec.specs.Convert.{to_node}
use Rattle.slot_spec.specs.Row.{zero_slot}
use Rattle.word_round_laws.specs.SlotRow.{slots_in}
use Rattle.path_reader.specs.Look.{wish_of, wanted, hand_of, Granted, Refused}
use Rattle.word_round_laws.specs.Stash.{removed}
use Rattle.path_reader.specs.declared.Looked.{Looked}
use Rattle.path_reader.specs.declared.Wish.{Wish}
use Rattle.stash_laws.specs.Waiting.{words_for, node_in, InWidths, waiting_in}
use Rattle.stash_laws.specs.WaitingLaws.{leaf-carried, node-in-words, read-words}
use Rattle.one_round.specs.OneRound.{RoundReady}

-- ---- widths of what is read
module _ (k : ℕ) (tree : List ℕ) (is : IsTree k tree) (t : ℕ) (is_leaf : t < 2 ^ k) where
  found-widths : All InWidths (found leaf_format k tree t)
  found-widths e m =
      let r = reading-of leaf_format k tree (path k t) (full e) (good-member (read_buckets leaf_format k tree (path k t)) m) in
      let s = bucket-readings leaf_format k tree r.0 (full e) r.2 in
      leaf-carried.reads k r.0 (slot_at tree r.0 s.0) e (slot-bytes k tree is r.0 s.0)
      (slot-length k tree is r.0 s.0 (path-in-tree k t is_leaf r.0 r.1) s.1) (sym s.2)

  module _ (w : Option round.Wish) (held : List ℕ) (ns : List (Node ℕ)) (widths : All InWidths ns) (h : Hand (Node ℕ))
      (read : read_half leaf_format k tree t w held ns ≡ some h) where
    hand-widths : All InWidths (listed h.taken ++ h.waiting)
    hand-widths = all-perm {P = InWidths} (hand-perm leaf_format k tree t w held ns h read) (all_append {P = InWidths} (found leaf_format k tree t) found-widths widths)

-- ---- options
map-none : {A B : Type 0} (f : A → B) (o : Option A) → Option.map f o ≡ none → o ≡ none
map-none f none e = refl
map-none f (some a) e = cc

map-some : {A B : Type 0} (f : A → B) (o : Option A) (b : B) → Option.map f o ≡ some b → (a : A) × (o ≡ some a) × (f a ≡ b)
map-some f none b e = let z : ◌≡◌ {A = ℕ} 0 1 = cc in absurd (omega arith)
map-some f (some a) b e = (a, refl, cc)

-- What the read half has in hand over the nodes, where over the words it has these: their words are these.
pub record InHand (k leaf n : ℕ) (w : Option round.Wish) (row tree held : List ℕ) (taken : Option Slot) (waiting : List Slot) : Type 0 where
  pub hand : Hand (Node ℕ)
  pub read : read_half leaf_format k tree leaf w held (waiting_in n row) ≡ some hand
  pub takes : Option.map words_for hand.taken ≡ taken
  pub waits : waiting ≡ map words_for hand.waiting
  pub taken-widths : All InWidths (listed hand.taken)
  pub widths : All InWidths hand.waiting

module _ {k leaf n : ℕ} {row tree held : List ℕ} (wish : prelude.Option Wish) (ready : RoundReady k leaf n row tree held) where
  abbrev half : Option (Hand (Node ℕ))
  half = read_half leaf_format k tree leaf (wish_of wish) held (waiting_in n row)

  word-half : Option.map (map_hand words_for) half ≡ read_half words_format k tree leaf (wish_of wish) held (take n (slots_in row))
  word-half =
      sym (read-words k tree ready.is-tree leaf ready.is_leaf (wish_of wish) held (waiting_in n row) ready.holds.ranged)
      ∙ ap (read_half words_format k tree leaf (wish_of wish) held) (sym ready.holds.exact)

  pub looked-damage : {after : List ℕ} → Refused k leaf wish n row tree held after → half ≡ none
  looked-damage looked = map-none (map_hand words_for) half (word-half ∙ looked.half)

  pub looked-hand : {after : List ℕ} (r : Looked) → Granted k leaf wish n row tree held after r
      → InHand k leaf n (wish_of wish) row tree held (pick (wanted wish) (some (get_or (take r.count (slots_in after)) r.at zero_slot)) none) (removed (wanted wish) r.at (take r.count (slots_in after)))
  looked-hand {after} r looked =
      let joint : List Slot = take r.count (slots_in after) in
      let q : Option.map (map_hand words_for) half ≡ some (hand_of (wanted wish) r.at joint) = word-half ∙ looked.half in
      let m = map-some (map_hand words_for) half (hand_of (wanted wish) r.at joint) q in
      let h = m.0 in
      let all = hand-widths k tree ready.is-tree leaf ready.is_leaf (wish_of wish) held (waiting_in n row) ready.holds.ranged h m.1 in
      record {
        hand = h;
        read = m.1;
        takes = ap (λ (x : Hand Slot). x.taken) m.2;
        waits = sym (ap (λ (x : Hand Slot). x.waiting) m.2);
        taken-widths = all_left {P = InWidths} h.waiting all;
        widths = all_right {P = InWidths} (listed h.taken) all;
      }

-- The node that was found is the one in hand.
pub taken-node : {k leaf n : ℕ} {w : Option round.Wish} {row tree held : List ℕ} {waiting : List Slot} (at count : ℕ) (after : List ℕ) (node : node.Node)
    → (i : InHand k leaf n w row tree held (some (get_or (take count (slots_in after)) at zero_slot)) waiting) → at < count
    → node ≡ node_of (fields_in (slot_bytes (get_or (slots_in after) at zero_slot))) → i.hand.taken ≡ some (to_node node)
taken-node at count after node i inside is =
    let m = map-some words_for i.hand.taken (get_or (take count (slots_in after)) at zero_slot) i.takes in
    let e = m.0 in
    let width : InWidths e = subst (λ (o : Option (Node ℕ)). All InWidths (listed o)) m.1 i.taken-widths e (Memᴰ.head refl) in
    let same : e ≡ to_node node =
    sym (node-in-words e width) ∙ ap node_in (m.2 ∙ get_or-take count (slots_in after) at zero_slot inside) ∙ ap to_node (sym is) in
    m.1 ∙ ap (λ (x : Node ℕ). some x) same
