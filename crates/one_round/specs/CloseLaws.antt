-- The write half over the words is the write half over the nodes in hand, and what a round needs of the waiting nodes it leaves: they are in
-- words, in key order, and no key stands twice among those waiting, taken and held.
use Rattle.std.specs.Prelude.{◌≡◌, refl, Bool, true, false, ℕ, ◌+◌, ◌≤◌, ◌<◌, take, Option}
use Rattle.std.proofs.Common.{sym, ◌∙◌, subst, arith}
use Rattle.std.proofs.Math.Path.{ap, ap₂}
use mathlib.Core.List.{List, [], ◌∷◌, ◌++◌, map}
use Rattle.std.proofs.Math.Option as math
use Rattle.std.proofs.Math.ListN.{length}
use Rattle.std.proofs.lemmas.List.{length-map}
use Rattle.list_spec.specs.Choice.{pick}
use Rattle.list_spec.specs.Distinct.{All}
use Rattle.list_laws.specs.PermLaws.{perm-append-left, perm_append_comm}
use Rattle.slot_spec.specs.declared.Slot.{Slot}
use Rattle.method_spec.specs.Node.{Node}
use Rattle.method_spec.specs.Prog.{Prog}
use Rattle.method_spec.specs.Outcome.{Outcome}
use Rattle.round_spec.specs.Round as round
use Rattle.round_spec.specs.Round.{Written, keys_of, none_twice, write_half, exceeds_limit}
use Rattle.round_spec.specs.Nodes.{words_format}
use Rattle.round_laws.specs.Same.{map_written}
use Rattle.round_spec.specs.Whole.{Ascending}
use Rattle.round_laws.specs.Sorted.{ascending-round}
use Rattle.leaf_spec.specs.Leaf.{leaf_format}
use Rattle.word_round_laws.specs.SlotRow.{places, row_length, slots_in}
use Rattle.path_reader.specs.Look.{Granted}
use Rattle.word_round_laws.specs.Stash.{removed}
use Rattle.eviction.specs.Settle.{Joint, Settled}
use Rattle.word_round_laws.specs.JoinLaws.{none-twice-perm}
use Rattle.word_round_laws.specs.KeepLaws.{taken_keys, read-distinct, write-distinct, write-holds}
use Rattle.path_reader.specs.declared.Looked.{Looked}
use Rattle.path_reader.specs.declared.Wish.{Wish}
use Rattle.stash_laws.specs.Waiting.{words_for, InWidths, waiting_in}
use Rattle.stash_laws.specs.WaitingLaws.{write-words, waiting-are, holds-them}
use Rattle.bucket_call_spec.specs.Fetch.{Held, Going, on, shut, at_close, written, too_many}
use Rattle.bucket_call_spec.specs.Peak.{peak_at}
use Rattle.peak_laws.specs.PeakLaws.{peak-close}
use Rattle.one_round.specs.OneRound.{going, ended_with, RoundReady, Rests}
use Rattle.one_round.specs.ReadyLaws.{ready-leaves}
use Rattle.one_round.specs.HandLaws.{InHand}

module _ {k leaf n : ℕ} {row tree held : List ℕ} (ready : RoundReady k leaf n row tree held) where
  -- What the write half needs, after a read half that found no damage.
  pub looked-joint : {after : List ℕ} (wish : Option Wish) (r : Looked) → Granted k leaf wish n row tree held after r → length after ≡ row_length
      → (want : Bool) (at : ℕ) → (want ≡ true → at < r.count) → Joint k leaf r.count want at after tree
  looked-joint wish r looked sized want at inside =
      record {
        size = omega (arith, ready.small);
        is_leaf = ready.is_leaf;
        tree-sized = ready.is-tree.sized;
        sized = sized;
        blank = looked.blank;
        room = omega (arith, looked.within, ready.small, ready.few);
        inside = inside;
        leaves = looked.leaves (ready-leaves ready);
      }

ended-at-close : (b : Bool) (g : Going) (p : Prog ℕ (Outcome ℕ)) → pick b (shut 9 g) (on g p) ≡ ended_with (pick b 9 0) g p
ended-at-close true g p = refl
ended-at-close false g p = refl

module _ {k leaf n : ℕ} {w : math.Option round.Wish} {row tree held : List ℕ} {taken : math.Option Slot} {want : Bool} {at m : ℕ} {after row' tree' : List ℕ} {left : ℕ}
    (ready : RoundReady k leaf n row tree held) (i : InHand k leaf n w row tree held taken (removed want at (take m (slots_in after))))
    (settled : Settled k leaf m want at after tree row' tree' left) (room : m ≤ places) where
  abbrev result : Written (Node ℕ)
  result = write_half leaf_format k leaf i.hand.waiting tree

  settled-half : map_written words_for result ≡ record { waiting = take left (slots_in row'); tree = tree' }
  settled-half =
      sym (write-words k leaf i.hand.waiting tree i.widths)
      ∙ ap (λ (xs : List Slot). write_half words_format k leaf xs tree) (sym i.waits)
      ∙ settled.half

  settled-words : take left (slots_in row') ≡ map words_for result.waiting
  settled-words = sym (ap (λ (r : Written Slot). r.waiting) settled-half)

  settled-tree : result.tree ≡ tree'
  settled-tree = ap (λ (r : Written Slot). r.tree) settled-half

  result-widths : All InWidths result.waiting
  result-widths = write-holds leaf_format k leaf i.hand.waiting tree InWidths i.widths

  settled-waiting : waiting_in left row' ≡ result.waiting
  settled-waiting = waiting-are left row' result.waiting result-widths settled-words

  settled-count : length result.waiting ≡ left
  settled-count =
      sym (length-map result.waiting words_for)
      ∙ ap length (sym settled-words)
      ∙ ap (λ (r : Written Slot). length r.waiting) (sym settled.half)
      ∙ sym settled.counted

  -- What is left.
  pub settled-rests : Rests left row' (held ++ taken_keys leaf_format i.hand.taken)
  settled-rests =
      let h = i.hand in
      let apart : none_twice (keys_of leaf_format h.waiting ++ (held ++ taken_keys leaf_format h.taken)) ≡ true =
      sym (none-twice-perm (perm-append-left (keys_of leaf_format h.waiting) (perm_append_comm (taken_keys leaf_format h.taken) held)))
      ∙ read-distinct leaf_format k tree leaf w held (waiting_in n row) h ready.apart i.read in
      record {
        holds = holds-them left row' result.waiting result-widths settled-words settled.sized (omega (arith, settled.fewer, room)) settled.blank;
        order =
            subst (Ascending leaf_format) (sym settled-waiting)
            (ascending-round leaf_format k tree leaf w held (waiting_in n row) h i.read ready.order);
        apart =
            subst (λ (ns : List (Node ℕ)). none_twice (keys_of leaf_format ns ++ (held ++ taken_keys leaf_format h.taken)) ≡ true) (sym settled-waiting)
            (write-distinct leaf_format k leaf h.waiting tree (held ++ taken_keys leaf_format h.taken) apart);
      }

  -- How the round ends, whatever is held from then on.
  pub settled-close : (hs hs' : List Held) (ls : List ℕ) (p : Prog ℕ (Outcome ℕ)) (count mark : ℕ) → length hs' ≡ count → mark ≡ pick (exceeds_limit left count) 9 0
      → at_close (written k leaf i.hand.waiting hs' (going n row tree hs ls)) p ≡ ended_with mark (going left row' tree' hs' (ls ++ (leaf ∷ []))) p
  unfolding at_close
  settled-close hs hs' ls p count mark sized marked =
      let g : Going = going left row' tree' hs' (ls ++ (leaf ∷ [])) in
      let same : written k leaf i.hand.waiting hs' (going n row tree hs ls) ≡ g =
      ap₂ (λ (t : List ℕ) (ns : List (Node ℕ)). record { tree = t; waiting = ns; held = hs'; leaves = ls ++ (leaf ∷ []) }) settled-tree (sym settled-waiting) in
      let many : too_many g ≡ exceeds_limit left count = ap₂ exceeds_limit (ap length settled-waiting ∙ settled-count) sized in
      ap (λ (x : Going). at_close x p) same
      ∙ ap (λ (b : Bool). pick b (shut 9 g) (on g p)) many
      ∙ ended-at-close (exceeds_limit left count) g p
      ∙ ap (λ (x : ℕ). ended_with x g p) (sym marked)

  -- What it counts then.
  pub settled-counts : (hs hs' : List Held) (ls : List ℕ) (p : Prog ℕ (Outcome ℕ)) (held' count : ℕ) → length hs' ≡ held' → count ≡ left + held'
      → peak_at (at_close (written k leaf i.hand.waiting hs' (going n row tree hs ls)) p) ≡ count
  settled-counts hs hs' ls p held' count sized counted =
      peak-close (written k leaf i.hand.waiting hs' (going n row tree hs ls)) p ∙ omega (arith, settled-count)
