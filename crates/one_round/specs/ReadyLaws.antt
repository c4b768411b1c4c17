-- What the two halves of a round need follows from what the round needs: the words of nodes have the nodes' keys and tags.
use Rattle.std.specs.Prelude.{◌≡◌, refl, List, [], ◌∷◌, ◌++◌, map, ℕ, ◌^◌, ◌<◌, take}
use Rattle.std.proofs.Common.{sym, ◌∙◌, ap, ap₂, subst, arith}
use mathlib.Core.List.Memᴰ
use Rattle.list_spec.specs.Distinct.{All}
use Rattle.slot_spec.specs.declared.Slot.{Slot}
use Rattle.method_spec.specs.Node.{Node}
use Rattle.round_spec.specs.Round.{keys_of, none_twice}
use Rattle.round_spec.specs.Nodes.{words_format}
use Rattle.list_spec.specs.Ascending.{ascending}
use Rattle.leaf_spec.specs.Leaf.{leaf_format}
use Rattle.word_round_laws.specs.SlotRow.{Leaves, slots_in}
use Rattle.path_reader.specs.Look.{Fit}
use Rattle.stash_laws.specs.Waiting.{words_for, InWidths, waiting_in}
use Rattle.stash_laws.specs.WaitingLaws.{leaf-carried}
use Rattle.one_round.specs.OneRound.{keys_waiting, RoundReady}

-- ---- keys and tags of words
keys-of-words : (ns : List (Node ℕ)) → All InWidths ns → keys_of words_format (map words_for ns) ≡ keys_of leaf_format ns
keys-of-words [] r = refl
keys-of-words (n ∷ ns) r =
    ap₂ (λ (x : ℕ) (xs : List ℕ). x ∷ xs) (leaf-carried.key n (r n (Memᴰ.head refl)))
    (keys-of-words ns (λ m h. r m (Memᴰ.tail h)))

leaves-of-words : (k : ℕ) (ns : List (Node ℕ)) → All InWidths ns → All (λ (m : Node ℕ). m.tag < 2 ^ k) ns → Leaves k (map words_for ns)
leaves-of-words k ns r tags x m =
    let q = Memᴰ.of_map words_for ns m in
    subst (λ (y : Slot). words_format.tag y < 2 ^ k) q.2
    (rw (leaf-carried.tag q.0 (r q.0 q.1)) (tags q.0 q.1))

module _ {k leaf n : ℕ} {row tree held : List ℕ} (ready : RoundReady k leaf n row tree held) where
  -- The words' keys are those of the waiting nodes.
  pub ready-keys : keys_of words_format (take n (slots_in row)) ≡ keys_waiting n row
  ready-keys = ap (keys_of words_format) ready.holds.exact ∙ keys-of-words (waiting_in n row) ready.holds.ranged

  pub ready-leaves : Leaves k (take n (slots_in row))
  ready-leaves =
      subst (Leaves k) (sym ready.holds.exact) (leaves-of-words k (waiting_in n row) ready.holds.ranged ready.tags)

  -- What the read half needs.
  pub ready-fit : Fit k leaf n row tree held
  ready-fit =
      record {
        size = omega (arith, ready.small);
        is_leaf = ready.is_leaf;
        tree-sized = ready.is-tree.sized;
        waiting-sized = ready.holds.sized;
        blank = ready.holds.blank;
        room = omega (arith, ready.small, ready.few);
        order = ap ascending ready-keys ∙ ready.order;
        distinct = ap (λ (ks : List ℕ). none_twice (ks ++ held)) ready-keys ∙ ready.apart;
      }
