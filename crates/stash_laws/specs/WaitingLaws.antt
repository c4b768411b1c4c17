-- Slots that are the words of some nodes hold those nodes; a round over such slots is the round over the nodes.
use Rattle.std.specs.Prelude.{◌≡◌, refl, List, [], ◌∷◌, map, ℕ, ◌^◌, ◌≤◌, ◌<◌, length, take}
use Rattle.std.proofs.Common.{sym, ◌∙◌, ap, ap₂, subst, arith, length-take}
use mathlib.Core.List.Memᴰ
use Rattle.std.proofs.Math.Option
use Rattle.std.proofs.Math.Option.{Option}
use Rattle.std.proofs.lemmas.List.{length-map}
use Rattle.list_spec.specs.Distinct.{All}
use Rattle.slot_spec.specs.Slot.{Fields, fields_in, fields_of, read_slot, slot_bytes, slot_of, Ranged}
use Rattle.slot_laws.specs.SlotLaws.{fields-encoded, slot-encoded}
use Rattle.slot_laws.specs.RowLaws.{node-from-slot}
use Rattle.slot_spec.specs.declared.Node as node
use Rattle.slot_spec.specs.declared.Reading.{Reading}
use Rattle.slot_spec.specs.declared.Reading.TheVariants.{Full, Empty, Bad}
use Rattle.method_spec.specs.Node.{Node}
use Rattle.round_spec.specs.Format.{full}
use Rattle.round_spec.specs.Round.{Wish, insert, read_half, write_half}
use Rattle.round_spec.specs.Nodes.{reading_of, words_of, words_format}
use Rattle.round_spec.specs.Whole.{IsTree}
use Rattle.round_laws.specs.NodeLaws.{reading-full, read-ranged}
use Rattle.round_laws.specs.Same.{map_read, map_hand, map_written, Carries, insert-carried, read-half-carried, write-half-carried}
use Rattle.leaf_spec.specs.Convert.{to_node, from_node}
use Rattle.leaf_spec.specs.Leaf.{read_leaf, leaf_format}
use Rattle.word_round_laws.specs.SlotRow.{places, row_length, slots_in, Blank}
use Rattle.word_round_laws.specs.SlotRowLaws.{slots-count}
use Rattle.stash_laws.specs.Waiting.{words_for, node_in, InWidths, waiting_in, Holds}

words-fields-in : (n : node.Node) → Ranged n → fields_in (slot_bytes (slot_of n)) ≡ fields_of n
words-fields-in n r = ap fields_in (slot-encoded n r) ∙ fields-encoded n r

-- A node's words hold it.
pub node-in-words : (n : Node ℕ) → InWidths n → node_in (words_for n) ≡ n
node-in-words n r = ap to_node (node-from-slot (from_node n) r)

nodes-in-words : (ns : List (Node ℕ)) → All InWidths ns → map node_in (map words_for ns) ≡ ns
nodes-in-words [] r = refl
nodes-in-words (n ∷ ns) r =
    ap₂ (λ (m : Node ℕ) (ms : List (Node ℕ)). m ∷ ms) (node-in-words n (r n (Memᴰ.head refl)))
    (nodes-in-words ns (λ m h. r m (Memᴰ.tail h)))

-- Slots that are the words of some nodes hold them.
module _ (n : ℕ) (row : List ℕ) (ns : List (Node ℕ)) (r : All InWidths ns) (e : take n (slots_in row) ≡ map words_for ns) where
  pub waiting-are : waiting_in n row ≡ ns
  waiting-are = ap (map node_in) e ∙ nodes-in-words ns r

  pub holds-them : length row ≡ row_length → n ≤ places → Blank n row → Holds n row
  holds-them sized few blank =
      record {
        sized = sized;
        few = few;
        exact = e ∙ ap (map words_for) (sym waiting-are);
        ranged = subst (All InWidths) (sym waiting-are) r;
        blank = blank;
      }

-- As many nodes as slots.
pub waiting-length : {n : ℕ} {row : List ℕ} → Holds n row → length (waiting_in n row) ≡ n
waiting-length {n} {row} h =
    let all = slots-count row in
    length-map (take n (slots_in row)) node_in ∙ length-take n (slots_in row) ∙ omega (arith, h.few)

-- ---- the two formats
leaf-words : (r : Reading) → words_of (reading_of r) ≡ map_read words_for (read_leaf r)
unfolding words_of reading_of read_leaf
leaf-words (Full n) = refl
leaf-words Empty = refl
leaf-words Bad = refl

leaf-read : (r : Reading) (n : Node ℕ) → read_leaf r ≡ full n → reading_of r ≡ full (from_node n)
unfolding read_leaf reading_of
leaf-read (Full m) n e = let same : to_node m ≡ n = cc in ap (λ (x : Node ℕ). full (from_node x)) same
leaf-read Empty n e = cc
leaf-read Bad n e = cc

pub leaf-carried : Carries leaf_format words_format words_for InWidths
unfolding words_format fields_of
leaf-carried =
    record {
      key = λ n r. ap (λ (f : Fields). f.key) (words-fields-in (from_node n) r);
      tag = λ n r. ap (λ (f : Fields). f.tag) (words-fields-in (from_node n) r);
      bytes = λ n r. slot-encoded (from_node n) r;
      read = λ k b bs. leaf-words (read_slot k b bs);
      reads = λ k b bs n h l e. read-ranged k b bs (from_node n) h l (reading-full (read_slot k b bs) (from_node n) (leaf-read (read_slot k b bs) n e));
    }

-- The halves of a round over words are those over the nodes.
pub read-words : (k : ℕ) (tree : List ℕ) → IsTree k tree → (t : ℕ) → t < 2 ^ k → (w : Option Wish) (held : List ℕ) (ns : List (Node ℕ)) → All InWidths ns
    → read_half words_format k tree t w held (map words_for ns) ≡ Option.map (map_hand words_for) (read_half leaf_format k tree t w held ns)
read-words = read-half-carried leaf_format words_format words_for leaf-carried

pub write-words : (k t : ℕ) (ns : List (Node ℕ)) (tree : List ℕ) → All InWidths ns
    → write_half words_format k t (map words_for ns) tree ≡ map_written words_for (write_half leaf_format k t ns tree)
write-words = write-half-carried leaf_format words_format words_for leaf-carried

-- A node joins words as it joins nodes.
pub insert-words : (n : Node ℕ) (ns : List (Node ℕ)) → InWidths n → All InWidths ns
    → insert words_format (words_for n) (map words_for ns) ≡ map words_for (insert leaf_format n ns)
insert-words = insert-carried leaf_format words_format words_for leaf-carried
