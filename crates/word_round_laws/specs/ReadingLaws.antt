-- The reading of a slot's words: a full one's words are those of the node that it is read as.
use Rattle.std.specs.Prelude.{◌≡◌, refl, Bool, true, false, ℕ, ◌+◌, ◌*◌, ◌/◌, ◌%◌, ◌^◌, ◌<◌, eqb}
use Rattle.std.proofs.Common.{sym, ◌∙◌, eqb-true}
use Rattle.std.proofs.Math.Path.{ap}
use native.Mathlib.Omega.{arith}
use Rattle.std.proofs.lemmas.Bool.{eqb-false}
use Rattle.list_spec.specs.Choice.{pick}
use Rattle.slot_spec.specs.Tree.{passes}
use Rattle.slot_spec.specs.Slot.{fields_in, node_of, all_zero, well_formed, read_slot, slot_bytes, slot_of}
use Rattle.slot_laws.specs.SlotLaws.{Words, fields_of_words, fields-in-words, slot-length}
use Rattle.slot_laws.specs.ReadLaws.{all-zero-read, read-wrong-flag, read-wrong-zero1, read-wrong-zero2, read-node, well-formed-tag}
use Rattle.slot_spec.specs.declared.Node.{Node}
use Rattle.slot_spec.specs.declared.Slot.{Slot}
use Rattle.slot_spec.specs.declared.Reading.TheVariants.{Full, Empty, Bad}
use Rattle.round_spec.specs.Format.{full, empty, bad}
use Rattle.round_spec.specs.Nodes.{words_format, words_of, reading_of}

module _ (k b : ℕ) (x : Slot) (h : Words x) (n : Node) (r : read_slot k b (slot_bytes x) ≡ Full n) where
  -- The flag is 1 and the zero bytes are zero.
  full-flag : x.a % 256 ≡ 1
  full-flag = go (all_zero (slot_bytes x)) refl (eqb (x.a % 256) 1) refl
    where
      go : (z : Bool) → all_zero (slot_bytes x) ≡ z → (t : Bool) → eqb (x.a % 256) 1 ≡ t → x.a % 256 ≡ 1
      go true e t q = let y = all-zero-read k b (slot_bytes x) (slot-length x) e in let z : ◌≡◌ {A = ℕ} 0 1 = cc in absurd (omega arith)
      go false e true q = eqb-true (x.a % 256) 1 q
      go false e false q = let y = read-wrong-flag k b x h e (eqb-false (x.a % 256) 1 q) in let z : ◌≡◌ {A = ℕ} 0 1 = cc in absurd (omega arith)

  full-zero1 : x.a / 16777216 % 256 ≡ 0
  full-zero1 = go (eqb (x.a / 16777216 % 256) 0) refl
    where
      go : (t : Bool) → eqb (x.a / 16777216 % 256) 0 ≡ t → x.a / 16777216 % 256 ≡ 0
      go true q = eqb-true (x.a / 16777216 % 256) 0 q
      go false q = let y = read-wrong-zero1 k b x h full-flag (eqb-false (x.a / 16777216 % 256) 0 q) in let z : ◌≡◌ {A = ℕ} 0 1 = cc in absurd (omega arith)

  full-zero2 : x.c / 281474976710656 ≡ 0
  full-zero2 = go (eqb (x.c / 281474976710656) 0) refl
    where
      go : (t : Bool) → eqb (x.c / 281474976710656) 0 ≡ t → x.c / 281474976710656 ≡ 0
      go true q = eqb-true (x.c / 281474976710656) 0 q
      go false q = let y = read-wrong-zero2 k b x h full-flag full-zero1 (eqb-false (x.c / 281474976710656) 0 q) in let z : ◌≡◌ {A = ℕ} 0 1 = cc in absurd (omega arith)

  -- The node is the one that the fields hold, and it is well-formed.
  full-node : (n ≡ node_of (fields_in (slot_bytes x))) × (well_formed k n ≡ true)
  full-node = go (well_formed k (node_of (fields_in (slot_bytes x)))) refl (passes k (fields_in (slot_bytes x)).tag b) (sym (read-node k b x h full-flag full-zero1 full-zero2) ∙ r)
    where
      m : Node
      m = node_of (fields_in (slot_bytes x))

      go : (w : Bool) → well_formed k m ≡ w → (p : Bool) → pick w (pick p (Full m) Bad) Bad ≡ Full n → (n ≡ m) × (well_formed k n ≡ true)
      go true e true q = let s : n ≡ m = cc in (s, rw s e)
      go true e false q = let z : ◌≡◌ {A = ℕ} 0 1 = cc in absurd (omega arith)
      go false e p q = let z : ◌≡◌ {A = ℕ} 0 1 = cc in absurd (omega arith)

  pub full-words : slot_of n ≡ x
  unfolding slot_of node_of fields_of_words
  full-words =
      let e : n ≡ node_of (fields_of_words x) = full-node.0 ∙ ap node_of (fields-in-words x h) in
      let f = full-flag in
      let z1 = full-zero1 in
      let z2 = full-zero2 in
      let d1 : x.a ≡ 256 * (x.a / 256) + 1 = omega arith in
      let d2 : x.a / 256 ≡ 256 * (x.a / 65536) + x.a / 256 % 256 = omega arith in
      let d3 : x.a / 65536 ≡ 256 * (x.a / 16777216) + x.a / 65536 % 256 = omega arith in
      let q4 : x.a / 16777216 / 256 ≡ x.a / 4294967296 = omega arith in
      let d4 : x.a / 16777216 ≡ 256 * (x.a / 16777216 / 256) = omega arith in
      let c1 : x.c ≡ 65536 * (x.c / 65536) + x.c % 65536 = omega arith in
      let c2 : x.c / 65536 ≡ 65536 * (x.c / 4294967296) + x.c / 65536 % 65536 = omega arith in
      let c3 : x.c / 4294967296 ≡ x.c / 4294967296 % 65536 = omega arith in
      let ea : 1 + 256 * (x.a / 256 % 256) + 65536 * (x.a / 65536 % 256) + 4294967296 * (x.a / 4294967296) ≡ x.a = omega arith in
      let eb : x.b % 4294967296 + 4294967296 * (x.b / 4294967296) ≡ x.b = omega arith in
      let ec : x.c % 65536 + 65536 * (x.c / 65536 % 65536) + 4294967296 * (x.c / 4294967296 % 65536) ≡ x.c = omega arith in
      ap slot_of e ∙ rw (ea, eb, ec)

  pub full-reading : words_format.read k b (slot_bytes x) ≡ full x
  unfolding words_format words_of reading_of
  full-reading = rw r (ap full full-words)

  pub full-key : n.key ≡ words_format.key x
  unfolding words_format node_of
  full-key = ap (λ (m : Node). m.key) full-node.0

  -- A reading's tag is a leaf.
  pub full-tag : words_format.tag x < 2 ^ k
  unfolding words_format node_of
  full-tag = let e = ap (λ (m : Node). m.tag) full-node.0 in let l = well-formed-tag k n full-node.1 in omega arith

pub empty-reading : (k b : ℕ) (x : Slot) → read_slot k b (slot_bytes x) ≡ Empty → words_format.read k b (slot_bytes x) ≡ empty
unfolding words_format words_of reading_of
empty-reading k b x r = rw r

pub bad-reading : (k b : ℕ) (x : Slot) → read_slot k b (slot_bytes x) ≡ Bad → words_format.read k b (slot_bytes x) ≡ bad
unfolding words_format words_of reading_of
bad-reading k b x r = rw r
