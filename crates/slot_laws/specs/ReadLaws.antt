-- Reading a slot, case by case, and the round trip of the format: a well-formed node whose own tag's path passes the bucket,
-- once written, reads back as that node; bytes that read as a node are that node's; only zero bytes read as empty.
use Rattle.std.specs.Prelude.{◌≡◌, refl, Bool, true, false, not, ◌&&◌, ◌||◌, ℕ, ◌/◌, ◌%◌, ◌^◌, ◌<◌, ◌≤◌, List, ◌↔◌, ◌⊎◌, eqb, leb, ltb, length, replicate}
use Rattle.std.proofs.Common.{sym, ◌∙◌, arith, inl, inr, ⊎_elim, pow_pos, eq-eqb, ne_eqb, eqb-true, le-leb, le-ltb, lt-ltb, leb-true, leb-false}
use Rattle.std.proofs.Math.Path.{ap}
use Rattle.std.proofs.Math.Decide.{dec_le}
use Rattle.std.proofs.lemmas.Bool.{eqb-false, lt-leb}
use Rattle.list_spec.specs.Choice.{pick}
use Rattle.slot_spec.specs.LittleEndian.{value, Bytes}
use Rattle.slot_spec.specs.Layout.{fields, pack, total}
use Rattle.slot_laws.specs.LayoutLaws.{pack-fields}
use Rattle.slot_spec.specs.Tree.{passes}
use Rattle.slot_spec.specs.Slot.{Fields, widths, numbers, fields_in, fields_of, node_of, encode, all_zero, zero_not_zero, absent_has_more, tag_too_large, slot_link_good, bad, well_formed, read_slot, slot_bytes, Ranged}
use Rattle.slot_laws.specs.SlotLaws.{Words, all-zero-replicate, fields-encoded, node-fields, fields_of_words, fields-in-words}
use Rattle.slot_spec.specs.declared.Link.{Link}
use Rattle.slot_spec.specs.declared.Node.{Node}
use Rattle.slot_spec.specs.declared.Slot.{Slot}
use Rattle.slot_spec.specs.declared.Reading.{Reading}
use Rattle.slot_spec.specs.declared.Reading.TheVariants.{Full, Empty, Bad}

-- ---- tests in another order
reordered : (l r t t1 t2 : Bool) → not (l || (r || (t || (t1 || t2)))) ≡ pick t false (pick (not (l || t1)) (not (r || t2)) false)
reordered true r true t1 t2 = refl
reordered true r false t1 t2 = refl
reordered false true true t1 t2 = refl
reordered false true false true t2 = refl
reordered false true false false t2 = refl
reordered false false true t1 t2 = refl
reordered false false false true t2 = refl
reordered false false false false t2 = refl

pub well-formed-order : (k : ℕ) (n : Node)
    → well_formed k n ≡ pick (tag_too_large k n.tag) false (pick (slot_link_good k n.left) (slot_link_good k n.right) false)
unfolding well_formed
well-formed-order k n =
    reordered (absent_has_more n.left.height n.left.key n.left.tag)
    (absent_has_more n.right.height n.right.key n.right.tag)
    (tag_too_large k n.tag)
    (tag_too_large k n.left.tag)
    (tag_too_large k n.right.tag)

-- ---- links and nodes, test by test
module _ (k : ℕ) (l : Link) where
  pub absent-with-key : l.height ≡ 0 → (l.key ≡ 0 → ⊥) → slot_link_good k l ≡ false
  absent-with-key h f = rw (eq-eqb l.height 0 h, ne_eqb l.key 0 f)

  pub absent-without-key : l.height ≡ 0 → l.key ≡ 0 → slot_link_good k l ≡ eqb l.tag 0
  absent-without-key h e = rw (eq-eqb l.height 0 h, eq-eqb l.key 0 e) (go (eqb l.tag 0) refl)
    where
      go : (t : Bool) → eqb l.tag 0 ≡ t → not (not t || leb (2 ^ k) l.tag) ≡ t
      go true e = let z = eqb-true l.tag 0 e in rw (lt-leb (2 ^ k) l.tag (rw z (pow_pos k)))
      go false e = refl

  pub link-present : (l.height ≡ 0 → ⊥) → slot_link_good k l ≡ ltb l.tag (2 ^ k)
  link-present h = rw (ne_eqb l.height 0 h) (go (leb (2 ^ k) l.tag) refl)
    where
      go : (t : Bool) → leb (2 ^ k) l.tag ≡ t → not t ≡ ltb l.tag (2 ^ k)
      go true e = sym (le-ltb l.tag (2 ^ k) (leb-true (2 ^ k) l.tag e))
      go false e = sym (lt-ltb l.tag (2 ^ k) (leb-false (2 ^ k) l.tag e))

module _ (k : ℕ) (n : Node) where
  pub own-tag-too-large : 2 ^ k ≤ n.tag → well_formed k n ≡ false
  own-tag-too-large h = well-formed-order k n ∙ rw (le-leb (2 ^ k) n.tag h)

  pub well-formed-tag : well_formed k n ≡ true → n.tag < 2 ^ k
  well-formed-tag good = go (dec_le (2 ^ k) n.tag)
    where
      go : Dec (2 ^ k ≤ n.tag) → n.tag < 2 ^ k
      go (yes h) = let f = own-tag-too-large h in let z : ◌≡◌ {A = ℕ} 0 1 = cc in absurd (omega arith)
      go (no h) = omega arith

  pub left-link-bad : n.tag < 2 ^ k → slot_link_good k n.left ≡ false → well_formed k n ≡ false
  left-link-bad h e = well-formed-order k n ∙ rw (lt-leb (2 ^ k) n.tag h, e)

  pub left-link-good : n.tag < 2 ^ k → slot_link_good k n.left ≡ true → well_formed k n ≡ slot_link_good k n.right
  left-link-good h e = well-formed-order k n ∙ rw (lt-leb (2 ^ k) n.tag h, e)

causes : (z l r t t1 t2 p : Bool) (x : Reading)
    → pick (z || (l || (r || (t || (t1 || (t2 || not p)))))) Bad x
    ≡ pick z Bad (pick (not (l || (r || (t || (t1 || t2))))) (pick p x Bad) Bad)
causes true l r t t1 t2 p x = refl
causes false true r t t1 t2 p x = refl
causes false false true t t1 t2 p x = refl
causes false false false true t1 t2 p x = refl
causes false false false false true t2 p x = refl
causes false false false false false true p x = refl
causes false false false false false false true x = refl
causes false false false false false false false x = refl

-- ---- the cases
-- A slot whose flag is 1.
pub read-full : (k b : ℕ) (bs : List ℕ) → (fields_in bs).flag ≡ 1
    → read_slot k b bs
    ≡ pick (zero_not_zero (fields_in bs)) Bad
    (pick (well_formed k (node_of (fields_in bs))) (pick (passes k (fields_in bs).tag b) (Full (node_of (fields_in bs))) Bad) Bad)
unfolding read_slot bad well_formed node_of
read-full k b bs e =
    let f = fields_in bs in
    rw e
    (causes (zero_not_zero f)
    (absent_has_more f.left_height f.left_key f.left_tag)
    (absent_has_more f.right_height f.right_key f.right_tag)
    (tag_too_large k f.tag)
    (tag_too_large k f.left_tag)
    (tag_too_large k f.right_tag)
    (passes k f.tag b)
    (Full (node_of f)))

-- A slot with a nonzero byte and a flag other than 1.
pub read-flagless : (k b : ℕ) (bs : List ℕ) → all_zero bs ≡ false → ((fields_in bs).flag ≡ 1 → ⊥) → read_slot k b bs ≡ Bad
unfolding read_slot bad
read-flagless k b bs z f = go (eqb (fields_in bs).flag 0) refl
  where
    go : (t : Bool) → eqb (fields_in bs).flag 0 ≡ t → read_slot k b bs ≡ Bad
    go true e = rw (e, z)
    go false e = rw (e, ne_eqb (fields_in bs).flag 1 f)

pub read-zero : (k b : ℕ) → read_slot k b (replicate 32 0) ≡ Empty
unfolding read_slot bad fields_in fields value all_zero
read-zero k b = rw (lt-leb (2 ^ k) 0 (pow_pos k))

-- ---- the cases on the words of a slot, in the order of the code
pub all-zero-read : (k b : ℕ) (bs : List ℕ) → length bs ≡ 32 → all_zero bs ≡ true → read_slot k b bs ≡ Empty
all-zero-read k b bs l z = let e : bs ≡ replicate 32 0 = all-zero-replicate bs z ∙ rw l in rw e (read-zero k b)

module _ (k b : ℕ) (x : Slot) (h : Words x) where
  pub words-flag : (fields_in (slot_bytes x)).flag ≡ x.a % 256
  unfolding fields_of_words
  words-flag = ap (λ (f : Fields). f.flag) (fields-in-words x h)

  pub words-zero1 : (fields_in (slot_bytes x)).zero1 ≡ x.a / 16777216 % 256
  unfolding fields_of_words
  words-zero1 = ap (λ (f : Fields). f.zero1) (fields-in-words x h)

  pub words-zero2 : (fields_in (slot_bytes x)).zero2 ≡ x.c / 281474976710656
  unfolding fields_of_words
  words-zero2 = ap (λ (f : Fields). f.zero2) (fields-in-words x h)

  pub read-wrong-flag : all_zero (slot_bytes x) ≡ false → (x.a % 256 ≡ 1 → ⊥) → read_slot k b (slot_bytes x) ≡ Bad
  read-wrong-flag z f = read-flagless k b (slot_bytes x) z (λ e. f (sym words-flag ∙ e))

  pub read-wrong-zero1 : x.a % 256 ≡ 1 → (x.a / 16777216 % 256 ≡ 0 → ⊥) → read_slot k b (slot_bytes x) ≡ Bad
  read-wrong-zero1 e f =
      read-full k b (slot_bytes x) (words-flag ∙ e)
      ∙ rw (words-zero1, ne_eqb (x.a / 16777216 % 256) 0 f)

  pub read-wrong-zero2 : x.a % 256 ≡ 1 → x.a / 16777216 % 256 ≡ 0 → (x.c / 281474976710656 ≡ 0 → ⊥) → read_slot k b (slot_bytes x) ≡ Bad
  read-wrong-zero2 e g f =
      read-full k b (slot_bytes x) (words-flag ∙ e)
      ∙ rw (words-zero1, words-zero2, eq-eqb (x.a / 16777216 % 256) 0 g, ne_eqb (x.c / 281474976710656) 0 f)

  -- The flag and the zero bytes are right: the rest is asked of the node.
  pub read-node : x.a % 256 ≡ 1 → x.a / 16777216 % 256 ≡ 0 → x.c / 281474976710656 ≡ 0
      → read_slot k b (slot_bytes x)
      ≡ pick (well_formed k (node_of (fields_in (slot_bytes x))))
      (pick (passes k (fields_in (slot_bytes x)).tag b) (Full (node_of (fields_in (slot_bytes x)))) Bad) Bad
  read-node e g f =
      read-full k b (slot_bytes x) (words-flag ∙ e)
      ∙ rw (words-zero1, words-zero2, eq-eqb (x.a / 16777216 % 256) 0 g, eq-eqb (x.c / 281474976710656) 0 f)

  module _ (n : Node) (same : n ≡ node_of (fields_in (slot_bytes x))) (e : x.a % 256 ≡ 1) (g : x.a / 16777216 % 256 ≡ 0) (f : x.c / 281474976710656 ≡ 0) where
    tag_same : n.tag ≡ (fields_in (slot_bytes x)).tag
    unfolding node_of
    tag_same = ap (λ (m : Node). m.tag) same

    pub read-ill-formed : well_formed k n ≡ false → read_slot k b (slot_bytes x) ≡ Bad
    read-ill-formed w = read-node e g f ∙ rw (← same, w)

    pub read-off-path : well_formed k n ≡ true → passes k n.tag b ≡ false → read_slot k b (slot_bytes x) ≡ Bad
    read-off-path w p = read-node e g f ∙ rw (← same, ← tag_same, w, p)

    pub read-good : well_formed k n ≡ true → passes k n.tag b ≡ true → read_slot k b (slot_bytes x) ≡ Full n
    read-good w p = read-node e g f ∙ rw (← same, ← tag_same, w, p)

-- ---- the round trip
-- A well-formed node whose own tag's path passes the bucket, once written, reads back as that node.
pub written-reads-back : (k b : ℕ) (n : Node) → Ranged n → well_formed k n ≡ true → passes k n.tag b ≡ true → read_slot k b (encode n) ≡ Full n
unfolding fields_of
written-reads-back k b n h w p =
    let e = fields-encoded n h in
    read-full k b (encode n) (ap (λ (f : Fields). f.flag) e) ∙ rw (e, node-fields n, w, p)

-- Bytes that read as a node are that node's encoding, the node is well-formed, and its path passes the bucket: no other slot
-- bytes read as it.
pub record ReadAs (k b : ℕ) (bs : List ℕ) (n : Node) : Type 0 where
  pub written : bs ≡ encode n
  pub formed : well_formed k n ≡ true
  pub on-path : passes k n.tag b ≡ true

-- The flag of bytes that do not read as bad.
flag-of : (k b : ℕ) (bs : List ℕ) → (read_slot k b bs ≡ Bad → ⊥) → (all_zero bs ≡ true) ⊎ ((fields_in bs).flag ≡ 1)
flag-of k b bs f = go (all_zero bs) refl (eqb (fields_in bs).flag 1) refl
  where
    go : (z : Bool) → all_zero bs ≡ z → (t : Bool) → eqb (fields_in bs).flag 1 ≡ t → (all_zero bs ≡ true) ⊎ ((fields_in bs).flag ≡ 1)
    go true e t g = inl e
    go false e true g = inr (eqb-true (fields_in bs).flag 1 g)
    go false e false g = absurd (f (read-flagless k b bs e (eqb-false (fields_in bs).flag 1 g)))

-- What a slot with flag 1 that reads as a node passed.
full-passed : (f : Fields) (w p : Bool) (m n : Node)
    → pick (zero_not_zero f) Bad (pick w (pick p (Full m) Bad) Bad) ≡ Full n
    → (f.zero1 ≡ 0) × (f.zero2 ≡ 0) × (w ≡ true) × (p ≡ true) × (m ≡ n)
full-passed f w p m n e = go (eqb f.zero1 0) refl (eqb f.zero2 0) refl w p e
  where
    go : (s : Bool) → eqb f.zero1 0 ≡ s → (t : Bool) → eqb f.zero2 0 ≡ t → (w p : Bool)
        → pick (not (s && t)) Bad (pick w (pick p (Full m) Bad) Bad) ≡ Full n
        → (f.zero1 ≡ 0) × (f.zero2 ≡ 0) × (w ≡ true) × (p ≡ true) × (m ≡ n)
    go true a true b true true e = (eqb-true f.zero1 0 a, eqb-true f.zero2 0 b, refl, refl, cc)
    go true a true b true false e = let z : ◌≡◌ {A = ℕ} 0 1 = cc in absurd (omega arith)
    go true a true b false p e = let z : ◌≡◌ {A = ℕ} 0 1 = cc in absurd (omega arith)
    go true a false b w p e = let z : ◌≡◌ {A = ℕ} 0 1 = cc in absurd (omega arith)
    go false a t b w p e = let z : ◌≡◌ {A = ℕ} 0 1 = cc in absurd (omega arith)

-- Bytes with flag 1 and zero bytes are the encoding of the node that they hold.
numbers-in : (bs : List ℕ) → fields widths bs ≡ numbers (fields_in bs)
unfolding fields_in fields
numbers-in bs = refl

node-numbers : (f : Fields) → f.flag ≡ 1 → f.zero1 ≡ 0 → f.zero2 ≡ 0 → numbers f ≡ numbers (fields_of (node_of f))
unfolding fields_of node_of
node-numbers f e z1 z2 = rw (e, z1, z2)

pub node-encoding : (bs : List ℕ) → Bytes bs → length bs ≡ 32 → (fields_in bs).flag ≡ 1 → (fields_in bs).zero1 ≡ 0 → (fields_in bs).zero2 ≡ 0 → bs ≡ encode (node_of (fields_in bs))
unfolding encode total
node-encoding bs h l f z1 z2 =
    sym (pack-fields widths bs h l) ∙ ap (pack widths) (numbers-in bs ∙ node-numbers (fields_in bs) f z1 z2)

pub read-is-written : (k b : ℕ) (bs : List ℕ) → Bytes bs → length bs ≡ 32 → (n : Node) → read_slot k b bs ≡ Full n → ReadAs k b bs n
unfolding node_of
read-is-written k b bs h l n e =
    ⊎_elim (λ z. let y : ◌≡◌ {A = ℕ} 0 1 = cc (all-zero-read k b bs l z) in absurd (omega arith))
    (λ f. let q = full-passed (fields_in bs) (well_formed k (node_of (fields_in bs))) (passes k (fields_in bs).tag b) (node_of (fields_in bs)) n (sym (read-full k b bs f) ∙ e) in
    record {
      written = node-encoding bs h l f q.0 q.1 ∙ ap encode q.4;
      formed = rw q.4 at q.2;
      on-path = sym (ap (λ (m : Node). passes k m.tag b) q.4) ∙ q.3;
    })
    (flag-of k b bs (λ g. let y : ◌≡◌ {A = ℕ} 0 1 = cc in omega arith))

-- Bytes read as empty exactly when all 32 are zero.
not-empty : (f : Fields) (w p : Bool) (m : Node) → pick (zero_not_zero f) Bad (pick w (pick p (Full m) Bad) Bad) ≡ Empty → ⊥
not-empty f w p m e = go (zero_not_zero f) w p e
  where
    go : (z w p : Bool) → pick z Bad (pick w (pick p (Full m) Bad) Bad) ≡ Empty → ⊥
    go true w p e = let y : ◌≡◌ {A = ℕ} 0 1 = cc in omega arith
    go false true true e = let y : ◌≡◌ {A = ℕ} 0 1 = cc in omega arith
    go false true false e = let y : ◌≡◌ {A = ℕ} 0 1 = cc in omega arith
    go false false p e = let y : ◌≡◌ {A = ℕ} 0 1 = cc in omega arith

pub empty-is-zero : (k b : ℕ) (bs : List ℕ) → length bs ≡ 32 → (read_slot k b bs ≡ Empty) ↔ (bs ≡ replicate 32 0)
empty-is-zero k b bs l = (
  λ e. ⊎_elim (λ z. all-zero-replicate bs z ∙ ap (λ (n : ℕ). replicate n 0) l)
      (λ f. absurd
      (not-empty (fields_in bs) (well_formed k (node_of (fields_in bs))) (passes k (fields_in bs).tag b) (node_of (fields_in bs))
      (sym (read-full k b bs f) ∙ e)))
      (flag-of k b bs (λ g. let y : ◌≡◌ {A = ℕ} 0 1 = cc in omega arith)),
  λ e. rw e (read-zero k b),
)
