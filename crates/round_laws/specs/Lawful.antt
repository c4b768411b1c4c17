-- What a format must promise for the laws of a round.
use Rattle.std.specs.Prelude.{◌≡◌, true, List, ℕ, ◌^◌, ◌<◌, length, replicate}
use Rattle.slot_spec.specs.LittleEndian.{Bytes}
use Rattle.slot_spec.specs.Tree.{passes, slot_length}
use Rattle.round_spec.specs.Format.{Format, full, empty}

module _ {E : Type 0} (F : Format E) where
  -- What a format promises, for the elements that are proper in a tree of size k.
  pub record Lawful (Proper : ℕ → E → Type 0) : Type 0 where
    pub slot-sized : (e : E) → length (F.bytes e) ≡ slot_length
    pub slot-bytes : (e : E) → Bytes (F.bytes e)
    -- A proper element, written to a bucket that its path passes, reads back.
    pub reads-back : (k b : ℕ) (e : E) → Proper k e → passes k (F.tag e) b ≡ true → F.read k b (F.bytes e) ≡ full e
    -- What reads as an element is proper, on its path, and has that element's bytes.
    pub read-proper : (k b : ℕ) (bs : List ℕ) (e : E) → Bytes bs → length bs ≡ slot_length → F.read k b bs ≡ full e → Proper k e
    pub read-passes : (k b : ℕ) (bs : List ℕ) (e : E) → Bytes bs → length bs ≡ slot_length → F.read k b bs ≡ full e → passes k (F.tag e) b ≡ true
    pub read-bytes : (k b : ℕ) (bs : List ℕ) (e : E) → Bytes bs → length bs ≡ slot_length → F.read k b bs ≡ full e → bs ≡ F.bytes e
    pub tag-is-leaf : (k : ℕ) (e : E) → Proper k e → F.tag e < 2 ^ k
    pub zero-empty : (k b : ℕ) → F.read k b (replicate slot_length 0) ≡ empty
