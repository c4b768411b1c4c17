-- The format of what a bucket store keeps, as far as a round asks: an element's key and position tag, and its slot's bytes.
use Rattle.std.specs.Prelude.{ℕ, List}

-- What a slot is read as.
pub data Read (E : Type 0) : Type 0 where
  full : E → Read E
  empty : Read E
  bad : Read E

pub record Format (E : Type 0) : Type 0 where
  pub key : E → ℕ
  pub tag : E → ℕ
  pub bytes : E → List ℕ
  -- The reading of a slot's bytes in a bucket of a tree of that size.
  pub read : (size bucket : ℕ) → List ℕ → Read E
