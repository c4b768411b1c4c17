-- How long the first places of a buffer are.
use Rattle.std.specs.Prelude.{◌≡◌, List, ℕ, ◌≤◌, length, take, replicate}
use Rattle.std.proofs.Common.{sym, length-take-le}
use Rattle.std.proofs.lemmas.List.{length-replicate}
use Rattle.io.specs.Counts.{IsPrefixLen}

pub counts : (n : ℕ) (xs : List ℕ) → n ≤ length xs → IsPrefixLen n xs
counts n xs h = (h, sym (length-take-le n xs h))

-- The same of a buffer that holds one byte everywhere.
pub filled-counts : (n most byte : ℕ) → n ≤ most → n ≡ length (take n (replicate most byte))
filled-counts n most byte h = (counts n (replicate most byte) (rw length-replicate h)).1
