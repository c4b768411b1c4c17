-- Ascending numbers: each is below the next.
use Rattle.std.specs.Prelude.{ℕ, Bool, true, ◌&&◌, List, [], ◌∷◌, ltb}

unfoldable pub ascending_from : ℕ → List ℕ → Bool
ascending_from a [] = true
ascending_from a (b ∷ ks) = ltb a b && ascending_from b ks

unfoldable pub ascending : List ℕ → Bool
ascending [] = true
ascending (a ∷ ks) = ascending_from a ks
