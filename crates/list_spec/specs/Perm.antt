-- Collections with repeats: two lists are permutations of each other.
use Rattle.std.specs.Prelude.{List, [], ◌∷◌}

pub data Perm {A : Type 0} : List A → List A → Type 0 where
  nil : Perm [] []
  cons : (a : A) {xs ys : List A} → Perm xs ys → Perm (a ∷ xs) (a ∷ ys)
  swap : (a b : A) (xs : List A) → Perm (a ∷ b ∷ xs) (b ∷ a ∷ xs)
  trans : {xs ys zs : List A} → Perm xs ys → Perm ys zs → Perm xs zs
