-- Lists without repeats, and lists that share no element.
use mathlib.Core.List.{List, [], ◌∷◌, Memᴰ}

module _ {A : Type 0} where
  -- No element stands twice in the list.
  abbrev pub Distinct : List A → Type 0
  Distinct [] = Unit {0}
  Distinct (a ∷ xs) = (¬ Memᴰ a xs) × Distinct xs

  -- No element stands in both lists.
  abbrev pub Disjoint : List A → List A → Type 0
  Disjoint xs ys = (a : A) → Memᴰ a xs → ¬ Memᴰ a ys

  -- The statement holds of each element.
  abbrev pub All : (A → Type 0) → List A → Type 0
  All P xs = (a : A) → Memᴰ a xs → P a
