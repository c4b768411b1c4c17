-- Permutations of joined lists by computation: both sides name the same parts, each as often.
use Rattle.std.specs.Prelude.{ℕ, ◌≡◌, Bool, leb, get_or}
use Rattle.std.proofs.Math.Path.{refl}
use Rattle.std.proofs.Common.{sym, ap}
use Rattle.std.proofs.Math.Bool.{true, false}
use mathlib.Core.List.{List, [], ◌∷◌, ◌++◌, append-nil, append_assoc}
use Rattle.list_spec.specs.Choice.{pick}
use Rattle.list_spec.specs.Perm.{Perm, nil, trans}
use Rattle.list_laws.specs.PermLaws.{perm-refl, perm-of-eq, perm-sym, perm-append, perm-append-left, perm-append-swap}

-- How a list is joined from the numbered parts of a table.
pub data Joined : Type 0 where
  part : ℕ → Joined
  ◌&◌ : Joined → Joined → Joined

infixr 65 ◌&◌
-- The numbers of the parts, from left to right.
abbrev pub parts : Joined → List ℕ
parts (part i) = i ∷ []
parts (x & y) = parts x ++ parts y

abbrev pub insert : ℕ → List ℕ → List ℕ
insert i [] = i ∷ []
insert i (j ∷ js) = pick (leb i j) (i ∷ j ∷ js) (j ∷ insert i js)

abbrev pub sorted : List ℕ → List ℕ
sorted [] = []
sorted (i ∷ is) = insert i (sorted is)

module _ {A : Type 0} where
  -- The list that is joined so from the parts of the table.
  abbrev pub join : List (List A) → Joined → List A
  join table (part i) = get_or table i []
  join table (x & y) = join table x ++ join table y

  all : List (List A) → List ℕ → List A
  all table [] = []
  all table (i ∷ is) = get_or table i [] ++ all table is

  module _ (table : List (List A)) where
    all_append : (is js : List ℕ) → all table (is ++ js) ≡ all table is ++ all table js
    unfolding all
    all_append [] js = refl
    all_append (i ∷ is) js =
        rw (all_append is js) (sym (append_assoc (get_or table i []) (all table is) (all table js)))

    join-all : (x : Joined) → Perm (join table x) (all table (parts x))
    unfolding all
    join-all (part i) = perm-of-eq (sym (append-nil (get_or table i [])))
    join-all (x & y) = rw all_append (perm-append (join-all x) (join-all y))

    insert_all : (i : ℕ) (js : List ℕ) → Perm (get_or table i [] ++ all table js) (all table (insert i js))
    unfolding all
    insert_all i [] = perm-refl (get_or table i [] ++ [])
    insert_all i (j ∷ js) = go (leb i j) (insert_all i js)
      where
        go : (b : Bool) → Perm (get_or table i [] ++ all table js) (all table (insert i js))
            → Perm (get_or table i [] ++ all table (j ∷ js)) (all table (pick b (i ∷ j ∷ js) (j ∷ insert i js)))
        go true p = perm-refl (get_or table i [] ++ (get_or table j [] ++ all table js))
        go false p =
            trans (perm-append-swap (get_or table i []) (get_or table j []) (all table js))
            (perm-append-left (get_or table j []) p)

    sorted_all : (is : List ℕ) → Perm (all table is) (all table (sorted is))
    unfolding all
    sorted_all [] = nil
    sorted_all (i ∷ is) = trans (perm-append-left (get_or table i []) (sorted_all is)) (insert_all i (sorted is))

    -- For numerals the last argument is `refl`.
    pub shuffle : (x y : Joined) → sorted (parts x) ≡ sorted (parts y) → Perm (join table x) (join table y)
    shuffle x y e =
        trans (join-all x)
        (trans (sorted_all (parts x))
        (trans (perm-of-eq (ap (all table) e))
        (trans (perm-sym (sorted_all (parts y))) (perm-sym (join-all y)))))

  example : (a b : A) (xs ys zs : List A) → Perm ((a ∷ xs ++ (b ∷ ys)) ++ zs) (zs ++ (xs ++ (b ∷ a ∷ ys)))
  example a b xs ys zs =
      shuffle ((a ∷ []) ∷ (b ∷ []) ∷ xs ∷ ys ∷ zs ∷ [])
      ((part 0 & (part 2 & (part 1 & part 3))) & part 4) (part 4 & (part 2 & (part 1 & (part 0 & part 3)))) refl
