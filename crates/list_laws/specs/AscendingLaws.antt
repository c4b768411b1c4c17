-- Laws of ascending numbers: each is below all that come after it, so none stands twice.
use Rattle.std.specs.Prelude.{◌≡◌, refl, true, ℕ, ◌<◌}
use Rattle.std.proofs.Common.{⊎_elim, arith, lt-ltb}
use mathlib.Core.List.Memᴰ
use mathlib.Core.List.{List, [], ◌∷◌, ◌++◌, Memᴰ}
use Rattle.list_spec.specs.Ascending.{ascending_from, ascending}
use Rattle.list_spec.specs.Distinct.{Distinct, All}

-- Each number is below all those after it.
abbrev pub Rising : List ℕ → Type 0
Rising [] = Unit {0}
Rising (a ∷ ks) = All (λ (b : ℕ). a < b) ks × Rising ks

rising-from : (a : ℕ) (ks : List ℕ) → Rising (a ∷ ks) → ascending_from a ks ≡ true
unfolding ascending_from
rising-from a [] h = refl
rising-from a (b ∷ ks) h = rw (lt-ltb a b (h.0 b (Memᴰ.head refl))) (rising-from b ks h.1)

pub rising-ascending : (ks : List ℕ) → Rising ks → ascending ks ≡ true
unfolding ascending
rising-ascending [] h = refl
rising-ascending (a ∷ ks) h = rising-from a ks h

pub rising-distinct : (ks : List ℕ) → Rising ks → Distinct ks
rising-distinct [] h = tt
rising-distinct (a ∷ ks) h = (λ m. let less = h.0 a m in let z : ⊥ = omega arith in z, rising-distinct ks h.1)

pub rising-append : (ks ls : List ℕ) → Rising ks → Rising ls → ((a b : ℕ) → Memᴰ a ks → Memᴰ b ls → a < b) → Rising (ks ++ ls)
rising-append [] ls h g less = g
rising-append (a ∷ ks) ls h g less = (
  λ b m. ⊎_elim {A = Memᴰ b ks} {B = Memᴰ b ls} (h.0 b) (less a b (Memᴰ.head refl)) (Memᴰ.append_cases ks m),
  rising-append ks ls h.1 g (λ c b m n. less c b (Memᴰ.tail m) n),
)
