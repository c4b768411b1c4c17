-- What an answer tells of the entries, and which tape a draw is on, worked by hand.
use Rattle.std.specs.Prelude.{◌≡◌, refl, ℕ, List, [], ◌∷◌, ◌++◌, map}
use Rattle.method_spec.specs.Node.{Node}
use Rattle.method_spec.specs.Answer.{push, pop, put, heap, add, take, enqueue, replaced, popped, pushed, taken}
use Rattle.method_spec.specs.Plain.{Pair}
use Rattle.method_spec.specs.Call.{Ran}
use Rattle.method_spec.specs.Changes.{key_asked, value_asked, taken_out, brought_in, tracked_in}
use Rattle.method_spec.specs.Origin.{drawn, no_draw, leaf_of}
use Rattle.method_spec.proofs.Examples.{after}

abbrev pair : (key value : ℕ) → Pair
pair k v = record { key = k; value = v }

abbrev zeros : ℕ → ℕ
zeros d = 0

-- The entries of a store after some calls.
abbrev pairs : Ran ℕ → List Pair
pairs r = map (λ (n : Node ℕ). pair n.key n.value) r.memory.nodes

abbrev one : Ran ℕ
one = after 2 zeros (push 50 ∷ [])

abbrev two : Ran ℕ
two = after 2 zeros (push 50 ∷ push 60 ∷ [])

abbrev vent : Ran ℕ
vent = after 2 zeros (put 7 10 ∷ [])

abbrev jobs : Ran ℕ
jobs = after 2 zeros (add 5 ∷ add 9 ∷ [])

pub record Changes : Type 0 where
  -- A push brings its node's entry in, and a pop takes the top's out.
  pub push-tells : pairs two ≡ brought_in (key_asked (push 60) one.memory.entries 0 one.memory.root) (value_asked (push 60)) pushed ++ pairs one
  pub pop-tells : taken_out (key_asked pop two.memory.entries 0 two.memory.root) (popped 60) ++ pairs one ≡ pairs two
  -- A put of a present key takes the old value out and brings the new one in.
  pub put-tells : taken_out 7 (replaced 10) ++ pairs (after 2 zeros (put 7 10 ∷ put 7 20 ∷ [])) ≡ pair 7 10 ∷ pair 7 20 ∷ []
  pub put-brings : brought_in 7 (value_asked (put 7 20)) (replaced 10) ++ pairs vent ≡ pair 7 20 ∷ pair 7 10 ∷ []
  -- A heap's numbers move between positions: the numbers alone are told.
  pub take-tells : tracked_in heap (taken_out (key_asked take jobs.memory.entries 0 jobs.memory.root) (taken 5) ++ pairs (after 2 zeros (add 5 ∷ add 9 ∷ take ∷ [])))
      ≡ pair 0 5 ∷ pair 0 9 ∷ []
  -- An in is about the next unused key.
  pub in-key : key_asked (enqueue 4) 2 9 two.memory.root ≡ 9

pub changes : Changes
unfolding after key_asked value_asked taken_out brought_in
changes = record { push-tells = refl; pop-tells = refl; put-tells = refl; put-brings = refl; take-tells = refl; in-key = refl }

-- Two calls that brought the tapes 5 6 and 7, size 2; and where there is no draw.
pub record Leaves : Type 0 where
  pub first-call : leaf_of 2 ((5 ∷ 6 ∷ []) ∷ (7 ∷ []) ∷ []) (drawn 1 1) ≡ 2
  pub second_call : leaf_of 2 ((5 ∷ 6 ∷ []) ∷ (7 ∷ []) ∷ []) (drawn 2 0) ≡ 3
  pub no-draw : leaf_of 2 ((5 ∷ 6 ∷ []) ∷ (7 ∷ []) ∷ []) no_draw ≡ 0

pub leaves : Leaves
unfolding leaf_of
leaves = record { first-call = refl; second_call = refl; no-draw = refl }
