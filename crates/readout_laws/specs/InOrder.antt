-- A list of pairs in ascending order of keys is the one such list of its pairs. The tables of the plain map are such lists, a plain queue's
-- pairs oldest first, and the entries that are read out.
use Rattle.std.specs.Prelude.{ℕ, suc, ◌≤◌, ◌≡◌, refl, true, List, [], ◌∷◌, map}
use Rattle.std.proofs.Common.{sym, ◌∙◌, ap, le_refl, arith}
use Rattle.std.proofs.lemmas.Simd.{map-map}
use Rattle.std.proofs.Math.Option.{Option, none}
use Rattle.list_spec.specs.Perm.{Perm}
use Rattle.list_spec.specs.Distinct.{All}
use Rattle.list_laws.specs.DistinctLaws.{all_nil, all_cons}
use Rattle.list_spec.specs.Ascending.{ascending}
use Rattle.list_laws.specs.AscendingLaws.{Rising, rising-ascending, rising-distinct}
use Rattle.list_laws.specs.SortingLaws.{sort-one, sort_sorted}
use Rattle.method_spec.specs.Answer.{map as the-map, queue as the-queue, Op}
use Rattle.method_spec.specs.Plain.{Pair, plain, plain_contents, nothing, in_row, Entries}
use Rattle.method_spec.specs.Call.{capacity}
use Rattle.run_laws.specs.Answers.{represents-call}
use Rattle.avl_laws.specs.Ascending.{Ascending, ends, next}
use Rattle.avl_laws.specs.Holds.{ascending-member, holds-ascending}
use Rattle.method_laws.specs.Represented.{represents}
use Rattle.method_laws.specs.Theorems.{held}
use Rattle.state_spec.specs.declared.State.{State}
use Rattle.readout_spec.specs.Taken.{pair_of_entry, entries}
use Rattle.readout_laws.specs.Complete.{complete}

-- The keys of pairs.
abbrev pub keys_of : List Pair → List ℕ
keys_of ps = map (λ (p : Pair). p.key) ps

abbrev pub values_of : List Pair → List ℕ
values_of ps = map (λ (p : Pair). p.value) ps

-- ---- one list

rises : {low high : Option ℕ} {ps : List Pair} → Ascending low high ps → Rising (keys_of ps)
rises ends = tt
rises (next a b h) = (λ j m. omega (arith, ascending-member h m), rises h)

-- In ascending order of keys there is one list of the pairs.
rising-once : {ps qs : List Pair} → Rising (keys_of ps) → ascending (keys_of qs) ≡ true → Perm ps qs → qs ≡ ps
rising-once {ps} {qs} h s p =
    sym (sort_sorted (λ (x : Pair). x.key) qs s) ∙ sym (sort-one (λ (x : Pair). x.key) p (rising-distinct (keys_of ps) h))
    ∙ sort_sorted (λ (x : Pair). x.key) ps (rising-ascending (keys_of ps) h)

pub in-order-once : {ps qs : List Pair} → Ascending none none ps → ascending (keys_of qs) ≡ true → Perm ps qs → qs ≡ ps
in-order-once h = rising-once (rises h)

-- ---- the plain map

-- Its tables after a list of calls, and after one more.
pub plain-ascends : (k : ℕ) (ops : List (Op the-map)) (op : Op the-map)
    → Ascending none none (plain_contents (capacity k) ops (nothing the-map))
    × Ascending none none (plain (capacity k) op (plain_contents (capacity k) ops (nothing the-map))).contents
plain-ascends k ops op =
    let h = held {T = ℕ} 0 k (λ c d. 0) ops in
    (holds-ascending h.0, holds-ascending (represents-call (represents {T = ℕ} 0 the-map k) _ op (λ d. 0) _ h).holds.contents.0)

-- ---- the plain queue

row_from : (first : ℕ) (vs : List ℕ) → All (λ k. first ≤ k) (keys_of (in_row first vs))
unfolding in_row
row_from first [] = all_nil (λ k. first ≤ k)
row_from first (v ∷ vs) =
    all_cons {P = λ k. first ≤ k} (le_refl first) (λ k m. let h = row_from (suc first) vs k m in omega arith)

row-rises : (first : ℕ) (vs : List ℕ) → Rising (keys_of (in_row first vs))
unfolding in_row
row-rises first [] = tt
row-rises first (v ∷ vs) = (λ j m. row_from (suc first) vs j m, row-rises (suc first) vs)

row-values : (first : ℕ) (vs : List ℕ) → values_of (in_row first vs) ≡ vs
unfolding in_row
row-values first [] = refl
row-values first (v ∷ vs) = ap (λ (ws : List ℕ). v ∷ ws) (row-values (suc first) vs)

-- In ascending order of keys its values stand oldest first.
pub oldest-first : {vs : List ℕ} {ps : List Pair} → ascending (keys_of ps) ≡ true → Entries the-queue vs ps → values_of ps ≡ vs
oldest-first {vs} s (first, p) = ap values_of (rising-once (row-rises first vs) s p) ∙ row-values first vs

-- ---- what is read out

-- The entries stand in ascending order of keys.
pub entries-ascend : (s : State) (tree : List ℕ) → ascending (keys_of (map pair_of_entry (entries s tree))) ≡ true
entries-ascend s tree = rw (map-map (λ (p : Pair). p.key) pair_of_entry (entries s tree)) (complete s tree).by_key
