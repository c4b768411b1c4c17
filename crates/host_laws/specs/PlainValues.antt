-- The values that a plain machine answers are among those that the tickets brought, and so fit their eight bytes.
use Rattle.std.specs.Prelude.{◌≡◌, Bool, ℕ, ◌^◌, ◌<◌, eqb, ltb, leb, length}
use Rattle.std.proofs.Math.Path.{refl}
use Rattle.std.proofs.Math.Bool.{true, false}
use mathlib.Core.List.Memᴰ
use mathlib.Core.List.{List, [], ◌∷◌, ◌++◌}
use Rattle.std.proofs.Math.Option.{Option, none, some}
use Rattle.std.proofs.Common.{arith}
use Rattle.list_spec.specs.Choice.{pick}
use Rattle.list_spec.specs.Distinct.{All}
use Rattle.list_laws.specs.DistinctLaws.{all_nil, all_cons, all_append}
use Rattle.method_spec.specs.Answer.{Structure, map, stack, heap, queue, Op, get, put, remove, push, pop, add, take, enqueue, dequeue, Answer, new, full, pushed, added, queued, meaning}
use Rattle.method_spec.specs.Plain.{Pair, Contents, nothing, lookup, store, erase, enter, get_answer, remove_answer, Said, put_into, popped_from, taken_from, dequeued_from, plain, plain_answers}
use Rattle.leaf_spec.specs.Entries.{OpFits}
use Rattle.promise_spec.specs.HostHistory.{ValueFits}

abbrev Pairs : List Pair → Type 0
Pairs t = All (λ (p : Pair). p.value < 2 ^ 64) t

abbrev Numbers : List ℕ → Type 0
Numbers vs = All (λ (v : ℕ). v < 2 ^ 64) vs

abbrev Holds : (st : Structure) → Contents st → Type 0
Holds map t = Pairs t
Holds stack vs = Numbers vs
Holds heap vs = Numbers vs
Holds queue vs = Numbers vs

-- ---- tables
pairs-rest : {p : Pair} {t : List Pair} → Pairs (p ∷ t) → Pairs t
pairs-rest h q m = h q (Memᴰ.tail m)

numbers-rest : {v : ℕ} {vs : List ℕ} → Numbers (v ∷ vs) → Numbers vs
numbers-rest h w m = h w (Memᴰ.tail m)

lookup-below : (k : ℕ) (t : List Pair) → Pairs t → (v : ℕ) → lookup k t ≡ some v → v < 2 ^ 64
unfolding lookup
lookup-below k [] h v e = let z : ◌≡◌ {A = ℕ} 0 1 = cc in absurd (omega arith)
lookup-below k (p ∷ ps) h v e = go (eqb k p.key) e (lookup-below k ps (pairs-rest h) v)
  where
    go : (b : Bool) → pick b (some p.value) (lookup k ps) ≡ some v → (lookup k ps ≡ some v → v < 2 ^ 64) → v < 2 ^ 64
    go true q later = let same : p.value ≡ v = cc in let low = h p (Memᴰ.head refl) in omega arith
    go false q later = later q

store_below : (k v : ℕ) → v < 2 ^ 64 → (t : List Pair) → Pairs t → Pairs (store k v t)
unfolding store
store_below k v low [] h = all_cons {P = λ (p : Pair). p.value < 2 ^ 64} low h
store_below k v low (p ∷ ps) h = go (eqb k p.key) (ltb k p.key) (store_below k v low ps (pairs-rest h))
  where
    go : (a b : Bool) → Pairs (store k v ps)
        → Pairs (pick a (record { key = k; value = v } ∷ ps) (pick b (record { key = k; value = v } ∷ p ∷ ps) (p ∷ store k v ps)))
    go true b later = all_cons {P = λ (p : Pair). p.value < 2 ^ 64} low (pairs-rest h)
    go false true later = all_cons {P = λ (p : Pair). p.value < 2 ^ 64} low h
    go false false later = all_cons {P = λ (p : Pair). p.value < 2 ^ 64} (h p (Memᴰ.head refl)) later

erase-below : (k : ℕ) (t : List Pair) → Pairs t → Pairs (erase k t)
unfolding erase
erase-below k [] h = h
erase-below k (p ∷ ps) h = go (eqb k p.key) (erase-below k ps (pairs-rest h))
  where
    go : (b : Bool) → Pairs (erase k ps) → Pairs (pick b ps (p ∷ erase k ps))
    go true later = pairs-rest h
    go false later = all_cons {P = λ (p : Pair). p.value < 2 ^ 64} (h p (Memᴰ.head refl)) later

enter-below : (v : ℕ) → v < 2 ^ 64 → (vs : List ℕ) → Numbers vs → Numbers (enter v vs)
unfolding enter
enter-below v low [] h = all_cons {P = λ (w : ℕ). w < 2 ^ 64} low h
enter-below v low (w ∷ ws) h = go (leb v w) (enter-below v low ws (numbers-rest h))
  where
    go : (b : Bool) → Numbers (enter v ws) → Numbers (pick b (v ∷ w ∷ ws) (w ∷ enter v ws))
    go true later = all_cons {P = λ (w : ℕ). w < 2 ^ 64} low h
    go false later = all_cons {P = λ (w : ℕ). w < 2 ^ 64} (h w (Memᴰ.head refl)) later

-- ---- one call
-- What the machine holds then, and what it answers.
pub record SaidFits {st : Structure} (r : Said st) : Type 0 where
  pub held : Holds st r.contents
  pub told : ValueFits (meaning r.answer).value

module _ (limit : ℕ) where
  got : (t : List Pair) → Pairs t → (o : Option ℕ) → ((v : ℕ) → o ≡ some v → v < 2 ^ 64) → SaidFits {st = map} (record { contents = t; answer = get_answer o })
  unfolding get_answer
  got t h none low = record { held = h; told = tt }
  got t h (some v) low = record { held = h; told = low v refl }

  gone : (t : List Pair) → Pairs t → (o : Option ℕ) → ((v : ℕ) → o ≡ some v → v < 2 ^ 64) → SaidFits {st = map} (record { contents = t; answer = remove_answer o })
  unfolding remove_answer
  gone t h none low = record { held = h; told = tt }
  gone t h (some v) low = record { held = h; told = low v refl }

  kept : (k v : ℕ) → v < 2 ^ 64 → (t : List Pair) → Pairs t → (o : Option ℕ) → ((v : ℕ) → o ≡ some v → v < 2 ^ 64) → SaidFits (put_into limit k v t o)
  unfolding put_into
  kept k v fits t h none low = go (ltb (length t) limit)
    where
      go : (b : Bool) → SaidFits {st = map} (pick b (record { contents = store k v t; answer = new }) (record { contents = t; answer = full }))
      go true = record { held = store_below k v fits t h; told = tt }
      go false = record { held = h; told = tt }
  kept k v fits t h (some old) low = record { held = store_below k v fits t h; told = low old refl }

  said_fits : {st : Structure} (op : Op st) → OpFits op → (t : Contents st) → Holds st t → SaidFits (plain limit op t)
  unfolding plain popped_from taken_from dequeued_from
  said_fits (get k) fits t h = got t h (lookup k t) (lookup-below k t h)
  said_fits (put k v) fits t h = kept k v fits.1 t h (lookup k t) (lookup-below k t h)
  said_fits (remove k) fits t h = gone (erase k t) (erase-below k t h) (lookup k t) (lookup-below k t h)
  said_fits (push v) fits vs h = go (ltb (length vs) limit)
    where
      go : (b : Bool) → SaidFits {st = stack} (pick b (record { contents = v ∷ vs; answer = pushed }) (record { contents = vs; answer = full }))
      go true = record { held = all_cons {P = λ (w : ℕ). w < 2 ^ 64} fits h; told = tt }
      go false = record { held = h; told = tt }
  said_fits pop fits [] h = record { held = h; told = tt }
  said_fits pop fits (v ∷ vs) h = record { held = numbers-rest h; told = h v (Memᴰ.head refl) }
  said_fits (add v) fits vs h = go (ltb (length vs) limit)
    where
      go : (b : Bool) → SaidFits {st = heap} (pick b (record { contents = enter v vs; answer = added }) (record { contents = vs; answer = full }))
      go true = record { held = enter-below v fits vs h; told = tt }
      go false = record { held = h; told = tt }
  said_fits take fits [] h = record { held = h; told = tt }
  said_fits take fits (v ∷ vs) h = record { held = numbers-rest h; told = h v (Memᴰ.head refl) }
  said_fits (enqueue v) fits vs h = go (ltb (length vs) limit)
    where
      go : (b : Bool) → SaidFits {st = queue} (pick b (record { contents = vs ++ (v ∷ []); answer = queued }) (record { contents = vs; answer = full }))
      go true =
          record {
            held = all_append {P = λ (w : ℕ). w < 2 ^ 64} vs h (all_cons {P = λ (w : ℕ). w < 2 ^ 64} fits (all_nil (λ (w : ℕ). w < 2 ^ 64)));
            told = tt;
          }
      go false = record { held = h; told = tt }
  said_fits dequeue fits [] h = record { held = h; told = tt }
  said_fits dequeue fits (v ∷ vs) h = record { held = numbers-rest h; told = h v (Memᴰ.head refl) }

  -- ---- a list
  list-fits : {st : Structure} (ops : List (Op st)) → All (λ (op : Op st). OpFits op) ops → (t : Contents st) → Holds st t
      → All (λ (a : Answer). ValueFits (meaning a).value) (plain_answers limit ops t)
  unfolding plain_answers
  list-fits [] fits t h = all_nil (λ (a : Answer). ValueFits (meaning a).value)
  list-fits (op ∷ ops) fits t h =
      let r = said_fits op (fits op (Memᴰ.head refl)) t h in
      all_cons {P = λ (a : Answer). ValueFits (meaning a).value} r.told
      (list-fits ops (λ o m. fits o (Memᴰ.tail m)) (plain limit op t).contents r.held)

  holds-nothing : (st : Structure) → Holds st (nothing st)
  unfolding nothing
  holds-nothing map = all_nil (λ (p : Pair). p.value < 2 ^ 64)
  holds-nothing stack = all_nil (λ (v : ℕ). v < 2 ^ 64)
  holds-nothing heap = all_nil (λ (v : ℕ). v < 2 ^ 64)
  holds-nothing queue = all_nil (λ (v : ℕ). v < 2 ^ 64)

  pub answers-fit : {st : Structure} (ops : List (Op st)) → All (λ (op : Op st). OpFits op) ops
      → All (λ (a : Answer). ValueFits (meaning a).value) (plain_answers limit ops (nothing st))
  answers-fit {st} ops fits = list-fits ops fits (nothing st) (holds-nothing st)
