-- The plain machines: a table with one value for each key, kept in ascending order of keys; a stack that is a list; a heap that is a
-- collection of numbers with repeats, kept ascending, so that equal collections are equal lists; and a queue that is a list, oldest first.
use Rattle.std.specs.Prelude.{suc, ℕ, List, [], ◌∷◌, ◌++◌, eqb, ltb, leb, length}
use Rattle.std.proofs.Math.Option.{Option, none, some}
use Rattle.list_spec.specs.Choice.{pick}
use Rattle.list_spec.specs.Perm.{Perm}
use Rattle.method_spec.specs.Answer.{Structure, map, stack, heap, queue, Op, get, put, remove, push, pop, add, take, enqueue, dequeue, Answer, found, absent, replaced, new, removed, pushed, popped, added, taken, queued, dequeued, empty, full}

pub record Pair : Type 0 where
  pub key : ℕ
  pub value : ℕ

-- The value of a key.
unfoldable pub lookup : ℕ → List Pair → Option ℕ
lookup k [] = none
lookup k (p ∷ ps) = pick (eqb k p.key) (some p.value) (lookup k ps)

-- The table with that value for the key, in place of an earlier one if there is one.
unfoldable pub store : ℕ → ℕ → List Pair → List Pair
store k v [] = record { key = k; value = v } ∷ []
store k v (p ∷ ps) =
    pick (eqb k p.key) (record { key = k; value = v } ∷ ps)
    (pick (ltb k p.key) (record { key = k; value = v } ∷ p ∷ ps) (p ∷ store k v ps))

-- The table without the key.
unfoldable pub erase : ℕ → List Pair → List Pair
erase k [] = []
erase k (p ∷ ps) = pick (eqb k p.key) ps (p ∷ erase k ps)

-- The collection with one number more.
unfoldable pub enter : ℕ → List ℕ → List ℕ
enter v [] = v ∷ []
enter v (w ∷ ws) = pick (leb v w) (v ∷ w ∷ ws) (w ∷ enter v ws)

abbrev pub Contents : Structure → Type 0
Contents map = List Pair
Contents stack = List ℕ
Contents heap = List ℕ
Contents queue = List ℕ

unfoldable pub nothing : (s : Structure) → Contents s
nothing map = []
nothing stack = []
nothing heap = []
nothing queue = []

pub record Said (s : Structure) : Type 0 where
  pub contents : Contents s
  pub answer : Answer

-- A put of a key that had that value, or none: the full rule is for a new key alone.
unfoldable pub put_into : (limit k v : ℕ) → List Pair → Option ℕ → Said map
put_into limit k v t (some old) = record { contents = store k v t; answer = replaced old }
put_into limit k v t none =
    pick (ltb (length t) limit) (record { contents = store k v t; answer = new })
    (record { contents = t; answer = full })

unfoldable pub get_answer : Option ℕ → Answer
get_answer none = absent
get_answer (some v) = found v

unfoldable pub remove_answer : Option ℕ → Answer
remove_answer none = absent
remove_answer (some v) = removed v

unfoldable pub popped_from : List ℕ → Said stack
popped_from [] = record { contents = []; answer = empty }
popped_from (v ∷ vs) = record { contents = vs; answer = popped v }

-- The smallest is the first.
unfoldable pub taken_from : List ℕ → Said heap
taken_from [] = record { contents = []; answer = empty }
taken_from (v ∷ vs) = record { contents = vs; answer = taken v }

-- The oldest is the first.
unfoldable pub dequeued_from : List ℕ → Said queue
dequeued_from [] = record { contents = []; answer = empty }
dequeued_from (v ∷ vs) = record { contents = vs; answer = dequeued v }

-- One call of the plain machine that holds at most `limit` entries.
unfoldable pub plain : {s : Structure} → ℕ → Op s → Contents s → Said s
plain limit (get k) t = record { contents = t; answer = get_answer (lookup k t) }
plain limit (put k v) t = put_into limit k v t (lookup k t)
plain limit (remove k) t = record { contents = erase k t; answer = remove_answer (lookup k t) }
plain limit (push v) vs =
    pick (ltb (length vs) limit) (record { contents = v ∷ vs; answer = pushed })
    (record { contents = vs; answer = full })
plain limit pop vs = popped_from vs
plain limit (add v) vs =
    pick (ltb (length vs) limit) (record { contents = enter v vs; answer = added })
    (record { contents = vs; answer = full })
plain limit take vs = taken_from vs
plain limit (enqueue v) vs =
    pick (ltb (length vs) limit) (record { contents = vs ++ (v ∷ []); answer = queued })
    (record { contents = vs; answer = full })
plain limit dequeue vs = dequeued_from vs

module _ {s : Structure} (limit : ℕ) where
  -- A list of calls of the plain machine: what it holds afterwards, and its answers.
  unfoldable pub plain_contents : List (Op s) → Contents s → Contents s
  plain_contents [] t = t
  plain_contents (op ∷ ops) t = plain_contents ops (plain limit op t).contents

  unfoldable pub plain_answers : List (Op s) → Contents s → List Answer
  plain_answers [] t = []
  plain_answers (op ∷ ops) t = (plain limit op t).answer ∷ plain_answers ops (plain limit op t).contents

-- ---- what a plain machine holds, as pairs
-- The stack's entries, as its nodes number them: from the bottom, from 1.
unfoldable pub numbered : List ℕ → List Pair
numbered [] = []
numbered (v ∷ vs) = record { key = suc (length vs); value = v } ∷ numbered vs

-- The queue's entries, from the oldest, with keys in a row from a first one.
unfoldable pub in_row : (first : ℕ) → List ℕ → List Pair
in_row first [] = []
in_row first (v ∷ vs) = record { key = first; value = v } ∷ in_row (suc first) vs

-- The pairs are what the plain machine holds. A heap's positions are numbered from 1 on too; which number stands where is not the
-- plain machine's to say. Nor is a queue's first key.
abbrev pub Entries : (s : Structure) → Contents s → List Pair → Type 0
Entries map t ps = Perm t ps
Entries stack vs ps = Perm (numbered vs) ps
Entries heap vs ps = (ws : List ℕ) × (Perm vs ws × Perm (numbered ws) ps)
Entries queue vs ps = (first : ℕ) × Perm (in_row first vs) ps
