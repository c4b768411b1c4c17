-- Document 02, change 2: "only a put of a present key on a full map changes: 10 becomes replaced with the old value, and the value is stored. All else, and
-- every trace, is as before."
use Rattle.std.specs.Prelude.{◌≡◌, Bool, true, false, ◌⊎◌, List, ◌∷◌, ◌++◌, ℕ, ◌+◌, ◌*◌, ◌<◌, ltb, length}
use Rattle.std.proofs.Math.Option.{Option, none, some}
use Rattle.list_spec.specs.Choice.{pick}
use Rattle.slot_spec.specs.Tree.{slot_length, bucket_start, passes, among}
use Rattle.round_spec.specs.Format.{Format}
use Rattle.round_spec.specs.Whole.{InTree}
use Rattle.method_spec.specs.Node.{Node, with_value}
use Rattle.method_spec.specs.Answer.{Structure, map, Op, get, put, remove, push, pop, add, take, enqueue, dequeue, Answer, replaced, full}
use Rattle.method_spec.specs.Outcome.{Outcome}
use Rattle.method_spec.specs.Rounds.{rounds}
use Rattle.method_spec.specs.Call.{capacity}
use Rattle.leaf_spec.specs.Leaf.{leaf_format}
use Rattle.bucket_call_spec.specs.Fetch.{CallLeft, held_keys, Round, on, shut}
use Rattle.bucket_call_spec.specs.Call.{draw_of, fetched_by}
use Rattle.state_spec.specs.declared.State.{State}
use Rattle.state_spec.specs.Ticket.{op_in, structure_of}
use Rattle.call_spec.specs.Store.{Ended, store_of, refusing, ending, checks, first_met}

-- ---- which calls change
-- A key is present where the call, after its fetch rounds, holds a node with it: the walk by key came to it.
abbrev pub holds_key : ℕ → Round (Outcome ℕ) → Bool
holds_key key (on g p) = among key (held_keys g)
holds_key key (shut m g) = false

-- A put of a present key on a full map, by where the fetch rounds came to. Full is the state's entry count.
unfoldable pub full_put : {s : Structure} → (limit entries : ℕ) → Op s → Round (Outcome ℕ) → Bool
full_put limit entries (put key value) r = pick (ltb entries limit) false (holds_key key r)
full_put limit entries (get key) r = false
full_put limit entries (remove key) r = false
full_put limit entries (push value) r = false
full_put limit entries pop r = false
full_put limit entries (add value) r = false
full_put limit entries take r = false
full_put limit entries (enqueue value) r = false
full_put limit entries dequeue r = false

-- The operation that a ticket asks is a put of a present key on a full map.
unfoldable pub present_on_full : State → (tree tape : List ℕ) → (st : Structure) → Option (Op st) → Bool
present_on_full s tree tape st none = false
present_on_full s tree tape st (some op) =
    full_put (capacity s.size) s.entries op (fetched_by s.size (rounds st s.size) op (draw_of s.size tape) (store_of s tree))

abbrev pub full_put_call : State → (tree ticket tape : List ℕ) → Bool
full_put_call s tree ticket tape = present_on_full s tree tape (structure_of s.structure) (op_in (structure_of s.structure) ticket)

-- ---- stores that are the same but for one element
-- Two lists that differ in one place.
pub data Differ {A : Type 0} (a b : A) : List A → List A → Type 0 where
  here : (xs : List A) → Differ a b (a ∷ xs) (b ∷ xs)
  there : (x : A) {xs ys : List A} → Differ a b xs ys → Differ a b (x ∷ xs) (x ∷ ys)

module _ {E : Type 0} (F : Format E) (k : ℕ) (a b : E) where
  -- Two trees that are the same, byte for byte, but that slot j of a bucket has the bytes of a in the one and those of b in the other;
  -- the path of a passes the bucket.
  pub record OneSlot (tree other : List ℕ) : Type 0 where
    pub bucket : ℕ
    pub j : ℕ
    pub in_tree : InTree k bucket
    pub fourth : j < 4
    pub passed : passes k (F.tag a) bucket ≡ true
    pub before : List ℕ
    pub after : List ℕ
    pub at : length before ≡ bucket_start bucket + slot_length * j
    pub one : tree ≡ before ++ (F.bytes a ++ after)
    pub two : other ≡ before ++ (F.bytes b ++ after)

  -- In one place, of the waiting list or of the tree, the one store has a and the other b.
  pub data Apart : (tree : List ℕ) → List E → (other : List ℕ) → List E → Type 0 where
    waits : {tree : List ℕ} {ws vs : List E} → Differ a b ws vs → Apart tree ws tree vs
    stands : {tree other : List ℕ} {ws : List E} → OneSlot tree other → Apart tree ws other ws

-- ---- what such a call changes
-- The two answers, by the mark that both calls left: 10 became replaced with the old value; calls that closed the store have none.
pub data TwoAnswers (old : ℕ) : (mark : ℕ) → (earlier now : Option Answer) → Type 0 where
  ten-then-replaced : TwoAnswers old 0 (some full) (some (replaced old))
  neither : {m : ℕ} → (m ≡ 8) ⊎ (m ≡ 9) → TwoAnswers old m none none

-- What the earlier call left and what the call leaves: the same mark, entries, root link and leaves, the same known ahead; the same nodes in the same
-- places, but that one node, which has the key, has the put's value.
pub record OnlyValue (k key value : ℕ) (earlier now : CallLeft) : Type 0 where
  pub mark : now.mark ≡ earlier.mark
  pub entries : now.entries ≡ earlier.entries
  pub root : now.root ≡ earlier.root
  pub ahead : now.ahead ≡ earlier.ahead
  pub leaves : now.leaves ≡ earlier.leaves
  pub node : Node ℕ
  pub named : node.key ≡ key
  pub apart : Apart leaf_format k node (with_value value node) earlier.tree earlier.waiting now.tree now.waiting
  pub answers : TwoAnswers node.value now.mark earlier.answer now.answer

-- A ticket that asks a put of that key and value.
pub data AsksPut (key value : ℕ) : (st : Structure) → Option (Op st) → Type 0 where
  asks-put : AsksPut key value map (some (put key value))

-- The earlier call and this one: both refused with the same cause, the first that is met, which changes nothing; or they ended with what differs in the one
-- value and the answer, and with the same peak.
pub data Compares (s : State) (tree ticket tape trace : List ℕ) (st : Structure) (o : Option (Op st)) : (earlier now : Ended) → Type 0 where
  both-refused : (m : ℕ) → first_met (checks st s tree ticket tape trace o) ≡ some m
      → Compares s tree ticket tape trace st o (refusing m s tree trace) (refusing m s tree trace)
  other-value : (key value : ℕ) {earlier now : CallLeft} {before peak : ℕ} → AsksPut key value st o → OnlyValue s.size key value earlier now → peak ≡ before
      → Compares s tree ticket tape trace st o (ending s trace earlier before) (ending s trace now peak)
