-- Every structure's memories represent what its plain machine holds, within its rounds.
use Rattle.std.specs.Prelude.{ℕ, ◌≤◌, ◌≡◌, refl}
use Rattle.std.proofs.Common.{arith}
use Rattle.method_spec.specs.Node.{none_ahead}
use Rattle.method_spec.specs.Answer.{Structure, map, stack, heap, queue}
use Rattle.method_spec.specs.Plain.{Contents, nothing}
use Rattle.method_spec.specs.Rounds.{rounds}
use Rattle.method_spec.specs.Call.{capacity, Memory, empty_memory}
use Rattle.run_laws.specs.Calls.{map-unqueued, stack-unqueued, heap-unqueued}
use Rattle.run_laws.specs.Answers.{Represents, represents-unqueued}
use Rattle.run_laws.specs.StackRepresents.{HoldsStack, stack-represents, empty-stack}
use Rattle.avl_laws.specs.Search.{Holds}
use Rattle.avl_laws.specs.Holds.{holds-empty}
use Rattle.method_spec.specs.HeapShape.{HoldsHeap}
use Rattle.heap_laws.specs.HeapRepresents.{heap-represents, empty-heap}
use Rattle.method_spec.specs.QueueShape.{HoldsQueue}
use Rattle.queue_laws.specs.QueueRepresents.{queue-represents, empty-queue}
use Rattle.method_laws.specs.MapRepresents.{map-represents}

module _ {T : Type 0} (nil : T) where
  -- The memory of a structure holds what its plain machine holds, at most `limit` entries. Only a queue knows anything ahead.
  abbrev pub Held : (s : Structure) → ℕ → Contents s → Memory T → Type 0
  Held map limit t m = Holds nil limit t m × (m.ahead ≡ none_ahead nil)
  Held stack limit t m = HoldsStack nil limit t m × (m.ahead ≡ none_ahead nil)
  Held heap limit t m = HoldsHeap nil limit t m × (m.ahead ≡ none_ahead nil)
  Held queue limit t m = HoldsQueue nil limit t m

  pub represents : (s : Structure) (k : ℕ) → Represents s nil (rounds s k) (capacity k) (Held s (capacity k))
  unfolding rounds
  represents map k = represents-unqueued (map-represents nil k) map-unqueued (none_ahead nil)
  represents stack k =
      represents-unqueued (stack-represents nil (rounds stack k) (capacity k) (omega arith)) stack-unqueued (none_ahead nil)
  represents heap k = represents-unqueued (heap-represents nil k) heap-unqueued (none_ahead nil)
  represents queue k = queue-represents nil (capacity k) (rounds queue k) (omega arith)

  pub held-empty : (s : Structure) (limit : ℕ) → Held s limit (nothing s) (empty_memory nil)
  unfolding nothing empty_memory
  held-empty map limit = (holds-empty, refl)
  held-empty stack limit = (empty-stack nil limit, refl)
  held-empty heap limit = (empty-heap nil limit, refl)
  held-empty queue limit = empty-queue nil limit

  pub held_fits : (s : Structure) (limit : ℕ) (t : Contents s) (m : Memory T) → Held s limit t m → m.entries ≤ limit
  held_fits map limit t m h = omega (arith, h.0.counted, h.0.fits)
  held_fits stack limit t m h = omega (arith, h.0.counted, h.0.fits)
  held_fits heap limit t m h = omega (arith, h.0.counted, h.0.fits)
  held_fits queue limit t m h = omega (arith, h.counted, h.fits)
