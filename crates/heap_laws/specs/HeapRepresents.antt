-- What the heap supplies to the theory of runs: its memories represent what its plain machine holds, with three rounds for each level.
use Rattle.std.specs.Prelude.{refl}
use mathlib.Core.List.{List, []}
use Prim.Native.Nat.{ℕ, ◌<◌, ◌^◌}
use Rattle.std.proofs.Common.{arith}
use Rattle.std.proofs.Math.Pow.{pow_pos}
use Rattle.list_spec.specs.Perm.{trans}
use Rattle.list_laws.specs.PermLaws.{perm-refl, perm-sym}
use Rattle.balance_spec.specs.Tree.{leaf}
use Rattle.method_spec.specs.Answer.{heap, Op, add, take}
use Rattle.method_spec.specs.Plain.{plain}
use Rattle.method_spec.specs.Rounds.{rounds, spare}
use Rattle.method_spec.specs.Call.{capacity, program, ahead_after, test, Memory, empty_memory, draws_from}
use Rattle.run_laws.specs.Safe.{Safe}
use Rattle.run_laws.specs.SafeLaws.{within_more}
use Rattle.run_laws.specs.Calls.{given_tags}
use Rattle.run_laws.specs.HeapWithin.{heap-rounds, heap-within}
use Rattle.run_laws.specs.Answers.{StepsTo, Represents}
use Rattle.method_spec.specs.HeapShape.{heap_numbers, heap_positions, bare, heap_link, heap_nodes, HoldsHeap, countdown}
use Rattle.heap_laws.specs.HeapFacts.{heap-distinct}
use Rattle.heap_laws.specs.Adding.{add-safe}
use Rattle.heap_laws.specs.Taking.{take-safe}

module _ {T : Type 0} (nil : T) where
  pub heap-represents : (k : ℕ) → Represents heap nil (rounds heap k) (capacity k) (HoldsHeap nil (capacity k))
  unfolding rounds test program ahead_after spare draws_from
  heap-represents k =
      record {
        unordered = λ vs entries root a xs ys p h. record {
          tree = h.tree;
          complete = h.complete;
          ordered = h.ordered;
          numbers = h.numbers;
          sorted = h.sorted;
          positions = h.positions;
          counted = h.counted;
          linked = h.linked;
          stored = trans (perm-sym p) h.stored;
          fits = h.fits;
        };
        distinct-keys = λ vs m h. heap-distinct nil h;
        within = λ vs m h op spares.
            let few : m.entries < 2 ^ k = omega (arith, h.counted, h.fits, pow_pos k) in
            within_more (heap-rounds k m.entries few) (heap-within nil op spares (capacity k) m.entries m.ahead m.root);
        safe = λ vs m h. safe-step vs m h;
      }
    where
      safe-step : (vs : List ℕ) (m : Memory T) → HoldsHeap nil (capacity k) vs m → (op : Op heap) (spares : ℕ → T)
          → Safe (test heap m.entries) (StepsTo (HoldsHeap nil (capacity k)) (plain (capacity k) op vs) (given_tags heap m spares) (ahead_after nil op spares (capacity k) m.entries m.ahead))
          (program nil op spares (capacity k) m.entries m.ahead m.root) [] m.nodes
      safe-step vs m h (add value) spares = add-safe nil (capacity k) vs m h value (spares 0)
      safe-step vs m h take spares = take-safe nil (capacity k) vs m h (spares 0)

  pub empty-heap : (limit : ℕ) → HoldsHeap nil limit [] (empty_memory nil)
  unfolding empty_memory heap_link heap_nodes bare heap_numbers heap_positions countdown
  empty-heap limit =
      record {
        tree = leaf;
        complete = omega arith;
        ordered = tt;
        numbers = perm-refl [];
        sorted = tt;
        positions = perm-refl [];
        counted = refl;
        linked = refl;
        stored = perm-refl [];
        fits = omega arith;
      }
