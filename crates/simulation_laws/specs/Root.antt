-- The root link of a memory that holds a structure, as a fit state asks: all zero with no entries, and for the stack of height 1 with the
-- entries for its key, for the queue with the next unused key minus the entries. (The tag is HeldProper's `held-root`, and the map's height MapRepresents' `holds-shaped`.)
use Rattle.std.specs.Prelude.{◌≡◌, ℕ, ◌+◌, length}
use Rattle.std.proofs.Math.Path.{refl, sym}
use Rattle.std.proofs.Common.{◌∙◌}
use mathlib.Core.List.{List, [], ◌∷◌}
use native.Mathlib.Omega.{arith}
use Rattle.balance_spec.specs.Tree.{Tree, leaf, node, size}
use Rattle.method_spec.specs.Node.{absent, Cell}
use Rattle.method_spec.specs.Answer.{Structure, map, stack, heap, queue}
use Rattle.method_spec.specs.Plain.{Contents}
use Rattle.method_spec.specs.Call.{Memory}
use Rattle.run_laws.specs.StackRepresents.{chain_link, cells-counted}
use Rattle.avl_laws.specs.Search.{Entry, link_tree}
use Rattle.avl_laws.specs.Holds.{holds-entries}
use Rattle.heap_laws.specs.HeapFacts.{heap-no-root}
use Rattle.method_spec.specs.QueueShape.{row_link}
use Rattle.queue_laws.specs.QueueRepresents as queue
use Rattle.method_laws.specs.Represented.{Held}

module _ {T : Type 0} (nil : T) where
  tree-empty : (t : Tree (Entry T)) → size t ≡ 0 → link_tree nil t ≡ absent nil
  unfolding link_tree size
  tree-empty leaf e = refl
  tree-empty (node l a r) e = let z : ⊥ = omega arith in absurd z

  chain-empty : (cs : List (Cell T)) → length cs ≡ 0 → chain_link nil cs ≡ absent nil
  unfolding chain_link
  chain-empty [] e = refl
  chain-empty (c ∷ cs) e = let z : ⊥ = omega arith in absurd z

  row-empty : (first : ℕ) (cs : List (Cell T)) → length cs ≡ 0 → row_link nil first cs ≡ absent nil
  unfolding row_link
  row-empty first [] e = refl
  row-empty first (c ∷ cs) e = let z : ⊥ = omega arith in absurd z

  -- With no entries there is no root.
  pub root-empty : (s : Structure) (limit : ℕ) (t : Contents s) (m : Memory T) → Held nil s limit t m → m.entries ≡ 0 → m.root ≡ absent nil
  root-empty map limit t m (h, idle) e = h.linked ∙ tree-empty h.tree (sym (holds-entries h) ∙ e)
  root-empty stack limit t m (h, idle) e = h.rooted ∙ chain-empty h.cells (sym (cells-counted nil limit t m h) ∙ e)
  root-empty heap limit t m (h, idle) e = heap-no-root nil h e
  root-empty queue limit t m h e =
      h.rooted ∙ row-empty h.first h.cells (sym (queue.cells-counted nil limit t m h) ∙ e)

  chain-top : (cs : List (Cell T)) (n : ℕ) → n ≡ length cs → (n ≡ 0 → ⊥) → ((chain_link nil cs).height ≡ 1) × ((chain_link nil cs).key ≡ n)
  unfolding chain_link
  chain-top [] n e some = absurd (some e)
  chain-top (c ∷ cs) n e some = (refl, sym e)

  -- A stack's root link leads to the top, whose key is the number of entries.
  pub root-top : (limit : ℕ) (t : Contents stack) (m : Memory T) → Held nil stack limit t m → (m.entries ≡ 0 → ⊥)
      → (m.root.height ≡ 1) × (m.root.key ≡ m.entries)
  root-top limit t m (h, idle) some = rw h.rooted (chain-top h.cells m.entries (cells-counted nil limit t m h) some)

  row-oldest : (first : ℕ) (cs : List (Cell T)) → (length cs ≡ 0 → ⊥) → ((row_link nil first cs).height ≡ 1) × ((row_link nil first cs).key ≡ first)
  unfolding row_link
  row-oldest first [] some = absurd (some refl)
  row-oldest first (c ∷ cs) some = (refl, refl)

  -- A queue's root link leads to the oldest, whose key is the next unused one minus the entries.
  pub root-oldest : (limit : ℕ) (t : Contents queue) (m : Memory T) → Held nil queue limit t m → (m.entries ≡ 0 → ⊥)
      → (m.root.height ≡ 1) × (m.root.key + m.entries ≡ m.ahead.key)
  root-oldest limit t m h some =
      let counted : m.entries ≡ length h.cells = queue.cells-counted nil limit t m h in
      let top = row-oldest h.first h.cells (λ e. some (counted ∙ e)) in
      rw h.rooted (top.0, omega (arith, top.1, counted, h.in-row))
