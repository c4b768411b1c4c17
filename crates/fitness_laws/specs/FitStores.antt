-- A fit state and a lent tree of its size are a store that a call may start from.
use Rattle.std.specs.Prelude.{◌≡◌, refl, true, List, [], ◌∷◌, map, ℕ, length}
use mathlib.Core.List.Memᴰ
use Rattle.std.proofs.Common.{arith}
use Rattle.std.proofs.lemmas.List.{length-map}
use Rattle.list_spec.specs.Distinct.{All}
use Rattle.list_laws.specs.DistinctLaws.{all_nil, all_cons}
use Rattle.slot_spec.specs.LittleEndian.{Bytes}
use Rattle.slot_spec.specs.Tree.{tree_length}
use Rattle.leaf_spec.specs.Convert.{to_node}
use Rattle.state_spec.specs.declared.Place.{Place}
use Rattle.state_spec.specs.declared.State.{State}
use Rattle.state_spec.specs.Fit.{fits, used}
use Rattle.state_spec.specs.Ticket.{structure_of}
use Rattle.call_spec.specs.Store.{store_of}
use Rattle.leaf_spec.specs.Leaf.{ProperLeaf}
use Rattle.none_lost_laws.specs.Ends.{FitStore}
use Rattle.state_spec.specs.Widths.{Widths}
use Rattle.fitness_laws.specs.FitState.{places-length, fit-state}

-- The nodes of places whose nodes are proper.
proper-nodes : (k : ℕ) (ps : List Place) → All (λ (p : Place). ProperLeaf k (to_node p.node)) ps
    → All (ProperLeaf k) (map (λ (p : Place). to_node p.node) ps)
proper-nodes k [] h = all_nil (ProperLeaf k)
proper-nodes k (p ∷ ps) h =
    all_cons {P = ProperLeaf k} (h p (Memᴰ.head refl)) (proper-nodes k ps (λ q m. h q (Memᴰ.tail m)))

pub fit-store : (s : State) (tree : List ℕ) → fits s ≡ true → length tree ≡ tree_length s.size → Bytes tree → Widths s
    → FitStore (structure_of s.structure) s.size (store_of s tree)
fit-store s tree fit sized bytes widths =
    let f = fit-state s fit in
    let waiting = length-map (used s) (λ (p : Place). to_node p.node) in
    let count = places-length s.count 0 s.places in
    record {
      is-tree = record { sized = sized; bytes = bytes };
      proper = proper-nodes s.size (used s) (λ p m. (widths.nodes p m, f.well-formed p m));
      few = omega (arith, f.few);
      root =
          record {
            height = widths.root.0;
            key = widths.root.1.0;
            tag = f.root-tag;
            absent-zero = f.absent-zero;
          };
      low = f.low;
      entries = f.entries;
      rooted = f.rooted;
      ahead-tag = f.ahead-tag;
    }
