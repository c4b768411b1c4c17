-- What the map's invariant gives: an empty map has it, and the keys of its nodes are distinct.
use Rattle.std.specs.Prelude.{◌≡◌, ℕ, ◌<◌, length}
use Rattle.std.proofs.Math.Path.{refl}
use Rattle.std.proofs.Common.{sym, ap, ◌∙◌, ⊎_elim}
use mathlib.Core.List.Memᴰ
use mathlib.Core.List.{List, [], ◌∷◌, map, map-append, Memᴰ}
use Rattle.std.proofs.Math.Option.{Option, none, some}
use native.Mathlib.Omega.{arith}
use Rattle.std.proofs.Math.ListN.{length-append}
use Rattle.list_spec.specs.Perm.{Perm, nil as perm-none, trans, cons}
use Rattle.list_laws.specs.PermLaws.{perm-sym, perm-of-eq, perm-append, perm-front, perm-map}
use Rattle.list_spec.specs.Distinct.{Distinct}
use Rattle.list_laws.specs.DistinctLaws.{distinct-perm}
use Rattle.balance_spec.specs.Tree.{Tree, leaf, node, height, size, Balanced}
use Rattle.method_spec.specs.Plain.{Pair}
use Rattle.method_spec.specs.Call.{Memory, empty_memory}
use Rattle.run_laws.specs.Fetches.{keys}
use Rattle.avl_laws.specs.Search.{Entry, pairs, Search, link_tree, nodes_of, Holds}
use Rattle.avl_laws.specs.Ascending.{Ascending, ends, next, search-ascending}
use Rattle.avl_laws.specs.View.{link-height}

module _ {T : Type 0} where
  pub pairs-length : (t : Tree (Entry T)) → length (pairs t) ≡ size t
  unfolding pairs size
  pairs-length leaf = refl
  pairs-length (node l e r) =
      let a = length-append (pairs l) (record { key = e.key; value = e.value } ∷ pairs r) in
      let b = pairs-length l in
      let c = pairs-length r in
      omega arith

  pub node-keys : (nil : T) (t : Tree (Entry T))
      → Perm (keys (nodes_of nil t)) (map (λ p. p.key) (pairs t))
  unfolding nodes_of pairs
  node-keys nil leaf = perm-none
  node-keys nil (node l e r) =
      simp map-append
      (trans (cons e.key (perm-append (node-keys nil l) (node-keys nil r)))
      (perm-sym (perm-front (map (λ p. p.key) (pairs l)) e.key (map (λ p. p.key) (pairs r)))))

pub ascending-member : {k j : ℕ} {high : Option ℕ} {xs : List Pair} → Ascending (some k) high xs
    → Memᴰ j (map (λ p. p.key) xs) → k < j
ascending-member ends m = absurd (Memᴰ.not-nil m)
ascending-member {k} {j} (next {p = p} a b h) m =
    ⊎_elim (λ e. omega arith) (λ i. let c = ascending-member h i in omega arith) (Memᴰ.cases_cons m)

pub ascending-distinct : {low high : Option ℕ} {xs : List Pair} → Ascending low high xs
    → Distinct (map (λ p. p.key) xs)
ascending-distinct ends = tt
ascending-distinct (next a b h) = (λ m. let c = ascending-member h m in omega arith, ascending-distinct h)

module _ {T : Type 0} {nil : T} {limit : ℕ} where
  pub holds-empty : Holds nil limit [] (empty_memory nil)
  unfolding empty_memory Balanced Search pairs link_tree nodes_of
  holds-empty =
      record {
        tree = leaf;
        balanced = tt;
        search = tt;
        same = refl;
        linked = refl;
        stored = perm-none;
        counted = refl;
        fits = omega arith;
      }

  module _ {m : Memory T} {table : List Pair} (h : Holds nil limit table m) where
    pub holds-ascending : Ascending none none table
    holds-ascending = rw h.same at (search-ascending none none h.tree h.search)

    pub holds-distinct : Distinct (keys m.nodes)
    holds-distinct =
        distinct-perm (perm-sym
        (trans (perm-map (λ n. n.key) h.stored)
        (trans (node-keys nil h.tree) (perm-of-eq (ap (map (λ p. p.key)) h.same)))))
        (ascending-distinct holds-ascending)

    -- The root link's height is the tree's, and the entries are as many as its nodes.
    pub holds-height : m.root.height ≡ height h.tree
    holds-height = ap (λ l. l.height) h.linked ∙ link-height nil h.tree

    pub holds-entries : m.entries ≡ size h.tree
    holds-entries = h.counted ∙ (ap length (sym h.same) ∙ pairs-length h.tree)
