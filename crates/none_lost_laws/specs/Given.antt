-- What a program asks of rounds, links that are present and lead to leaves, and what it is given for them: nodes that are proper, have the
-- link's key and passed the fetch test.
use Rattle.std.specs.Prelude.{◌≡◌, Bool, true, ℕ, ◌^◌, ◌<◌}
use mathlib.Core.List.{List, Memᴰ}
use Rattle.std.proofs.Common.{arith}
use Rattle.method_spec.specs.Node.{Link, Node, child}
use Rattle.method_spec.specs.Prog.{From, root, side, Want, Prog}
use Rattle.method_spec.specs.Answer.{Structure, map, stack, heap, queue}
use Rattle.method_spec.specs.Map.{map_test}
use Rattle.run_laws.specs.EnoughRounds.{tested-height}
use Rattle.leaf_spec.specs.Leaf.{ProperLeaf}
use Rattle.none_lost_laws.specs.Fitting.{LinkFits, NodeFits, proper-node}
use Rattle.none_lost_laws.specs.Yields.{Yields}

-- A wanted link leads to a leaf of the tree.
abbrev pub Asked : ℕ → Want ℕ → List (Node ℕ) → Type 0
Asked k w held = w.link.tag < 2 ^ k

-- What a fit root link tells of a structure with so many entries, beside its height: a heap's root is position 1; a queue with entries has a root.
abbrev pub RootFor : Structure → (entries : ℕ) → Link ℕ → Type 0
RootFor map entries l = Unit {0}
RootFor stack entries l = Unit {0}
RootFor heap entries l = (entries ≡ 0 → ⊥) → (l.height ≡ 0 → ⊥) × (l.key ≡ 1)
RootFor queue entries l = (entries ≡ 0 → ⊥) → (l.height ≡ 0 → ⊥)

-- A node that a round hands over for a want.
pub record Given (k : ℕ) (test : Want ℕ → Node ℕ → Bool) (w : Want ℕ) (n : Node ℕ) : Type 0 where
  pub proper : ProperLeaf k n
  pub named : n.key ≡ w.link.key
  pub passed : test w n ≡ true

abbrev pub YieldsBy : {A : Type 0} → (k : ℕ) → (Want ℕ → Node ℕ → Bool) → (A → List (Node ℕ) → Type 0) → Prog ℕ A → List (Node ℕ) → Type 0
YieldsBy k test Post p held = Yields (Asked k) (Given k test) Post p held

-- A link that was followed is present: the root link l, or that on a side of a node.
pub data Leads (l : Link ℕ) (ns : List (Node ℕ)) : From → Type 0 where
  at-root : (l.height ≡ 0 → ⊥) → Leads l ns root
  at_side : {key : ℕ} {s : Bool} (n : Node ℕ) → Memᴰ n ns → n.key ≡ key → ((child s n).height ≡ 0 → ⊥) → Leads l ns (side key s)

-- More nodes.
pub leads-more : {l : Link ℕ} {ns ms : List (Node ℕ)} {f : From} → ((n : Node ℕ) → Memᴰ n ns → Memᴰ n ms) → Leads l ns f → Leads l ms f
leads-more more (at-root h) = at-root h
leads-more more (at_side n m same present) = at_side n (more n m) same present

-- A wanted link leads to a leaf, and it is present where it stands.
abbrev pub AskedFrom : ℕ → Link ℕ → Want ℕ → List (Node ℕ) → Type 0
AskedFrom k l w held = Asked k w held × Leads l held w.from

-- The map's test bounds a node's heights by its link's.
pub given-fits : {k b : ℕ} {w : Want ℕ} {n : Node ℕ} → LinkFits k b w.link → Given k map_test w n → NodeFits k b n
given-fits {k} {b} {w} {n} f g =
    let same = tested-height w n g.passed in
    proper-node k g.proper (omega arith) (omega arith)
