-- Tags moved: where a call closes the store during its fetch rounds, each held node has its entry as before, and it is proper with the tags of
-- the links that were followed; and so is the root link.
use Rattle.std.specs.Prelude.{◌≡◌, refl, Bool, true, ◌⊎◌, ℕ, ◌^◌, ◌≤◌, ◌<◌, eqb}
use Rattle.std.proofs.Common.{sym, ◌∙◌, ap, ap₂, inl, inr, arith, eqb-true}
use Rattle.std.proofs.Math.Path.{subst}
use Rattle.std.proofs.Math.Bool.{false}
use Rattle.std.specs.Bool.{beq}
use mathlib.Core.List.Memᴰ
use mathlib.Core.List.{List, [], ◌∷◌, map, map-map, Memᴰ}
use Rattle.list_spec.specs.Distinct.{Distinct, All}
use Rattle.list_laws.specs.DistinctLaws.{distinct-injective}
use Rattle.method_spec.specs.Node.{Link, Node, child}
use Rattle.method_spec.specs.Prog.{From, root, side}
use Rattle.method_spec.specs.Plain.{Pair}
use Rattle.bucket_call_spec.specs.Fetch.{Held, Going, moved_link, moved_node, moved_nodes}
use Rattle.leaf_spec.specs.Leaf.{ProperLeaf}
use Rattle.leaf_laws.specs.Proper.{leaves-lawful}
use Rattle.none_lost_laws.specs.Fitting.{LinkFits, child_fits, proper-byte, fits-is-proper}
use Rattle.leaf_spec.specs.Entries.{pair_of}
use Rattle.none_lost_laws.specs.AtHand.{pairs_of}
use Rattle.none_lost_laws.specs.Sound.{nodes_in, Sound}
use Rattle.none_lost_laws.specs.Given.{Leads, at-root, at_side}

-- ---- one link
abbrev retagged : ℕ → Link ℕ → Link ℕ
retagged t l = record { height = l.height; key = l.key; tag = t }

same-side : (s t : Bool) → beq s t ≡ true → s ≡ t
same-side true true e = refl
same-side true false e = cc
same-side false true e = cc
same-side false false e = refl

-- The link takes the tag of a held node that was found through it, or stays.
moved-step : (from f : From) (n : Node ℕ) (hs : List Held) (l : Link ℕ)
    → ((from ≡ f) × (moved_link (record { from = from; node = n } ∷ hs) f l ≡ moved_link hs f (retagged n.tag l)))
    ⊎ (moved_link (record { from = from; node = n } ∷ hs) f l ≡ moved_link hs f l)
unfolding moved_link
moved-step root root n hs l = inl (refl, refl)
moved-step root (side j t) n hs l = inr refl
moved-step (side i s) root n hs l = inr refl
moved-step (side i s) (side j t) n hs l = go (eqb i j) (beq s t) refl refl
  where
    go : (a b : Bool) → eqb i j ≡ a → beq s t ≡ b
        → ((side i s ≡ side j t) × (moved_link (record { from = side i s; node = n } ∷ hs) (side j t) l ≡ moved_link hs (side j t) (retagged n.tag l)))
        ⊎ (moved_link (record { from = side i s; node = n } ∷ hs) (side j t) l ≡ moved_link hs (side j t) l)
    go true true p q = inl (ap₂ side (eqb-true i j p) (same-side s t q), rw (p, q))
    go true false p q = inr (rw (p, q))
    go false b p q = inr (rw p)

-- A present link fits with the tags of held nodes.
moved-fits : {k b : ℕ} (hs : List Held) (f : From) (l : Link ℕ) → LinkFits k b l
    → ((h : Held) → Memᴰ h hs → h.from ≡ f → (h.node.tag < 2 ^ k) × (l.height ≡ 0 → ⊥)) → LinkFits k b (moved_link hs f l)
unfolding moved_link
moved-fits [] f l fit held = fit
moved-fits {k} {b} (h ∷ hs) f l fit held = go (moved-step h.from f h.node hs l) (λ m. moved-fits hs f m)
  where
    go : ((h.from ≡ f) × (moved_link (h ∷ hs) f l ≡ moved_link hs f (retagged h.node.tag l))) ⊎ (moved_link (h ∷ hs) f l ≡ moved_link hs f l)
        → ((m : Link ℕ) → LinkFits k b m → ((x : Held) → Memᴰ x hs → x.from ≡ f → (x.node.tag < 2 ^ k) × (m.height ≡ 0 → ⊥)) → LinkFits k b (moved_link hs f m))
        → LinkFits k b (moved_link (h ∷ hs) f l)
    go (inl (same, e)) more =
        let r = held h (Memᴰ.head refl) same in
        rw e
        (more (retagged h.node.tag l)
        (record { height = fit.height; key = fit.key; tag = r.0; absent-zero = λ z. absurd (r.1 z) })
        (λ x i. held x (Memᴰ.tail i)))
    go (inr e) more = rw e (more l fit (λ x i. held x (Memᴰ.tail i)))

-- ---- the held nodes and the root link
pub moved-entries : (hs : List Held) → pairs_of (moved_nodes hs) ≡ pairs_of (nodes_in hs)
unfolding moved_node
moved-entries hs =
    map-map pair_of (λ (h : Held). moved_node hs h.node) hs ∙ sym (map-map pair_of (λ (h : Held). h.node) hs)

module _ {k : ℕ} {l : Link ℕ} {all : List Pair} {g : Going} (sound : Sound k l all g) where
  held-tag : (h : Held) → Memᴰ h g.held → h.node.tag < 2 ^ k
  held-tag h i = leaves-lawful.tag-is-leaf k h.node (sound.held h.node (Memᴰ.map (λ (x : Held). x.node) i))

  -- A link through which a held node was found is present in the held node of that key.
  present : (n : Node ℕ) (s : Bool) → Memᴰ n (nodes_in g.held) → Leads l (nodes_in g.held) (side n.key s) → (child s n).height ≡ 0 → ⊥
  present n s i (at_side m j same tall) zero =
      let apart : Distinct (map (λ (x : Node ℕ). x.key) (nodes_in g.held)) = rw (map-map (λ (x : Node ℕ). x.key) (λ (h : Held). h.node) g.held) sound.apart in
      let one : m ≡ n = distinct-injective (λ (x : Node ℕ). x.key) (nodes_in g.held) apart j i same in
      tall (ap (λ (x : Node ℕ). (child s x).height) one ∙ zero)

  pub moved-root : {b : ℕ} → LinkFits k b l → LinkFits k b (moved_link g.held root l)
  moved-root f =
      moved-fits g.held root l f
      (λ h i e. (held-tag h i, first (subst (Leads l (nodes_in g.held)) e (sound.linked h i))))
    where
      first : Leads l (nodes_in g.held) root → l.height ≡ 0 → ⊥
      first (at-root tall) = tall

  pub moved-proper : k ≤ 16 → All (ProperLeaf k) (moved_nodes g.held)
  unfolding moved_node
  moved-proper small n i =
      let r = Memᴰ.of_map (λ (h : Held). moved_node g.held h.node) g.held i in
      subst (ProperLeaf k) r.2 (moved r.0 r.1)
    where
      moved : (h : Held) → Memᴰ h g.held → ProperLeaf k (moved_node g.held h.node)
      moved h i =
          let n = h.node in
          let j = Memᴰ.map (λ (x : Held). x.node) i in
          let f = proper-byte k (sound.held n j) in
          let link : (s : Bool) → LinkFits k 255 (moved_link g.held (side n.key s) (child s n)) =
          λ s. moved-fits g.held (side n.key s) (child s n) (child_fits f s)
          (λ x at e. (held-tag x at, present n s j (subst (Leads l (nodes_in g.held)) e (sound.linked x at)))) in
          fits-is-proper k small (omega arith)
          (record { own = record { key = f.own.key; value = f.own.value; tag = f.own.tag }; left = link true; right = link false })
