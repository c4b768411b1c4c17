-- Whether a state fits: its head and its places, and those one at a time.
use Rattle.std.specs.Prelude.{◌≡◌, refl, Bool, true, false, ◌&&◌, List, [], ◌∷◌, ℕ, suc, ◌+◌, ◌-◌, ◌^◌, ◌≤◌, ◌<◌, ltb, leb, eqb, get_or}
use Rattle.std.proofs.Common.{sym, ◌∙◌, ap, arith}
use Rattle.std.proofs.Math.Bool.{and_assoc, and-eq-true_iff}
use Rattle.std.proofs.Math.Decide.{dec_lt}
use borrow.Author.Tests.{lt-ltb, le-ltb, le-leb, lt-leb, ltb-true, leb-true}
use Rattle.std.specs.Int.Bits.{bit_or}
use Rattle.list_spec.specs.Ascending.{ascending, ascending_from}
use Rattle.slot_spec.specs.declared.Link.{Link}
use Rattle.slot_spec.specs.declared.Ahead.{Ahead}
use Rattle.slot_spec.specs.declared.Node.{Node}
use Rattle.slot_laws.specs.SlotLaws.{or-zero}
use Rattle.round_spec.specs.Round.{stash_limit}
use Rattle.state_spec.specs.declared.Place.{Place}
use Rattle.state_spec.specs.declared.State.{State}
use Rattle.state_spec.specs.Fit.{largest_structure, largest_size, zero_link, zero_node, all_of, in_range, places_from, no_place, keys_in, root_good, ahead_good, places_fit, head_fits, fits}

-- ---- numbers that are zero together
three-zero : (a b c : ℕ) → eqb (bit_or (bit_or a b) c) 0 ≡ (eqb a 0 && (eqb b 0 && eqb c 0))
three-zero a b c = rw (or-zero (bit_or a b) c, or-zero a b) (and_assoc (eqb a 0) (eqb b 0) (eqb c 0))

abbrev pub link_bits : Link → ℕ
link_bits l = bit_or (bit_or l.height l.key) l.tag

abbrev pub node_bits : Node → ℕ
node_bits n = bit_or (bit_or (bit_or (bit_or n.key n.value) n.tag) (link_bits n.left)) (link_bits n.right)

pub link-together : (l : Link) → eqb (link_bits l) 0 ≡ zero_link l
link-together l = three-zero l.height l.key l.tag

pub node-together : (n : Node) → eqb (node_bits n) 0 ≡ zero_node n
node-together n =
    three-zero (bit_or (bit_or n.key n.value) n.tag) (link_bits n.left) (link_bits n.right)
    ∙ rw (three-zero n.key n.value n.tag, link-together n.left, link-together n.right)
    (and_assoc (eqb n.key 0) (eqb n.value 0 && eqb n.tag 0) (zero_link n.left && zero_link n.right)
    ∙ ap (λ (t : Bool). eqb n.key 0 && t) (and_assoc (eqb n.value 0) (eqb n.tag 0) (zero_link n.left && zero_link n.right)))

pub ahead-together : (a : Ahead) → eqb (bit_or a.key a.tag) 0 ≡ (eqb a.key 0 && eqb a.tag 0)
ahead-together a = or-zero a.key a.tag

-- ---- one place after another
-- What is left of n places from number i on, after the first.
pub places-step : (n i : ℕ) (ps : List Place) → i < n → places_from (n - i) i ps ≡ get_or ps i no_place ∷ places_from (n - (i + 1)) (i + 1) ps
unfolding places_from
places-step n i ps h =
    let e : n - i ≡ suc (n - (i + 1)) = omega arith in
    let f : i + 1 ≡ suc i = omega arith in
    rw (e, f)

pub places-end : (n i : ℕ) (ps : List Place) → n ≤ i → places_from (n - i) i ps ≡ []
unfolding places_from
places-end n i ps h = let e : n - i ≡ 0 = omega arith in rw e

module _ (f : Place → Bool) (n i : ℕ) (ps : List Place) where
  pub all-passes : i < n → f (get_or ps i no_place) ≡ true → all_of f (places_from (n - i) i ps) ≡ all_of f (places_from (n - (i + 1)) (i + 1) ps)
  unfolding all_of
  all-passes h e = rw (places-step n i ps h, e)

  pub all-fails : i < n → f (get_or ps i no_place) ≡ false → all_of f (places_from (n - i) i ps) ≡ false
  unfolding all_of
  all-fails h e = rw (places-step n i ps h, e)

  pub all_end : n ≤ i → all_of f (places_from (n - i) i ps) ≡ true
  unfolding all_of
  all_end h = rw (places-end n i ps h)

-- Keys ascend from a least key on: each is at least one more than the key before.
unfoldable pub ascending_at : ℕ → List ℕ → Bool
ascending_at least [] = true
ascending_at least (k ∷ ks) = leb least k && ascending_at (k + 1) ks

pub ascending-next : (a : ℕ) (ks : List ℕ) → ascending_from a ks ≡ ascending_at (a + 1) ks
unfolding ascending_from ascending_at
ascending-next a [] = refl
ascending-next a (b ∷ ks) = go (ascending-next b ks) (dec_lt a b)
  where
    go : ascending_from b ks ≡ ascending_at (b + 1) ks → Dec (a < b) → (ltb a b && ascending_from b ks) ≡ (leb (a + 1) b && ascending_at (b + 1) ks)
    go e (yes h) = rw (lt-ltb a b h, le-leb (a + 1) b (omega arith)) e
    go e (no h) = rw (le-ltb a b (omega arith), lt-leb (a + 1) b (omega arith))

pub ascending-start : (ks : List ℕ) → ascending ks ≡ ascending_at 0 ks
unfolding ascending ascending_at
ascending-start [] = refl
ascending-start (a ∷ ks) = ascending-next a ks ∙ rw (le-leb 0 a (omega arith))

module _ (n i least : ℕ) (ps : List Place) where
  pub keys-ascend : i < n → least ≤ (get_or ps i no_place).node.key
      → ascending_at least (keys_in (places_from (n - i) i ps)) ≡ ascending_at ((get_or ps i no_place).node.key + 1) (keys_in (places_from (n - (i + 1)) (i + 1) ps))
  unfolding ascending_at
  keys-ascend h e = rw (places-step n i ps h, le-leb least (get_or ps i no_place).node.key e)

  pub keys-fall : i < n → (get_or ps i no_place).node.key < least → ascending_at least (keys_in (places_from (n - i) i ps)) ≡ false
  unfolding ascending_at
  keys-fall h e = rw (places-step n i ps h, lt-leb least (get_or ps i no_place).node.key e)

  pub keys-end : n ≤ i → ascending_at least (keys_in (places_from (n - i) i ps)) ≡ true
  unfolding ascending_at
  keys-end h = rw (places-end n i ps h)

pub in-range-zero : (n most : ℕ) → n ≡ 0 → in_range n most ≡ false
in-range-zero n most e = rw e

pub in-range-more : (n most : ℕ) → (n ≡ 0 → ⊥) → in_range n most ≡ leb n most
in-range-more n most h = rw (lt-ltb 0 n (omega arith))

pub in-range-true : (n most : ℕ) → in_range n most ≡ true → (1 ≤ n) × (n ≤ most)
in-range-true n most e = go (ltb 0 n) refl (leb n most) refl e
  where
    go : (t : Bool) → ltb 0 n ≡ t → (u : Bool) → leb n most ≡ u → (t && u) ≡ true → (1 ≤ n) × (n ≤ most)
    go true a true b e = (ltb-true 0 n a, leb-true n most b)
    go true a false b e = let z : ◌≡◌ {A = ℕ} 0 1 = cc in absurd (omega arith)
    go false a u b e = let z : ◌≡◌ {A = ℕ} 0 1 = cc in absurd (omega arith)

-- ---- the head and the places
pub fits-parts : (s : State) → fits s ≡ (head_fits s.structure s.size s.entries s.count s.root s.ahead && places_fit s)
unfolding fits
fits-parts s = refl

-- What a head that fits says.
pub record Head (structure size entries count : ℕ) (root : Link) (ahead : Ahead) : Type 0 where
  pub structures : (1 ≤ structure) × (structure ≤ largest_structure)
  pub sizes : (1 ≤ size) × (size ≤ largest_size)
  pub few : entries ≤ 2 ^ size - 1
  pub waiting : count ≤ stash_limit
  pub root-tag : root.tag < 2 ^ size
  pub rooted : root_good structure entries ahead.key root ≡ true
  pub known : ahead_good structure size entries ahead ≡ true

pub head-true : (structure size entries count : ℕ) (root : Link) (ahead : Ahead) → head_fits structure size entries count root ahead ≡ true
    → Head structure size entries count root ahead
unfolding head_fits
head-true structure size entries count root ahead e =
    let a = (and-eq-true_iff (in_range structure largest_structure) _).0 e in
    let b = (and-eq-true_iff (in_range size largest_size) _).0 a.1 in
    let c = (and-eq-true_iff (leb entries (2 ^ size - 1)) _).0 b.1 in
    let d = (and-eq-true_iff (leb count stash_limit) _).0 c.1 in
    let f = (and-eq-true_iff (ltb root.tag (2 ^ size)) _).0 d.1 in
    let g = (and-eq-true_iff (root_good structure entries ahead.key root) _).0 f.1 in
    record {
      structures = in-range-true structure largest_structure a.0;
      sizes = in-range-true size largest_size b.0;
      few = leb-true entries (2 ^ size - 1) c.0;
      waiting = leb-true count stash_limit d.0;
      root-tag = ltb-true root.tag (2 ^ size) f.0;
      rooted = g.0;
      known = g.1;
    }

-- What a fit state says of its head and of its places.
pub fit_parts : (s : State) → fits s ≡ true → Head s.structure s.size s.entries s.count s.root s.ahead × (places_fit s ≡ true)
fit_parts s e =
    let f = (and-eq-true_iff (head_fits s.structure s.size s.entries s.count s.root s.ahead) (places_fit s)).0 (sym (fits-parts s) ∙ e) in
    (head-true s.structure s.size s.entries s.count s.root s.ahead f.0, f.1)
