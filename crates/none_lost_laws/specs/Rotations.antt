-- Rotations, one level up and the whole way up, on any content: no entry comes or goes, and heights rise by at most four a level.
use Rattle.std.specs.Prelude.{◌≡◌, refl, Bool, not, List, [], ◌∷◌, ◌++◌, map, ℕ, suc, ◌+◌, ◌*◌, ◌≤◌, length}
use Rattle.std.proofs.Common.{sym, ap, ap₂, append-nil, arith}
use Rattle.std.proofs.Math.Bool.{true, false}
use Rattle.std.specs.Bool.{beq}
use mathlib.Core.List.Memᴰ
use Rattle.std.proofs.Math.Option.{Option, none, some}
use Rattle.list_spec.specs.Choice.{pick}
use Rattle.list_spec.specs.Perm.{Perm, trans}
use Rattle.list_laws.specs.PermLaws.{perm-refl, perm-of-eq, perm-append-left, perm-append-right, perm_append_comm}
use Rattle.list_spec.specs.Distinct.{All}
use Rattle.list_laws.specs.DistinctLaws.{all_nil, all_cons, all_left}
use Rattle.list_laws.specs.Shuffle.{part, ◌&◌, shuffle}
use Rattle.method_spec.specs.Node.{Link, Node, child, with_child, link_to}
use Rattle.method_spec.specs.Prog.{Want, done, want}
use Rattle.method_spec.specs.Map.{Step, Sub, stub, top, Built, link_of, listed, top_of, kid, kids, nodes_at, seat, step_at, beside, below, tall, leans_out, rotate, single, double, fetched_top, turn, with_subtree, rest, near_on, others_of, raise, climb, unwind, map_test}
use Rattle.method_spec.specs.Plain.{Pair}
use Rattle.none_lost_laws.specs.Fitting.{LinkFits, NodeFits, link-more, node-more, child_fits, with-child-fits, link-to-fits, down_fits, up_fits}
use Rattle.none_lost_laws.specs.Yields.{ends, asks, yields-pick, yields-then}
use Rattle.none_lost_laws.specs.Given.{YieldsBy, given-fits}
use Rattle.none_lost_laws.specs.AtHand.{pairs_of, pair-with-child, AtHand, at-hand-more, at-hand-perm, at-hand-given, at-hand-aside, at-hand-back, at-hand-anew}

-- ---- subtrees at hand
seat-link : (s : Bool) (n : Node ℕ) (x y : Option (Node ℕ)) → link_of (seat s n x y) ≡ link_to n
seat-link true n x y = refl
seat-link false n x y = refl

seat-nodes : (s : Bool) (n : Node ℕ) (x y : Option (Node ℕ)) → Perm (n ∷ (listed x ++ listed y)) (nodes_at (seat s n x y))
seat-nodes true n x y = perm_append_comm (n ∷ []) (listed x ++ listed y)
seat-nodes false n x y =
    shuffle ((n ∷ []) ∷ listed x ∷ listed y ∷ []) (part 0 & (part 1 & part 2)) ((part 2 & part 1) & part 0) refl

-- The top node, the child at hand on side s and that on the other.
top-nodes : (s : Bool) (n : Node ℕ) (x y : Option (Node ℕ))
    → Perm (nodes_at (top n x y)) (n ∷ (listed (kid s (top n x y)) ++ listed (kid (not s) (top n x y))))
top-nodes true n x y = perm_append_comm (listed x ++ listed y) (n ∷ [])
top-nodes false n x y =
    shuffle ((n ∷ []) ∷ listed x ∷ listed y ∷ []) ((part 1 & part 2) & part 0) (part 0 & (part 2 & part 1)) refl

near-nodes : (p : Step ℕ) (b : Sub ℕ) (s : Bool) → Perm (nodes_at b) (nodes_at (near_on p b s) ++ others_of p b s)
near-nodes p b s = go (beq s p.way)
  where
    go : (t : Bool) → Perm (nodes_at b) (nodes_at (pick t b (stub (child s p.node))) ++ pick t [] (nodes_at b))
    go true = perm-of-eq (sym (append-nil (nodes_at b)))
    go false = perm-refl (nodes_at b)

-- ---- one rotation
-- A subtree was built from the nodes at hand.
pub record Raised (k h : ℕ) (less more : List Pair) (r : Built ℕ) (held : List (Node ℕ)) : Type 0 where
  pub at-hand : AtHand k h less more (r.out ++ nodes_at r.sub) held
  pub link : LinkFits k (suc h) (link_of r.sub)

module _ {k h : ℕ} {less more : List Pair} {held : List (Node ℕ)} where
  pub raised-more : {c : ℕ} {r : Built ℕ} → h ≤ c → Raised k h less more r held → Raised k c less more r held
  raised-more le r = record { at-hand = at-hand-more le r.at-hand; link = link-more (omega arith) r.link }

module _ {k : ℕ} {less more : List Pair} {held : List (Node ℕ)} where
  -- A top node with the children at hand on side s and on the other; the others are done with.
  seated-raised : {h : ℕ} (s : Bool) (n : Node ℕ) (x y : Option (Node ℕ)) (xs : List (Node ℕ))
      → AtHand k h less more ((n ∷ (listed x ++ listed y)) ++ xs) held
      → Raised k h less more (record { sub = seat s n x y; out = xs }) held
  seated-raised s n x y xs a =
      record {
        at-hand =
            at-hand-perm (trans (perm_append_comm (n ∷ (listed x ++ listed y)) xs) (perm-append-left xs (seat-nodes s n x y))) a;
        link = rw (seat-link s n x y) (link-to-fits (a.fit n (Memᴰ.head refl)));
      }

  rotate-at-hand : {h : ℕ} (s : Bool) (n c : Node ℕ) (xs : List (Node ℕ)) → AtHand k h less more (n ∷ c ∷ xs) held
      → AtHand k (suc h) less more ((rotate s n c).down ∷ (rotate s n c).up ∷ xs) held
  rotate-at-hand {h} s n c xs a =
      let fn = a.fit n (Memᴰ.head refl) in
      let fc = a.fit c (Memᴰ.tail (Memᴰ.head refl)) in
      let P = NodeFits k (suc h) in
      at-hand-anew (n ∷ c ∷ []) ((rotate s n c).down ∷ (rotate s n c).up ∷ []) xs
      (ap₂ (λ (x y : Pair). x ∷ y ∷ []) (sym (pair-with-child s n _)) (sym (pair-with-child (not s) c _))) (omega arith)
      (all_cons {P = P} (node-more (omega arith) (down_fits s fn fc)) (all_cons {P = P} (up_fits s fn fc) (all_nil P))) a

  -- A node takes a link for that on side s.
  with-child-at-hand : {h : ℕ} (s : Bool) (n : Node ℕ) (l : Link ℕ) (xs : List (Node ℕ)) → LinkFits k (suc h) l
      → AtHand k h less more (n ∷ xs) held → AtHand k (suc h) less more (with_child s n l ∷ xs) held
  with-child-at-hand {h} s n l xs f a =
      let P = NodeFits k (suc h) in
      at-hand-anew (n ∷ []) (with_child s n l ∷ []) xs (ap (λ (x : Pair). x ∷ []) (sym (pair-with-child s n l))) (omega arith)
      (all_cons {P = P} (with-child-fits (node-more (omega arith) (a.fit n (Memᴰ.head refl))) s f) (all_nil P)) a

  module _ {h : ℕ} (s : Bool) (n c : Node ℕ) (outer : Option (Node ℕ)) (others : List (Node ℕ)) where
    single-raised : (inner : Option (Node ℕ)) → AtHand k h less more (n ∷ c ∷ (listed outer ++ (listed inner ++ others))) held
        → Raised k (suc h) less more (single s n c outer inner others) held
    unfolding single
    single-raised inner a =
        let r = rotate s n c in
        seated-raised s r.up outer (some r.down) (listed inner ++ others)
        (at-hand-perm
        (shuffle ((r.down ∷ []) ∷ (r.up ∷ []) ∷ listed outer ∷ (listed inner ++ others) ∷ [])
        (part 0 & (part 1 & (part 2 & part 3))) ((part 1 & (part 2 & part 0)) & part 3) refl)
        (rotate-at-hand s n c (listed outer ++ (listed inner ++ others)) a))

    double-raised : (g : Node ℕ) → AtHand k h less more (n ∷ c ∷ g ∷ (listed outer ++ others)) held
        → Raised k (suc (suc (suc h))) less more (double s n c g outer others) held
    unfolding double
    double-raised g a =
        let xs = listed outer ++ others in
        let r = rotate (not s) c g in
        let q = rotate s (with_child s n (link_to r.up)) r.up in
        let lower : AtHand k (suc h) less more (n ∷ r.up ∷ r.down ∷ xs) held =
        at-hand-perm
        (shuffle ((r.down ∷ []) ∷ (r.up ∷ []) ∷ (n ∷ []) ∷ xs ∷ []) (part 0 & (part 1 & (part 2 & part 3))) (part 2 & (part 1 & (part 0 & part 3))) refl)
        (rotate-at-hand (not s) c g (n ∷ xs)
        (at-hand-perm
        (shuffle ((n ∷ []) ∷ (c ∷ []) ∷ (g ∷ []) ∷ xs ∷ []) (part 0 & (part 1 & (part 2 & part 3))) (part 1 & (part 2 & (part 0 & part 3))) refl) a)) in
        seated-raised s q.up (some r.down) (some q.down) xs
        (at-hand-perm
        (shuffle ((q.down ∷ []) ∷ (q.up ∷ []) ∷ (r.down ∷ []) ∷ xs ∷ []) (part 0 & (part 1 & (part 2 & part 3))) ((part 1 & (part 2 & part 0)) & part 3) refl)
        (rotate-at-hand s (with_child s n (link_to r.up)) r.up (r.down ∷ xs)
        (with-child-at-hand s n (link_to r.up) (r.up ∷ r.down ∷ xs)
        (link-to-fits (lower.fit r.up (Memᴰ.tail (Memᴰ.head refl)))) lower)))

-- ---- the taller child, at hand or wanted
module _ {k h : ℕ} {less more : List Pair} {held : List (Node ℕ)} where
  -- A node that is wanted is then at hand.
  want-yields : (w : Want ℕ) (ns : List (Node ℕ)) → LinkFits k h w.link → AtHand k h less more ns held
      → YieldsBy k map_test (λ c given. AtHand k h less more (c ∷ ns) given) (want w done) held
  want-yields w ns f a = asks f.tag (λ c got. ends (at-hand-given (given-fits f got) a))

  opened-yields : (w : Want ℕ) (o : Option (Node ℕ)) (ns : List (Node ℕ)) → LinkFits k h w.link → AtHand k h less more (listed o ++ ns) held
      → YieldsBy k map_test (λ c given. AtHand k h less more (c ∷ ns) given) (fetched_top w o) held
  opened-yields w none ns f a = want-yields w ns f a
  opened-yields w (some c) ns f a = ends a

  -- The tall side's child, with its children at hand on side s and on the other.
  opened-near : (w : Want ℕ) (s : Bool) (near : Sub ℕ) (ns : List (Node ℕ)) → LinkFits k h w.link → AtHand k h less more (nodes_at near ++ ns) held
      → YieldsBy k map_test (λ c given. AtHand k h less more (c ∷ (listed (kid s near) ++ (listed (kid (not s) near) ++ ns))) given)
      (fetched_top w (top_of near)) held
  opened-near w s (stub l) ns f a = want-yields w ns f a
  opened-near w s (top c x y) ns f a =
      ends
      (at-hand-perm
      (trans (perm-append-right ns (top-nodes s c x y))
      (shuffle ((c ∷ []) ∷ listed (kid s (top c x y)) ∷ listed (kid (not s) (top c x y)) ∷ ns ∷ [])
      ((part 0 & (part 1 & part 2)) & part 3) (part 0 & (part 1 & (part 2 & part 3))) refl)) a)

module _ {k : ℕ} {less more : List Pair} where
  turn-yields : {h : ℕ} {held : List (Node ℕ)} (p : Step ℕ) (s : Bool) (n : Node ℕ) (near : Sub ℕ) (others : List (Node ℕ))
      → AtHand k h less more (n ∷ (nodes_at near ++ others)) held
      → YieldsBy k map_test (Raised k (suc (suc (suc h))) less more) (turn p s n near others) held
  unfolding turn
  turn-yields {h} p s n near others a =
      let at = beside p s (child s n) in
      let outer = kid s near in
      let inner = kid (not s) near in
      yields-then _
      (opened-near at s near (n ∷ others) (child_fits (a.fit n (Memᴰ.head refl)) s)
      (at-hand-perm (shuffle ((n ∷ []) ∷ nodes_at near ∷ others ∷ []) (part 0 & (part 1 & part 2)) (part 1 & (part 0 & part 2)) refl) a))
      (λ c given b. yields-pick (leans_out s c)
      (ends
      (raised-more (omega arith)
      (single-raised s n c outer others inner
      (at-hand-perm
      (shuffle ((c ∷ []) ∷ listed outer ∷ listed inner ∷ (n ∷ []) ∷ others ∷ [])
      (part 0 & (part 1 & (part 2 & (part 3 & part 4)))) (part 3 & (part 0 & (part 1 & (part 2 & part 4)))) refl) b))))
      (yields-then (λ g. done (double s n c g outer others))
      (opened-yields (below (step_at at c (not s))) inner (n ∷ c ∷ (listed outer ++ others))
      (child_fits (b.fit c (Memᴰ.head refl)) (not s))
      (at-hand-perm
      (shuffle ((c ∷ []) ∷ listed outer ∷ listed inner ∷ (n ∷ []) ∷ others ∷ [])
      (part 0 & (part 1 & (part 2 & (part 3 & part 4)))) (part 2 & (part 3 & (part 0 & (part 1 & part 4)))) refl) b))
      (λ g more a. ends
      (double-raised s n c outer others g
      (at-hand-perm
      (shuffle ((g ∷ []) ∷ (n ∷ []) ∷ (c ∷ []) ∷ (listed outer ++ others) ∷ [])
      (part 0 & (part 1 & (part 2 & part 3))) (part 1 & (part 2 & (part 0 & part 3))) refl) a)))))

  -- ---- one level up
  -- The place p with the subtree b.
  placed-at-hand : {h : ℕ} {held : List (Node ℕ)} (p : Step ℕ) (b : Sub ℕ) → AtHand k h less more (p.node ∷ nodes_at b) held
      → LinkFits k (suc h) (link_of b) → AtHand k (suc h) less more (with_subtree p b ∷ nodes_at b) held
  placed-at-hand p b a f = with-child-at-hand p.way p.node (link_of b) (nodes_at b) f a

  pub rest-raised : {h : ℕ} {held : List (Node ℕ)} (p : Step ℕ) (b : Sub ℕ) → AtHand k h less more (p.node ∷ nodes_at b) held
      → LinkFits k (suc h) (link_of b) → Raised k (suc h) less more (rest p b) held
  rest-raised p b a f =
      seated-raised p.way (with_subtree p b) (top_of b) none (kids b)
      (at-hand-perm
      (trans
      (shuffle ((with_subtree p b ∷ []) ∷ kids b ∷ listed (top_of b) ∷ []) (part 0 & (part 1 & part 2)) ((part 0 & part 2) & part 1) refl)
      (perm-append-right (kids b) (perm-of-eq (ap (λ (l : List (Node ℕ)). with_subtree p b ∷ l) (sym (append-nil (listed (top_of b))))))))
      (placed-at-hand p b a f))

  raise-yields : {h : ℕ} {held : List (Node ℕ)} (p : Step ℕ) (b : Sub ℕ) → AtHand k h less more (p.node ∷ nodes_at b) held
      → LinkFits k (suc h) (link_of b) → YieldsBy k map_test (Raised k (suc (suc (suc (suc h)))) less more) (raise p b) held
  unfolding raise
  raise-yields {h} {held} p b a f =
      yields-pick (tall true (with_subtree p b)) (turned true)
      (yields-pick (tall false (with_subtree p b)) (turned false) (ends (raised-more (omega arith) (rest-raised p b a f))))
    where
      turned : (s : Bool)
          → YieldsBy k map_test (Raised k (suc (suc (suc (suc h)))) less more) (turn p s (with_subtree p b) (near_on p b s) (others_of p b s)) held
      turned s =
          turn-yields p s (with_subtree p b) (near_on p b s) (others_of p b s)
          (at-hand-perm (perm-append-left (with_subtree p b ∷ []) (near-nodes p b s)) (placed-at-hand p b a f))

-- ---- the whole way up
abbrev pub nodes_on : List (Step ℕ) → List (Node ℕ)
nodes_on path = map (λ (p : Step ℕ). p.node) path

-- The nodes of a path, of a subtree and those done with.
abbrev pub climbing : List (Step ℕ) → Sub ℕ → List (Node ℕ) → List (Node ℕ)
climbing path b out = nodes_on path ++ (nodes_at b ++ out)

module _ {k : ℕ} {less more : List Pair} where
  -- The path's first place and the subtree come last.
  level : {h : ℕ} {held : List (Node ℕ)} (p : Step ℕ) (path : List (Step ℕ)) (b : Sub ℕ) (out : List (Node ℕ))
      → AtHand k h less more (climbing (p ∷ path) b out) held
      → AtHand k h less more ((nodes_on path ++ out) ++ (p.node ∷ nodes_at b)) held
  level p path b out a =
      at-hand-perm
      (shuffle ((p.node ∷ []) ∷ nodes_on path ∷ nodes_at b ∷ out ∷ []) (part 0 & (part 1 & (part 2 & part 3))) ((part 1 & part 3) & (part 0 & part 2)) refl)
      a

  -- One level up, with the others set aside meanwhile.
  level-back : {h c : ℕ} {held : List (Node ℕ)} (path : List (Step ℕ)) (out : List (Node ℕ)) (r : Built ℕ) → h ≤ c
      → All (NodeFits k h) (nodes_on path ++ out) → Raised k c (less ++ pairs_of (nodes_on path ++ out)) more r held
      → AtHand k c less more (climbing path r.sub (out ++ r.out)) held
  level-back path out r le others raised =
      at-hand-perm
      (shuffle (nodes_on path ∷ out ∷ r.out ∷ nodes_at r.sub ∷ []) ((part 0 & part 1) & (part 2 & part 3)) (part 0 & (part 3 & (part 1 & part 2))) refl)
      (at-hand-back (nodes_on path ++ out) (λ n m. node-more le (others n m)) raised.at-hand)

  top-raised : {h c : ℕ} {held : List (Node ℕ)} (b : Sub ℕ) (out : List (Node ℕ)) → h ≤ c → AtHand k h less more (nodes_at b ++ out) held
      → LinkFits k (suc h) (link_of b) → Raised k c less more (record { sub = b; out = out }) held
  top-raised b out le a f =
      raised-more le (record { at-hand = at-hand-perm (perm_append_comm (nodes_at b) out) a; link = f })

-- At each level the entries at hand stay, and heights rise by at most four.
pub climb-yields : {k h c : ℕ} {less more : List Pair} {held : List (Node ℕ)} (path : List (Step ℕ)) (b : Sub ℕ) (out : List (Node ℕ))
    → 4 * length path + h ≤ c → AtHand k h less more (climbing path b out) held → LinkFits k (suc h) (link_of b)
    → YieldsBy k map_test (Raised k c less more) (climb path b out) held
unfolding climb
climb-yields [] b out le a f = ends (top-raised b out (omega arith) a f)
climb-yields (p ∷ path) b out le a f =
    let all = level p path b out a in
    let others = all_left (p.node ∷ nodes_at b) all.fit in
    yields-then _ (raise-yields p b (at-hand-aside (nodes_on path ++ out) all) f)
    (λ r given raised. climb-yields path r.sub (out ++ r.out) (omega arith)
    (level-back path out r (omega arith) others raised) raised.link)

-- Where nothing changed but tags and values they rise by at most one.
pub unwind-raised : {k h c : ℕ} {less more : List Pair} {held : List (Node ℕ)} (path : List (Step ℕ)) (b : Sub ℕ) (out : List (Node ℕ))
    → length path + h ≤ c → AtHand k h less more (climbing path b out) held → LinkFits k (suc h) (link_of b)
    → Raised k c less more (unwind path b out) held
unfolding unwind
unwind-raised [] b out le a f = top-raised b out (omega arith) a f
unwind-raised (p ∷ path) b out le a f =
    let all = level p path b out a in
    let others = all_left (p.node ∷ nodes_at b) all.fit in
    let raised = rest-raised p b (at-hand-aside (nodes_on path ++ out) all) f in
    unwind-raised path (rest p b).sub (out ++ (rest p b).out) (omega arith)
    (level-back path out (rest p b) (omega arith) others raised) raised.link
