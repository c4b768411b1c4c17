-- A number that sinks through a heap's tree: every fetch is safe, and the tree is ordered afterwards.
use Rattle.std.specs.Prelude.{◌≡◌, Bool, not, ltb, leb}
use Rattle.std.proofs.Math.Path.{refl, ap}
use Rattle.std.proofs.Common.{sym, ◌∙◌}
use Rattle.std.proofs.Math.Bool.{true, false}
use mathlib.Core.List.{List, [], ◌∷◌, ◌++◌, map-append}
use Prim.Native.Nat.{ℕ, zero, suc, ◌*◌, ◌≤◌, ◌<◌}
use native.Mathlib.Omega.{arith}
use borrow.Author.Tests.{ltb-true, ltb-false, leb-true, leb-false}
use Rattle.list_spec.specs.Choice.{pick}
use Rattle.list_spec.specs.Perm.{Perm, cons, trans}
use Rattle.list_laws.specs.PermLaws.{perm-refl, perm-sym, perm-of-eq, perm-append, perm-append-left, perm-append-right, perm-append-swap, perm-append-assoc}
use Rattle.list_laws.specs.Shuffle.{part, ◌&◌, shuffle}
use Rattle.balance_spec.specs.Tree.{Tree, leaf, node, height}
use Rattle.method_spec.specs.Node.{Node, absent, child, with_child, with_value, link_one, Cell}
use Rattle.method_spec.specs.Prog.{Want, Prog}
use Rattle.method_spec.specs.Heap.{child_position, Pass, lower, beneath, passed, child_of, smaller, above, sunk, sink, heap_test}
use Rattle.run_laws.specs.Safe.{Safe, ends, meets}
use Rattle.run_laws.specs.SafeLaws.{safe-then, safe-pick}
use Rattle.run_laws.specs.Fetches.{tags}
use Rattle.method_spec.specs.HeapShape.{AtLeast, Ordered, heap_numbers, bare, heap_link, heap_node, heap_nodes}
use Rattle.heap_laws.specs.HeapTree.{node-passes}
use Rattle.heap_laws.specs.Plugs.{shape, both-sides}
use Rattle.heap_laws.specs.Spine.{Spine, bottom, unseen, seen, Topped, no_top, with-top, topped-spine, stored-spine, hidden, hidden-all, passed-sides, spine-nodes}

module _ {T : Type 0} (nil : T) where
  -- What was not fetched: the tree's nodes that are not at hand, and a rest. The tags of the nodes fetched: those at hand, and some more.
  pub record Stock (i : ℕ) (t : Tree (Cell T)) (ps : List (Pass T)) (rest : List (Node T)) (more : List T)
      (held ns : List (Node T)) : Type 0 where
    pub left : Perm ns (hidden nil i t ps ++ rest)
    pub tagged : Perm (tags held) (tags (passed ps) ++ more)

  -- What is at hand of two trees: the other one first.
  stock-swap : {i j : ℕ} {t u : Tree (Cell T)} {ps qs : List (Pass T)} (rest : List (Node T)) (more : List T) {held ns : List (Node T)}
      → Stock i t ps (hidden nil j u qs ++ rest) (tags (passed qs) ++ more) held ns
      → Stock j u qs (hidden nil i t ps ++ rest) (tags (passed ps) ++ more) held ns
  stock-swap {i} {j} {t} {u} {ps} {qs} rest more s =
      record {
        left = trans s.left (perm-append-swap (hidden nil i t ps) (hidden nil j u qs) rest);
        tagged = trans s.tagged (perm-append-swap (tags (passed ps)) (tags (passed qs)) more);
      }

  -- What is at hand below a node that is at hand.
  stock-apart : {i : ℕ} {l : Tree (Cell T)} {c : Cell T} {r : Tree (Cell T)} {p : Pass T} {ps : List (Pass T)}
      {rest : List (Node T)} {more : List T} {held ns : List (Node T)} → p.node ≡ heap_node nil i l c r
      → Stock i (node l c r) (p ∷ ps) rest more held ns
      → Stock (child_position true i) l (pick p.way ps []) (hidden nil (child_position false i) r (pick p.way [] ps) ++ rest)
      (tags (passed (pick p.way [] ps)) ++ (c.tag ∷ more)) held ns
  unfolding hidden
  stock-apart {i} {l} {c} {r} {p} {ps} {rest} {more} e s =
      let left = pick p.way ps [] in
      let right = pick p.way [] ps in
      let tag : p.node.tag ≡ c.tag = cc in
      let sides : tags (passed ps) ≡ tags (passed left) ++ tags (passed right) =
      ap tags (passed-sides nil p.way ps) ∙ map-append (λ (n : Node T). n.tag) (passed left) (passed right) in
      record {
        left = trans s.left (perm-append-assoc (hidden nil (2 * i) l left) (hidden nil (suc (2 * i)) r right) rest);
        tagged =
            trans s.tagged
            (trans (perm-of-eq (ap (λ (x : T). x ∷ (tags (passed ps) ++ more)) tag ∙ ap (λ (ts : List T). c.tag ∷ (ts ++ more)) sides))
            (shuffle ((c.tag ∷ []) ∷ tags (passed left) ∷ tags (passed right) ∷ more ∷ [])
            (part 0 & ((part 1 & part 2) & part 3)) (part 1 & (part 2 & (part 0 & part 3))) refl));
      }

  -- ---- a child

  -- The top of the tree t is at hand, fetched now or before; over it, a node gets the link to it.
  record Opened (n i : ℕ) (t : Tree (Cell T)) (rest : List (Node T)) (more : List T)
      (out : List (Pass T)) (held ns : List (Node T)) : Type 0 where
    tree : Tree (Cell T)
    same : bare tree ≡ bare t
    topped : Topped nil n i tree out
    stock : Stock i tree out rest more held ns
    over : (s : Bool) (m : Node T) → child s m ≡ heap_link nil i t → above s out m ≡ with_child s m (heap_link nil i tree)

  none_seen : (i : ℕ) (t : Tree (Cell T)) → Perm (heap_nodes nil i t) (hidden nil i t [])
  none_seen i t = perm-of-eq (sym (hidden-all nil i t))

  -- Bringing a child to hand is safe.
  child-safe : {n i : ℕ} {t : Tree (Cell T)} {ps : List (Pass T)} {rest : List (Node T)} {more : List T} {held ns : List (Node T)}
      (w : Want T) → Spine nil n i t ps → w.link ≡ heap_link nil i t → Stock i t ps rest more held ns
      → Safe (heap_test n) (Opened n i t rest more) (child_of w ps) held ns
  unfolding child_of heap_link hidden heap_nodes bare
  child-safe w bottom link s =
      rw link (ends (record { tree = leaf; same = refl; topped = no_top; stock = s; over = go }))
    where
      go : (s : Bool) (m : Node T) → child s m ≡ absent nil → m ≡ with_child s m (absent nil)
      go true m e = ap (with_child true m) e
      go false m e = ap (with_child false m) e
  child-safe {n} {i} {rest = rest} {held = held} w (unseen {l = l} {c} {r} h) link s =
      rw link
      (meets (heap_node nil i l c r) ((heap_nodes nil (2 * i) l ++ heap_nodes nil (suc (2 * i)) r) ++ rest) s.left refl refl
      (node-passes nil n i _ l c r h.1.0 h.1.1)
      (λ d. ends (record {
        tree = node l (record { value = c.value; tag = d }) r;
        same = refl;
        topped = with-top refl (stored-spine nil l h.1.0) (stored-spine nil r h.1.1);
        stock =
            record {
              left = perm-append-right rest (perm-append (none_seen (2 * i) l) (none_seen (suc (2 * i)) r));
              tagged = cons d s.tagged;
            };
        over = λ s m e. refl;
      })))
  child-safe {held = held} {ns} w (seen {i = i} {l} {c} {r} {p} {ps} e a b) link s =
      ends (record { tree = node l c r; same = refl; topped = with-top e a b; stock = s; over = go })
    where
      go : (s : Bool) (m : Node T) → child s m ≡ heap_link nil i (node l c r)
          → with_child s m (link_one p.node) ≡ with_child s m (heap_link nil i (node l c r))
      go s m _ = ap (λ (q : Node T). with_child s m (link_one q)) e

  -- ---- the number comes to rest, or sinks further

  -- The number v sank into a tree at position i whose sides were l and r: what was made and what was not fetched are the nodes of an
  -- ordered tree of that shape, and the rest.
  pub record Sank (v i : ℕ) (l r : Tree ℕ) (tag : T) (rest : List (Node T)) (more : List T) (out held ns : List (Node T)) : Type 0 where
    pub tree : Tree (Cell T)
    pub linked : heap_link nil i tree ≡ record { height = 1; key = i; tag = tag }
    pub alike : shape (bare tree) ≡ node (shape l) 0 (shape r)
    pub ordered : Ordered (bare tree)
    pub low : (b : ℕ) → b ≤ v → AtLeast b l → AtLeast b r → AtLeast b (bare tree)
    pub numbers : Perm (heap_numbers (bare tree)) (v ∷ (heap_numbers l ++ heap_numbers r))
    pub stored : Perm (out ++ ns) (heap_nodes nil i tree ++ rest)
    pub tagged : Perm (tags held) (tags out ++ more)

  -- It comes to rest in the node m, where no child is smaller.
  rests : {n : ℕ} (v i : ℕ) (l : Tree (Cell T)) (c : Cell T) (r : Tree (Cell T)) {a b : List (Pass T)} (m : Node T)
      (rest : List (Node T)) (more : List T) {held ns : List (Node T)} → m ≡ heap_node nil i l c r
      → Topped nil n (child_position true i) l a → Topped nil n (child_position false i) r b
      → Ordered (bare l) → Ordered (bare r) → AtLeast v (bare l) → AtLeast v (bare r)
      → Stock (child_position false i) r b (hidden nil (child_position true i) l a ++ rest) (tags (passed a) ++ (c.tag ∷ more)) held ns
      → Sank v i (bare l) (bare r) c.tag rest more (with_value v m ∷ (passed a ++ passed b)) held ns
  unfolding heap_link heap_nodes bare shape heap_numbers
  rests v i l c r {a} {b} m rest more {held} {ns} e ta tb ol or ll lr s =
      let hl = hidden nil (2 * i) l a in
      let hr = hidden nil (suc (2 * i)) r b in
      record {
        tree = node l (record { value = v; tag = c.tag }) r;
        linked = refl;
        alike = refl;
        ordered = (ll, (lr, (ol, or)));
        low = λ b h _ _. h;
        numbers = perm-refl _;
        stored =
            rw e
            (cons (heap_node nil i l (record { value = v; tag = c.tag }) r)
            (trans (perm-append-left (passed a ++ passed b) s.left)
            (trans
            (shuffle (passed a ∷ passed b ∷ hl ∷ hr ∷ rest ∷ [])
            ((part 0 & part 1) & (part 3 & (part 2 & part 4))) (((part 0 & part 2) & (part 1 & part 3)) & part 4) refl)
            (perm-append-right rest (perm-append (spine-nodes nil (topped-spine nil ta)) (spine-nodes nil (topped-spine nil tb)))))));
        tagged =
            rw (e, map-append (λ (x : Node T). x.tag) (passed a) (passed b))
            (trans s.tagged
            (shuffle (tags (passed a) ∷ tags (passed b) ∷ (c.tag ∷ []) ∷ more ∷ [])
            (part 1 & (part 0 & (part 2 & part 3))) (part 2 & ((part 0 & part 1) & part 3)) refl));
      }

  -- The tree x' in the place of x beside y, on the side s: the node over them, their shapes and their order.
  node-again : (s : Bool) (i w : ℕ) (c : Cell T) (m : Node T) (x x' y : Tree (Cell T))
      → m ≡ heap_node nil i (pick s x y) c (pick s y x)
      → heap_link nil (child_position s i) x' ≡ heap_link nil (child_position s i) x
      → with_value w m ≡ heap_node nil i (pick s x' y) (record { value = w; tag = c.tag }) (pick s y x')
  node-again true i w c m x x' y e link = cc
  node-again false i w c m x x' y e link = cc

  shape-again : (s : Bool) (x x' y : Tree (Cell T)) → shape (bare x') ≡ shape (bare x)
      → node (shape (bare (pick s x' y))) 0 (shape (bare (pick s y x'))) ≡ node (shape (bare (pick s x y))) 0 (shape (bare (pick s y x)))
  shape-again true x x' y e = cc
  shape-again false x x' y e = cc

  ordered-sides : (s : Bool) (w : ℕ) (x y : Tree (Cell T)) → AtLeast w (bare x) → AtLeast w (bare y) → Ordered (bare x) → Ordered (bare y)
      → Ordered (node (bare (pick s x y)) w (bare (pick s y x)))
  ordered-sides true w x y lx ly ox oy = (lx, (ly, (ox, oy)))
  ordered-sides false w x y lx ly ox oy = (ly, (lx, (oy, ox)))

  low-side : (s : Bool) (b : ℕ) (x y : Tree (Cell T)) → AtLeast b (bare (pick s x y)) → AtLeast b (bare (pick s y x)) → AtLeast b (bare x)
  low-side true b x y left right = left
  low-side false b x y left right = right

  -- It sank into the smaller child x, whose number moved up into the node m.
  sinks : {n : ℕ} (s : Bool) (v i : ℕ) (xl : Tree (Cell T)) (xc : Cell T) (xr y : Tree (Cell T)) (c : Cell T) {others : List (Pass T)} (m : Node T)
      (rest : List (Node T)) (more : List T) {out held ns : List (Node T)}
      → m ≡ heap_node nil i (pick s (node xl xc xr) y) c (pick s y (node xl xc xr))
      → Topped nil n (child_position (not s) i) y others
      → Ordered (bare (node xl xc xr)) → Ordered (bare y) → xc.value < v → AtLeast xc.value (bare y)
      → Sank v (child_position s i) (bare xl) (bare xr) xc.tag (hidden nil (child_position (not s) i) y others ++ rest)
      (tags (passed others) ++ (c.tag ∷ more)) out held ns
      → Sank v i (bare (pick s (node xl xc xr) y)) (bare (pick s y (node xl xc xr))) c.tag rest more
      (with_value xc.value m ∷ (passed others ++ out)) held ns
  unfolding heap_link heap_nodes bare shape heap_numbers
  sinks s v i xl xc xr y c {others} m rest more {out} {held} {ns} e ty ox oy less ly h =
      let x = node xl xc xr in
      let w = xc.value in
      let c' : Cell T = record { value = w; tag = c.tag } in
      let x' = h.tree in
      let hy = hidden nil (child_position (not s) i) y others in
      let nx = heap_nodes nil (child_position s i) x' in
      let top = heap_node nil i (pick s x' y) c' (pick s y x') in
      let same : with_value w m ≡ top = node-again s i w c m x x' y e h.linked in
      let tag : m.tag ≡ c.tag = cc in
      record {
        tree = node (pick s x' y) c' (pick s y x');
        linked = refl;
        alike = shape-again s x x' y h.alike;
        ordered = ordered-sides s w x' y (h.low w (omega arith) ox.0 ox.1.0) ly h.ordered oy;
        low = λ b _ hl hr. low-side s b x y hl hr;
        numbers =
            trans (cons w (perm-sym (both-sides s x' y (λ _ t. heap_numbers (bare t)))))
            (trans (cons w (perm-append-right (heap_numbers (bare y)) h.numbers))
            (trans
            (shuffle ((w ∷ []) ∷ (v ∷ []) ∷ heap_numbers (bare xl) ∷ heap_numbers (bare xr) ∷ heap_numbers (bare y) ∷ [])
            (part 0 & ((part 1 & (part 2 & part 3)) & part 4)) (part 1 & ((part 0 & (part 2 & part 3)) & part 4)) refl)
            (cons v (both-sides s x y (λ _ t. heap_numbers (bare t))))));
        stored =
            trans (perm-of-eq (ap (λ (q : Node T). q ∷ ((passed others ++ out) ++ ns)) same))
            (cons top
            (trans
            (shuffle (passed others ∷ out ∷ ns ∷ []) ((part 0 & part 1) & part 2) (part 0 & (part 1 & part 2)) refl)
            (trans (perm-append-left (passed others) h.stored)
            (trans
            (shuffle (passed others ∷ nx ∷ hy ∷ rest ∷ []) (part 0 & (part 1 & (part 2 & part 3)))
            ((part 1 & (part 0 & part 2)) & part 3) refl)
            (perm-append-right rest
            (trans (perm-append-left nx (spine-nodes nil (topped-spine nil ty)))
            (both-sides s x' y (λ side t. heap_nodes nil (child_position side i) t))))))));
        tagged =
            rw (tag, map-append (λ (q : Node T). q.tag) (passed others) out)
            (trans h.tagged
            (shuffle (tags (passed others) ∷ tags out ∷ (c.tag ∷ []) ∷ more ∷ [])
            (part 1 & (part 0 & (part 2 & part 3))) (part 2 & ((part 0 & part 1) & part 3)) refl));
      }

  -- A program that lets v sink safely from any node that is at hand and has at most so many levels below it.
  abbrev pub Sinker : (n v fuel : ℕ) → (Pass T → List (Pass T) → Prog T (List (Node T))) → Type 0
  Sinker n v fuel further =
      (i : ℕ) (l : Tree (Cell T)) (c : Cell T) (r : Tree (Cell T)) (p : Pass T) (ps : List (Pass T)) (rest : List (Node T)) (more : List T)
      (held ns : List (Node T)) → p.node ≡ heap_node nil i l c r
      → Spine nil n (child_position true i) l (pick p.way ps []) → Spine nil n (child_position false i) r (pick p.way [] ps)
      → Ordered (bare l) → Ordered (bare r) → height (bare l) ≤ fuel → height (bare r) ≤ fuel
      → Stock i (node l c r) (p ∷ ps) rest more held ns
      → Safe (heap_test n) (Sank v i (bare l) (bare r) c.tag rest more) (further p ps) held ns

  module _ (n v i fuel : ℕ) (further : Pass T → List (Pass T) → Prog T (List (Node T))) (sinker : Sinker n v fuel further)
      (c : Cell T) (m : Node T) (rest : List (Node T)) (more : List T) where
    -- Below the node m, where x is the smaller child.
    lowered : (s : Bool) (xl : Tree (Cell T)) (xc : Cell T) (xr y : Tree (Cell T)) (a b : List (Pass T)) {p : Pass T} {ps others : List (Pass T)}
        {held ns : List (Node T)} → m ≡ heap_node nil i (pick s (node xl xc xr) y) c (pick s y (node xl xc xr))
        → p.node ≡ heap_node nil (child_position s i) xl xc xr
        → Spine nil n (child_position true (child_position s i)) xl (pick p.way ps [])
        → Spine nil n (child_position false (child_position s i)) xr (pick p.way [] ps)
        → Topped nil n (child_position (not s) i) y others
        → Ordered (bare (node xl xc xr)) → Ordered (bare y) → height (bare (node xl xc xr)) ≤ suc fuel → AtLeast xc.value (bare y)
        → Stock (child_position s i) (node xl xc xr) (p ∷ ps) (hidden nil (child_position (not s) i) y others ++ rest)
        (tags (passed others) ++ (c.tag ∷ more)) held ns
        → (v ≤ xc.value → Sank v i (bare (pick s (node xl xc xr) y)) (bare (pick s y (node xl xc xr))) c.tag rest more
        (with_value v m ∷ (passed a ++ passed b)) held ns)
        → Safe (heap_test n) (Sank v i (bare (pick s (node xl xc xr) y)) (bare (pick s y (node xl xc xr))) c.tag rest more)
        (sunk further v m a b (lower p ps others)) held ns
    unfolding bare height
    lowered s xl xc xr y a b {p} {ps} {others} {held} {ns} e top left right ty ox oy tall ly stock resting =
        let value : p.node.value ≡ xc.value = cc in
        safe-pick (ltb p.node.value v)
        (λ t.
        let less = ltb-true p.node.value v t in
        let fewer : xc.value < v = omega arith in
        safe-then _
        (sinker (child_position s i) xl xc xr p ps (hidden nil (child_position (not s) i) y others ++ rest) (tags (passed others) ++ (c.tag ∷ more))
        held ns top left right ox.1.1.0 ox.1.1.1 (omega arith) (omega arith) stock)
        (λ out h k sank. ends (rw value (sinks s v i xl xc xr y c m rest more e ty ox oy fewer ly sank))))
        (λ t. let more = ltb-false p.node.value v t in ends (resting (omega arith)))

    -- Below the node m, with both children at hand.
    sunk-safe : {l r : Tree (Cell T)} {a b : List (Pass T)} {held ns : List (Node T)} → m ≡ heap_node nil i l c r
        → Topped nil n (child_position true i) l a → Topped nil n (child_position false i) r b
        → Ordered (bare l) → Ordered (bare r) → height (bare l) ≤ suc fuel → height (bare r) ≤ suc fuel
        → Stock (child_position false i) r b (hidden nil (child_position true i) l a ++ rest) (tags (passed a) ++ (c.tag ∷ more)) held ns
        → Safe (heap_test n) (Sank v i (bare l) (bare r) c.tag rest more) (sunk further v m a b (smaller a b)) held ns
    unfolding bare
    sunk-safe e no_top no_top ol or hl hr s = ends (rests {n = n} v i leaf c leaf m rest more e no_top no_top tt tt tt tt s)
    sunk-safe e (with-top {l = xl} {c = xc} {r = xr} {p} {ps} top left right) no_top ol or hl hr s =
        let ta : Topped nil n (2 * i) (node xl xc xr) (p ∷ ps) = with-top top left right in
        lowered true xl xc xr leaf (p ∷ ps) [] e top left right no_top ol tt hl tt (stock-swap rest (c.tag ∷ more) s)
        (λ h. rests v i (node xl xc xr) c leaf m rest more e ta no_top ol tt h tt s)
    sunk-safe e no_top (with-top {l = xl} {c = xc} {r = xr} {p} {ps} top left right) ol or hl hr s =
        let tb : Topped nil n (suc (2 * i)) (node xl xc xr) (p ∷ ps) = with-top top left right in
        lowered false xl xc xr leaf [] (p ∷ ps) e top left right no_top or tt hr tt s
        (λ h. rests v i leaf c (node xl xc xr) m rest more e no_top tb tt or tt h s)
    sunk-safe {held = held} {ns} e (with-top {l = xl} {c = xc} {r = xr} {p} {ps} top left right)
        (with-top {l = yl} {c = yc} {r = yr} {p = q} {ps = qs} top' left' right') ol or hl hr s =
        go (leb p.node.value q.node.value) refl
      where
        x : Tree (Cell T)
        x = node xl xc xr

        y : Tree (Cell T)
        y = node yl yc yr

        ta : Topped nil n (2 * i) x (p ∷ ps)
        ta = with-top top left right

        tb : Topped nil n (suc (2 * i)) y (q ∷ qs)
        tb = with-top top' left' right'

        vx : p.node.value ≡ xc.value
        vx = cc

        vy : q.node.value ≡ yc.value
        vy = cc

        resting : v ≤ xc.value → v ≤ yc.value
            → Sank v i (bare x) (bare y) c.tag rest more (with_value v m ∷ (passed (p ∷ ps) ++ passed (q ∷ qs))) held ns
        resting hx hy = rests v i x c y m rest more e ta tb ol or hx hy s

        go : (t : Bool) → leb p.node.value q.node.value ≡ t
            → Safe (heap_test n) (Sank v i (bare x) (bare y) c.tag rest more)
            (sunk further v m (p ∷ ps) (q ∷ qs) (pick t (lower p ps (q ∷ qs)) (lower q qs (p ∷ ps)))) held ns
        go true t =
            let most = leb-true p.node.value q.node.value t in
            let least : xc.value ≤ yc.value = omega (arith, vx, vy) in
            lowered true xl xc xr y (p ∷ ps) (q ∷ qs) e top left right tb ol or hl least (stock-swap rest (c.tag ∷ more) s)
            (λ h. resting h (omega arith))
        go false t =
            let most = leb-false p.node.value q.node.value t in
            let least : yc.value ≤ xc.value = omega (arith, vx, vy) in
            lowered false yl yc yr x (p ∷ ps) (q ∷ qs) e top' left' right' ta or ol hr least s
            (λ h. resting (omega arith) h)

  -- A tree without levels.
  level-none : {n i : ℕ} {ps : List (Pass T)} (v : ℕ) (t : Tree (Cell T)) → height (bare t) ≤ 0 → Spine nil n i t ps
      → Topped nil n i t ps × AtLeast v (bare t)
  unfolding bare height
  level-none v leaf h bottom = (no_top, tt)
  level-none v (node l c r) h s = let z : ⊥ = omega arith in absurd z

  -- The number v sinks: both children come to hand, and it rests above them or goes on below the smaller one.
  pub sink-safe : (n fuel v : ℕ) → Sinker n v fuel (sink fuel v)
  unfolding sink
  sink-safe n zero v i l c r p ps rest more held ns e left right ol or hl hr s =
      let a = level-none v l hl left in
      let b = level-none v r hr right in
      rw (passed-sides nil p.way ps)
      (ends
      (rests v i l c r p.node rest more e a.0 b.0 ol or a.1 b.1 (stock-swap rest (c.tag ∷ more) (stock-apart e s))))
  sink-safe n (suc fuel) v i l c r p ps rest more held ns e left right ol or hl hr s =
      let m = p.node in
      let on-left : m.left ≡ heap_link nil (2 * i) l = cc in
      let on-right : m.right ≡ heap_link nil (suc (2 * i)) r = cc in
      safe-then _ (child-safe (beneath p.node true) left on-left (stock-apart e s))
      (λ a held₁ ns₁ oa.
      safe-then _ (child-safe (beneath p.node false) right on-right (stock-swap rest (c.tag ∷ more) oa.stock))
      (λ b held₂ ns₂ ob.
      let inner = ob.over false m on-right in
      let outer = oa.over true (above false b m) (ap (λ (q : Node T). q.left) inner ∙ on-left) in
      let both : above true a (above false b m) ≡ heap_node nil i oa.tree c ob.tree = cc (inner, outer) in
      rw (← oa.same, ← ob.same)
      (sunk-safe n v i fuel (sink fuel v) (sink-safe n fuel v) c (above true a (above false b m)) rest more both oa.topped ob.topped
      (rw oa.same ol) (rw ob.same or) (rw oa.same hl) (rw ob.same hr) ob.stock)))
