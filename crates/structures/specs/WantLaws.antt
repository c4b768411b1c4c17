-- What a program wants lies no higher than the root link and the links in the nodes that it was given: so a caller whose
-- root link is low, and who asks the fetch test of each node, holds only low nodes.
use Prim.Native.Nat.{ℕ, zero, suc, ◌≤◌}
use native.Mathlib.Omega.{arith}
use Rattle.std.specs.Prelude.{◌≡◌, Bool, not, eqb, leb, ltb, length}
use Rattle.std.proofs.Math.Bool.{true, false, and-eq-true_iff}
use Rattle.std.specs.Bool.{beq}
use mathlib.Core.List.{List, [], ◌∷◌, ◌++◌}
use Rattle.std.proofs.Math.Option.{Option, none, some}
use Rattle.std.proofs.Common.{eqb-true}
use Rattle.list_spec.specs.Choice.{pick}
use Rattle.list_laws.specs.ChoiceLaws.{pick-both, pick-neither}
use Rattle.method_spec.specs.Node.{Link, Node, Ahead, child, with_child, height_of, absent, link_one}
use Rattle.method_spec.specs.Prog.{Want, Prog, done, want, bind, after, start}
use Rattle.method_spec.specs.Answer as method
use Rattle.method_spec.specs.Outcome.{Outcome}
use Rattle.method_spec.specs.Map.{Step, Sub, stub, top, Built, Spot, gap, hit, Lowest, link_of, top_of, kid, seat, step_at, beside, below, walk, tall, leans_out, rotate, single, double, fetched_top, turn, with_subtree, rest, near_on, others_of, raise, climb, get_step, get_prog, put_step, put_prog, lowest, swapped, take_out, remove_step, remove_prog, map_test}
use Rattle.method_spec.specs.Stack.{push_prog, pop_prog, stack_test}
use Rattle.method_spec.specs.Heap.{Pass, Reached, lower, way_to, beneath, descend, add_prog, downward, child_of, smaller, above, sunk, sink, replace_root, take_prog, heap_test}
use Rattle.method_spec.specs.Queue.{enqueue_prog, dequeue_prog, queue_test}
use Rattle.run_laws.specs.HeapWithin.{heap-tested}
use Rattle.method_spec.specs.Call.{program, test}
use Rattle.node_rows.specs.Heights.{Low, Lows}
use Rattle.map_nodes.specs.HeightLaws.{low-child}
use Rattle.operation_spec.specs.Method.{wanted_in}

module _ {T : Type 0} (most : ℕ) where
  -- A program that wants only low links, as long as it is given low nodes; at its end a statement holds.
  pub data AsksLow {A : Type 0} (Post : A → Type 0) : Prog T A → Type 0 where
    ends_low : {a : A} → Post a → AsksLow Post (done a)
    asks-low : {w : Want T} {k : Node T → Prog T A} → w.link.height ≤ most → ((m : Node T) → Low most m → AsksLow Post (k m))
        → AsksLow Post (want w k)

  module _ {A B : Type 0} {Post : B → Type 0} where
    low-bind : (f : A → Prog T B) {p : Prog T A} → AsksLow (λ a. AsksLow Post (f a)) p → AsksLow Post (bind p f)
    unfolding bind
    low-bind f (ends_low h) = h
    low-bind f (asks-low h g) = asks-low h (λ m l. low-bind f (g m l))

  asks-more : {A : Type 0} {P Q : A → Type 0} {p : Prog T A} → ((a : A) → P a → Q a) → AsksLow P p → AsksLow Q p
  asks-more f (ends_low {a} h) = ends_low (f a h)
  asks-more f (asks-low h g) = asks-low h (λ m l. asks-more f (g m l))

  low-pick : {A : Type 0} {Post : A → Type 0} {p q : Prog T A} (b : Bool) → AsksLow Post p → AsksLow Post q → AsksLow Post (pick b p q)
  low-pick true x y = x
  low-pick false x y = y

  -- ---- subtrees at hand

  -- A link to a node that is not at hand is low.
  abbrev OpenAt : Option (Node T) → Link T → Type 0
  OpenAt none l = l.height ≤ most
  OpenAt (some n) l = Unit

  abbrev OpenLow : Sub T → Type 0
  OpenLow (stub l) = l.height ≤ most
  OpenLow (top n l r) = OpenAt l n.left × OpenAt r n.right

  abbrev pub StepsLow : List (Step T) → Type 0
  StepsLow [] = Unit
  StepsLow (p ∷ ps) = Low most p.node × StepsLow ps

  -- The child c of what is near.
  abbrev Opened : Sub T → Node T → Type 0
  Opened near c = (s : Bool) → OpenAt (kid s near) (child s c)

  -- The kids of a subtree whose open links are low.
  open-kids : (n : Node T) (l r : Option (Node T)) → OpenLow (top n l r) → Opened (top n l r) n
  open-kids n l r h true = h.0
  open-kids n l r h false = h.1

  open-top : (w : Want T) (near : Sub T) → OpenLow near → OpenAt (top_of near) w.link → AsksLow (Opened near) (fetched_top w (top_of near))
  open-top w (stub l) h k = asks-low k (λ m low. ends_low (λ s. low-child s m low))
  open-top w (top n l r) h k = ends_low (open-kids n l r h)

  open-kid : (w : Want T) (k : Option (Node T)) → OpenAt k w.link → AsksLow (λ g. Unit {0}) (fetched_top w k)
  open-kid w none h = asks-low h (λ m low. ends_low tt)
  open-kid w (some n) h = ends_low tt

  open-seat : (s : Bool) (n : Node T) (a b : Option (Node T)) → OpenAt a (child s n) → OpenAt b (child (not s) n) → OpenLow (seat s n a b)
  open-seat true n a b h k = (h, k)
  open-seat false n a b h k = (k, h)

  -- ---- a level of the way up

  open-single : (s : Bool) (n c : Node T) (near : Sub T) (others : List (Node T)) → Opened near c
      → OpenLow (single s n c (kid s near) (kid (not s) near) others).sub
  unfolding single
  open-single s n c near others h =
      open-seat s (rotate s n c).up (kid s near) (some (rotate s n c).down) (go s h) tt
    where
      go : (s : Bool) → Opened near c → OpenAt (kid s near) (child s (rotate s n c).up)
      go true h = h true
      go false h = h false

  open-double : (s : Bool) (n c g : Node T) (outer : Option (Node T)) (others : List (Node T)) → OpenLow (double s n c g outer others).sub
  unfolding double
  open-double true n c g outer others = (tt, tt)
  open-double false n c g outer others = (tt, tt)

  low_turn : (p : Step T) (s : Bool) (n : Node T) (near : Sub T) (others : List (Node T)) → OpenLow near → OpenAt (top_of near) (child s n)
      → AsksLow (λ (r : Built T). OpenLow r.sub) (turn p s n near others)
  unfolding turn
  low_turn p s n near others h k =
      low-bind _
      (asks-more
      (λ c o. low-pick (leans_out s c) (ends_low (open-single s n c near others o))
      (low-bind _
      (asks-more (λ g u. ends_low (open-double s n c g (kid s near) others))
      (open-kid (below (step_at (beside p s (child s n)) c (not s))) (kid (not s) near) (o (not s))))))
      (open-top (beside p s (child s n)) near h k))

  at-link : (b : Sub T) → OpenLow b → OpenAt (top_of b) (link_of b)
  at-link (stub l) h = h
  at-link (top n l r) h = tt

  -- What is at hand on a side of a place, and the link to it there.
  open-near : (p : Step T) (b : Sub T) (s : Bool) → Low most p.node → OpenLow b
      → OpenLow (near_on p b s) × OpenAt (top_of (near_on p b s)) (child s (with_subtree p b))
  open-near p b s low h = go s p.way
    where
      go : (s way : Bool)
          → OpenLow (pick (beq s way) b (stub (child s p.node)))
          × OpenAt (top_of (pick (beq s way) b (stub (child s p.node)))) (child s (with_child way p.node (link_of b)))
      go true true = (h, at-link b h)
      go true false = (low.0, low.0)
      go false true = (low.1, low.1)
      go false false = (h, at-link b h)

  open-rest : (p : Step T) (b : Sub T) → Low most p.node → OpenLow b → OpenLow (rest p b).sub
  open-rest p b low h = go p.way
    where
      go : (way : Bool) → OpenLow (seat way (with_child way p.node (link_of b)) (top_of b) none)
      go true = (at-link b h, low.1)
      go false = (low.0, at-link b h)

  low-raise : (p : Step T) (b : Sub T) → Low most p.node → OpenLow b → AsksLow (λ (r : Built T). OpenLow r.sub) (raise p b)
  unfolding raise
  low-raise p b low h =
      let turned : (s : Bool) → AsksLow (λ (r : Built T). OpenLow r.sub) (turn p s (with_subtree p b) (near_on p b s) (others_of p b s)) =
      λ s. low_turn p s (with_subtree p b) (near_on p b s) (others_of p b s) (open-near p b s low h).0 (open-near p b s low h).1 in
      low-pick (tall true (with_subtree p b)) (turned true)
      (low-pick (tall false (with_subtree p b)) (turned false) (ends_low (open-rest p b low h)))

  -- ---- whole operations

  low-climb : (path : List (Step T)) (b : Sub T) (out : List (Node T)) → StepsLow path → OpenLow b → AsksLow (λ (r : Built T). Unit {0}) (climb path b out)
  unfolding climb
  low-climb [] b out h k = ends_low tt
  low-climb (p ∷ path) b out h k =
      low-bind _ (asks-more (λ r o. low-climb path r.sub (out ++ r.out) h.1 o) (low-raise p b h.0 k))

  abbrev pub SpotLow : Spot T → Type 0
  SpotLow (gap l path) = (l.height ≤ most) × StepsLow path
  SpotLow (hit w n path) = Low most n × StepsLow path

  low-walk : (key fuel : ℕ) (w : Want T) (path : List (Step T)) → w.link.height ≤ most → StepsLow path → AsksLow SpotLow (walk key fuel w path)
  unfolding walk
  low-walk key zero w path h k = ends_low {a = gap w.link path} (h, k)
  low-walk key (suc fuel) w path h k =
      low-pick (eqb w.link.height 0) (ends_low {a = gap w.link path} (h, k))
      (asks-low h
      (λ n low. low-pick (eqb key n.key) (ends_low {a = hit w n path} (low, k))
      (low-walk key fuel (below (step_at w n (ltb key n.key))) (step_at w n (ltb key n.key) ∷ path)
      (low-child (ltb key n.key) n low) (low, k))))

  abbrev pub LowestLow : Lowest T → Type 0
  LowestLow y = Low most y.node × StepsLow y.path

  low-lowest : (fuel : ℕ) (w : Want T) (n : Node T) (path : List (Step T)) → Low most n → StepsLow path → AsksLow LowestLow (lowest fuel w n path)
  unfolding lowest
  low-lowest zero w n path h k = ends_low (h, k)
  low-lowest (suc fuel) w n path h k =
      low-pick (eqb n.left.height 0) (ends_low (h, k))
      (asks-low h.0 (λ m low. low-lowest fuel (below (step_at w n true)) m (step_at w n true ∷ path) low (h, k)))

  pub steps-append : (ps qs : List (Step T)) → StepsLow ps → StepsLow qs → StepsLow (ps ++ qs)
  steps-append [] qs h k = k
  steps-append (p ∷ ps) qs h k = (h.0, steps-append ps qs h.1 k)

  low-take_out : (w : Want T) (n : Node T) (path : List (Step T)) → Low most n → StepsLow path → AsksLow (λ (r : Built T). Unit {0}) (take_out w n path)
  unfolding take_out
  low-take_out w n path h k =
      low-pick (eqb n.left.height 0) (low-climb path (stub n.right) [] k h.1)
      (low-pick (eqb n.right.height 0) (low-climb path (stub n.left) [] k h.0)
      (asks-low h.1
      (λ m low. low-bind _
      (asks-more
      (λ y l. low-climb (y.path ++ (swapped (step_at w n false) y.node ∷ path)) (stub y.node.right) []
      (steps-append y.path (swapped (step_at w n false) y.node ∷ path) l.1 (h, k)) l.0.1)
      (low-lowest n.right.height (below (step_at w n false)) m [] low tt)))))

  -- ---- the heap's way down and the sinking of a number

  abbrev PassesLow : List (Pass T) → Type 0
  PassesLow [] = Unit
  PassesLow (p ∷ ps) = Low most p.node × PassesLow ps

  low-descend : (turns : List Bool) (w : Want T) (path : List (Pass T)) → w.link.height ≤ most → PassesLow path
      → AsksLow (λ (r : Reached T). (r.end.link.height ≤ most) × PassesLow r.path) (descend turns w path)
  unfolding descend
  low-descend [] w path h k = ends_low (h, k)
  low-descend (s ∷ turns) w path h k =
      asks-low h (λ n low. low-descend turns (beneath n s) (record { node = n; way = s } ∷ path) (low-child s n low) (low, k))

  low-with-child : (s : Bool) (n : Node T) (l : Link T) → Low most n → l.height ≤ most → Low most (with_child s n l)
  low-with-child true n l h k = (k, h.1)
  low-with-child false n l h k = (h.0, k)

  module _ (one : 1 ≤ most) where
    low-downward : (l : Link T) (path below : List (Pass T)) → l.height ≤ most → PassesLow path → PassesLow below → PassesLow (downward l path below)
    unfolding downward
    low-downward l [] below h k b = b
    low-downward l (p ∷ path) below h k b =
        let n = with_child p.way p.node l in
        low-downward (link_one n) path (record { node = n; way = p.way } ∷ below) one k.1 (low-with-child p.way p.node l k.0 h, b)

    low-pick-side : (s : Bool) (below : List (Pass T)) → PassesLow below → PassesLow (pick s below []) × PassesLow (pick s [] below)
    low-pick-side true below h = (h, tt)
    low-pick-side false below h = (tt, h)

    low-child-of : (w : Want T) (below : List (Pass T)) → w.link.height ≤ most → PassesLow below → AsksLow PassesLow (child_of w below)
    unfolding child_of
    low-child-of w [] h k = low-pick (eqb w.link.height 0) (ends_low tt) (asks-low h (λ c low. ends_low (low, tt)))
    low-child-of w (p ∷ below) h k = ends_low k

    low-lower : (further : Pass T → List (Pass T) → Prog T (List (Node T)))
        → ((p : Pass T) (below : List (Pass T)) → PassesLow (p ∷ below) → AsksLow (λ (out : List (Node T)). Unit {0}) (further p below))
        → (v : ℕ) (n : Node T) (a b : List (Pass T)) → PassesLow a → PassesLow b → AsksLow (λ (out : List (Node T)). Unit {0}) (sunk further v n a b (smaller a b))
    low-lower further f v n [] [] h k = ends_low tt
    low-lower further f v n (p ∷ a) [] h k =
        low-pick (ltb p.node.value v) (low-bind _ (asks-more (λ out u. ends_low tt) (f p a h))) (ends_low tt)
    low-lower further f v n [] (q ∷ b) h k =
        low-pick (ltb q.node.value v) (low-bind _ (asks-more (λ out u. ends_low tt) (f q b k))) (ends_low tt)
    low-lower further f v n (p ∷ a) (q ∷ b) h k = go (leb p.node.value q.node.value)
      where
        go : (t : Bool) → AsksLow (λ (out : List (Node T)). Unit {0}) (sunk further v n (p ∷ a) (q ∷ b) (pick t (lower p a (q ∷ b)) (lower q b (p ∷ a))))
        go true = low-pick (ltb p.node.value v) (low-bind _ (asks-more (λ out u. ends_low tt) (f p a h))) (ends_low tt)
        go false = low-pick (ltb q.node.value v) (low-bind _ (asks-more (λ out u. ends_low tt) (f q b k))) (ends_low tt)

    low-sink : (fuel v : ℕ) (p : Pass T) (below : List (Pass T)) → PassesLow (p ∷ below) → AsksLow (λ (out : List (Node T)). Unit {0}) (sink fuel v p below)
    unfolding sink
    low-sink zero v p below h = ends_low tt
    low-sink (suc fuel) v p below h =
        let sides = low-pick-side p.way below h.1 in
        low-bind _
        (asks-more
        (λ a la. low-bind _
        (asks-more (λ b lb. low-lower (sink fuel v) (low-sink fuel v) v (above true a (above false b p.node)) a b la lb)
        (low-child-of (beneath p.node false) (pick p.way [] below) h.0.1 sides.1)))
        (low-child-of (beneath p.node true) (pick p.way below []) h.0.0 sides.0))

    low-replace : (nil : T) (entries : ℕ) (z : Node T) (path : List (Pass T)) → PassesLow path → AsksLow (λ (o : Outcome T). Unit {0}) (replace_root nil entries z path)
    unfolding replace_root
    low-replace nil entries z [] h = ends_low tt
    low-replace nil entries z (p ∷ below) h =
        low-bind _ (asks-more (λ out u. ends_low tt) (low-sink (suc (length below)) z.value p below h))

  module _ (nil : T) (l : Link T) (one : 1 ≤ most) (low : l.height ≤ most) where
    walking : (key : ℕ) (f : Spot T → Prog T (Outcome T)) → ((s : Spot T) → SpotLow s → AsksLow (λ (o : Outcome T). Unit {0}) (f s))
        → AsksLow (λ (o : Outcome T). Unit {0}) (bind (walk key l.height (start l) []) f)
    walking key f h = low-bind f (asks-more h (low-walk key l.height (start l) [] low tt))

    low-put : (key value : ℕ) (tag : T) (entries limit : ℕ) (s : Spot T) → SpotLow s → AsksLow (λ (o : Outcome T). Unit {0}) (put_step nil key value tag entries limit s)
    unfolding put_step
    low-put key value tag entries limit (gap k path) h =
        low-pick (ltb entries limit)
        (low-bind _ (asks-more (λ b u. ends_low tt) (low-climb path (top (record { key = key; value = value; tag = tag; left = absent nil; right = absent nil }) none none) [] h.1 (omega arith, omega arith))))
        (ends_low tt)
    low-put key value tag entries limit (hit w n path) h = ends_low tt

    low-remove : (entries : ℕ) (s : Spot T) → SpotLow s → AsksLow (λ (o : Outcome T). Unit {0}) (remove_step entries s)
    unfolding remove_step
    low-remove entries (gap k path) h = ends_low tt
    low-remove entries (hit w n path) h = low-bind _ (asks-more (λ b u. ends_low tt) (low-take_out w n path h.0 h.1))

    low-heap : (op : method.Op method.heap) (spares : ℕ → T) (limit entries : ℕ) (a : Ahead T) → AsksLow (λ (o : Outcome T). Unit {0}) (program nil op spares limit entries a l)
    unfolding program add_prog take_prog
    low-heap (method.add value) spares limit entries a =
        low-pick (ltb entries limit) (low-bind _ (asks-more (λ r h. ends_low tt) (low-descend (way_to (suc entries)) (start l) [] low tt))) (ends_low tt)
    low-heap method.take spares limit entries a =
        low-pick (eqb entries 0) (ends_low tt)
        (low-bind _
        (asks-more
        (λ r h. asks-low h.0 (λ z lz. low-replace one nil entries z (downward (absent nil) r.path []) (low-downward one (absent nil) r.path [] (omega arith) h.1 tt)))
        (low-descend (way_to entries) (start l) [] low tt)))

    -- The program of any ticket.
    pub low-program : {s : method.Structure} (op : method.Op s) (spares : ℕ → T) (limit entries : ℕ) (a : Ahead T)
        → AsksLow (λ (o : Outcome T). Unit {0}) (program nil op spares limit entries a l)
    unfolding program get_prog put_prog remove_prog push_prog pop_prog enqueue_prog dequeue_prog
    low-program (method.get key) spares limit entries a = walking key (λ s. done (get_step entries s)) (λ s h. ends_low tt)
    low-program (method.put key value) spares limit entries a =
        walking key (put_step nil key value (spares 0) entries limit) (low-put key value (spares 0) entries limit)
    low-program (method.remove key) spares limit entries a = walking key (remove_step entries) (low-remove entries)
    low-program (method.push value) spares limit entries a = low-pick (ltb entries limit) (ends_low tt) (ends_low tt)
    low-program method.pop spares limit entries a =
        low-pick (eqb l.height 0) (ends_low tt) (asks-low low (λ n h. ends_low tt))
    low-program (method.add value) spares limit entries a = low-heap (method.add value) spares limit entries a
    low-program method.take spares limit entries a = low-heap method.take spares limit entries a
    low-program (method.enqueue value) spares limit entries a = low-pick (ltb entries limit) (ends_low tt) (ends_low tt)
    low-program method.dequeue spares limit entries a =
        low-pick (eqb entries 0) (ends_low tt) (asks-low low (λ n h. ends_low tt))

  -- ---- what is wanted after some nodes

  low-after : {A : Type 0} {Post : A → Type 0} (p : Prog T A) (ns : List (Node T)) → AsksLow Post p → Lows most ns → AsksLow Post (after p ns)
  unfolding after
  low-after (done a) ns h k = h
  low-after (want w c) [] h k = h
  low-after (want w c) (n ∷ ns) (asks-low h g) k = low-after (c n) ns (g n k.0) k.1

-- ---- for the caller

-- The next wanted link is low where the root link and the held nodes are.
pub wanted-low : {s : method.Structure} (op : method.Op s) (spares : ℕ → ℕ) (limit entries : ℕ) (a : Ahead ℕ) (l : Link ℕ) (ns : List (Node ℕ)) (most : ℕ) {w : Want ℕ}
    → 1 ≤ most → l.height ≤ most → Lows most ns → wanted_in (after (program 0 op spares limit entries a l) ns) ≡ some w → w.link.height ≤ most
wanted-low op spares limit entries a l ns most {w} one h k e =
    go (after (program 0 op spares limit entries a l) ns)
    (low-after most (program 0 op spares limit entries a l) ns (low-program most 0 l one h op spares limit entries a) k) e
  where
    go : (p : Prog ℕ (Outcome ℕ)) → AsksLow most (λ (o : Outcome ℕ). Unit {0}) p → wanted_in p ≡ some w → w.link.height ≤ most
    go (done o) a e = let z : ◌≡◌ {A = ℕ} 0 1 = cc in absurd (omega arith)
    go (want v c) (asks-low x g) e = let d : v ≡ w = cc in rw (← d) x

-- A node that passed its structure's fetch test is low where the link to it is.
map-tested-low : (w : Want ℕ) (n : Node ℕ) (most : ℕ) → map_test w n ≡ true → w.link.height ≤ most → Low most n
unfolding map_test
map-tested-low w n most e h =
    let right = (pick-neither (tall true n) _ e).1 in
    let same = (pick-neither (tall false n) _ right).1 in
    let height = eqb-true (height_of n) w.link.height (pick-both _ _ same).0 in
    (omega arith, omega arith)

stack-tested-low : (w : Want ℕ) (n : Node ℕ) (most : ℕ) → stack_test w n ≡ true → 1 ≤ most → Low most n
unfolding stack_test
stack-tested-low w n most e h =
    let both = pick-both (eqb n.right.height 0) _ e in
    let right = eqb-true n.right.height 0 both.0 in
    let left = one (eqb n.key 1) (eqb (suc n.left.key) n.key) both.1 in
    (omega arith, omega arith)
  where
    one : (b c : Bool) → pick b (eqb n.left.height 0) (pick (eqb n.left.height 1) c false) ≡ true → n.left.height ≤ 1
    one true c x = let z = eqb-true n.left.height 0 x in omega arith
    one false c x = let z = eqb-true n.left.height 1 (pick-both (eqb n.left.height 1) c x).0 in omega arith

heap-tested-low : (entries : ℕ) (w : Want ℕ) (n : Node ℕ) (most : ℕ) → heap_test entries w n ≡ true → 1 ≤ most → Low most n
heap-tested-low entries w n most e h =
    let left = (heap-tested entries w n e true).1 in
    let right = (heap-tested entries w n e false).1 in
    (omega arith, omega arith)

queue-tested-low : (w : Want ℕ) (n : Node ℕ) (most : ℕ) → queue_test w n ≡ true → 1 ≤ most → Low most n
unfolding queue_test
queue-tested-low w n most e h =
    let both = (and-eq-true_iff (eqb n.left.height 1) _).0 e in
    let left = eqb-true n.left.height 1 both.0 in
    let right = eqb-true n.right.height 0 ((and-eq-true_iff (eqb n.left.key (suc n.key)) _).0 both.1).1 in
    (omega arith, omega arith)

pub tested_low : (s : method.Structure) (entries : ℕ) (w : Want ℕ) (n : Node ℕ) (most : ℕ) → test s entries w n ≡ true → 1 ≤ most → w.link.height ≤ most → Low most n
unfolding test
tested_low method.map entries w n most e k h = map-tested-low w n most e h
tested_low method.stack entries w n most e k h = stack-tested-low w n most e k
tested_low method.heap entries w n most e k h = heap-tested-low entries w n most e k
tested_low method.queue entries w n most e k h = queue-tested-low w n most e k
