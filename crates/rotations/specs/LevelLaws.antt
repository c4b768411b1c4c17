-- A level of the way up keeps heights low and loses room for at most one node more: what the code needs so that heights
-- stay in a byte and the nodes that are done with fit their row.
use Prim.Native.Nat.{ℕ, suc, ◌+◌, ◌≤◌}
use native.Mathlib.Omega.{arith}
use Rattle.std.specs.Prelude.{◌≡◌, Bool, not}
use Rattle.std.proofs.Math.Bool.{true, false}
use Rattle.std.specs.Bool.{beq}
use mathlib.Core.List.{List, [], ◌∷◌}
use Rattle.std.proofs.Math.Option.{Option, none, some}
use Rattle.std.proofs.Math.ListN.{length, length-append}
use Rattle.list_spec.specs.Choice.{pick}
use Rattle.method_spec.specs.Node.{Node, child}
use Rattle.method_spec.specs.Prog.{Want, done}
use Rattle.method_spec.specs.Map.{Step, Sub, stub, Built, listed, top_of, kid, kids, nodes_at, seat, beside, below, step_at, tall, leans_out, rotate, fetched_top, single, double, turn, with_subtree, rest, near_on, others_of, raise}
use Rattle.node_rows.specs.Heights.{Low, Lows}
use Rattle.map_nodes.specs.Heights.{LowKid, LowSub}
use Rattle.map_nodes.specs.Upward.{weight}
use Rattle.map_nodes.specs.HeightLaws.{low-more, low-kid, low-top, low-down, low_up, low-placed, low_near, low-kid-more}
use Rattle.rotations.specs.RotationLaws.{double-as}
use Rattle.operations.specs.Resume.{resume, Ends}
use Rattle.operations.specs.ResumeLaws.{ends-bind, ends-done, ends-pick, ends_more}

module _ {T : Type 0} where
  -- What is asked of a level that comes to its end: low heights, and how many nodes there are in all.
  pub record LevelKept (most total : ℕ) (r : Built T) (ns : List (Node T)) : Type 0 where
    pub low : LowSub most r.sub
    pub room : length r.out + weight r.sub + length ns ≤ total

  module _ (most : ℕ) where
    ends-opened : (P : Node T → List (Node T) → Type 0) (w : Want T) (k : Option (Node T)) (ns : List (Node T))
        → LowKid most k → Lows most ns
        → ((n : Node T) (rest : List (Node T)) → Low most n → Lows most rest → length (listed k) + length ns ≡ suc (length rest) → P n rest)
        → Ends P (resume (fetched_top w k) ns)
    unfolding resume
    ends-opened P w none [] h l f = tt
    ends-opened P w none (n ∷ ns) h l f = f n ns l.0 l.1 (omega arith)
    ends-opened P w (some n) ns h l f = f n ns h l (omega arith)

    low-seat : (s : Bool) (n : Node T) (a b : Option (Node T)) → Low most n → LowKid most a → LowKid most b → LowSub most (seat s n a b)
    low-seat true n a b h k l = (h, (k, l))
    low-seat false n a b h k l = (h, (l, k))

  -- ---- sizes

  weight-seat : (s : Bool) (n : Node T) (a b : Option (Node T)) → weight (seat s n a b) ≡ suc (length (listed a) + length (listed b))
  weight-seat true n a b = simp length-append
  weight-seat false n a b = simp length-append (omega arith)

  kids-sides : (s : Bool) (b : Sub T) → length (kids b) ≡ length (listed (kid s b)) + length (listed (kid (not s) b))
  kids-sides true b = length-append (listed (kid true b)) (listed (kid false b))
  kids-sides false b = simp length-append (omega arith)

  kid-size : (k : Option (Node T)) → length (listed k) ≤ 1
  kid-size none = omega arith
  kid-size (some n) = omega arith

  -- What is at hand near a side and elsewhere is what is at hand.
  near-size : (p : Step T) (b : Sub T) (s : Bool)
      → length (others_of p b s) + (length (kids (near_on p b s)) + length (listed (top_of (near_on p b s)))) ≤ weight b
  near-size p b s = go (beq s p.way)
    where
      go : (t : Bool) → length (pick t [] (nodes_at b))
          + (length (kids (pick t b (stub (child s p.node)))) + length (listed (top_of (pick t b (stub (child s p.node)))))) ≤ weight b
      go true = omega (arith, kid-size (top_of b))
      go false = omega (arith, kid-size (top_of b), length-append (kids b) (listed (top_of b)))

  -- ---- a rotation

  -- All nodes that are there, and one.
  abbrev total : Sub T → List (Node T) → List (Node T) → ℕ
  total near others ns = suc (length others + (length (kids near) + length (listed (top_of near))) + length ns)

  module _ (most : ℕ) (p : Step T) (s : Bool) (n : Node T) (near : Sub T) (others : List (Node T)) (low : Low (suc most) n) (low_near : LowSub most near) where
    single-kept : (c : Node T) (ns end : List (Node T)) → Low most c → length (listed (top_of near)) + length ns ≡ suc (length end)
        → LevelKept (2 + most) (total near others ns) (single s n c (kid s near) (kid (not s) near) others) end
    unfolding single
    single-kept c ns end h e =
        let d = low-more {more = suc most} c h (omega arith) in
        record {
          low =
              low-seat (2 + most) s (rotate s n c).up (kid s near) (some (rotate s n c).down)
              (low-more (rotate s n c).up (low_up {most = suc most} s n c low d) (omega arith))
              (low-kid-more most (2 + most) (omega arith) (kid s near) (low-kid most s near low_near))
              (low-more (rotate s n c).down (low-down {most = suc most} s n c low d) (omega arith));
          room =
              omega (
                arith,
                weight-seat s (rotate s n c).up (kid s near) (some (rotate s n c).down),
                length-append (listed (kid (not s) near)) others,
                kids-sides s near,
              );
        }

    double-kept : (c g : Node T) (ns mid end : List (Node T)) → Low most c → Low most g
        → length (listed (top_of near)) + length ns ≡ suc (length mid) → length (listed (kid (not s) near)) + length mid ≡ suc (length end)
        → LevelKept (2 + most) (total near others ns) (double s n c g (kid s near) others) end
    double-kept c g ns mid end h k e f =
        let r = rotate (not s) c g in
        let u = low_up {most = most} (not s) c g h k in
        rw (double-as s n c g (kid s near) others)
        record {
          low =
              low-seat (2 + most) s (rotate s n r.up).up (some r.down) (some (rotate s n r.up).down)
              (low-more (rotate s n r.up).up (low_up {most = suc most} s n r.up low u) (omega arith))
              (low-more r.down (low-down {most = most} (not s) c g h k) (omega arith))
              (low-more (rotate s n r.up).down (low-down {most = suc most} s n r.up low u) (omega arith));
          room =
              omega (
                arith,
                weight-seat s (rotate s n r.up).up (some r.down) (some (rotate s n r.up).down),
                length-append (listed (kid s near)) others,
                kids-sides s near,
              );
        }

    turn-kept : (ns : List (Node T)) → Lows most ns → Ends (LevelKept (2 + most) (total near others ns)) (resume (turn p s n near others) ns)
    unfolding turn
    turn-kept ns lows =
        let K = LevelKept (2 + most) (total near others ns) in
        let inward : Node T → Want T = λ c. below (step_at (beside p s (child s n)) c (not s)) in
        ends-bind K (fetched_top (beside p s (child s n)) (top_of near)) _ ns
        (ends-opened most _ (beside p s (child s n)) (top_of near) ns (low-top most near low_near) lows
        (λ c mid h l e.
        ends-pick K (leans_out s c)
        (done (single s n c (kid s near) (kid (not s) near) others)) _ mid
        (ends-done K (single s n c (kid s near) (kid (not s) near) others) mid (single-kept c ns mid h e))
        (ends-bind K (fetched_top (inward c) (kid (not s) near)) _ mid
        (ends-opened most _ (inward c) (kid (not s) near) mid (low-kid most (not s) near low_near) l
        (λ g end k m f.
        ends-done K (double s n c g (kid s near) others) end (double-kept c g ns mid end h k e f))))))

  -- ---- a level

  module _ (most : ℕ) (p : Step T) (b : Sub T) (low : Low most p.node) (low-sub : LowSub most b) where
    pub rest-kept : (ns : List (Node T)) → LevelKept (2 + most) (suc (weight b + length ns)) (rest p b) ns
    rest-kept ns =
        record {
          low =
              low-seat (2 + most) p.way (with_subtree p b) (top_of b) none
              (low-more (with_subtree p b) (low-placed most p b low low-sub) (omega arith))
              (low-kid-more most (2 + most) (omega arith) (top_of b) (low-top most b low-sub)) tt;
          room = omega (arith, weight-seat p.way (with_subtree p b) (top_of b) none, kid-size (top_of b));
        }

    turned-kept : (s : Bool) (ns : List (Node T)) → Lows most ns
        → Ends (LevelKept (2 + most) (suc (weight b + length ns))) (resume (turn p s (with_subtree p b) (near_on p b s) (others_of p b s)) ns)
    turned-kept s ns lows =
        ends_more (λ r end k. record { low = k.low; room = omega (arith, k.room, near-size p b s) })
        (resume (turn p s (with_subtree p b) (near_on p b s) (others_of p b s)) ns)
        (turn-kept most p s (with_subtree p b) (near_on p b s) (others_of p b s) (low-placed most p b low low-sub) (low_near most p b s low low-sub) ns lows)

    pub raise-kept : (ns : List (Node T)) → Lows most ns → Ends (LevelKept (2 + most) (suc (weight b + length ns))) (resume (raise p b) ns)
    unfolding raise
    raise-kept ns lows =
        let K = LevelKept (2 + most) (suc (weight b + length ns)) in
        ends-pick K (tall true (with_subtree p b)) (turn p true (with_subtree p b) (near_on p b true) (others_of p b true)) _ ns
        (turned-kept true ns lows)
        (ends-pick K (tall false (with_subtree p b)) (turn p false (with_subtree p b) (near_on p b false) (others_of p b false)) _ ns
        (turned-kept false ns lows)
        (ends-done K (rest p b) ns (rest-kept ns)))
