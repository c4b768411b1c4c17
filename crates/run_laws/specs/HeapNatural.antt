-- The heap's programs are natural in the tags: what they decide depends on keys, heights and numbers only.
use Rattle.std.specs.Prelude.{◌≡◌, Bool, eqb, ltb, leb, length}
use Rattle.std.proofs.Math.Path.{refl, ap}
use Rattle.std.proofs.Common.{◌∙◌}
use Rattle.std.proofs.Math.Bool.{true, false}
use mathlib.Core.List.{List, [], ◌∷◌, ◌++◌, map, map-append}
use Prim.Native.Nat.{ℕ, zero, suc}
use Rattle.std.proofs.lemmas.List.{length-map}
use Rattle.list_spec.specs.Choice.{pick}
use Rattle.method_spec.specs.Node.{Node, Link, absent, with_child, with_value, link_one}
use Rattle.method_spec.specs.Prog.{Want, Prog, start}
use Rattle.method_spec.specs.Answer.{heap, add, take}
use Rattle.method_spec.specs.Heap.{Pass, Reached, Lower, childless, lower, way_to, beneath, descend, over, settled, rise, topmost, new_node, add_prog, downward, passed, child_of, smaller, above, sunk, sink, replace_root, take_prog}
use Rattle.method_spec.specs.Call.{program}
use Rattle.run_laws.specs.Natural.{map_link, map_node, map_nodes, map_want, Same, both-done, both-want, same-bind, same-pick, SameOutcome, Natural}
use Rattle.run_laws.specs.MapNatural.{with_child-natural}

module _ {T S : Type 0} (f : T → S) where
  -- ---- what the walk and the step hold

  abbrev map_pass : Pass T → Pass S
  map_pass p = record { node = map_node f p.node; way = p.way }

  abbrev map_passes : List (Pass T) → List (Pass S)
  map_passes = map map_pass

  abbrev map_reached : Reached T → Reached S
  map_reached r = record { end = map_want f r.end; path = map_passes r.path }

  abbrev map_lower : Lower T → Lower S
  map_lower childless = childless
  map_lower (lower c below others) = lower (map_pass c) (map_passes below) (map_passes others)

  passed-natural : (ps : List (Pass T)) → passed (map_passes ps) ≡ map_nodes f (passed ps)
  passed-natural [] = refl
  passed-natural (p ∷ ps) = ap (λ (ns : List (Node S)). map_node f p.node ∷ ns) (passed-natural ps)

  -- ---- the way down

  descend-natural : (turns : List Bool) (w : Want T) (path : List (Pass T))
      → Same f (λ a b. b ≡ map_reached a) (descend turns w path) (descend turns (map_want f w) (map_passes path))
  unfolding descend
  descend-natural [] w path = both-done refl
  descend-natural (true ∷ turns) w path =
      both-want (λ n. descend-natural turns (beneath n true) (record { node = n; way = true } ∷ path))
  descend-natural (false ∷ turns) w path =
      both-want (λ n. descend-natural turns (beneath n false) (record { node = n; way = false } ∷ path))

  -- ---- add

  over-natural : (p : Pass T) (n : Node T) → over (map_pass p) (map_node f n) ≡ map_node f (over p n)
  over-natural p n = with_child-natural f p.way p.node (link_one n)

  settled-natural : (n : Node T) (path : List (Pass T)) → settled (map_node f n) (map_passes path) ≡ map_nodes f (settled n path)
  unfolding settled
  settled-natural n [] = refl
  settled-natural n (p ∷ path) =
      rw (over-natural p n) (ap (λ (ns : List (Node S)). map_node f n ∷ ns) (settled-natural (over p n) path))

  rise-natural : (n : Node T) (path : List (Pass T)) → rise (map_node f n) (map_passes path) ≡ map_nodes f (rise n path)
  unfolding rise
  rise-natural n [] = refl
  rise-natural n (p ∷ path) =
      rw (over-natural p n)
      (go (ltb n.value p.node.value) (rise-natural (with_value n.value (over p n)) path))
    where
      go : (b : Bool) → rise (map_node f (with_value n.value (over p n))) (map_passes path) ≡ map_nodes f (rise (with_value n.value (over p n)) path)
          → pick b (with_value p.node.value (map_node f n) ∷ rise (with_value n.value (map_node f (over p n))) (map_passes path))
          (map_node f n ∷ settled (map_node f (over p n)) (map_passes path))
          ≡ map_nodes f (pick b (with_value p.node.value n ∷ rise (with_value n.value (over p n)) path) (n ∷ settled (over p n) path))
      go true e = ap (λ (ns : List (Node S)). map_node f (with_value p.node.value n) ∷ ns) e
      go false e = ap (λ (ns : List (Node S)). map_node f n ∷ ns) (settled-natural (over p n) path)

  topmost-natural : (n : Node T) (path : List (Pass T)) → topmost (map_node f n) (map_passes path) ≡ map_node f (topmost n path)
  unfolding topmost
  topmost-natural n [] = refl
  topmost-natural n (p ∷ path) = topmost-natural p.node path

  -- ---- take

  downward-natural : (l : Link T) (path below : List (Pass T))
      → downward (map_link f l) (map_passes path) (map_passes below) ≡ map_passes (downward l path below)
  unfolding downward
  downward-natural l [] below = refl
  downward-natural l (p ∷ path) below =
      let n = with_child p.way p.node l in
      ap (λ (m : Node S). downward (link_one m) (map_passes path) (record { node = m; way = p.way } ∷ map_passes below))
      (with_child-natural f p.way p.node l)
      ∙ downward-natural (link_one n) path (record { node = n; way = p.way } ∷ below)

  child_of-natural : (w : Want T) (below : List (Pass T))
      → Same f (λ a b. b ≡ map_passes a) (child_of w below) (child_of (map_want f w) (map_passes below))
  unfolding child_of
  child_of-natural w [] = same-pick f (eqb w.link.height 0) (both-done refl) (both-want (λ c. both-done refl))
  child_of-natural w (p ∷ below) = both-done refl

  smaller-natural : (a b : List (Pass T)) → smaller (map_passes a) (map_passes b) ≡ map_lower (smaller a b)
  smaller-natural [] [] = refl
  smaller-natural (p ∷ a) [] = refl
  smaller-natural [] (q ∷ b) = refl
  smaller-natural (p ∷ a) (q ∷ b) = go (leb p.node.value q.node.value)
    where
      go : (t : Bool) → pick t (lower (map_pass p) (map_passes a) (map_passes (q ∷ b))) (lower (map_pass q) (map_passes b) (map_passes (p ∷ a)))
          ≡ map_lower (pick t (lower p a (q ∷ b)) (lower q b (p ∷ a)))
      go true = refl
      go false = refl

  above-natural : (s : Bool) (a : List (Pass T)) (n : Node T) → above s (map_passes a) (map_node f n) ≡ map_node f (above s a n)
  above-natural s [] n = refl
  above-natural s (c ∷ below) n = with_child-natural f s n (link_one c.node)

  side-natural : (s : Bool) (below : List (Pass T))
      → (pick s (map_passes below) [] ≡ map_passes (pick s below [])) × (pick s [] (map_passes below) ≡ map_passes (pick s [] below))
  side-natural true below = (refl, refl)
  side-natural false below = (refl, refl)

  -- What waits where the number comes to rest.
  rests-natural : (v : ℕ) (n : Node T) (a b : List (Pass T))
      → with_value v (map_node f n) ∷ (passed (map_passes a) ++ passed (map_passes b)) ≡ map_nodes f (with_value v n ∷ (passed a ++ passed b))
  rests-natural v n a b =
      rw (passed-natural a, passed-natural b, ← (map-append (map_node f) (passed a) (passed b)))

  module _ (go : Pass T → List (Pass T) → Prog T (List (Node T))) (go' : Pass S → List (Pass S) → Prog S (List (Node S)))
      (same : (p : Pass T) (below : List (Pass T)) → Same f (λ a b. b ≡ map_nodes f a) (go p below) (go' (map_pass p) (map_passes below))) where
    sunk-natural : (v : ℕ) (n : Node T) (a b : List (Pass T)) (o : Lower T)
        → Same f (λ x y. y ≡ map_nodes f x) (sunk go v n a b o) (sunk go' v (map_node f n) (map_passes a) (map_passes b) (map_lower o))
    sunk-natural v n a b childless = both-done (rests-natural v n a b)
    sunk-natural v n a b (lower c below others) =
        same-pick f (ltb c.node.value v)
        (same-bind f (same c below)
        (λ x y e. both-done
        (rw (e, passed-natural others, ← (map-append (map_node f) (passed others) x)))))
        (both-done (rests-natural v n a b))

  sink-natural : (fuel v : ℕ) (p : Pass T) (below : List (Pass T))
      → Same f (λ a b. b ≡ map_nodes f a) (sink fuel v p below) (sink fuel v (map_pass p) (map_passes below))
  unfolding sink
  sink-natural zero v p below =
      both-done (ap (λ (ns : List (Node S)). map_node f (with_value v p.node) ∷ ns) (passed-natural below))
  sink-natural (suc fuel) v p below =
      let n = p.node in
      rw ((side-natural p.way below).0, (side-natural p.way below).1)
      (same-bind f (child_of-natural (beneath n true) (pick p.way below []))
      (λ a a' e. rw e
      (same-bind f (child_of-natural (beneath n false) (pick p.way [] below))
      (λ b b' g. rw (g, above-natural false b n, above-natural true a (above false b n), smaller-natural a b)
      (sunk-natural (sink fuel v) (sink fuel v) (sink-natural fuel v) v (above true a (above false b n)) a b (smaller a b))))))

  replace-natural : (nil : T) (entries : ℕ) (z : Node T) (path : List (Pass T))
      → Same f (SameOutcome f) (replace_root nil entries z path) (replace_root (f nil) entries (map_node f z) (map_passes path))
  unfolding replace_root
  replace-natural nil entries z [] = both-done refl
  replace-natural nil entries z (p ∷ below) =
      rw (length-map below map_pass)
      (same-bind f (sink-natural (suc (length below)) z.value p below) (λ a b e. both-done (rw e)))

  -- ---- the programs

  pub heap-natural : (nil : T) → Natural f heap nil
  unfolding program add_prog take_prog
  heap-natural nil (add value) spares limit entries a l =
      let new = new_node nil value (spares 0) entries in
      same-pick f (ltb entries limit)
      (same-bind f (descend-natural (way_to (suc entries)) (start l) [])
      (λ r q e. both-done (rw (e, rise-natural new r.path, topmost-natural new r.path))))
      (both-done refl)
  heap-natural nil take spares limit entries a l =
      same-pick f (eqb entries 0) (both-done refl)
      (same-bind f (descend-natural (way_to entries) (start l) [])
      (λ r q e. rw (e, downward-natural (absent nil) r.path [])
      (both-want (λ z. replace-natural nil entries z (downward (absent nil) r.path [])))))
