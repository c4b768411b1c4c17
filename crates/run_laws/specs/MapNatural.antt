-- The map's programs are natural in the tags: what they decide depends on keys and heights only.
use Rattle.std.specs.Prelude.{◌≡◌, Bool, not, eqb, ltb}
use Rattle.std.proofs.Math.Path.{refl, ap}
use Rattle.std.proofs.Common.{sym, ◌∙◌}
use Rattle.std.proofs.Math.Bool.{true, false}
use Rattle.std.specs.Bool.{beq}
use mathlib.Core.List.{List, [], ◌∷◌, ◌++◌, map, map-append}
use Rattle.std.proofs.Math.Option
use Rattle.std.proofs.Math.Option.{Option, none, some}
use Prim.Native.Nat.{ℕ, zero, suc, pred}
use Rattle.list_spec.specs.Choice.{pick}
use Rattle.method_spec.specs.Node.{Node, Link, absent, child, with_child, with_value}
use Rattle.method_spec.specs.Prog.{Want, start}
use Rattle.method_spec.specs.Answer as answer
use Rattle.method_spec.specs.Answer.{Answer, found, replaced, new, removed, full}
use Rattle.method_spec.specs.Map.{Step, Sub, stub, top, Built, Spot, gap, hit, Lowest, link_of, listed, top_of, kid, kids, nodes_at, seat, step_at, beside, below, walk, balance_of, tall, leans_out, single, double, fetched_top, turn, with_subtree, rest, near_on, others_of, raise, climb, unwind, unwound, finish, get_step, get_prog, put_step, put_prog, lowest, swapped, take_out, remove_step, remove_prog}
use Rattle.method_spec.specs.Call.{program}
use Rattle.run_laws.specs.Natural.{map_link, map_node, map_nodes, map_want, map_outcome, Same, both-done, both-want, same-bind, same-pick, SameOutcome, Natural}

module _ {T S : Type 0} (f : T → S) where
  -- ---- what the walk and the step hold

  abbrev pub map_step : Step T → Step S
  map_step p = record { node = map_node f p.node; was = p.was; way = p.way; low = p.low; high = p.high }

  abbrev pub map_path : List (Step T) → List (Step S)
  map_path = map map_step

  abbrev pub map_sub : Sub T → Sub S
  map_sub (stub l) = stub (map_link f l)
  map_sub (top n l r) = top (map_node f n) (Option.map (map_node f) l) (Option.map (map_node f) r)

  abbrev pub map_built : Built T → Built S
  map_built b = record { sub = map_sub b.sub; out = map_nodes f b.out }

  abbrev pub map_spot : Spot T → Spot S
  map_spot (gap l path) = gap (map_link f l) (map_path path)
  map_spot (hit w n path) = hit (map_want f w) (map_node f n) (map_path path)

  abbrev pub map_lowest : Lowest T → Lowest S
  map_lowest y = record { node = map_node f y.node; path = map_path y.path }

  -- ---- the walk down

  pub walk-natural : (key fuel : ℕ) (w : Want T) (path : List (Step T))
      → Same f (λ a b. b ≡ map_spot a) (walk key fuel w path) (walk key fuel (map_want f w) (map_path path))
  unfolding walk
  walk-natural key zero w path = both-done refl
  walk-natural key (suc fuel) w path =
      same-pick f (eqb w.link.height 0) (both-done refl)
      (both-want
      (λ n. same-pick f (eqb key n.key) (both-done refl)
      (go n (λ v steps. walk-natural key fuel v steps) (ltb key n.key))))
    where
      go : (n : Node T)
          → ((v : Want T) (steps : List (Step T)) → Same f (λ a b. b ≡ map_spot a) (walk key fuel v steps) (walk key fuel (map_want f v) (map_path steps)))
          → (s : Bool)
          → Same f (λ a b. b ≡ map_spot a) (walk key fuel (below (step_at w n s)) (step_at w n s ∷ path))
          (walk key fuel (below (step_at (map_want f w) (map_node f n) s)) (step_at (map_want f w) (map_node f n) s ∷ map_path path))
      go n next true = next (below (step_at w n true)) (step_at w n true ∷ path)
      go n next false = next (below (step_at w n false)) (step_at w n false ∷ path)

  pub lowest-natural : (fuel : ℕ) (w : Want T) (n : Node T) (path : List (Step T))
      → Same f (λ a b. b ≡ map_lowest a) (lowest fuel w n path) (lowest fuel (map_want f w) (map_node f n) (map_path path))
  unfolding lowest
  lowest-natural zero w n path = both-done refl
  lowest-natural (suc fuel) w n path =
      same-pick f (eqb n.left.height 0) (both-done refl)
      (both-want (λ m. lowest-natural fuel (below (step_at w n true)) m (step_at w n true ∷ path)))

  -- ---- subtrees at hand

  child-natural : (s : Bool) (n : Node T) → child s (map_node f n) ≡ map_link f (child s n)
  child-natural true n = refl
  child-natural false n = refl

  pub with_child-natural : (s : Bool) (n : Node T) (l : Link T) → with_child s (map_node f n) (map_link f l) ≡ map_node f (with_child s n l)
  with_child-natural true n l = refl
  with_child-natural false n l = refl

  balance-natural : (n : Node T) → balance_of (map_node f n) ≡ balance_of n
  unfolding balance_of
  balance-natural n = refl

  leans-natural : (s : Bool) (n : Node T) → leans_out s (map_node f n) ≡ leans_out s n
  leans-natural true n = rw (balance-natural n)
  leans-natural false n = rw (balance-natural n)

  link_of-natural : (b : Sub T) → link_of (map_sub b) ≡ map_link f (link_of b)
  link_of-natural (stub l) = refl
  link_of-natural (top n l r) = refl

  listed-natural : (o : Option (Node T)) → listed (Option.map (map_node f) o) ≡ map_nodes f (listed o)
  listed-natural none = refl
  listed-natural (some n) = refl

  top_of-natural : (b : Sub T) → top_of (map_sub b) ≡ Option.map (map_node f) (top_of b)
  top_of-natural (stub l) = refl
  top_of-natural (top n l r) = refl

  kid-natural : (s : Bool) (b : Sub T) → kid s (map_sub b) ≡ Option.map (map_node f) (kid s b)
  kid-natural s (stub l) = refl
  kid-natural true (top n l r) = refl
  kid-natural false (top n l r) = refl

  seat-natural : (s : Bool) (n : Node T) (a b : Option (Node T))
      → seat s (map_node f n) (Option.map (map_node f) a) (Option.map (map_node f) b) ≡ map_sub (seat s n a b)
  seat-natural true n a b = refl
  seat-natural false n a b = refl

  listed-too : (o : Option (Node T)) (ns : List (Node T)) → listed (Option.map (map_node f) o) ++ map_nodes f ns ≡ map_nodes f (listed o ++ ns)
  listed-too none ns = refl
  listed-too (some n) ns = refl

  kids-natural : (b : Sub T) → kids (map_sub b) ≡ map_nodes f (kids b)
  kids-natural (stub l) = refl
  kids-natural (top n l r) =
      ap (λ (ns : List (Node S)). listed (Option.map (map_node f) l) ++ ns) (listed-natural r) ∙ listed-too l (listed r)

  nodes_at-natural : (b : Sub T) → nodes_at (map_sub b) ≡ map_nodes f (nodes_at b)
  nodes_at-natural (stub l) = refl
  nodes_at-natural (top n l r) =
      ap (λ (ns : List (Node S)). ns ++ (map_node f n ∷ [])) (kids-natural (top n l r))
      ∙ sym (map-append (map_node f) (kids (top n l r)) (n ∷ []))

  -- ---- rotations

  single-natural : (s : Bool) (n c : Node T) (outer inner : Option (Node T)) (others : List (Node T))
      → single s (map_node f n) (map_node f c) (Option.map (map_node f) outer) (Option.map (map_node f) inner) (map_nodes f others)
      ≡ map_built (single s n c outer inner others)
  unfolding single
  single-natural true n c outer inner others = rw (listed-too inner others)
  single-natural false n c outer inner others = rw (listed-too inner others)

  double-natural : (s : Bool) (n c g : Node T) (outer : Option (Node T)) (others : List (Node T))
      → double s (map_node f n) (map_node f c) (map_node f g) (Option.map (map_node f) outer) (map_nodes f others)
      ≡ map_built (double s n c g outer others)
  unfolding double
  double-natural true n c g outer others = rw (listed-too outer others)
  double-natural false n c g outer others = rw (listed-too outer others)

  opened-natural : (w : Want T) (o : Option (Node T)) → Same f (λ a b. b ≡ map_node f a) (fetched_top w o) (fetched_top (map_want f w) (Option.map (map_node f) o))
  opened-natural w none = both-want (λ n. both-done refl)
  opened-natural w (some n) = both-done refl

  abbrev SameBuilt : Built T → Built S → Type 0
  SameBuilt a b = b ≡ map_built a

  turn-natural : (p : Step T) (s : Bool) (n : Node T) (near : Sub T) (others : List (Node T))
      → Same f SameBuilt (turn p s n near others) (turn (map_step p) s (map_node f n) (map_sub near) (map_nodes f others))
  unfolding turn
  turn-natural p s n near others =
      rw (child-natural s n, top_of-natural near, kid-natural s near, kid-natural (not s) near)
      (same-bind f (opened-natural (beside p s (child s n)) (top_of near))
      (λ c d e. rw (e, leans-natural s c, child-natural (not s) c)
      (same-pick f (leans_out s c)
      (both-done (single-natural s n c (kid s near) (kid (not s) near) others))
      (same-bind f
      (opened-natural (below (step_at (beside p s (child s n)) c (not s))) (kid (not s) near))
      (λ g h e'. rw e' (both-done (double-natural s n c g (kid s near) others)))))))

  placed-natural : (p : Step T) (b : Sub T) → with_subtree (map_step p) (map_sub b) ≡ map_node f (with_subtree p b)
  placed-natural p b = rw (link_of-natural b) (with_child-natural p.way p.node (link_of b))

  rest-placed : (p : Step T) (b : Sub T)
      → record { sub = seat p.way (map_node f (with_subtree p b)) (top_of (map_sub b)) none; out = kids (map_sub b) } ≡ map_built (rest p b)
  rest-placed p b = rw (top_of-natural b, kids-natural b, seat-natural p.way (with_subtree p b) (top_of b) none)

  rest-natural : (p : Step T) (b : Sub T) → rest (map_step p) (map_sub b) ≡ map_built (rest p b)
  rest-natural p b = rw (placed-natural p b) (rest-placed p b)

  near_on-natural : (p : Step T) (b : Sub T) (s : Bool) → near_on (map_step p) (map_sub b) s ≡ map_sub (near_on p b s)
  near_on-natural p b s = rw (child-natural s p.node) (go (beq s p.way))
    where
      go : (here : Bool) → pick here (map_sub b) (stub (map_link f (child s p.node))) ≡ map_sub (pick here b (stub (child s p.node)))
      go true = refl
      go false = refl

  others_of-natural : (p : Step T) (b : Sub T) (s : Bool) → others_of (map_step p) (map_sub b) s ≡ map_nodes f (others_of p b s)
  others_of-natural p b s = go (beq s p.way)
    where
      go : (here : Bool) → pick here [] (nodes_at (map_sub b)) ≡ map_nodes f (pick here [] (nodes_at b))
      go true = refl
      go false = nodes_at-natural b

  pub raise-natural : (p : Step T) (b : Sub T) → Same f SameBuilt (raise p b) (raise (map_step p) (map_sub b))
  unfolding raise
  raise-natural p b =
      rw (placed-natural p b, balance-natural (with_subtree p b), near_on-natural p b true, near_on-natural p b false, others_of-natural p b true, others_of-natural p b false)
      (same-pick f (tall true (with_subtree p b))
      (turn-natural p true (with_subtree p b) (near_on p b true) (others_of p b true))
      (same-pick f (tall false (with_subtree p b))
      (turn-natural p false (with_subtree p b) (near_on p b false) (others_of p b false)) (both-done (rest-placed p b))))

  -- ---- upward

  pub climb-natural : (path : List (Step T)) (b : Sub T) (out : List (Node T))
      → Same f SameBuilt (climb path b out) (climb (map_path path) (map_sub b) (map_nodes f out))
  unfolding climb
  climb-natural [] b out = both-done refl
  climb-natural (p ∷ path) b out =
      same-bind f (raise-natural p b)
      (λ r q e. rw (e, ← (map-append (map_node f) out r.out)) (climb-natural path r.sub (out ++ r.out)))

  pub unwind-natural : (path : List (Step T)) (b : Sub T) (out : List (Node T))
      → unwind (map_path path) (map_sub b) (map_nodes f out) ≡ map_built (unwind path b out)
  unfolding unwind
  unwind-natural [] b out = refl
  unwind-natural (p ∷ path) b out =
      ap (λ (r : Built S). unwind (map_path path) r.sub (map_nodes f out ++ r.out)) (rest-natural p b)
      ∙ ap (unwind (map_path path) (map_sub (rest p b).sub)) (sym (map-append (map_node f) out (rest p b).out))
      ∙ unwind-natural path (rest p b).sub (out ++ (rest p b).out)

  unwound-natural : (s : Spot T) → unwound (map_spot s) ≡ map_built (unwound s)
  unfolding unwound
  unwound-natural (gap l path) = unwind-natural path (stub l) []
  unwound-natural (hit w n path) = unwind-natural path (top n none none) []

  finish-natural : (entries : ℕ) (a : Answer) (b : Built T) → finish entries a (map_built b) ≡ map_outcome f (finish entries a b)
  finish-natural entries a b =
      rw (nodes_at-natural b.sub, link_of-natural b.sub, map-append (map_node f) b.out (nodes_at b.sub))

  finished : (entries : ℕ) (a : Answer) (b : Built T) {c : Built S} → c ≡ map_built b → finish entries a c ≡ map_outcome f (finish entries a b)
  finished entries a b e = ap (finish entries a) e ∙ finish-natural entries a b

  -- ---- get, put, remove

  get_step-natural : (entries : ℕ) (s : Spot T) → get_step entries (map_spot s) ≡ map_outcome f (get_step entries s)
  unfolding get_step
  get_step-natural entries (gap l path) = finished entries answer.absent (unwound (gap l path)) (unwound-natural (gap l path))
  get_step-natural entries (hit w n path) = finished entries (found n.value) (unwound (hit w n path)) (unwound-natural (hit w n path))

  put_step-natural : (nil : T) (key value : ℕ) (tag : T) (entries limit : ℕ) (s : Spot T)
      → Same f (SameOutcome f) (put_step nil key value tag entries limit s) (put_step (f nil) key value (f tag) entries limit (map_spot s))
  unfolding put_step
  put_step-natural nil key value tag entries limit (gap l path) =
      same-pick f (ltb entries limit)
      (same-bind f
      (climb-natural path
      (top (record { key = key; value = value; tag = tag; left = absent nil; right = absent nil }) none none) [])
      (λ b c e. both-done (finished (suc entries) new b e)))
      (both-done (finished entries full (unwound (gap l path)) (unwound-natural (gap l path))))
  put_step-natural nil key value tag entries limit (hit w n path) =
      both-done
      (finished entries (replaced n.value) (unwind path (top (with_value value n) none none) [])
      (unwind-natural path (top (with_value value n) none none) []))

  take_out-natural : (w : Want T) (n : Node T) (path : List (Step T))
      → Same f SameBuilt (take_out w n path) (take_out (map_want f w) (map_node f n) (map_path path))
  unfolding take_out
  take_out-natural w n path =
      same-pick f (eqb n.left.height 0) (climb-natural path (stub n.right) [])
      (same-pick f (eqb n.right.height 0) (climb-natural path (stub n.left) [])
      (both-want
      (λ m. same-bind f (lowest-natural n.right.height (below (step_at w n false)) m [])
      (λ y z e. rw (e, ← (map-append map_step y.path (swapped (step_at w n false) y.node ∷ path)))
      (climb-natural (y.path ++ (swapped (step_at w n false) y.node ∷ path)) (stub y.node.right) [])))))

  remove_step-natural : (entries : ℕ) (s : Spot T) → Same f (SameOutcome f) (remove_step entries s) (remove_step entries (map_spot s))
  unfolding remove_step
  remove_step-natural entries (gap l path) = both-done (finished entries answer.absent (unwound (gap l path)) (unwound-natural (gap l path)))
  remove_step-natural entries (hit w n path) =
      same-bind f (take_out-natural w n path) (λ b c e. both-done (finished (pred entries) (removed n.value) b e))

  pub map-natural : (nil : T) → Natural f answer.map nil
  unfolding program get_prog put_prog remove_prog
  map-natural nil (answer.get key) spares limit entries a l =
      same-bind f (walk-natural key l.height (start l) [])
      (λ s t e. rw e (both-done (get_step-natural entries s)))
  map-natural nil (answer.put key value) spares limit entries a l =
      same-bind f (walk-natural key l.height (start l) [])
      (λ s t e. rw e (put_step-natural nil key value (spares 0) entries limit s))
  map-natural nil (answer.remove key) spares limit entries a l =
      same-bind f (walk-natural key l.height (start l) [])
      (λ s t e. rw e (remove_step-natural entries s))
