-- The map's operations, where their walk down has come to an end: what the method's programs do from there.
use Rattle.std.specs.Prelude.{ℕ, suc, pred, ◌+◌, ◌≤◌, ◌<◌, ◌≡◌, Bool, true, false, List, [], ◌∷◌, ◌++◌, get_or, drop, None, Some}
use Rattle.std.specs.Prelude as code
use Rattle.std.proofs.Common.{arith, add-one, ◌∙◌, ap, subst}
use Rattle.std.proofs.Math.Path.{refl, sym}
use Rattle.std.proofs.Math.Option.{none}
use borrow.Author.Tests.{eq-eqb, ne_eqb, lt-ltb, le-ltb}
use Rattle.method_spec.specs.Node.{Link, Node, absent, with_value}
use Rattle.method_spec.specs.Prog.{Want, Prog, done, bind, start}
use Rattle.method_spec.specs.Answer as method
use Rattle.method_spec.specs.Outcome.{Outcome}
use Rattle.method_spec.specs.Map.{Step, Sub, stub, top, Built, Spot, gap, hit, Lowest, step_at, below, walk, climb, unwound, finish, get_step, get_prog, put_step, put_prog, swapped, take_out, remove_step, remove_prog}
use Rattle.slot_spec.specs.declared.Link as link
use Rattle.slot_spec.specs.declared.Node as node
use Rattle.slot_spec.specs.Slot.{no_node}
use Rattle.map_nodes.specs.declared.Sub as sub
use Rattle.leaf_spec.specs.Convert.{to_link, to_node}
use Rattle.operation_spec.specs.Method.{to_want, to_step_answer}
use Rattle.operations.specs.Resume.{Resumed, resume, follow, Misses}
use Rattle.operations.specs.ResumeLaws.{resume-bind}
use Rattle.node_rows.specs.Heights.{Low}
use Rattle.node_rows.specs.Held.{Held, nodes_of, held_at}
use Rattle.node_rows.specs.HeldLaws.{held_low}
use Rattle.map_nodes.specs.Method.{to_sub}
use Rattle.map_nodes.specs.Upward.{weight, upward}
use Rattle.map_nodes.specs.Heights.{LowSub}
use Rattle.map_descent.specs.declared.descend.Descent.{Descent}
use Rattle.map_changes.specs.declared.Bottom.{Bottom}
use Rattle.map_descent.specs.Walk.{Walks, trail, by_key, spot_of, Reached, DescendsTo, DescendsPast, after, LeftFrom, lowest_from, LowersTo, LowersPast}
use Rattle.map_descent.specs.WalkLaws.{held_fits}
use Rattle.map_descent.specs.PathTo.{ways_to, path_to}
use Rattle.map_descent.specs.PathLaws.{path-before, path-past, left-from}
use Rattle.map_changes.specs.Bottom.{bottom_at, past_found, up_from, StartsUp}
use Rattle.operation_spec.specs.declared.Want as want
use Rattle.operation_spec.specs.declared.Answer as answer
use Rattle.operation_spec.specs.declared.Full.{Full}

-- ---- the parts of the programs

-- The way up from b over a path.
abbrev pub way : Bool → List (Step ℕ) → Sub ℕ → ℕ → method.Answer → Prog ℕ (Outcome ℕ)
way rotating path b entries a = bind (upward rotating path b []) (λ x. done (finish entries a x))

module _ (path : List (Step ℕ)) (entries : ℕ) where
  pub get-gap : (l : Link ℕ) → done (get_step entries (gap l path)) ≡ way false path (stub l) entries method.absent
  unfolding get_step unwound upward bind
  get-gap l = refl

  pub get-hit : (w : Want ℕ) (n : Node ℕ) → done (get_step entries (hit w n path)) ≡ way false path (top n none none) entries (method.found n.value)
  unfolding get_step unwound upward bind
  get-hit w n = refl

  module _ (key value tag limit : ℕ) where
    pub put-new : (l : Link ℕ) → entries < limit
        → put_step 0 key value tag entries limit (gap l path)
        ≡ way true path (top (record { key = key; value = value; tag = tag; left = absent 0; right = absent 0 }) none none) (suc entries) method.new
    unfolding put_step upward
    put-new l k = rw (lt-ltb entries limit k)

    pub put-gap-full : (l : Link ℕ) → limit ≤ entries → put_step 0 key value tag entries limit (gap l path) ≡ way false path (stub l) entries method.full
    unfolding put_step unwound upward bind
    put-gap-full l k = rw (le-ltb entries limit k)

    pub put-replaced : (w : Want ℕ) (n : Node ℕ)
        → put_step 0 key value tag entries limit (hit w n path) ≡ way false path (top (with_value value n) none none) entries (method.replaced n.value)
    unfolding put_step upward bind
    put-replaced w n = refl

  pub remove-gap : (l : Link ℕ) → remove_step entries (gap l path) ≡ way false path (stub l) entries method.absent
  unfolding remove_step unwound upward bind
  remove-gap l = refl

  module _ (w : Want ℕ) (n : Node ℕ) where
    pub remove-left : n.left.height ≡ 0 → remove_step entries (hit w n path) ≡ way true path (stub n.right) (pred entries) (method.removed n.value)
    unfolding remove_step take_out upward
    remove-left e = rw (eq-eqb n.left.height 0 e)

    pub remove-right : (n.left.height ≡ 0 → ⊥) → n.right.height ≡ 0
        → remove_step entries (hit w n path) ≡ way true path (stub n.left) (pred entries) (method.removed n.value)
    unfolding remove_step take_out upward
    remove-right d e = rw (ne_eqb n.left.height 0 d, eq-eqb n.right.height 0 e)

    -- With two children: the next larger key's node, then up from its place.
    pub remove-both : (n.left.height ≡ 0 → ⊥) → (n.right.height ≡ 0 → ⊥)
        → remove_step entries (hit w n path)
        ≡ bind
        (bind (lowest_from n.right.height (below (step_at w n false)) [])
        (λ y. climb (y.path ++ (swapped (step_at w n false) y.node ∷ path)) (stub y.node.right) []))
        (λ b. done (finish (pred entries) (method.removed n.value) b))
    unfolding remove_step take_out bind
    remove-both d e = rw (ne_eqb n.left.height 0 d, ne_eqb n.right.height 0 e)

-- ---- from the end of the walk

abbrev pub walking : ℕ → Link ℕ → (Spot ℕ → Prog ℕ (Outcome ℕ)) → Prog ℕ (Outcome ℕ)
walking key l f = bind (walk key l.height (start l) []) f

module _ {key : ℕ} {root : link.Link} {h : Held} (f : Spot ℕ → Prog ℕ (Outcome ℕ)) where
  pub starts-missing : (w : want.Want) → DescendsPast key h (start (to_link root)) root.height w
      → Misses (walking key (to_link root) f) (nodes_of h) w
  starts-missing w past =
      resume-bind (walk key root.height (start (to_link root)) []) f (nodes_of h) ∙ rw past.misses

module _ {key : ℕ} {root : link.Link} {h : Held} (walks : Walks root h) {d : Descent}
    (down : DescendsTo key h (start (to_link root)) root.height d) where
  hit-is : {n : node.Node} → d.node ≡ Some n → (d.depth < h.count) × (n ≡ get_or h.nodes d.depth no_node)
  hit-is e = subst (λ (x : code.Option node.Node). Reached key h (start (to_link root)) x d.depth) e down.reached

  pub hit-within : {n : node.Node} → d.node ≡ Some n → d.depth < h.count
  hit-within e = (hit-is e).0

  pub hit-held : {n : node.Node} → d.node ≡ Some n → n ≡ get_or h.nodes d.depth no_node
  hit-held e = (hit-is e).1

  pub hit-low : {n : node.Node} → d.node ≡ Some n → Low 100 (to_node n)
  hit-low e = rw (hit-held e) (held_low h d.depth 100 walks.held.low (hit-within e) (held_fits walks.held))

  passes : List (Step ℕ)
  passes = trail h (start (to_link root)) (by_key key h) d.depth

  module _ (f : Spot ℕ → Prog ℕ (Outcome ℕ)) where
    spot : {e : code.Option node.Node} → d.node ≡ e
        → resume (walking key (to_link root) f) (nodes_of h)
        ≡ follow (spot_of key h (start (to_link root)) e (to_want d.want) d.depth) (λ s ns. resume (f s) ns)
    spot e =
        resume-bind (walk key root.height (start (to_link root)) []) f (nodes_of h)
        ∙ rw (down.resumes, e)

    pub spot-hit : {n : node.Node} → d.node ≡ Some n
        → resume (walking key (to_link root) f) (nodes_of h)
        ≡ resume (f (hit (to_want d.want) (held_at h d.depth) (trail h (start (to_link root)) (by_key key h) d.depth))) (drop (suc d.depth) (nodes_of h))
    spot-hit e = spot e ∙ rw (hit-held e)

    module _ {rotating : Bool} {b : sub.Sub} {entries : ℕ} {a : code.Result answer.Answer Full} {r : Bottom} where
      starts-at : (at : ℕ) (s : Spot ℕ) → resume (walking key (to_link root) f) (nodes_of h) ≡ resume (f s) (drop at (nodes_of h))
          → r ≡ bottom_at rotating b d.depth at entries a → d.depth ≤ at → at ≤ h.count → LowSub 100 (to_sub b) → weight (to_sub b) ≡ 1
          → f s ≡ way rotating passes (to_sub b) entries (to_step_answer a) → StartsUp key root h (walking key (to_link root) f) r
      unfolding passes
      starts-at at s p g past within low bare q =
          rw g
          record {
            resumes = p ∙ rw (q, path-before key h (start (to_link root)) d.depth d.depth d.depth (omega arith));
            ready = record { passed = past; within = within; low = low; bare = bare };
          }

      pub starts-gap : d.node ≡ None → r ≡ bottom_at rotating b d.depth d.depth entries a → LowSub 100 (to_sub b) → weight (to_sub b) ≡ 1
          → f (gap (to_link d.want.link) (trail h (start (to_link root)) (by_key key h) d.depth))
          ≡ way rotating (trail h (start (to_link root)) (by_key key h) d.depth) (to_sub b) entries (to_step_answer a)
          → StartsUp key root h (walking key (to_link root) f) r
      unfolding passes
      starts-gap e g =
          starts-at d.depth (gap (to_link d.want.link) passes) (spot e) g (omega arith)
          (subst (λ (x : code.Option node.Node). Reached key h (start (to_link root)) x d.depth) e down.reached)

      pub starts-hit : {n : node.Node} → d.node ≡ Some n
          → r ≡ bottom_at rotating b d.depth (d.depth + 1) entries a → LowSub 100 (to_sub b) → weight (to_sub b) ≡ 1
          → f (hit (to_want d.want) (to_node n) (trail h (start (to_link root)) (by_key key h) d.depth))
          ≡ way rotating (trail h (start (to_link root)) (by_key key h) d.depth) (to_sub b) entries (to_step_answer a)
          → StartsUp key root h (walking key (to_link root) f) r
      unfolding passes
      starts-hit {n} e g =
          starts-at (d.depth + 1) (hit (to_want d.want) (to_node n) passes) (spot e ∙ rw (add-one d.depth)) g (omega arith)
          (omega (arith, hit-within e))

-- ---- a remove that goes past the node with the key

module _ {key : ℕ} {root : link.Link} {h : Held} (walks : Walks root h) (entries : ℕ) {d : Descent}
    (down : DescendsTo key h (start (to_link root)) root.height d) {m : node.Node} (e : d.node ≡ Some m)
    (left : (held_at h d.depth).left.height ≡ 0 → ⊥) (right : (held_at h d.depth).right.height ≡ 0 → ⊥) where
  abbrev w₀ : Want ℕ
  w₀ = start (to_link root)

  abbrev n : Node ℕ
  n = held_at h d.depth

  -- The node that is removed, as it was passed.
  abbrev p : Step ℕ
  p = step_at (to_want d.want) n false

  abbrev above : List (Step ℕ)
  above = trail h w₀ (by_key key h) d.depth

  abbrev go_up : Lowest ℕ → Prog ℕ (Built ℕ)
  go_up z = climb (z.path ++ (swapped p z.node ∷ above)) (stub z.node.right) []

  abbrev end : Built ℕ → Prog ℕ (Outcome ℕ)
  end b = done (finish (pred entries) (method.removed n.value) b)

  searched : resume (walking key (to_link root) (remove_step entries)) (nodes_of h)
      ≡ follow (follow (resume (lowest_from n.right.height (below p) []) (drop (suc d.depth) (nodes_of h)))
      (λ z ns. resume (go_up z) ns)) (λ b ns. resume (end b) ns)
  searched =
      let rest = drop (suc d.depth) (nodes_of h) in
      spot-hit walks down (remove_step entries) e
      ∙ ap (λ (q : Prog ℕ (Outcome ℕ)). resume q rest) (remove-both above entries (to_want d.want) n left right)
      ∙ resume-bind (bind (lowest_from n.right.height (below p) []) go_up) end rest
      ∙ ap (λ (r : Resumed ℕ (Built ℕ)). follow r (λ b ns. resume (end b) ns))
      (resume-bind (lowest_from n.right.height (below p) []) go_up rest)

  from : LeftFrom h w₀ (ways_to key h w₀ d.depth) d.depth (below p)
  from =
      subst (λ (v : Want ℕ). LeftFrom h w₀ (ways_to key h w₀ d.depth) d.depth (below (step_at v n false)))
      (sym down.wanted) (left-from key h w₀ d.depth 0)

  pub misses-past : (w : want.Want) → LowersPast h d.depth (below (step_at (to_want d.want) (held_at h d.depth) false)) (held_at h d.depth).right.height w
      → Misses (walking key (to_link root) (remove_step entries)) (nodes_of h) w
  misses-past w lowers = searched ∙ rw (lowers.misses w₀ (ways_to key h w₀ d.depth) from)

  module _ {last : ℕ}
      (lowers : LowersTo h d.depth (below (step_at (to_want d.want) (held_at h d.depth) false)) (held_at h d.depth).right.height last) where
    abbrev between : List (Step ℕ)
    between = after h w₀ (ways_to key h w₀ d.depth) d.depth last

    past-path : between ++ (swapped p (held_at h last) ∷ above) ≡ path_to key h w₀ d.depth last last
    past-path =
        ap (λ (v : Want ℕ). between ++ (swapped (step_at v n false) (held_at h last) ∷ above)) down.wanted
        ∙ sym (path-past key h w₀ d.depth last last lowers.past)

    going-up : follow (resume (go_up (record { node = held_at h last; path = between })) (drop (suc last) (nodes_of h))) (λ b ns. resume (end b) ns)
        ≡ resume (up_from key root h (past_found last d.depth (pred entries) n.value h)) (drop (last + 1) (nodes_of h))
    unfolding upward
    going-up =
        sym (resume-bind (go_up (record { node = held_at h last; path = between })) end (drop (suc last) (nodes_of h)))
        ∙ rw (add-one last, past-path)

    pub starts-past : {r : Bottom} → r ≡ past_found last d.depth (pred entries) (held_at h d.depth).value h
        → StartsUp key root h (walking key (to_link root) (remove_step entries)) r
    starts-past g =
        rw g
        record {
          resumes = searched ∙ rw (lowers.resumes w₀ (ways_to key h w₀ d.depth) from) going-up;
          ready =
              record {
                passed = omega arith;
                within = omega (arith, lowers.within);
                low = (held_low h last 100 walks.held.low lowers.within (held_fits walks.held)).1;
                bare = refl;
              };
        }

-- ---- the programs

pub get-is : (key entries : ℕ) (l : Link ℕ) → get_prog key entries l ≡ walking key l (λ s. done (get_step entries s))
unfolding get_prog
get-is key entries l = refl

pub put_is : (key value tag entries limit : ℕ) (l : Link ℕ) → put_prog 0 key value tag entries limit l ≡ walking key l (put_step 0 key value tag entries limit)
unfolding put_prog
put_is key value tag entries limit l = refl

pub remove-is : (key entries : ℕ) (l : Link ℕ) → remove_prog key entries l ≡ walking key l (remove_step entries)
unfolding remove_prog
remove-is key entries l = refl
