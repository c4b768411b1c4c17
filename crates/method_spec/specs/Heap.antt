-- The heap's walk and step (document 02, change 1). Position i is the node with key i; its links, of height 1, lead to positions
-- 2i and 2i + 1. Numbers move between nodes; keys, tags and links stay with their positions.
use Rattle.std.specs.Prelude.{ℕ, zero, suc, pred, ◌*◌, ◌/◌, ◌%◌, Bool, true, false, ◌&&◌, List, [], ◌∷◌, ◌++◌, map, eqb, ltb, leb, length}
use Rattle.std.proofs.Math.Option.{none}
use Rattle.list_spec.specs.Choice.{pick}
use Rattle.method_spec.specs.Node.{Link, Node, absent, child, with_child, with_value, link_one}
use Rattle.method_spec.specs.Prog.{side, Want, Prog, done, want, bind, start}
use Rattle.method_spec.specs.Answer.{added, taken, empty, full}
use Rattle.method_spec.specs.Outcome.{Outcome}

-- ---- positions
-- The position of a child.
abbrev pub child_position : Bool → ℕ → ℕ
child_position true i = 2 * i
child_position false i = suc (2 * i)

-- The turns of the way from the root to position i, true for left: an even position is a left child. Halving brings every
-- number to 1 in fewer steps than it says, so the number itself is fuel enough.
unfoldable pub turns_to : (fuel i : ℕ) → List Bool
turns_to zero i = []
turns_to (suc fuel) i = pick (leb i 1) [] (turns_to fuel (i / 2) ++ (eqb (i % 2) 0 ∷ []))

abbrev pub way_to : ℕ → List Bool
way_to i = turns_to i i

-- A node that a way passed, and the side on which the way goes on.
pub record Pass (T : Type 0) : Type 0 where
  pub node : Node T
  pub way : Bool

-- Where a way ended: the link there, as a wanted one, and the nodes passed, nearest first.
pub record Reached (T : Type 0) : Type 0 where
  pub end : Want T
  pub path : List (Pass T)

-- The smaller child, the rest of the way from it that is at hand, and what is at hand on the other side; or there is no child.
pub data Lower (T : Type 0) : Type 0 where
  childless : Lower T
  lower : Pass T → List (Pass T) → List (Pass T) → Lower T

module _ {T : Type 0} where
  -- ---- the way down
  -- The link on a side of a node, as a wanted one.
  abbrev pub beneath : Node T → Bool → Want T
  beneath n s = record { link = child s n; from = side n.key s; low = none; high = none }

  -- Each node on the way is fetched, from the root down, but for the one where it ends.
  unfoldable pub descend : List Bool → Want T → List (Pass T) → Prog T (Reached T)
  descend [] w path = done (record { end = w; path = path })
  descend (s ∷ turns) w path = want w (λ n. descend turns (beneath n s) (record { node = n; way = s } ∷ path))

  -- ---- add
  -- The node that was passed, over the node n on the side where the way went on.
  abbrev pub over : Pass T → Node T → Node T
  over p n = with_child p.way p.node (link_one n)

  -- Upward where nothing changes but tags.
  unfoldable pub settled : Node T → List (Pass T) → List (Node T)
  settled n [] = n ∷ []
  settled n (p ∷ path) = n ∷ settled (over p n) path

  -- The number of n moves up while it is smaller than the parent's.
  unfoldable pub rise : Node T → List (Pass T) → List (Node T)
  rise n [] = n ∷ []
  rise n (p ∷ path) =
      pick (ltb n.value p.node.value)
      (with_value p.node.value n ∷ rise (with_value n.value (over p n)) path)
      (n ∷ settled (over p n) path)

  -- The first node of the way, or n.
  unfoldable pub topmost : Node T → List (Pass T) → Node T
  topmost n [] = n
  topmost n (p ∷ path) = topmost p.node path

  abbrev pub new_node : (nil : T) (value : ℕ) (tag : T) (entries : ℕ) → Node T
  new_node nil value tag entries =
      record { key = suc entries; value = value; tag = tag; left = absent nil; right = absent nil }

  -- "Add fetches the path to the new position's parent and moves the value up while it is smaller than the parent's. A full
  -- heap's add fetches none."
  unfoldable pub add_prog : (nil : T) (value : ℕ) (tag : T) (entries limit : ℕ) → Link T → Prog T (Outcome T)
  add_prog nil value tag entries limit l =
      let new = new_node nil value tag entries in
      pick (ltb entries limit)
      (bind (descend (way_to (suc entries)) (start l) [])
      (λ r. done
      (record { nodes = rise new r.path; root = link_one (topmost new r.path); entries = suc entries; answer = added })))
      (done (record { nodes = []; root = l; entries = entries; answer = full }))

  -- ---- take
  -- The nodes of a way, given nearest first, now the root first, each with its link to the next; where the way ended the link is l.
  unfoldable pub downward : Link T → List (Pass T) → List (Pass T) → List (Pass T)
  downward l [] below = below
  downward l (p ∷ path) below =
      let n = with_child p.way p.node l in
      downward (link_one n) path (record { node = n; way = p.way } ∷ below)

  abbrev pub passed : List (Pass T) → List (Node T)
  passed = map (λ p. p.node)

  -- A child and the rest of the way from it: at hand; or there is none; or it is fetched, and nothing is at hand below it.
  unfoldable pub child_of : Want T → List (Pass T) → Prog T (List (Pass T))
  child_of w (p ∷ below) = done (p ∷ below)
  child_of w [] = pick (eqb w.link.height 0) (done []) (want w (λ c. done (record { node = c; way = true } ∷ [])))

  -- The smaller child, the left one on equal.
  abbrev pub smaller : (left right : List (Pass T)) → Lower T
  smaller [] [] = childless
  smaller (p ∷ a) [] = lower p a []
  smaller [] (q ∷ b) = lower q b []
  smaller (p ∷ a) (q ∷ b) = pick (leb p.node.value q.node.value) (lower p a (q ∷ b)) (lower q b (p ∷ a))

  -- The node with the link to the child on side s, where there is one.
  abbrev pub above : Bool → List (Pass T) → Node T → Node T
  above s [] n = n
  above s (c ∷ below) n = with_child s n (link_one c.node)

  -- The number v comes to rest in n, or it sinks further, and n gets the smaller child's number.
  abbrev pub sunk : (further : Pass T → List (Pass T) → Prog T (List (Node T))) (v : ℕ) → Node T → (left right : List (Pass T)) → Lower T → Prog T (List (Node T))
  sunk further v n a b childless = done (with_value v n ∷ (passed a ++ passed b))
  sunk further v n a b (lower c below others) =
      pick (ltb c.node.value v)
      (bind (further c below) (λ out. done (with_value c.node.value n ∷ (passed others ++ out))))
      (done (with_value v n ∷ (passed a ++ passed b)))

  -- The number v sinks from the node of p, whose own number has left it; `below` is what is at hand of the way from there. Both
  -- children are fetched, left then right, before anything is compared. The fuel is the number of levels below p. What is made:
  -- the nodes of that part of the heap that were at hand or fetched.
  unfoldable pub sink : (fuel v : ℕ) → Pass T → List (Pass T) → Prog T (List (Node T))
  sink zero v p below = done (with_value v p.node ∷ passed below)
  sink (suc fuel) v p below =
      bind (child_of (beneath p.node true) (pick p.way below []))
      (λ a. bind (child_of (beneath p.node false) (pick p.way [] below))
      (λ b. sunk (sink fuel v) v (above true a (above false b p.node)) a b (smaller a b)))

  -- The last position's node z has left, and its number sinks from the root, the first node of the way to it; or z was the root.
  unfoldable pub replace_root : (nil : T) (entries : ℕ) → Node T → List (Pass T) → Prog T (Outcome T)
  replace_root nil entries z [] = done (record { nodes = []; root = absent nil; entries = pred entries; answer = taken z.value })
  replace_root nil entries z (p ∷ below) =
      bind (sink (suc (length below)) z.value p below)
      (λ out. done
      (record { nodes = out; root = link_one p.node; entries = pred entries; answer = taken p.node.value }))

  -- "Take fetches the path to the last position, moves that value to the root, and sinks it": the last node leaves, and its
  -- parent's link to it becomes absent.
  unfoldable pub take_prog : (nil : T) (entries : ℕ) → Link T → Prog T (Outcome T)
  take_prog nil entries l =
      pick (eqb entries 0) (done (record { nodes = []; root = l; entries = entries; answer = empty }))
      (bind (descend (way_to entries) (start l) [])
      (λ r. want r.end (λ z. replace_root nil entries z (downward (absent nil) r.path []))))

  -- ---- the heap's fetch test
  -- The link to position i: of height 1 with that key, or absent beyond the entries.
  abbrev pub heap_link_good : (entries i : ℕ) → Link T → Bool
  heap_link_good entries i l = pick (leb i entries) (eqb l.height 1 && eqb l.key i) (eqb l.height 0)

  -- For a store that has so many entries as the call starts.
  unfoldable pub heap_test : (entries : ℕ) → Want T → Node T → Bool
  heap_test entries w n =
      heap_link_good entries (child_position true n.key) n.left && heap_link_good entries (child_position false n.key) n.right
