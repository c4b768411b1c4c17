-- The map's walk and step: an AVL tree whose nodes are fetched as the walk needs them. Down by key, then upward from
-- the change, with single and double rotations.
use Rattle.std.specs.Prelude.{ℕ, zero, suc, pred, min, Bool, true, false, not, List, [], ◌∷◌, ◌++◌, eqb, ltb, ℤ, pos, negsuc, neg_ℤ}
use Rattle.std.specs.Bool.{beq}
use Rattle.std.proofs.Math.Option.{Option, none, some}
use Rattle.std.proofs.Math.IntN.{sub_ℕ}
use Rattle.std.specs.Int.Signed.{le_z}
use Rattle.list_spec.specs.Choice.{pick}
use Rattle.method_spec.specs.Node.{Link, Node, absent, child, with_child, with_value, link_to}
use Rattle.method_spec.specs.Prog.{side, Want, start, Prog, done, want, bind}
use Rattle.method_spec.specs.Outcome.{Outcome}
use Rattle.method_spec.specs.Answer.{Answer, found, replaced, new, removed, full}
use Rattle.method_spec.specs.Answer as answer

-- A node that the walk passed: the key that it had when it was passed, the side on which the walk went on, and the
-- nearest keys below and above that it had passed before.
pub record Step (T : Type 0) : Type 0 where
  pub node : Node T
  pub was : ℕ
  pub way : Bool
  pub low : Option ℕ
  pub high : Option ℕ

-- A subtree as it is at hand: its link alone, or its top node and those of the node's children that were fetched too.
pub data Sub (T : Type 0) : Type 0 where
  stub : Link T → Sub T
  top : Node T → Option (Node T) → Option (Node T) → Sub T

-- A subtree at hand, and the nodes further down that are done with.
pub record Built (T : Type 0) : Type 0 where
  pub sub : Sub T
  pub out : List (Node T)

-- Where a walk by key ended: at an absent link, or at the node with the key.
pub data Spot (T : Type 0) : Type 0 where
  gap : Link T → List (Step T) → Spot T
  hit : Want T → Node T → List (Step T) → Spot T

-- The node with the next larger key, and the nodes that were passed on the way to it.
pub record Lowest (T : Type 0) : Type 0 where
  pub node : Node T
  pub path : List (Step T)

pub record Rotated (T : Type 0) : Type 0 where
  pub up : Node T
  pub down : Node T

-- A key strictly between the keys that the walk passed.
unfoldable pub between : Option ℕ → Option ℕ → ℕ → Bool
between none none k = true
between (some a) none k = ltb a k
between none (some b) k = ltb k b
between (some a) (some b) k = pick (ltb a k) (ltb k b) false

-- A number brought into the range from -2 to 2.
abbrev pub clamp : ℤ → ℤ
clamp (pos n) = pos (min n 2)
clamp (negsuc n) = negsuc (min n 1)

module _ {T : Type 0} where
  -- ---- subtrees at hand
  abbrev pub link_of : Sub T → Link T
  link_of (stub l) = l
  link_of (top n l r) = link_to n

  abbrev pub listed : Option (Node T) → List (Node T)
  listed none = []
  listed (some n) = n ∷ []

  abbrev pub top_of : Sub T → Option (Node T)
  top_of (stub l) = none
  top_of (top n l r) = some n

  -- The child at hand on a side.
  abbrev pub kid : Bool → Sub T → Option (Node T)
  kid s (stub l) = none
  kid true (top n l r) = l
  kid false (top n l r) = r

  abbrev pub kids : Sub T → List (Node T)
  kids b = listed (kid true b) ++ listed (kid false b)

  abbrev pub nodes_at : Sub T → List (Node T)
  nodes_at b = kids b ++ listed (top_of b)

  -- A node with the children at hand on the side s and on the other.
  abbrev pub seat : Bool → Node T → Option (Node T) → Option (Node T) → Sub T
  seat true n a b = top n a b
  seat false n a b = top n b a

  -- ---- the walk down
  abbrev pub step_at : Want T → Node T → Bool → Step T
  step_at w n s = record { node = n; was = n.key; way = s; low = w.low; high = w.high }

  -- The link l on the side s of a node that was passed, as a wanted one.
  abbrev pub beside : Step T → Bool → Link T → Want T
  beside p s l =
      record {
        link = l;
        from = side p.was s;
        low = pick s p.low (some p.was);
        high = pick s (some p.was) p.high;
      }

  abbrev pub below : Step T → Want T
  below p = beside p p.way (child p.way p.node)

  -- Down by key. Heights bound the walk: the fuel is the height of the link that it starts at.
  unfoldable pub walk : ℕ → ℕ → Want T → List (Step T) → Prog T (Spot T)
  walk key zero w path = done (gap w.link path)
  walk key (suc fuel) w path =
      pick (eqb w.link.height 0) (done (gap w.link path))
      (want w
      (λ n. pick (eqb key n.key) (done (hit w n path))
      (walk key fuel (below (step_at w n (ltb key n.key))) (step_at w n (ltb key n.key) ∷ path))))

  -- ---- the balance
  -- Document 01's balance: left height minus right height, from -2 to 2. In the map's trees two sides differ by at most one
  -- before a step and by at most two within it, so that the range cuts nothing off. It says what the balance is where they
  -- differ by more, as another hand can write them: 2 or -2, which the fetch test calls damage.
  unfoldable pub balance_of : Node T → ℤ
  balance_of n = clamp (sub_ℕ n.left.height n.right.height)

  -- The balance seen from side s, the left or else the right, where it is negated: what is said of 2 and the left holds of
  -- -2 and the right, the mirror.
  abbrev pub balance_from : Bool → Node T → ℤ
  balance_from true n = balance_of n
  balance_from false n = neg_ℤ (balance_of n)

  -- Side s is too tall: the balance seen from there is 2.
  abbrev pub tall : Bool → Node T → Bool
  tall s n = le_z (pos 2) (balance_from s n)

  -- The child c on a tall side s gives a single rotation: its balance seen from there is 0 or more. Else a double one.
  abbrev pub leans_out : Bool → Node T → Bool
  leans_out s c = le_z (pos 0) (balance_from s c)

  -- ---- rotations

  -- c, the child of n on side s, comes up and n goes down on the other side.
  abbrev pub rotate : Bool → Node T → Node T → Rotated T
  rotate s n c =
      record {
        up = with_child (not s) c (link_to (with_child s n (child (not s) c)));
        down = with_child s n (child (not s) c);
      }

  -- A single rotation, where the tall side's child c does not lean inward. What is emitted: the kid that n takes over, and
  -- what was at hand on the other side of n.
  unfoldable pub single : Bool → Node T → Node T → Option (Node T) → Option (Node T) → List (Node T) → Built T
  single s n c outer inner others =
      record {
        sub = seat s (rotate s n c).up outer (some (rotate s n c).down);
        out = listed inner ++ others;
      }

  -- A double rotation: first the inner child g comes up over c, then over n.
  unfoldable pub double : Bool → Node T → Node T → Node T → Option (Node T) → List (Node T) → Built T
  double s n c g outer others =
      let r = rotate (not s) c g in
      let q = rotate s (with_child s n (link_to r.up)) r.up in
      record { sub = seat s q.up (some r.down) (some q.down); out = listed outer ++ others }

  -- The top node of a subtree: it is at hand, or it is wanted.
  abbrev pub fetched_top : Want T → Option (Node T) → Prog T (Node T)
  fetched_top w none = want w done
  fetched_top w (some n) = done n

  -- n, at the place p, is too tall on side s; `near` is what is at hand there, `others` are the nodes at hand elsewhere.
  unfoldable pub turn : Step T → Bool → Node T → Sub T → List (Node T) → Prog T (Built T)
  turn p s n near others =
      bind (fetched_top (beside p s (child s n)) (top_of near))
      (λ c. pick (leans_out s c)
      (done (single s n c (kid s near) (kid (not s) near) others))
      (bind (fetched_top (below (step_at (beside p s (child s n)) c (not s))) (kid (not s) near))
      (λ g. done (double s n c g (kid s near) others))))

  -- One level up: the subtree b stands where the walk went on from p.
  abbrev pub with_subtree : Step T → Sub T → Node T
  with_subtree p b = with_child p.way p.node (link_of b)

  abbrev pub rest : Step T → Sub T → Built T
  rest p b = record { sub = seat p.way (with_subtree p b) (top_of b) none; out = kids b }

  -- What is at hand on side s of the place p, and what is at hand on the other.
  abbrev pub near_on : Step T → Sub T → Bool → Sub T
  near_on p b s = pick (beq s p.way) b (stub (child s p.node))

  abbrev pub others_of : Step T → Sub T → Bool → List (Node T)
  others_of p b s = pick (beq s p.way) [] (nodes_at b)

  unfoldable pub raise : Step T → Sub T → Prog T (Built T)
  raise p b =
      pick (tall true (with_subtree p b)) (turn p true (with_subtree p b) (near_on p b true) (others_of p b true))
      (pick (tall false (with_subtree p b)) (turn p false (with_subtree p b) (near_on p b false) (others_of p b false))
      (done (rest p b)))

  -- Upward from the change, with rotations.
  unfoldable pub climb : List (Step T) → Sub T → List (Node T) → Prog T (Built T)
  climb [] b out = done (record { sub = b; out = out })
  climb (p ∷ path) b out = bind (raise p b) (λ r. climb path r.sub (out ++ r.out))

  -- Upward where nothing changed but tags and values.
  unfoldable pub unwind : List (Step T) → Sub T → List (Node T) → Built T
  unwind [] b out = record { sub = b; out = out }
  unwind (p ∷ path) b out = unwind path (rest p b).sub (out ++ (rest p b).out)

  unfoldable pub unwound : Spot T → Built T
  unwound (gap l path) = unwind path (stub l) []
  unwound (hit w n path) = unwind path (top n none none) []

  abbrev pub finish : ℕ → Answer → Built T → Outcome T
  finish entries a b =
      record { nodes = b.out ++ nodes_at b.sub; root = link_of b.sub; entries = entries; answer = a }

  -- ---- get
  unfoldable pub get_step : ℕ → Spot T → Outcome T
  get_step entries (gap l path) = finish entries answer.absent (unwound (gap l path))
  get_step entries (hit w n path) = finish entries (found n.value) (unwound (hit w n path))

  unfoldable pub get_prog : (key entries : ℕ) → Link T → Prog T (Outcome T)
  get_prog key entries l = bind (walk key l.height (start l) []) (λ s. done (get_step entries s))

  -- ---- put
  -- A present key's value is replaced. An absent key's node is added where there is room: a put of one on a full store walks as
  -- any put does and stores nothing.
  unfoldable pub put_step : (nil : T) (key value : ℕ) (tag : T) (entries limit : ℕ) → Spot T → Prog T (Outcome T)
  put_step nil key value tag entries limit (gap l path) =
      pick (ltb entries limit)
      (bind
      (climb path
      (top (record { key = key; value = value; tag = tag; left = absent nil; right = absent nil }) none none) [])
      (λ b. done (finish (suc entries) new b)))
      (done (finish entries full (unwound (gap l path))))
  put_step nil key value tag entries limit (hit w n path) =
      done (finish entries (replaced n.value) (unwind path (top (with_value value n) none none) []))

  unfoldable pub put_prog : (nil : T) (key value : ℕ) (tag : T) (entries limit : ℕ) → Link T → Prog T (Outcome T)
  put_prog nil key value tag entries limit l =
      bind (walk key l.height (start l) []) (put_step nil key value tag entries limit)

  -- ---- remove
  -- The next larger key's node: from n down to the left, with the nodes passed.
  unfoldable pub lowest : ℕ → Want T → Node T → List (Step T) → Prog T (Lowest T)
  lowest zero w n path = done (record { node = n; path = path })
  lowest (suc fuel) w n path =
      pick (eqb n.left.height 0) (done (record { node = n; path = path }))
      (want (below (step_at w n true))
      (λ m. lowest fuel (below (step_at w n true)) m (step_at w n true ∷ path)))

  -- The place p with y's entry for its own; the key that was passed there stays known.
  abbrev pub swapped : Step T → Node T → Step T
  swapped p y =
      record {
        node =
            record { key = y.key; value = y.value; tag = y.tag; left = p.node.left; right = p.node.right };
        was = p.was;
        way = p.way;
        low = p.low;
        high = p.high;
      }

  -- The node n leaves the tree.
  unfoldable pub take_out : Want T → Node T → List (Step T) → Prog T (Built T)
  take_out w n path =
      pick (eqb n.left.height 0) (climb path (stub n.right) [])
      (pick (eqb n.right.height 0) (climb path (stub n.left) [])
      (want (below (step_at w n false))
      (λ m. bind (lowest n.right.height (below (step_at w n false)) m [])
      (λ y. climb (y.path ++ (swapped (step_at w n false) y.node ∷ path)) (stub y.node.right) []))))

  unfoldable pub remove_step : ℕ → Spot T → Prog T (Outcome T)
  remove_step entries (gap l path) = done (finish entries answer.absent (unwound (gap l path)))
  remove_step entries (hit w n path) =
      bind (take_out w n path) (λ b. done (finish (pred entries) (removed n.value) b))

  unfoldable pub remove_prog : (key entries : ℕ) → Link T → Prog T (Outcome T)
  remove_prog key entries l = bind (walk key l.height (start l) []) (remove_step entries)

  -- ---- the map's fetch tests
  -- The side heights differ by at most one, the height is the link's, and the key is between the keys passed.
  unfoldable pub map_test : Want T → Node T → Bool
  map_test w n =
      pick (tall true n) false
      (pick (tall false n) false
      (pick (eqb (link_to n).height w.link.height) (between w.low w.high n.key) false))
