-- The walk down, by the numbers of the fetched nodes.
use Rattle.std.specs.Prelude.{ℕ, zero, suc, ◌≤◌, ◌<◌, ◌≡◌, Bool, true, List, [], ◌∷◌, ltb, drop, get_or, None, Some, MatchResult}
use Rattle.std.specs.Prelude as code
use Rattle.list_spec.specs.Choice.{pick}
use Rattle.method_spec.specs.Prog.{Want, Prog}
use Rattle.method_spec.specs.Prog as prog
use Rattle.method_spec.specs.Map.{Step, Spot, gap, hit, Lowest, step_at, below, walk, lowest}
use Rattle.slot_spec.specs.declared.Link as link
use Rattle.slot_spec.specs.declared.Node as node
use Rattle.slot_spec.specs.Slot.{no_node}
use Rattle.leaf_spec.specs.Convert.{to_node}
use Rattle.operation_spec.specs.declared.Want as want
use Rattle.operation_spec.specs.Method.{to_want}
use Rattle.operations.specs.Resume.{Resumed, finished, resume, Misses}
use Rattle.node_rows.specs.Held.{Held, nodes_of, held_at, HeldFrom}
use Rattle.map_descent.specs.declared.descend.Descent.{Descent}

-- What the walk asks of the root link and the held nodes.
pub record Walks (root : link.Link) (h : Held) : Type 0 where
  pub held : HeldFrom 100 h 0
  pub root-low : root.height ≤ 100

module _ (h : Held) (w : Want ℕ) (ways : ℕ → Bool) where
  -- The node that is wanted after the first i held nodes were passed, each on its way; at first w is.
  unfoldable pub want_at : ℕ → Want ℕ
  want_at zero = w
  want_at (suc i) = below (step_at (want_at i) (held_at h i) (ways i))

  -- The step over the held node i.
  abbrev pub passed : ℕ → Step ℕ
  passed i = step_at (want_at i) (held_at h i) (ways i)

  -- The steps over the first n held nodes, the last first.
  unfoldable pub trail : ℕ → List (Step ℕ)
  trail zero = []
  trail (suc i) = passed i ∷ trail i

-- By key: to the left where the key is smaller.
abbrev pub by_key : ℕ → Held → ℕ → Bool
by_key key h i = ltb key (held_at h i).key

module _ (key : ℕ) (h : Held) (w₀ : Want ℕ) where
  -- What a descent says of the method's walk.
  abbrev pub spot_of : code.Option node.Node → Want ℕ → ℕ → Resumed ℕ (Spot ℕ)
  spot_of None w depth = finished (gap w.link (trail h w₀ (by_key key h) depth)) (drop depth (nodes_of h))
  spot_of (Some n) w depth = finished (hit w (to_node n) (trail h w₀ (by_key key h) depth)) (drop (suc depth) (nodes_of h))

  abbrev pub Reached : code.Option node.Node → ℕ → Type 0
  Reached None depth = depth ≤ h.count
  Reached (Some n) depth = (depth < h.count) × (n ≡ get_or h.nodes depth no_node)

  -- The walk from w₀ comes to that end.
  pub record DescendsTo (fuel : ℕ) (r : Descent) : Type 0 where
    pub resumes : resume (walk key fuel w₀ []) (nodes_of h) ≡ spot_of r.node (to_want r.want) r.depth
    pub wanted : to_want r.want ≡ want_at h w₀ (by_key key h) r.depth
    pub reached : Reached r.node r.depth
    pub low : (to_want r.want).link.height ≤ 100

  -- The walk passes all held nodes, and misses the next.
  pub record DescendsPast (fuel : ℕ) (w : want.Want) : Type 0 where
    pub misses : Misses (walk key fuel w₀ []) (nodes_of h) w
    pub wanted : to_want w ≡ want_at h w₀ (by_key key h) h.count
    pub low : (to_want w).link.height ≤ 100

  -- One or the other.
  abbrev pub Descends : ℕ → code.Result Descent want.Want → Type 0
  Descends fuel r = MatchResult r (DescendsTo fuel) (DescendsPast fuel)

  -- The walk after i nodes.
  pub record Descending (fuel₀ : ℕ) (w : Want ℕ) (fuel i : ℕ) : Type 0 where
    pub resumes : resume (walk key fuel w (trail h w₀ (by_key key h) i)) (drop i (nodes_of h)) ≡ resume (walk key fuel₀ w₀ []) (nodes_of h)
    pub wanted : w ≡ want_at h w₀ (by_key key h) i
    pub within : i ≤ h.count
    pub low : w.link.height ≤ 100

-- ---- the next larger key's node

module _ (h : Held) (w₀ : Want ℕ) (ways : ℕ → Bool) (found : ℕ) where
  -- The steps over the held nodes after `found` and before i, the last first.
  unfoldable pub after : ℕ → List (Step ℕ)
  after zero = []
  after (suc i) = pick (ltb found i) (passed h w₀ ways i ∷ after i) []

  -- After the node `found` the node w is wanted, and from there the walk goes to the left.
  pub record LeftFrom (w : Want ℕ) : Type 0 where
    pub there : want_at h w₀ ways (suc found) ≡ w
    pub left : (i : ℕ) → found < i → ways i ≡ true

-- The lowest node from w on.
abbrev pub lowest_from : ℕ → Want ℕ → List (Step ℕ) → Prog ℕ (Lowest ℕ)
lowest_from fuel w path = prog.want w (λ m. lowest fuel w m path)

module _ (h : Held) (found : ℕ) (w : Want ℕ) (fuel : ℕ) where
  -- The search from w after the node `found` comes to the node `last`.
  pub record LowersTo (last : ℕ) : Type 0 where
    pub resumes : (w₀ : Want ℕ) (ways : ℕ → Bool) → LeftFrom h w₀ ways found w
        → resume (lowest_from fuel w []) (drop (suc found) (nodes_of h))
        ≡ finished (record { node = held_at h last; path = after h w₀ ways found last }) (drop (suc last) (nodes_of h))
    pub past : found < last
    pub within : last < h.count

  -- It misses that node.
  pub record LowersPast (v : want.Want) : Type 0 where
    pub misses : (w₀ : Want ℕ) (ways : ℕ → Bool) → LeftFrom h w₀ ways found w → Misses (lowest_from fuel w []) (drop (suc found) (nodes_of h)) v

  -- One or the other.
  abbrev pub Lowers : code.Result ℕ want.Want → Type 0
  Lowers r = MatchResult r LowersTo LowersPast

  -- The search with the node i to come.
  pub record Lowering (v : Want ℕ) (left i : ℕ) : Type 0 where
    pub resumes : (w₀ : Want ℕ) (ways : ℕ → Bool) → LeftFrom h w₀ ways found w
        → (resume (lowest_from left v (after h w₀ ways found i)) (drop i (nodes_of h)) ≡ resume (lowest_from fuel w []) (drop (suc found) (nodes_of h)))
        × (want_at h w₀ ways i ≡ v)
    pub past : found < i
    pub within : i ≤ h.count
