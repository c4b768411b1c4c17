-- What a queue's memory holds: a row of nodes from the oldest, with keys that count up; each has a left link to the next, and the newest's
-- carries the tag drawn ahead.
use Rattle.std.specs.Prelude.{◌≡◌, List, [], ◌∷◌, map, ℕ, suc, ◌+◌, ◌≤◌, length}
use Rattle.list_spec.specs.Perm.{Perm}
use Rattle.method_spec.specs.Node.{Node, Link, absent, Cell}
use Rattle.method_spec.specs.Call.{capacity, Memory}

module _ {T : Type 0} where
  -- The tag of the next node: that of the first cell, or the one drawn ahead.
  abbrev pub tag_next : List (Cell T) → (ahead : T) → T
  tag_next [] ahead = ahead
  tag_next (c ∷ cs) ahead = c.tag

module _ {T : Type 0} (nil : T) where
  -- The link to a row whose first key is that; the oldest cell is the first.
  unfoldable pub row_link : (first : ℕ) → List (Cell T) → Link T
  row_link first [] = absent nil
  row_link first (c ∷ cs) = record { height = 1; key = first; tag = c.tag }

  -- The node of a cell, where the next one has that tag.
  abbrev pub row_node : (key : ℕ) → Cell T → (next : T) → Node T
  row_node key c next =
      record {
        key = key;
        value = c.value;
        tag = c.tag;
        left = record { height = 1; key = suc key; tag = next };
        right = absent nil;
      }

  unfoldable pub row : (first : ℕ) → List (Cell T) → (ahead : T) → List (Node T)
  row first [] ahead = []
  row first (c ∷ cs) ahead = row_node first c (tag_next cs ahead) ∷ row (suc first) cs ahead

  -- The queue's invariant: the memory holds a row whose values are the plain queue; the keys go up to the next unused one.
  pub record HoldsQueue (limit : ℕ) (vs : List ℕ) (m : Memory T) : Type 0 where
    pub first : ℕ
    pub cells : List (Cell T)
    pub values : map (λ (c : Cell T). c.value) cells ≡ vs
    pub counted : m.entries ≡ length vs
    pub in-row : m.ahead.key ≡ first + length cells
    pub rooted : m.root ≡ row_link first cells
    pub there : Perm m.nodes (row first cells m.ahead.tag)
    pub none-drawn : m.entries ≡ 0 → m.ahead.tag ≡ nil
    pub fits : length vs ≤ limit

  -- The memory of a queue of size k, and that its keys go up to the next unused one.
  pub record QueueShape (k : ℕ) (values : List ℕ) (m : Memory T) : Type 0 where
    pub holds : HoldsQueue (capacity k) values m
    pub numbered : m.ahead.key ≡ holds.first + m.entries
