-- The fetch rounds of one call over a bucket tree, in the paper's order.
use Rattle.std.specs.Prelude.{ℕ, zero, suc, ◌+◌, Bool, true, false, ◌&&◌, List, [], ◌∷◌, ◌++◌, map, eqb, length}
use Rattle.std.specs.Bool.{beq}
use Rattle.std.proofs.Math.Option.{Option, none, some}
use Rattle.list_spec.specs.Choice.{pick}
use Rattle.method_spec.specs.Node.{Link, Ahead, Node, retag}
use Rattle.method_spec.specs.Prog.{From, root, side, Want, Prog, done, want}
use Rattle.method_spec.specs.Answer.{Structure, Answer}
use Rattle.method_spec.specs.Call.{test}
use Rattle.round_spec.specs.Round.{Wish, join, read_half, write_half, exceeds_limit}
use Rattle.leaf_spec.specs.Leaf.{leaf_format}

-- A node that the call holds, as it was fetched under its new tag, and where the link to it stood.
pub record Held : Type 0 where
  pub from : From
  pub node : Node ℕ

-- A store between two rounds of a call: what it keeps, what the call holds, and the leaves revealed so far.
pub record Going : Type 0 where
  pub tree : List ℕ
  pub waiting : List (Node ℕ)
  pub held : List Held
  pub leaves : List ℕ

-- What a call leaves. The mark is 0, or 8 (damage) or 9 (overflow) where it closed the store; then there is no answer.
pub record CallLeft : Type 0 where
  pub mark : ℕ
  pub entries : ℕ
  pub root : Link ℕ
  pub ahead : Ahead ℕ
  pub waiting : List (Node ℕ)
  pub tree : List ℕ
  pub leaves : List ℕ
  pub answer : Option Answer

-- ---- tags moved: the link that was followed to each held node has that node's tag
unfoldable pub moved_link : List Held → From → Link ℕ → Link ℕ
moved_link [] f l = l
moved_link (h ∷ hs) f l = moved_link hs f (pick (same h.from f) (record { height = l.height; key = l.key; tag = h.node.tag }) l)
  where
    same : From → From → Bool
    same root root = true
    same root (side k s) = false
    same (side k s) root = false
    same (side k s) (side j t) = eqb k j && beq s t

unfoldable pub moved_node : List Held → Node ℕ → Node ℕ
moved_node hs n =
    record {
      key = n.key;
      value = n.value;
      tag = n.tag;
      left = moved_link hs (side n.key true) n.left;
      right = moved_link hs (side n.key false) n.right;
    }

abbrev pub moved_nodes : List Held → List (Node ℕ)
moved_nodes hs = map (λ (h : Held). moved_node hs h.node) hs

-- ---- closing during the fetch rounds: the held nodes join those waiting, with only tags moved
unfoldable pub closing : ℕ → ℕ → Link ℕ → Ahead ℕ → Going → CallLeft
closing mark entries l a g =
    record {
      mark = mark;
      entries = entries;
      root = moved_link g.held root l;
      ahead = a;
      waiting = join leaf_format (moved_nodes g.held) g.waiting;
      tree = g.tree;
      leaves = g.leaves;
      answer = none;
    }

abbrev pub revealing : ℕ → Going → Going
revealing leaf g =
    record { tree = g.tree; waiting = g.waiting; held = g.held; leaves = g.leaves ++ (leaf ∷ []) }

-- A round's write half: the path of the leaf is written, and these nodes are held from now on.
abbrev pub written : (size leaf : ℕ) → List (Node ℕ) → List Held → Going → Going
written k leaf ws held g =
    record {
      tree = (write_half leaf_format k leaf ws g.tree).tree;
      waiting = (write_half leaf_format k leaf ws g.tree).waiting;
      held = held;
      leaves = g.leaves ++ (leaf ∷ []);
    }

-- How many nodes wait and are held.
abbrev pub total : Going → ℕ
total g = length g.waiting + length g.held

abbrev pub too_many : Going → Bool
too_many g = exceeds_limit (length g.waiting) (length g.held)

abbrev pub held_keys : Going → List ℕ
held_keys g = map (λ (h : Held). h.node.key) g.held

abbrev pub wish_for : Want ℕ → Wish
wish_for w = record { key = w.link.key; tag = w.link.tag }

-- What a round did: it went on, with a program, or it closed the store with a mark.
pub data Round (A : Type 0) : Type 0 where
  on : Going → Prog ℕ A → Round A
  shut : ℕ → Going → Round A

module _ {A : Type 0} where
  -- The number waiting and held at a round's close, none where it found damage and did not close. Document 02, change 6.
  unfoldable pub count_at_close : Round A → Option ℕ
  count_at_close (on g p) = some (total g)
  count_at_close (shut m g) = pick (eqb m 9) (some (total g)) none

  -- At a round's close waiting and held nodes together number at most 64.
  unfoldable pub at_close : Going → Prog ℕ A → Round A
  at_close g p = pick (too_many g) (shut 9 g) (on g p)

  -- A round of the given leaf that wants none. Damage is found before a byte is written.
  unfoldable pub idle_round : (size leaf : ℕ) → Prog ℕ A → Going → Round A
  idle_round k leaf p g =
      elim (read_half leaf_format k g.tree leaf none (held_keys g) g.waiting)
      [ none ↦ shut 8 (revealing leaf g) | some h ↦ at_close (written k leaf h.waiting g.held g) p ]

  -- A round that took out the node n: the structure, with e entries, asks its fetch test of it before anything is written.
  unfoldable pub took_round : Structure → (entries size draw : ℕ) → Want ℕ → (Node ℕ → Prog ℕ A) → Going → List (Node ℕ) → Option (Node ℕ) → Round A
  took_round s e k d w c g ws none = shut 8 (revealing w.link.tag g)
  took_round s e k d w c g ws (some n) =
      pick (test s e w n)
      (at_close
      (written k w.link.tag ws (g.held ++ (record { from = w.from; node = retag d n } ∷ [])) g)
      (c (retag d n)))
      (shut 8 (revealing w.link.tag g))

  unfoldable pub want_round : Structure → (entries size draw : ℕ) → Want ℕ → (Node ℕ → Prog ℕ A) → Going → Round A
  want_round s e k d w c g =
      elim (read_half leaf_format k g.tree w.link.tag (some (wish_for w)) (held_keys g) g.waiting)
      [ none ↦ shut 8 (revealing w.link.tag g) | some h ↦ took_round s e k d w c g h.waiting h.taken ]

  -- A fetch round: one that wants a node reveals the tag in the link to it; one that wants none reveals its draw.
  unfoldable pub fetch_round : Structure → (entries size draw : ℕ) → Prog ℕ A → Going → Round A
  fetch_round s e k d (done a) g = idle_round k d (done a) g
  fetch_round s e k d (want w c) g = want_round s e k d w c g

  -- n fetch rounds from round i.
  unfoldable pub fetch_rounds : Structure → (entries size : ℕ) → (draw : ℕ → ℕ) → (n i : ℕ) → Prog ℕ A → Going → Round A
  fetch_rounds s e k draw zero i p g = on g p
  fetch_rounds s e k draw (suc n) i p g = next (fetch_round s e k (draw i) p g) (λ g q. fetch_rounds s e k draw n (suc i) q g)
    where
      next : Round A → (Going → Prog ℕ A → Round A) → Round A
      next (shut m g) f = shut m g
      next (on g q) f = f g q
