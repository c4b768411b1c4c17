-- What a step yields on any content: the nodes that it was given, but for the change that its answer tells.
use Rattle.std.specs.Prelude.{List, ◌++◌, ℕ, suc, ◌+◌, ◌*◌}
use Rattle.method_spec.specs.Node.{Node}
use Rattle.method_spec.specs.Answer.{Structure, Answer}
use Rattle.method_spec.specs.Changes.{taken_out, brought_in, tracked, tracked_in}
use Rattle.method_spec.specs.Outcome.{Outcome}
use Rattle.list_spec.specs.Perm.{Perm}
use Rattle.list_laws.specs.PermLaws.{perm-map}
use Rattle.list_spec.specs.Distinct.{All}
use Rattle.none_lost_laws.specs.Fitting.{LinkFits, NodeFits}
use Rattle.none_lost_laws.specs.AtHand.{pairs_of, AtHand}

-- The heights of a step's nodes, by that of the root link.
abbrev pub most_high : ℕ → ℕ
most_high h = 9 * h + 4

-- A step's nodes are those that it was given, but for what its answer says of the key; the answer is of its kind, and the root link in order.
pub record Yielded (k h key value : ℕ) (Kind : Answer → Type 0) (o : Outcome ℕ) (held : List (Node ℕ)) : Type 0 where
  pub kind : Kind o.answer
  pub nodes : AtHand k (most_high h) (taken_out key o.answer) (brought_in key value o.answer) o.nodes held
  pub root : LinkFits k (suc (most_high h)) o.root

-- The same of a step of any structure, as far as its entries are tracked.
pub record Made (s : Structure) (k h key value : ℕ) (Kind : Answer → Type 0) (o : Outcome ℕ) (held : List (Node ℕ)) : Type 0 where
  pub kind : Kind o.answer
  pub fit : All (NodeFits k (most_high h)) o.nodes
  pub whole : Perm (tracked_in s (taken_out key o.answer ++ pairs_of o.nodes)) (tracked_in s (brought_in key value o.answer ++ pairs_of held))
  pub root : LinkFits k (suc (most_high h)) o.root

pub yielded-made : (s : Structure) {k h key value : ℕ} {Kind : Answer → Type 0} {o : Outcome ℕ} {held : List (Node ℕ)}
    → Yielded k h key value Kind o held → Made s k h key value Kind o held
yielded-made s y =
    record { kind = y.kind; fit = y.nodes.fit; whole = perm-map (tracked s) y.nodes.whole; root = y.root }
