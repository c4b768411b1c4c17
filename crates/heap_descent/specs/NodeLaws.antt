-- A node with another link.
use Rattle.std.specs.Prelude.{ℕ, ◌≡◌, refl, Bool, true, false}
use Rattle.method_spec.specs.Node.{Link, Node, with_child, link_one}

-- A link changes nothing else of its node.
pub link-kept : (s : Bool) (n : Node ℕ) (l : Link ℕ) → link_one (with_child s n l) ≡ link_one n
link-kept true n l = refl
link-kept false n l = refl

pub value-kept : (s : Bool) (n : Node ℕ) (l : Link ℕ) → (with_child s n l).value ≡ n.value
value-kept true n l = refl
value-kept false n l = refl
