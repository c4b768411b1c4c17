-- What a call's step leaves, whatever the structure.
use Rattle.std.specs.Prelude.{ℕ, List}
use Rattle.method_spec.specs.Node.{Link, Node}
use Rattle.method_spec.specs.Answer.{Answer}

-- What a step makes of the fetched nodes: the nodes that wait again, the root link, the entries and the answer.
pub record Outcome (T : Type 0) : Type 0 where
  pub nodes : List (Node T)
  pub root : Link T
  pub entries : ℕ
  pub answer : Answer
