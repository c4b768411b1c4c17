-- The held nodes where a call ends before its step, as the definition of a call has them: the link that was followed to each
-- carries that node's new tag.
use Rattle.std.specs.Prelude.{ℕ, ◌≡◌, List, [], ◌∷◌, map, length}
use Rattle.method_spec.specs.Node.{Link, Node}
use Rattle.method_spec.specs.Prog.{From, root}
use Rattle.bucket_call_spec.specs.Fetch as fetch
use Rattle.bucket_call_spec.specs.Fetch.{moved_link, moved_node, moved_nodes}
use Rattle.node_rows.specs.Row.{words, froms_in}
use Rattle.node_rows.specs.Held.{held_in, nodes_of}

-- Nodes, each with where the link to it stood.
unfoldable pub held_of : List From → List (Node ℕ) → List fetch.Held
held_of [] ns = []
held_of (f ∷ fs) [] = []
held_of (f ∷ fs) (n ∷ ns) = record { from = f; node = n } ∷ held_of fs ns

-- The first n nodes of a row, with where their links stood.
abbrev pub held_with : ℕ → (froms row : List ℕ) → List fetch.Held
held_with n froms row = held_of (froms_in n froms) (nodes_of (held_in row n))

-- One fetch.
abbrev pub fetch_of : From → Node ℕ → List fetch.Held
fetch_of f m = record { from = f; node = m } ∷ []

-- The first n nodes of a row after some fetches.
pub record LinksMoved (hs : List fetch.Held) (n : ℕ) (row row' : List ℕ) : Type 0 where
  pub nodes : nodes_of (held_in row' n) ≡ map (moved_node hs) (nodes_of (held_in row n))
  pub sized : length row' ≡ words

-- The held nodes and the root link after all fetches.
pub record TagsMoved (n : ℕ) (froms : List ℕ) (l : Link ℕ) (row row' : List ℕ) (l' : Link ℕ) : Type 0 where
  pub nodes : nodes_of (held_in row' n) ≡ moved_nodes (held_with n froms row)
  pub sized : length row' ≡ words
  pub link : l' ≡ moved_link (held_with n froms row) root l
