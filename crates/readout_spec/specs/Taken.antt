-- Which nodes are taken, and what is left out.
use Rattle.std.specs.Prelude.{ℕ, List, [], ◌∷◌, ◌++◌, map, eqb}
use Rattle.list_spec.specs.Choice.{pick}
use Rattle.list_spec.specs.Sorting.{sort_by}
use Rattle.slot_spec.specs.Tree.{among}
use Rattle.slot_spec.specs.declared.Reading.{Reading}
use Rattle.slot_spec.specs.declared.Reading.TheVariants.{Full, Empty, Bad}
use Rattle.method_spec.specs.Plain.{Pair}
use Rattle.state_spec.specs.declared.State.{State}
use Rattle.readout_spec.specs.Seen.{Seen, slots_seen, waiting_seen}

-- A good node: its key and value, and where it is.
pub record Entry : Type 0 where
  pub place : ℕ
  pub key : ℕ
  pub value : ℕ

-- Without its place: what a file says of it.
abbrev pub pair_of_entry : Entry → Pair
pair_of_entry e = record { key = e.key; value = e.value }

unfoldable pub good_at : ℕ → Reading → List Entry
good_at place (Full n) = record { place = place; key = n.key; value = n.value } ∷ []
good_at place Empty = []
good_at place Bad = []

-- The good nodes: "Bad slots are skipped".
unfoldable pub good_in : List Seen → List Entry
good_in [] = []
good_in (s ∷ ss) = good_at s.place s.reading ++ good_in ss

-- Those with another key, and of each key the first.
unfoldable pub others : ℕ → List Entry → List Entry
others key [] = []
others key (e ∷ es) = pick (eqb key e.key) (others key es) (e ∷ others key es)

unfoldable pub firsts : List Entry → List Entry
firsts [] = []
firsts (e ∷ es) = e ∷ others e.key (firsts es)

-- "Of a repeated key the first waiting one is taken, else the lowest place in the tree": so the waiting ones come first here.
abbrev pub good : State → List ℕ → List Entry
good s tree = good_in (waiting_seen s ++ slots_seen s tree)

-- "ascending by key"
abbrev pub entries : State → List ℕ → List Entry
entries s tree = sort_by (λ (e : Entry). e.key) (firsts (good s tree))

-- ---- the report
-- A node or slot that is left out: "a reason byte, 1 bad or 2 repeated".
pub record Omitted : Type 0 where
  pub place : ℕ
  pub reason : ℕ

abbrev pub is_bad : ℕ
is_bad = 1

abbrev pub is_repeated : ℕ
is_repeated = 2

-- What is reported of a place, by the places of the nodes that are taken.
unfoldable pub omitted_at : List ℕ → ℕ → Reading → List Omitted
omitted_at taken place (Full n) = pick (among place taken) [] (record { place = place; reason = is_repeated } ∷ [])
omitted_at taken place Empty = []
omitted_at taken place Bad = record { place = place; reason = is_bad } ∷ []

unfoldable pub omitted_in : List ℕ → List Seen → List Omitted
omitted_in taken [] = []
omitted_in taken (s ∷ ss) = omitted_at taken s.place s.reading ++ omitted_in taken ss

-- "ascending by place": the tree's places come before the waiting ones'.
abbrev pub report : State → List ℕ → List Omitted
report s tree = omitted_in (map (λ (e : Entry). e.place) (entries s tree)) (slots_seen s tree ++ waiting_seen s)
