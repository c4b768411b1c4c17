-- How a call ends, on any tree content and any waiting nodes that a fit state has: no node is lost, whether it answers or closes the store.
use Rattle.std.specs.Prelude.{◌≡◌, ◌⊎◌, List, ◌++◌, ℕ, ◌*◌, ◌^◌, ◌≤◌, ◌<◌, length}
use Rattle.std.proofs.Common.{inl, inr, arith}
use Rattle.std.proofs.Math.Option.{none, some}
use Rattle.list_spec.specs.Perm.{Perm}
use Rattle.list_spec.specs.Distinct.{All}
use Rattle.balance_spec.specs.Greatest.{greatest}
use Rattle.method_spec.specs.Answer as answer
use Rattle.method_spec.specs.Answer.{Structure, Op, Answer}
use Rattle.method_spec.specs.Plain.{Pair}
use Rattle.round_spec.specs.Round.{stash_limit}
use Rattle.bucket_call_spec.specs.Fetch.{CallLeft}
use Rattle.bucket_call_spec.specs.Call.{Store}
use Rattle.round_spec.specs.Whole.{IsTree}
use Rattle.leaf_spec.specs.Leaf.{ProperLeaf}
use Rattle.leaf_laws.specs.Proper.{FitLink}
use Rattle.none_lost_laws.specs.Given.{RootFor}
use Rattle.method_spec.specs.Changes.{key_asked, value_asked, taken_out, brought_in, tracked_in, Answers}
use Rattle.none_lost_laws.specs.Sound.{entries_with, places_for}

-- ---- before a call
-- The height of a root link that a fit state may have.
unfoldable pub highest : Structure → ℕ → ℕ
highest answer.map k = greatest k
highest answer.stack k = 1
highest answer.heap k = 1
highest answer.queue k = 1

-- What a fit state and a lent tree give.
pub record FitStore (s : Structure) (k : ℕ) (st : Store) : Type 0 where
  pub is-tree : IsTree k st.tree
  pub proper : All (ProperLeaf k) st.waiting
  pub few : length st.waiting ≤ stash_limit
  pub root : FitLink k st.root
  pub low : st.root.height ≤ highest s k
  pub entries : st.entries < 2 ^ k
  pub rooted : RootFor s st.entries st.root
  pub ahead-tag : st.ahead.tag < 2 ^ k

abbrev pub entries_before : ℕ → Store → List Pair
entries_before k st = entries_with k st.tree st.waiting

-- The key that a ticket is about.
abbrev pub key_of : {s : Structure} → Op s → Store → ℕ
key_of op st = key_asked op st.entries st.ahead.key st.root

abbrev pub entries_left : ℕ → CallLeft → List Pair
entries_left k l = entries_with k l.tree l.waiting

-- ---- what a call leaves
-- The entries are these; and what is left is a tree, proper nodes that there are places for, and a root link in order.
pub record Keeps (k : ℕ) (all : List Pair) (l : CallLeft) : Type 0 where
  pub is-tree : IsTree k l.tree
  pub proper : All (ProperLeaf k) l.waiting
  pub room : length l.waiting ≤ places_for k
  pub root : FitLink k l.root
  pub leaves : All (λ t. t < 2 ^ k) l.leaves
  pub whole : Perm all (entries_left k l)

-- A state's places are enough.
pub keeps-room : {k : ℕ} {all : List Pair} {l : CallLeft} → k ≤ 8 → Keeps k all l → length l.waiting ≤ 101
keeps-room small keeps = omega (arith, keeps.room)

-- The store was closed, by damage or overflow; at most so many leaves were revealed.
pub record Closed (shown : ℕ) (l : CallLeft) : Type 0 where
  pub mark : (l.mark ≡ 8) ⊎ (l.mark ≡ 9)
  pub answer : l.answer ≡ none
  pub leaves : length l.leaves ≤ shown

-- The call answered; so many leaves were revealed, and at most 64 nodes wait.
pub record Answered (shown : ℕ) (a : Answer) (l : CallLeft) : Type 0 where
  pub mark : l.mark ≡ 0
  pub answer : l.answer ≡ some a
  pub leaves : length l.leaves ≡ shown
  pub few : length l.waiting ≤ stash_limit

-- The step changed the entries as its answer a says, and then the store was closed, or a was answered.
pub record StepEnds {s : Structure} (k F : ℕ) (op : Op s) (st : Store) (a : Answer) (now : List Pair) (l : CallLeft) : Type 0 where
  pub kind : Answers op a
  pub changed : Perm (tracked_in s (taken_out (key_of op st) a ++ now)) (tracked_in s (brought_in (key_of op st) (value_asked op) a ++ entries_before k st))
  pub keeps : Keeps k now l
  pub ended : Closed (2 * F) l ⊎ Answered (2 * F) a l

-- A call with F fetch and F put rounds: it closed the store before the step, with the entries as before; or it came to the step.
pub data Ends {s : Structure} (k F : ℕ) (op : Op s) (st : Store) (l : CallLeft) : Type 0 where
  before-step : Closed F l → Keeps k (entries_before k st) l → Ends k F op st l
  after-step : (a : Answer) (now : List Pair) → StepEnds k F op st a now l → Ends k F op st l

-- ---- what follows for each mark
not-closed : {n : ℕ} {l : CallLeft} → Closed n l → l.mark ≡ 0 → ⊥
not-closed {l = l} c unmarked = go c.mark
  where
    go : (l.mark ≡ 8) ⊎ (l.mark ≡ 9) → ⊥
    go (inl e) = omega arith
    go (inr e) = omega arith

module _ {s : Structure} {k F : ℕ} {op : Op s} {st : Store} {l : CallLeft} where
  -- The mark is 0, or 8, or 9.
  pub ends-mark : Ends k F op st l → (l.mark ≡ 0) ⊎ ((l.mark ≡ 8) ⊎ (l.mark ≡ 9))
  ends-mark (before-step c keeps) = inr c.mark
  ends-mark (after-step a now e) = go e.ended
    where
      go : Closed (2 * F) l ⊎ Answered (2 * F) a l → (l.mark ≡ 0) ⊎ ((l.mark ≡ 8) ⊎ (l.mark ≡ 9))
      go (inl c) = inr c.mark
      go (inr r) = inl r.mark

  pub ends-leaves : Ends k F op st l → length l.leaves ≤ 2 * F
  ends-leaves (before-step c keeps) = omega arith
  ends-leaves (after-step a now e) = go e.ended
    where
      go : Closed (2 * F) l ⊎ Answered (2 * F) a l → length l.leaves ≤ 2 * F
      go (inl c) = c.leaves
      go (inr r) = omega arith

  -- The nodes are proper and have places, and the tree is a tree.
  pub ends-kept : Ends k F op st l → (now : List Pair) × Keeps k now l
  ends-kept (before-step c keeps) = (entries_before k st, keeps)
  ends-kept (after-step a now e) = (now, e.keeps)

  -- A store that stays open has an answer.
  pub ends_open : Ends k F op st l → l.mark ≡ 0 → (a : Answer) × (now : List Pair) × StepEnds k F op st a now l × Answered (2 * F) a l
  ends_open (before-step c keeps) unmarked = absurd (not-closed c unmarked)
  ends_open (after-step a now e) unmarked = (a, now, e, go e.ended)
    where
      go : Closed (2 * F) l ⊎ Answered (2 * F) a l → Answered (2 * F) a l
      go (inl c) = absurd (not-closed c unmarked)
      go (inr r) = r
