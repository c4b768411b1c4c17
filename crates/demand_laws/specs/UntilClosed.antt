-- A list of calls from a good opening, up to the call that closed the store, and that call.
use Rattle.std.specs.Prelude.{ℕ, ◌≤◌, ◌≡◌, refl, Bool, true, false, ◌⊎◌, List, [], ◌∷◌, ◌++◌, eqb, length, drop}
use Rattle.std.proofs.Common.{sym, ◌∙◌, ap, inl, inr, append-nil, mod-lt, arith, pow_pos, eqb-true}
use Rattle.std.proofs.Math.Path.{subst⁻¹, subst₂}
use mathlib.Core.List.Memᴰ
use Rattle.std.proofs.Math.Option.{some}
use Rattle.std.proofs.lemmas.Bool.{eqb-false}
use Rattle.list_spec.specs.Choice.{pick}
use Rattle.list_spec.specs.Distinct.{All}
use Rattle.list_laws.specs.DistinctLaws.{all_left, all_right}
use Rattle.slot_spec.specs.LittleEndian.{Bytes}
use Rattle.slot_spec.specs.Tree.{tree_length}
use Rattle.method_spec.specs.Answer.{Structure, Op}
use Rattle.method_spec.specs.Plain.{Pair, Contents, nothing, plain, plain_contents, Entries}
use Rattle.method_spec.specs.Outcome.{Outcome}
use Rattle.method_spec.specs.Rounds.{rounds}
use Rattle.method_spec.specs.Call.{capacity, Memory, Called, call}
use Rattle.method_laws.specs.Represented.{Held}
use Rattle.bucket_call_spec.specs.Fetch.{CallLeft, Round}
use Rattle.bucket_call_spec.specs.Call.{Store, draw_of, fetched_by}
use Rattle.leaf_spec.specs.Entries.{OpFits, KeyLeft}
use Rattle.simulation_laws.specs.Entries.{held-entries, entries-perm}
use Rattle.simulation_laws.specs.ProperCall.{call-held}
use Rattle.bucket_call_spec.specs.Simulates.{Simulates, Remains, as_before, as-after}
use Rattle.simulation_laws.specs.Relation.{store_entries, Matches, Overflowed}
use Rattle.simulation_laws.specs.Relation as relation
use Rattle.simulation_laws.specs.CallSim.{simulate}
use Rattle.state_spec.specs.Ticket.{op_in}
use Rattle.call_spec.specs.Reply.{Refused}
use Rattle.call_spec.specs.Store.{Ended, ending as roundsEnd, replied}
use Rattle.demand_spec.specs.History.{Brought, StateAndTree, call_on, left_by, finally, until_closed, trace_of, pairs_in}
use Rattle.demand_laws.specs.Refusals.{stays_closed}
use Rattle.demand_laws.specs.HistorySteps.{first_part, closed-finally}
use Rattle.demand_spec.specs.Demands.{opened_store, method, before, asked, left, ClosedBy, Ending, stays_open, closes}
use Rattle.demand_laws.specs.OpenStates.{state_of, kept_of, store-back}
use Rattle.demand_laws.specs.NoneLost.{pairs-left}
use Rattle.demand_laws.specs.Fresh.{opened-empty}
use Rattle.demand_laws.specs.ListSteps.{leaving, peaking, Step, refused, runs, step}
use Rattle.demand_laws.specs.OpenedRuns.{method-held, matches, left-store}

-- ---- lists of calls

finally-append : (s : StateAndTree) (xs ys : List Brought) → finally s (xs ++ ys) ≡ finally (finally s xs) ys
unfolding finally
finally-append s [] ys = refl
finally-append s (x ∷ xs) ys = finally-append (left_by (call_on s x)) xs ys

-- A call that met 9 set the mark, and the store stays as that call left it.
closing-mark : (s : StateAndTree) (b : Brought) → (call_on s b).reply ≡ Refused 9 → (call_on s b).state.mark ≡ 9
closing-mark s b r = (stays_closed s.state s.tree b.ticket b.tape b.trace 9 r (inr refl)).0

pub closed_at : (s : StateAndTree) (xs : List Brought) (b : Brought) (after : List Brought) → (call_on (finally s xs) b).reply ≡ Refused 9
    → finally s (xs ++ (b ∷ after)) ≡ left_by (call_on (finally s xs) b)
unfolding finally
closed_at s xs b after r =
    let m = closing-mark (finally s xs) b r in
    finally-append s xs (b ∷ after) ∙ closed-finally (left_by (call_on (finally s xs) b)) (λ z. omega arith) after

-- The calls before the one that closed an open store left it open.
until_open : (s : StateAndTree) (bs : List Brought) → s.state.mark ≡ 0 → (finally s (until_closed s bs)).state.mark ≡ 0
unfolding until_closed finally
until_open s [] m = m
until_open s (b ∷ bs) m = go (eqb (call_on s b).state.mark 0) refl (until_open (left_by (call_on s b)) bs)
  where
    go : (same : Bool) → eqb (call_on s b).state.mark 0 ≡ same
        → ((call_on s b).state.mark ≡ 0 → (finally s (b ∷ until_closed (left_by (call_on s b)) bs)).state.mark ≡ 0)
        → (finally s (pick same (b ∷ until_closed (left_by (call_on s b)) bs) [])).state.mark ≡ 0
    go true e later = later (eqb-true (call_on s b).state.mark 0 e)
    go false e later = m

-- The first calls of a list are all of them, or the next one closed the store.
data Split (s : StateAndTree) (bs xs : List Brought) : Type 0 where
  whole : xs ≡ bs → Split s bs xs
  next : (b : Brought) (after : List Brought) → bs ≡ xs ++ (b ∷ after) → ((call_on (finally s xs) b).state.mark ≡ 0 → ⊥) → Split s bs xs

split-cons : (s : StateAndTree) (b : Brought) {bs xs : List Brought} → Split (left_by (call_on s b)) bs xs → Split s (b ∷ bs) (b ∷ xs)
unfolding finally
split-cons s b (whole e) = whole (ap (λ (ys : List Brought). b ∷ ys) e)
split-cons s b (next c after e shut) = next c after (ap (λ (ys : List Brought). b ∷ ys) e) shut

split : (s : StateAndTree) (bs : List Brought) → Split s bs (until_closed s bs)
unfolding until_closed finally
split s [] = whole refl
split s (b ∷ bs) = go (eqb (call_on s b).state.mark 0) refl (split-cons s b (split (left_by (call_on s b)) bs))
  where
    go : (same : Bool) → eqb (call_on s b).state.mark 0 ≡ same → Split s (b ∷ bs) (b ∷ until_closed (left_by (call_on s b)) bs)
        → Split s (b ∷ bs) (pick same (b ∷ until_closed (left_by (call_on s b)) bs) [])
    go true e later = later
    go false e later = next b bs refl (eqb-false (call_on s b).state.mark 0 e)

-- ---- the call that closes the store

-- What follows of the pairs left, in either case.
pub remains-of : {Before After Before' After' : List Pair → Type 0} {ps qs : List Pair} {x : Round (Outcome ℕ)}
    → (Before ps → Before' qs) → (After ps → After' qs) → Remains Before After ps x → Remains Before' After' qs x
remains-of p q (as_before g h) = as_before g (p h)
remains-of p q (as-after g o h) = as-after g o (q h)

module _ (st : Structure) (k : ℕ) (s : Store) (m : Memory ℕ) (b : Brought) where
  abbrev here : StateAndTree
  here = kept_of st k s

  -- What the rounds leave, what the method's call does, and where the fetch rounds come to.
  abbrev l : Op st → CallLeft
  l op = leaving st k s b op

  abbrev r : Op st → Called ℕ
  r op = call 0 (rounds st k) (capacity k) op (draw_of k b.tape) m

  abbrev came : Op st → Store → Round (Outcome ℕ)
  came op x = fetched_by k (rounds st k) op (draw_of k b.tape) x

  -- The call came to its rounds and met overflow.
  pub record Overflows : Type 0 where
    pub op : Op st
    pub asks : op_in st b.ticket ≡ some op
    pub fits : OpFits op
    pub keyed : KeyLeft op s.ahead.key
    pub ends : call_on here b ≡ roundsEnd (state_of st k s) b.trace (l op) (peaking st k s b op)
    pub overflow : Overflowed k m (came op s) (l op) (r op)

  -- The pairs that it left.
  pub overflow-pairs : (x : Overflows) → pairs_in (call_on here b).state (call_on here b).tree ≡ store_entries k (relation.left_by (l x.op))
  overflow-pairs x = ap (λ (y : Ended). pairs_in y.state y.tree) x.ends ∙ pairs-left (state_of st k s) (l x.op)

  module _ (positive : 1 ≤ k) (small : k ≤ 8) (sim : Simulates k s m) (t : Contents st) (held : Held 0 st (capacity k) t m) where
    -- A call that closes the store is such a one.
    pub overflows : Bytes b.ticket → ((call_on here b).state.mark ≡ 0 → ⊥) → Overflows
    overflows bytes shut = go (step st k positive small s m sim t held b bytes)
      where
        in-rounds : (op : Op st) → op_in st b.ticket ≡ some op → OpFits op → KeyLeft op s.ahead.key → call_on here b ≡ roundsEnd (state_of st k s) b.trace (l op) (peaking st k s b op)
            → Overflowed k m (came op s) (l op) (r op) ⊎ Matches k (l op) (r op) → Overflows
        in-rounds op asks fits keyed e (inl x) = record { op = op; asks = asks; fits = fits; keyed = keyed; ends = e; overflow = x }
        in-rounds op asks fits keyed e (inr x) = absurd (shut (ap (λ (y : Ended). y.state.mark) e ∙ x.mark))

        go : Step st k s b → Overflows
        go (refused n ill e) = absurd (shut (ap (λ (y : Ended). y.state.mark) e))
        go (runs op asks fits keyed e) =
            in-rounds op asks fits keyed e
            (simulate k positive (omega arith) t m held s sim op fits (rw (← sim.ahead) keyed) (draw_of k b.tape) (λ d. mod-lt _ (pow_pos k)))

    -- It closed the store as demand 2 says.
    overflow-closes : Overflows → ClosedBy st k here m t b
    unfolding trace_of replied
    overflow-closes x =
        let op = x.op in
        let y = x.overflow in
        let leaves = (l op).leaves in
        record {
          op = op;
          asks = x.asks;
          overflow = rw (x.ends, y.mark, y.answer);
          rest = y.rest;
          reveals = rw (x.ends, first_part leaves (drop (length leaves) b.trace), append-nil) y.leaves;
          contents =
              subst₂ (Remains (Entries st t) (Entries st (plain (capacity k) op t).contents)) (sym (overflow-pairs x))
              (sym (ap (came op) (store-back st k s)))
              (remains-of (λ p. entries-perm st t p (held-entries 0 st (capacity k) t m held))
              (λ p. entries-perm st _ p (held-entries 0 st (capacity k) _ (r op).memory (call-held k (omega arith) t m held op (draw_of k b.tape))))
              y.nothing-lost);
        }

-- ---- from a good opening

module _ (st : Structure) (k : ℕ) (positive : 1 ≤ k) (small : k ≤ 8) (tree : List ℕ) (sized : length tree ≡ tree_length k)
    (bs : List Brought) (bytes : All (λ b. Bytes b.ticket) bs) where
  abbrev start : StateAndTree
  start = opened_store st k tree

  abbrev first : List Brought
  first = before st k tree bs

  pub before-open : (finally start first).state.mark ≡ 0
  before-open = until_open start bs (ap (λ (s : StateAndTree). s.state.mark) (opened-empty st k positive small tree sized))

  pub before-bytes : All (λ b. Bytes b.ticket) first
  before-bytes = go (split start bs)
    where
      go : Split start bs first → All (λ b. Bytes b.ticket) first
      go (whole e) = rw e bytes
      go (next b after e shut) = all_left {P = λ b. Bytes b.ticket} (b ∷ after) (rw e at bytes)

  abbrev memory : Memory ℕ
  memory = (method st k start first).memory

  abbrev holds : Contents st
  holds = plain_contents (capacity k) (asked st k tree bs) (nothing st)

  -- What holds of each store that keeps that memory holds of the store left.
  pub of_left : (P : StateAndTree → Type 0) → ((s : Store) → Simulates k s memory → P (kept_of st k s)) → P (left st k tree bs)
  of_left P h =
      subst⁻¹ P (left-store st k positive small tree sized first before-bytes before-open)
      (h _ (matches st k positive small tree sized first before-bytes before-open).simulates)

  closed-by : (b : Brought) → Bytes b.ticket → ((call_on (left st k tree bs) b).state.mark ≡ 0 → ⊥)
      → ClosedBy st k (left st k tree bs) memory holds b
  closed-by b ticket =
      let held = method-held st k positive small tree sized first before-bytes in
      of_left (λ s. ((call_on s b).state.mark ≡ 0 → ⊥) → ClosedBy st k s memory holds b)
      (λ s sim shut. overflow-closes st k s memory b positive small sim holds held
      (overflows st k s memory b positive small sim holds held ticket shut))

  pub ending : Ending st k tree bs
  ending = go (split start bs)
    where
      go : Split start bs first → Ending st k tree bs
      go (whole e) = stays_open e (rw e at before-open)
      go (next b after e shut) =
          let ticket : Bytes b.ticket = all_right {P = λ b. Bytes b.ticket} first (rw e at bytes) b (Memᴰ.head refl) in
          let by = closed-by b ticket shut in
          closes b after e (rw (e, closed_at start first b after by.overflow) (closing-mark (left st k tree bs) b by.overflow)) by
