-- What the first call of a list adds to it: one refused with 1 to 7, 17 or 19 nothing, one that counts its reply and its leaves. A closed store
-- refuses all calls.
use Rattle.std.specs.Prelude.{ℕ, ◌≡◌, true, false, length, take, drop}
use Rattle.std.proofs.Math.Path.{refl}
use Rattle.std.proofs.Common.{◌∙◌, ap, inl, inr}
use mathlib.Core.List.{List, [], ◌∷◌, ◌++◌}
use Rattle.method_spec.specs.Answer.{Answer, found, absent, replaced, new, removed, pushed, popped, added, taken, queued, dequeued, empty, full}
use Rattle.bucket_call_spec.specs.Fetch.{CallLeft}
use Rattle.call_spec.specs.Store.{state_left, refusing, ending, replied, reply_of}
use Rattle.demand_spec.specs.History.{Brought, StateAndTree, call_on, history, finally, changes_nothing, early, counted, replies, trace_of}
use Rattle.demand_laws.specs.Marks.{Ends, closes, answers}
use Rattle.demand_laws.specs.Refusals.{refused-closed}

-- ---- a first call that is refused so that it changes nothing

abbrev pub Refuses : StateAndTree → Brought → ℕ → Type 0
Refuses s b n = call_on s b ≡ refusing n s.state s.tree b.trace

module _ (s : StateAndTree) (b : Brought) (bs : List Brought) (n : ℕ) (early-number : changes_nothing n ≡ true) (e : Refuses s b n) where
  pub early-finally : finally s (b ∷ bs) ≡ finally s bs
  unfolding finally
  early-finally = rw e

  pub early-history : history s (b ∷ bs) ≡ refusing n s.state s.tree b.trace ∷ history s bs
  unfolding history
  early-history = rw e

  pub early-counted : counted s (b ∷ bs) ≡ counted s bs
  unfolding counted early
  early-counted = rw (e, early-number)

  pub early-replies : replies (history s (b ∷ bs)) ≡ replies (history s bs)
  unfolding replies early
  early-replies = rw (early-history, early-number)

  pub early-trace : trace_of (history s (b ∷ bs)) ≡ trace_of (history s bs)
  unfolding trace_of
  early-trace = rw early-history

-- ---- a first call that counts

answer-late : (a : Answer) → early (reply_of a) ≡ false
unfolding reply_of early
answer-late (found v) = refl
answer-late absent = refl
answer-late (replaced v) = refl
answer-late new = refl
answer-late (removed v) = refl
answer-late pushed = refl
answer-late (popped v) = refl
answer-late added = refl
answer-late (taken v) = refl
answer-late queued = refl
answer-late (dequeued v) = refl
answer-late empty = refl
answer-late full = refl

-- The rounds' reply is an answer, or 8, 9 or 10.
pub rounds-late : (l : CallLeft) → Ends l → early (replied l.mark l.answer) ≡ false
unfolding replied early
rounds-late l (closes (inl m) e) = rw (m, e)
rounds-late l (closes (inr m) e) = rw (m, e)
rounds-late l (answers a m e) = rw e (answer-late a)

pub first_part : {A : Type 0} (xs ys : List A) → take (length xs) (xs ++ ys) ≡ xs
first_part [] ys = refl
first_part {A} (x ∷ xs) ys = ap {B = List A} (λ zs. x ∷ zs) (first_part xs ys)

-- The store after a call whose rounds left that.
abbrev pub next : StateAndTree → Brought → CallLeft → StateAndTree
next s b l = record { state = state_left s.state l; tree = l.tree }

module _ (s : StateAndTree) (b : Brought) (bs : List Brought) (l : CallLeft) (ends : Ends l) {peak : ℕ} (e : call_on s b ≡ ending s.state b.trace l peak) where
  pub late-finally : finally s (b ∷ bs) ≡ finally (next s b l) bs
  unfolding finally
  late-finally = rw e

  pub late-history : history s (b ∷ bs) ≡ ending s.state b.trace l peak ∷ history (next s b l) bs
  unfolding history
  late-history = rw e

  pub late-counted : counted s (b ∷ bs) ≡ b ∷ counted (next s b l) bs
  unfolding counted
  late-counted = rw (e, rounds-late l ends)

  pub late-replies : replies (history s (b ∷ bs)) ≡ replied l.mark l.answer ∷ replies (history (next s b l) bs)
  unfolding replies
  late-replies = rw (late-history, rounds-late l ends)

  pub late-trace : trace_of (history s (b ∷ bs)) ≡ l.leaves ++ trace_of (history (next s b l) bs)
  unfolding trace_of
  late-trace = rw (late-history, first_part l.leaves (drop (length l.leaves) b.trace))

-- ---- a closed store

module _ (s : StateAndTree) (shut : s.state.mark ≡ 0 → ⊥) where
  pub closed-call : (b : Brought) → Refuses s b 1
  closed-call b = refused-closed s.state s.tree b.ticket b.tape b.trace shut

  pub closed-finally : (bs : List Brought) → finally s bs ≡ s
  unfolding finally
  closed-finally [] = refl
  closed-finally (b ∷ bs) = early-finally s b bs 1 refl (closed-call b) ∙ closed-finally bs

  pub closed-counted : (bs : List Brought) → counted s bs ≡ []
  unfolding counted
  closed-counted [] = refl
  closed-counted (b ∷ bs) = early-counted s b bs 1 refl (closed-call b) ∙ closed-counted bs

  pub closed-replies : (bs : List Brought) → replies (history s bs) ≡ []
  unfolding replies history
  closed-replies [] = refl
  closed-replies (b ∷ bs) = early-replies s b bs 1 refl (closed-call b) ∙ closed-replies bs

  pub closed-trace : (bs : List Brought) → trace_of (history s bs) ≡ []
  unfolding trace_of history
  closed-trace [] = refl
  closed-trace (b ∷ bs) = early-trace s b bs 1 refl (closed-call b) ∙ closed-trace bs
