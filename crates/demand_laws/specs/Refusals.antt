-- Demand 1 but for the nodes: one reply, refusals 1 to 7, 17 and 19 that change nothing, and a store that stays closed.
use Rattle.std.specs.Prelude.{ℕ, ◌≤◌, ◌≡◌, refl, true, false, ◌⊎◌, List}
use Rattle.std.proofs.Common.{sym, ◌∙◌, ap, inl, inr, arith, ne_eqb}
use Rattle.method_spec.specs.Answer.{Answer, found, absent, replaced, new, removed, pushed, popped, added, taken, queued, dequeued, empty, full}
use Rattle.method_spec.specs.Rounds.{rounds}
use Rattle.bucket_call_spec.specs.Fetch.{CallLeft}
use Rattle.bucket_call_spec.specs.Call.{draw_of}
use Rattle.state_spec.specs.declared.State.{State}
use Rattle.state_spec.specs.Ticket.{structure_of}
use Rattle.call_spec.specs.Reply.{Refused}
use Rattle.call_spec.specs.Store.{Ended, called, refusing, replied, reply_of, store_of, checks, first_met, decided}
use Rattle.demand_spec.specs.History.{changes_nothing}
use Rattle.demand_laws.specs.Marks.{Ends, closes, answers, Closing, call_ends}
use Rattle.demand_laws.specs.Checks.{Later, Verdict, closed, unfit, other-tree, ill-brought, counts, left_by, verdict}
use Rattle.demand_spec.specs.Demands.{OneReply, Unchanged, StaysClosed}

false-is-not-true : false ≡ true → ⊥
false-is-not-true e = let z : ◌≡◌ {A = ℕ} 0 1 = cc in omega arith

pub same_number : {n m : ℕ} → Refused n ≡ Refused m → n ≡ m
same_number e = cc

-- An answer is refused only where the store is full.
pub full-number : (a : Answer) {n : ℕ} → reply_of a ≡ Refused n → n ≡ 10
unfolding reply_of
full-number (found v) e = cc
full-number absent e = cc
full-number (replaced v) e = cc
full-number new e = cc
full-number (removed v) e = cc
full-number pushed e = cc
full-number (popped v) e = cc
full-number added e = cc
full-number (taken v) e = cc
full-number queued e = cc
full-number (dequeued v) e = cc
full-number empty e = cc
full-number full e = cc

-- The number of a call that counts: 8 or 9, which is the mark then, or 10.
pub counted-number : (l : CallLeft) → Ends l → (n : ℕ) → replied l.mark l.answer ≡ Refused n → (Closing n × (l.mark ≡ n)) ⊎ (n ≡ 10)
unfolding replied
counted-number l (closes c e) n q = go c (same_number (ap (replied l.mark) (sym e) ∙ q))
  where
    go : Closing l.mark → l.mark ≡ n → (Closing n × (l.mark ≡ n)) ⊎ (n ≡ 10)
    go (inl m) r = inl (inl (sym r ∙ m), r)
    go (inr m) r = inl (inr (sym r ∙ m), r)
counted-number l (answers a m e) n q = inr (full-number a (ap (replied l.mark) (sym e) ∙ q))

module _ (s : State) (tree ticket tape trace : List ℕ) where
  -- What a refusal's number says of the call.
  data Says (n : ℕ) : Type 0 where
    early : ((1 ≤ n) × (n ≤ 7)) ⊎ Later n → called s tree ticket tape trace ≡ refusing n s tree trace → Says n
    late : Closing n → (called s tree ticket tape trace).state.mark ≡ n → Says n
    tenth : n ≡ 10 → Says n

  early-says : (m n : ℕ) → ((1 ≤ m) × (m ≤ 7)) ⊎ Later m → called s tree ticket tape trace ≡ refusing m s tree trace
      → (called s tree ticket tape trace).reply ≡ Refused n → Says n
  early-says m n h e r =
      let same : m ≡ n = same_number (ap (λ (x : Ended). x.reply) (sym e) ∙ r) in
      early (rw same at h) (e ∙ ap (λ (x : ℕ). refusing x s tree trace) same)

  says : (n : ℕ) → (called s tree ticket tape trace).reply ≡ Refused n → Says n
  says n r = go (verdict (structure_of s.structure) s tree ticket tape trace refl)
    where
      go : Verdict (structure_of s.structure) s tree ticket tape trace (called s tree ticket tape trace) → Says n
      go (closed h e) = early-says 1 n (inl (omega arith, omega arith)) e r
      go (unfit h e) = early-says 2 n (inl (omega arith, omega arith)) e r
      go (other-tree h e) = early-says 3 n (inl (omega arith, omega arith)) e r
      go (ill-brought m (inl h) e) = early-says m n (inl (omega arith, h.1)) e r
      go (ill-brought m (inr h) e) = early-says m n (inr h) e r
      go (counts fit sized op h keyed long e) =
          let l : CallLeft = left_by (structure_of s.structure) s tree ticket tape trace op in
          which (counted-number l (call_ends s.size (rounds (structure_of s.structure) s.size) op (draw_of s.size tape) (store_of s tree)) n
          (ap (λ (x : Ended). x.reply) (sym e) ∙ r))
        where
          which : (Closing n × ((left_by (structure_of s.structure) s tree ticket tape trace op).mark ≡ n)) ⊎ (n ≡ 10) → Says n
          which (inl x) = late x.0 (ap (λ (x : Ended). x.state.mark) e ∙ x.1)
          which (inr x) = tenth x

  -- ---- demand 1, but for the nodes

  pub one-reply : OneReply s tree ticket tape trace
  one-reply n r = go (says n r)
    where
      go : Says n → ((1 ≤ n) × (n ≤ 10)) ⊎ Later n
      go (early (inl h) e) = inl (h.0, omega arith)
      go (early (inr h) e) = inr h
      go (late (inl x) e) = inl (omega arith, omega arith)
      go (late (inr x) e) = inl (omega arith, omega arith)
      go (tenth x) = inl (omega arith, omega arith)

  -- 8, 9 and 10 are none of those that change nothing.
  changing : (n : ℕ) → (n ≡ 8) ⊎ ((n ≡ 9) ⊎ (n ≡ 10)) → changes_nothing n ≡ true → ⊥
  changing n (inl x) h = let f : changes_nothing 8 ≡ true = rw x at h in absurd (false-is-not-true f)
  changing n (inr (inl x)) h = let f : changes_nothing 9 ≡ true = rw x at h in absurd (false-is-not-true f)
  changing n (inr (inr x)) h = let f : changes_nothing 10 ≡ true = rw x at h in absurd (false-is-not-true f)

  pub unchanged : Unchanged s tree ticket tape trace
  unchanged n r h = go (says n r)
    where
      go : Says n → called s tree ticket tape trace ≡ refusing n s tree trace
      go (early h e) = e
      go (late (inl x) e) = absurd (changing n (inl x) h)
      go (late (inr x) e) = absurd (changing n (inr (inl x)) h)
      go (tenth x) = absurd (changing n (inr (inr x)) h)

-- A store whose mark is not 0 refuses with 1.
pub refused-closed : (s : State) (tree ticket tape trace : List ℕ) → (s.mark ≡ 0 → ⊥) → called s tree ticket tape trace ≡ refusing 1 s tree trace
unfolding called checks first_met decided
refused-closed s tree ticket tape trace h = rw (ne_eqb s.mark 0 h)

module _ (s : State) (tree ticket tape trace : List ℕ) where
  pub stays_closed : StaysClosed s tree ticket tape trace
  stays_closed n r c = go (says s tree ticket tape trace n r) c
    where
      after : (called s tree ticket tape trace).state.mark ≡ n → (n ≡ 8) ⊎ (n ≡ 9) → (called s tree ticket tape trace).state.mark ≡ 0 → ⊥
      after e (inl x) z = omega arith
      after e (inr x) z = omega arith

      go : Says s tree ticket tape trace n → (n ≡ 8) ⊎ (n ≡ 9)
          → ((called s tree ticket tape trace).state.mark ≡ n)
          × ((tree' ticket' tape' trace' : List ℕ)
          → called (called s tree ticket tape trace).state tree' ticket' tape' trace'
          ≡ refusing 1 (called s tree ticket tape trace).state tree' trace')
      go (early (inl h) e) (inl x) = let z : ⊥ = omega arith in absurd z
      go (early (inl h) e) (inr x) = let z : ⊥ = omega arith in absurd z
      go (early (inr (inl h)) e) (inl x) = let z : ⊥ = omega arith in absurd z
      go (early (inr (inl h)) e) (inr x) = let z : ⊥ = omega arith in absurd z
      go (early (inr (inr h)) e) (inl x) = let z : ⊥ = omega arith in absurd z
      go (early (inr (inr h)) e) (inr x) = let z : ⊥ = omega arith in absurd z
      go (late y e) x = (e, λ tree' ticket' tape' trace'. refused-closed (called s tree ticket tape trace).state tree' ticket' tape' trace' (after e x))
      go (tenth y) (inl x) = let z : ⊥ = omega arith in absurd z
      go (tenth y) (inr x) = let z : ⊥ = omega arith in absurd z
