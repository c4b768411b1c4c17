-- Document 02, change 8: for a ticket whose unused fields are zero every call is as before, every byte; another one is refused with 19 where the
-- checks before 19 let it pass, and as before where they do not; and what the program writes of a ticket is answered as the ticket was. For any state, tree,
-- ticket, tape and trace buffer.
use Rattle.std.specs.Prelude.{ℕ, ◌≡◌, true, List, [], ◌∷◌, map, eqb, length}
use Rattle.std.proofs.Math.Path.{refl, ap}
use Rattle.std.proofs.Common.{sym, ◌∙◌, inl, inr, arith}
use Rattle.std.proofs.Math.Bool.{false}
use Rattle.std.proofs.Math.Option.{Option, some}
use borrow.Author.Tests.{eqb-true, eq-eqb, not-false}
use Rattle.slot_spec.specs.Tree.{tree_length}
use Rattle.method_spec.specs.Answer.{Structure, Op}
use Rattle.state_spec.specs.declared.State.{State}
use Rattle.state_spec.specs.Fit.{fits}
use Rattle.state_spec.specs.Ticket.{ticket_length, op_in, structure_of, stray_fields}
use Rattle.call_spec.specs.Store.{Ended, refusing, by_rounds, asks_nothing, checks, first_met, decided, called}
use Rattle.lent_bytes_spec.specs.Numbers.{numbers_of}
use Rattle.lent_bytes_spec.specs.StateBytes.{state_in}
use Rattle.host_spec.specs.Host.{host_called}
use Rattle.demand_spec.specs.History.{Brought, StateAndTree, left_by, history}
use Rattle.ticket_copy_spec.specs.Copy.{ticket_copy}
use Rattle.ticket_copy_laws.specs.CopyLaws.{copy-length, copy-clean, copy-asks}
use Rattle.promise_spec.specs.AsBefore.{without, called_before_unused_fields}
use Rattle.promise_spec.specs.UnusedFields.{checked_before, Heard, Comes, same, nineteen, earlier_on, earlier_history, copied_ticket, earlier_host_called}
use Rattle.check_laws.specs.Causes.{met_of, none-met}
use Rattle.check_laws.specs.Decided.{causes}
use Rattle.unused_field_laws.specs.Without.{Either, first-is, left_out, either_way}

module _ (s : State) (tree ticket tape trace : List ℕ) where
  abbrev st : Structure
  st = structure_of s.structure

  -- A call by the first of its causes, whichever are asked about.
  abbrev by : Option ℕ → Ended
  by first = decided (λ n. refusing n s tree trace) (λ op. by_rounds st op s tree tape trace) first (op_in st ticket)

  stray-is : met_of 19 (causes s tree ticket tape trace) ≡ stray_fields ticket
  unfolding checks
  stray-is = refl

  -- Where leaving 19 out leaves the first cause, the call is as before.
  same_first : first_met (causes s tree ticket tape trace) ≡ first_met (without 19 (causes s tree ticket tape trace))
      → called s tree ticket tape trace ≡ called_before_unused_fields s tree ticket tape trace
  unfolding called called_before_unused_fields
  same_first e = ap by e

  -- ---- unused fields that are zero
  pub as_before : stray_fields ticket ≡ false → called s tree ticket tape trace ≡ called_before_unused_fields s tree ticket tape trace
  as_before clean = same_first (left_out 19 (causes s tree ticket tape trace) (stray-is ∙ clean))

  -- ---- an unused field that is not zero
  -- Where the checks before 19 let the call pass, it is refused with 19.
  pub stray-refused : Heard s tree ticket tape trace → stray_fields ticket ≡ true → called s tree ticket tape trace ≡ refusing 19 s tree trace
  unfolding called decided
  stray-refused heard strays = ap by (first-is 19 (causes s tree ticket tape trace) heard (stray-is ∙ strays))

  -- The checks before 19 are 1 to 5: what lets a call pass them.
  pub heard : s.mark ≡ 0 → fits s ≡ true → length tree ≡ tree_length s.size → length ticket ≡ ticket_length → (op : Op st) → op_in st ticket ≡ some op
      → Heard s tree ticket tape trace
  unfolding checks checked_before first_met
  heard not-closed fit tree-sized ticket-sized op asked =
      rw (
        eq-eqb s.mark 0 not-closed,
        fit,
        eq-eqb (length tree) (tree_length s.size) tree-sized,
        eq-eqb (length ticket) ticket_length ticket-sized,
        asked,
      )

  -- And what they make sure of.
  pub heard-so : Heard s tree ticket tape trace
      → (s.mark ≡ 0) × (fits s ≡ true) × (length tree ≡ tree_length s.size) × (length ticket ≡ ticket_length) × (asks_nothing (op_in st ticket) ≡ false)
  unfolding checks checked_before
  heard-so h =
      let passed : (n : ℕ) → met_of n (checked_before 19 (causes s tree ticket tape trace)) ≡ false = λ n. none-met n (checked_before 19 (causes s tree ticket tape trace)) h in (
        eqb-true s.mark 0 (not-false (eqb s.mark 0) (passed 1)),
        not-false (fits s) (passed 2),
        eqb-true (length tree) (tree_length s.size) (not-false (eqb (length tree) (tree_length s.size)) (passed 3)),
        eqb-true (length ticket) ticket_length (not-false (eqb (length ticket) ticket_length) (passed 4)),
        passed 5,
      )

  -- And only then is a call other than before.
  pub either : Comes s tree ticket tape trace (called s tree ticket tape trace) (called_before_unused_fields s tree ticket tape trace)
  either = go (either_way 19 (causes s tree ticket tape trace))
    where
      go : Either 19 (causes s tree ticket tape trace) → Comes s tree ticket tape trace (called s tree ticket tape trace) (called_before_unused_fields s tree ticket tape trace)
      go (inl e) = same (same_first e)
      go (inr h) = nineteen h.0 (sym stray-is ∙ h.1) (stray-refused h.0 (sym stray-is ∙ h.1))

  -- ---- a copied ticket
  -- The call of before asks of a copy what it asks of the ticket.
  copy-before : called_before_unused_fields s tree (ticket_copy ticket) tape trace ≡ called_before_unused_fields s tree ticket tape trace
  unfolding called_before_unused_fields checks without
  copy-before = rw (copy-length ticket, copy-asks st ticket)

-- A copy is heard only where it is whole, and then its unused fields are zero.
copy-quiet : (s : State) (tree ticket tape trace : List ℕ) → Heard s tree (ticket_copy ticket) tape trace → stray_fields (ticket_copy ticket) ≡ false
copy-quiet s tree ticket tape trace h = copy-clean ticket (sym (copy-length ticket) ∙ (heard-so s tree (ticket_copy ticket) tape trace h).3)

-- What the program writes of a ticket is answered as the store of before answered the ticket.
pub copy-answered : (s : State) (tree ticket tape trace : List ℕ)
    → called s tree (ticket_copy ticket) tape trace ≡ called_before_unused_fields s tree ticket tape trace
copy-answered s tree ticket tape trace = go (either s tree (ticket_copy ticket) tape trace)
  where
    go : Comes s tree (ticket_copy ticket) tape trace (called s tree (ticket_copy ticket) tape trace) (called_before_unused_fields s tree (ticket_copy ticket) tape trace)
        → called s tree (ticket_copy ticket) tape trace ≡ called_before_unused_fields s tree ticket tape trace
    go (same e) = e ∙ copy-before s tree ticket tape trace
    go (nineteen h strays e) = let z : true ≡ false = sym strays ∙ copy-quiet s tree ticket tape trace h in let y : ◌≡◌ {A = ℕ} 0 1 = cc in absurd (omega arith)

-- ---- lists of calls
-- The calls of a file's tickets after it was copied are those of before: every outcome, and so every state, tree and trace.
pub copied-run : (s : StateAndTree) (bs : List Brought) → history s (map copied_ticket bs) ≡ earlier_history s bs
unfolding history earlier_history
copied-run s [] = refl
copied-run s (b ∷ bs) =
    rw (copy-answered s.state s.tree b.ticket b.tape b.trace, copied-run (left_by (earlier_on s b)) bs)

-- ---- from C
module _ (state tree ticket tape trace result : List ℕ) where
  pub host-as-before : stray_fields ticket ≡ false → host_called state tree ticket tape trace result ≡ earlier_host_called state tree ticket tape trace result
  unfolding host_called earlier_host_called
  host-as-before clean = rw (as_before (state_in state) tree ticket (numbers_of tape) (numbers_of trace) clean)

  pub host-copy-answered : host_called state tree (ticket_copy ticket) tape trace result ≡ earlier_host_called state tree ticket tape trace result
  unfolding host_called earlier_host_called
  host-copy-answered = rw (copy-answered (state_in state) tree ticket (numbers_of tape) (numbers_of trace))
