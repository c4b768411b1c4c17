-- Document 02, change 8: "Unused fields must now be zero. 19 when an unused field is not zero, checked directly after 5 and ahead of 17." And the calls of
-- before, in lists and from C.
use Rattle.std.specs.Prelude.{ℕ, zero, suc, ◌≡◌, true, List, [], ◌∷◌, eqb, take, drop}
use Rattle.std.proofs.Math.Option.{none}
use Rattle.list_spec.specs.Choice.{pick}
use Rattle.state_spec.specs.declared.State.{State}
use Rattle.state_spec.specs.Ticket.{ticket_length, op_in, structure_of, stray_fields}
use Rattle.call_spec.specs.Store.{Ended, refusing, Check, checks, first_met}
use Rattle.host_spec.specs.Host.{HostEnded, host_called_by}
use Rattle.demand_spec.specs.History.{Brought, StateAndTree, left_by}
use Rattle.ticket_copy_spec.specs.Copy.{ticket_copy}
use Rattle.promise_spec.specs.AsBefore.{called_before_unused_fields}

-- ---- which calls change
-- The causes that are asked about before the one of that number.
unfoldable pub checked_before : ℕ → List Check → List Check
checked_before n [] = []
checked_before n (c ∷ cs) = pick (eqb c.number n) [] (c ∷ checked_before n cs)

module _ (s : State) (tree ticket tape trace : List ℕ) where
  -- The checks before 19 let the call pass.
  abbrev pub Heard : Type 0
  Heard =
      let st = structure_of s.structure in
      first_met (checked_before 19 (checks st s tree ticket tape trace (op_in st ticket))) ≡ none

  -- A call is as before; or it passes those checks, an unused field is not zero, and it is refused with 19.
  pub data Comes (e earlier : Ended) : Type 0 where
    same : e ≡ earlier → Comes e earlier
    nineteen : Heard → stray_fields ticket ≡ true → e ≡ refusing 19 s tree trace → Comes e earlier

-- ---- lists of calls
-- As `history`, each call being that of before.
abbrev pub earlier_on : StateAndTree → Brought → Ended
earlier_on s b = called_before_unused_fields s.state s.tree b.ticket b.tape b.trace

unfoldable pub earlier_history : StateAndTree → List Brought → List Ended
earlier_history s [] = []
earlier_history s (b ∷ bs) = earlier_on s b ∷ earlier_history (left_by (earlier_on s b)) bs

-- What a call brings, with its ticket copied.
abbrev pub copied_ticket : Brought → Brought
copied_ticket b = record { ticket = ticket_copy b.ticket; tape = b.tape; trace = b.trace }

-- The first n tickets of a file.
unfoldable pub tickets_in : ℕ → List ℕ → List (List ℕ)
tickets_in zero file = []
tickets_in (suc n) file = take ticket_length file ∷ tickets_in n (drop ticket_length file)

-- ---- from C
-- As `host_called`.
unfoldable pub earlier_host_called : (state tree ticket tape trace result : List ℕ) → HostEnded
earlier_host_called state tree ticket tape trace result = host_called_by called_before_unused_fields state tree ticket tape trace result
