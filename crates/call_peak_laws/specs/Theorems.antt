-- Document 02, change 6, for any state, tree, ticket, tape and trace buffer: a call's peak is the largest count at the close of one of its rounds; it is at most
-- 64 except with 9, and with 9 it is above 64, the number that then waits; and a refusal that changes nothing brings 0. That it changes nothing else is `as_before`
-- (Earlier.antt).
use Rattle.std.specs.Prelude.{◌≡◌, true, false, List, [], ◌∷◌, ℕ, ◌≤◌, ◌<◌, length}
use Rattle.std.proofs.Math.Path.{refl, sym}
use Rattle.std.proofs.Common.{◌∙◌, ap, inl, inr, arith}
use Rattle.std.proofs.Math.Option.{some}
use Rattle.list_spec.specs.Largest.{largest}
use Rattle.list_laws.specs.LargestLaws.{largest-all, largest-among}
use Rattle.method_spec.specs.Answer.{Structure, Op}
use Rattle.method_spec.specs.Rounds.{rounds}
use Rattle.round_spec.specs.Round.{stash_limit}
use Rattle.bucket_call_spec.specs.Fetch.{CallLeft}
use Rattle.bucket_call_spec.specs.Call.{draw_of}
use Rattle.bucket_call_spec.specs.Peak.{counts_of}
use Rattle.state_spec.specs.declared.State.{State}
use Rattle.state_spec.specs.Ticket.{structure_of}
use Rattle.call_spec.specs.Reply.{Refused}
use Rattle.call_spec.specs.Store.{Ended, ending, replied, store_of, checks, first_met, called}
use Rattle.promise_spec.specs.Peaks.{LargestOf, rounds_by, none_made, made, Peaks}
use Rattle.check_laws.specs.Causes.{first_passes}
use Rattle.check_laws.specs.Decided.{causes, Decided, refused, rounded, how-decided}
use Rattle.demand_spec.specs.History.{changes_nothing, early}
use Rattle.demand_laws.specs.Marks.{Ends, closes, answers, call_ends}
use Rattle.demand_laws.specs.Checks.{left_by, peak_by}
use Rattle.demand_laws.specs.Refusals.{same_number, full-number}
use Rattle.demand_laws.specs.HistorySteps.{rounds-late}
use Rattle.call_peak_laws.specs.Listed.{ByMark}
use Rattle.call_peak_laws.specs.CallRounds.{call-rounds}

largest-is : (ns : List ℕ) → LargestOf ns (largest ns)
unfolding largest
largest-is [] = record { none-larger = largest-all 0 [] (omega arith); is_one = inl (refl, refl) }
largest-is (n ∷ ns) = record { none-larger = largest-all (largest (n ∷ ns)) (n ∷ ns) (omega arith); is_one = inr (largest-among n ns) }

-- A call's reply is 9 exactly where it left that mark.
nine-reply : (l : CallLeft) → Ends l → l.mark ≡ 9 → replied l.mark l.answer ≡ Refused 9
unfolding replied
nine-reply l (closes c e) m = rw (m, e)
nine-reply l (answers a z e) m = let x : ⊥ = omega arith in absurd x

nine-mark : (l : CallLeft) → Ends l → replied l.mark l.answer ≡ Refused 9 → l.mark ≡ 9
unfolding replied
nine-mark l (closes c e) r = same_number (ap (replied l.mark) (sym e) ∙ r)
nine-mark l (answers a z e) r = let n = full-number a (ap (replied l.mark) (sym e) ∙ r) in let x : ⊥ = omega arith in absurd x

module _ (s : State) (tree ticket tape trace : List ℕ) where
  abbrev e : Ended
  e = called s tree ticket tape trace

  abbrev st : Structure
  st = structure_of s.structure

  abbrev left_of : Op st → CallLeft
  left_of op = left_by st s tree ticket tape trace op

  abbrev peak_on : Op st → ℕ
  peak_on op = peak_by st s tree ticket tape trace op

  ends : (op : Op st) → Ends (left_of op)
  ends op = call_ends s.size (rounds st s.size) op (draw_of s.size tape) (store_of s tree)

  -- The numbers of the causes are such as change nothing; so 9 is none of them.
  quiet : (n : ℕ) → first_met (causes s tree ticket tape trace) ≡ some n → changes_nothing n ≡ true
  unfolding checks
  quiet n first = first_passes changes_nothing n (causes s tree ticket tape trace) refl first

  not-nine : first_met (causes s tree ticket tape trace) ≡ some 9 → ⊥
  not-nine first = let z : false ≡ true = quiet 9 first in let y : ◌≡◌ {A = ℕ} 0 1 = cc in omega arith

  -- The call's peak is the largest count at the close of one of its rounds, one round for each leaf that it revealed.
  pub peak-is-largest : Peaks s tree ticket tape trace
  unfolding counts_of largest
  peak-is-largest = go (how-decided s tree ticket tape trace)
    where
      go : Decided s tree ticket tape trace e → Peaks s tree ticket tape trace
      go (refused n first q) =
          record {
            listed = [];
            made_so = none_made n (quiet n first) (ap (λ (x : Ended). x.reply) q);
            one_each = sym (ap (λ (x : Ended). x.leaves) q);
            largest-of = rw q (largest-is []);
          }
      go (rounded op first asks q) =
          record {
            listed = rounds_by s tree ticket tape trace op;
            made_so = made op asks (rw q (rounds-late (left_of op) (ends op)));
            one_each = (call-rounds s.size (rounds st s.size) op (draw_of s.size tape) (store_of s tree)).one_each ∙ sym (ap (λ (x : Ended). x.leaves) q);
            largest-of = rw q (largest-is (counts_of (rounds_by s tree ticket tape trace op)));
          }

  -- Refusals that change nothing (1 to 7, 17 and 19) bring 0.
  pub refused_none : early e.reply ≡ true → e.peak ≡ 0
  refused_none h = go (how-decided s tree ticket tape trace)
    where
      go : Decided s tree ticket tape trace e → e.peak ≡ 0
      go (refused n first q) = ap (λ (x : Ended). x.peak) q
      go (rounded op first asks q) =
          let late = rounds-late (left_of op) (ends op) in
          let z : true ≡ false = sym h ∙ ap (λ (x : Ended). early x.reply) q ∙ late in
          cc

  -- At most 64 except with 9.
  pub within-limit : (e.reply ≡ Refused 9 → ⊥) → e.peak ≤ stash_limit
  within-limit h = go (how-decided s tree ticket tape trace)
    where
      by : (op : Op st) → e ≡ ending s trace (left_of op) (peak_on op) → ByMark (left_of op).mark (peak_on op) (length (left_of op).waiting) → e.peak ≤ stash_limit
      by op q (inl x) = absurd (h (ap (λ (y : Ended). y.reply) q ∙ nine-reply (left_of op) (ends op) x.0))
      by op q (inr x) = omega (arith, ap (λ (y : Ended). y.peak) q, x.1)

      go : Decided s tree ticket tape trace e → e.peak ≤ stash_limit
      go (refused n first q) = omega (arith, ap (λ (x : Ended). x.peak) q)
      go (rounded op first asks q) = by op q (call-rounds s.size (rounds st s.size) op (draw_of s.size tape) (store_of s tree)).by-mark

  at-overflow : e.reply ≡ Refused 9 → (stash_limit < e.peak) × (e.peak ≡ e.state.count)
  at-overflow h = go (how-decided s tree ticket tape trace)
    where
      by : (op : Op st) → e ≡ ending s trace (left_of op) (peak_on op) → ByMark (left_of op).mark (peak_on op) (length (left_of op).waiting)
          → (stash_limit < e.peak) × (e.peak ≡ e.state.count)
      by op q (inl x) = rw q x.1
      by op q (inr x) = absurd (x.0 (nine-mark (left_of op) (ends op) (ap (λ (y : Ended). y.reply) (sym q) ∙ h)))

      go : Decided s tree ticket tape trace e → (stash_limit < e.peak) × (e.peak ≡ e.state.count)
      go (refused n first q) = absurd (not-nine (first ∙ ap some (same_number (ap (λ (x : Ended). x.reply) (sym q) ∙ h))))
      go (rounded op first asks q) = by op q (call-rounds s.size (rounds st s.size) op (draw_of s.size tape) (store_of s tree)).by-mark

  -- With 9 it is above 64.
  pub above-limit : e.reply ≡ Refused 9 → stash_limit < e.peak
  above-limit h = (at-overflow h).0

  -- And it is the number of nodes that wait in the closed state.
  pub overflow-waits : e.reply ≡ Refused 9 → e.peak ≡ e.state.count
  overflow-waits h = (at-overflow h).1
