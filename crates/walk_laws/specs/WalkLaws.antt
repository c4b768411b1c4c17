-- Laws for the walk program: a call keeps the store's structure and size, so every call of an input has as many bytes, and
-- its leaves lie within its trace buffer; and what a call and the line after it leave is what the call's outcome has.
use Rattle.std.specs.Prelude.{◌≡◌, refl, List, ◌∷◌, ◌++◌, ℕ, zero, suc, ◌*◌, ◌≤◌, length, take, drop, replicate}
use Rattle.std.proofs.Common.{sym, ◌∙◌, ap, arith, length-append, take-append-drop, take_at}
use Rattle.std.proofs.lemmas.List.{length-replicate, take-append-le}
use Rattle.method_spec.specs.Answer.{Structure, Op}
use Rattle.state_spec.specs.declared.State.{State}
use Rattle.state_spec.specs.Ticket.{structure_of}
use Rattle.call_spec.specs.Reply.{Reply}
use Rattle.call_spec.specs.Store.{Ended, refusing, by_rounds, called}
use Rattle.check_laws.specs.Decided.{Decided, refused, rounded, how-decided}
use Rattle.walk_spec.specs.Lines.{line_of, most_leaves}
use Rattle.state_spec.specs.Fetching.{rounds_of, draws_of, most_draws}
use Rattle.walk_spec.specs.Input.{ticket_in, tape_in}
use Rattle.walk_spec.specs.Walk.{call_in, call_line, Printed}

pub record CallKept (s : State) (e : Ended) : Type 0 where
  pub structure : e.state.structure ≡ s.structure
  pub size : e.state.size ≡ s.size
  pub leaves : e.leaves ≤ length e.trace

refused-keeps : {n : ℕ} {s : State} {tree trace : List ℕ} → CallKept s (refusing n s tree trace)
refused-keeps = record { structure = refl; size = refl; leaves = omega arith }

rounds-keep : (st : Structure) (op : Op st) (s : State) (tree tape trace : List ℕ) → CallKept s (by_rounds st op s tree tape trace)
rounds-keep st op s tree tape trace = record { structure = refl; size = refl; leaves = rw length-append (omega arith) }

pub call-keeps : (s : State) (tree ticket tape trace : List ℕ) → CallKept s (called s tree ticket tape trace)
call-keeps s tree ticket tape trace = go (how-decided s tree ticket tape trace)
  where
    go : {e : Ended} → Decided s tree ticket tape trace e → CallKept s e
    go (refused n first e) = rw e refused-keeps
    go (rounded op first asked e) = rw e (rounds-keep (structure_of s.structure) op s tree tape trace)

-- ---- what a call prints
-- A call that was lent the first n numbers of a trace buffer: its leaves are among them, and so its line is that of the buffer's first numbers.
module _ (e : Ended) (n : ℕ) (trace : List ℕ) {s : State} {reply : Reply} {leaves peak : ℕ} {tree : List ℕ} where
  pub leaves-lent : record { state = s; reply = reply; leaves = leaves; peak = peak; tree = tree; trace = take n trace } ≡ e → e.leaves ≤ length e.trace
      → leaves ≤ length (take n trace)
  leaves-lent is within = rw (← is) at within

  pub printed : {end : ℕ} {before after : List ℕ} → record { state = s; reply = reply; leaves = leaves; peak = peak; tree = tree; trace = take n trace } ≡ e
      → e.leaves ≤ length e.trace → end ≡ length (line_of reply (take leaves trace)) → after ≡ line_of reply (take leaves trace) ++ drop end before
      → Printed e before s tree after end
  printed {end} {before} is within ends line =
      let first : take leaves trace ≡ take leaves (take n trace) =
      ap (take leaves) (sym (take-append-drop n trace)) ∙ take-append-le leaves (take n trace) (drop n trace) (leaves-lent is within) in
      let text : line_of reply (take leaves trace) ≡ call_line e = ap (line_of reply) first ∙ ap (λ (x : Ended). call_line x) is in
      record {
        state = ap (λ (x : Ended). x.state) is;
        tree-left = ap (λ (x : Ended). x.tree) is;
        ends = ends ∙ ap length text;
        line = line ∙ ap (λ (l : List ℕ). l ++ drop end before) text;
      }

-- ---- fresh buffers
-- The first places of a fresh buffer.
fresh-first : (n most : ℕ) → n ≤ most → ◌≡◌ {A = List ℕ} (take n (replicate most 0)) (replicate n 0)
fresh-first zero most h = refl
fresh-first (suc n) zero h = let z : ⊥ = omega arith in absurd z
fresh-first (suc n) (suc most) h = ap (λ (l : List ℕ). 0 ∷ l) (fresh-first n most (omega arith))

pub fresh-length : (n most : ℕ) → n ≤ most → length (take {A = ℕ} n (replicate most 0)) ≡ n
fresh-length n most h = rw (fresh-first n most h, length-replicate)

-- The first places once they are filled: there are as many.
pub filled-length : (filled rest : List ℕ) (n most : ℕ) → n ≤ most → length filled ≡ length (take {A = ℕ} n (replicate most 0)) → length (take n (filled ++ rest)) ≡ n
filled-length filled rest n most h e = let f : length filled ≡ n = e ∙ fresh-length n most h in rw (take_at filled rest n f) f

-- A call with as many numbers of a tape as it has draws, filled from the input, and the first 2F places of a fresh trace buffer.
pub call-in : (s : State) (tree input tape rest trace : List ℕ) (fetches count : ℕ) → fetches ≡ rounds_of s.structure s.size → 2 * fetches ≤ most_leaves
    → count ≡ draws_of s.structure s.size → count ≤ most_draws
    → length tape ≡ length (take {A = ℕ} count (replicate most_draws 0)) → tape ≡ tape_in (length (take {A = ℕ} count (replicate most_draws 0))) input
    → trace ≡ replicate most_leaves 0
    → called s tree (ticket_in input) (take count (tape ++ rest)) (take (2 * fetches) trace) ≡ call_in s tree input
call-in s tree input tape rest trace fetches count e h d most sized filled fresh =
    let f : length (take {A = ℕ} count (replicate most_draws 0)) ≡ count = fresh-length count most_draws most in
    rw (take_at tape rest count (sized ∙ f), filled, f, fresh, fresh-first (2 * fetches) most_leaves h, e, d)
