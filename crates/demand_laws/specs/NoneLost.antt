-- Demand 1's nodes: a call that closes the store loses none.
use Rattle.std.specs.Prelude.{ℕ, ◌^◌, ◌≤◌, ◌<◌, ◌≡◌, refl, true, false, ◌⊎◌, List, ◌++◌, map, length}
use Rattle.std.proofs.Common.{sym, ◌∙◌, ap, inl, inr, mod-lt, arith, pow_pos}
use Rattle.std.proofs.Math.Path.{subst⁻¹}
use Rattle.std.proofs.Math.Option.{some}
use Rattle.list_spec.specs.Perm.{Perm}
use Rattle.slot_spec.specs.LittleEndian.{Bytes}
use Rattle.slot_spec.specs.Tree.{tree_length}
use Rattle.method_spec.specs.Node.{Node}
use Rattle.method_spec.specs.Answer.{Structure, Op}
use Rattle.method_spec.specs.Plain.{Pair}
use Rattle.leaf_spec.specs.Leaf.{leaf_format}
use Rattle.bucket_call_spec.specs.Fetch.{CallLeft}
use Rattle.bucket_call_spec.specs.Call.{draw_of}
use Rattle.round_spec.specs.Whole.{contents}
use Rattle.none_lost_laws.specs.Ends.{entries_left, Keeps}
use Rattle.none_lost_laws.specs.Lost.{never-left-wanting, fetch-closing, put-closing}
use Rattle.state_spec.specs.declared.State.{State}
use Rattle.state_spec.specs.Fit.{fits}
use Rattle.state_spec.specs.Ticket.{op_in, structure_of, out_of_keys}
use Rattle.call_spec.specs.Reply.{Refused}
use Rattle.call_spec.specs.Store.{Ended, called, refusing, ending, state_left, store_of}
use Rattle.state_spec.specs.Widths.{Widths}
use Rattle.fitness_laws.specs.FitState.{fit-state}
use Rattle.fitness_laws.specs.FitStores.{fit-store}
use Rattle.fitness_laws.specs.Tickets.{op_fits, key_left}
use Rattle.leaf_spec.specs.Entries.{pair_of}
use Rattle.demand_spec.specs.History.{pairs_in}
use Rattle.demand_laws.specs.Marks.{Closing}
use Rattle.demand_laws.specs.Checks.{Later, Verdict, closed, unfit, other-tree, ill-brought, counts, left_by, peak_by, verdict}
use Rattle.demand_laws.specs.Refusals.{same_number}
use Rattle.demand_laws.specs.OpenStates.{placed-back}
use Rattle.demand_spec.specs.Demands.{NoneLost}

-- The pairs of the state that a call leaves are those of the nodes that it left waiting and in the tree.
pub pairs-left : (s : State) (l : CallLeft) → pairs_in (state_left s l) l.tree ≡ entries_left s.size l
pairs-left s l =
    ap (λ (ws : List (Node ℕ)). map pair_of (contents leaf_format s.size l.tree ++ ws)) (placed-back l.waiting)

module _ (s : State) (tree ticket tape trace : List ℕ) where
  abbrev structure : Structure
  structure = structure_of s.structure

  -- A call that ends with 8 or 9 is on a fit state and a tree of its size, and comes to its rounds.
  record InRounds (op : Op structure) : Type 0 where
    fit : fits s ≡ true
    sized : length tree ≡ tree_length s.size
    keyed : out_of_keys op s.ahead.key ≡ false
    ends : called s tree ticket tape trace ≡ ending s trace (left_by structure s tree ticket tape trace op) (peak_by structure s tree ticket tape trace op)

  -- It is none of the refusals 1 to 7, 17 and 19.
  not-early : {m n : ℕ} → (m ≤ 7) ⊎ Later m → Closing n → called s tree ticket tape trace ≡ refusing m s tree trace
      → (called s tree ticket tape trace).reply ≡ Refused n → ⊥
  not-early {m} {n} early c e r = go early c
    where
      same : m ≡ n
      same = same_number (ap (λ (x : Ended). x.reply) (sym e) ∙ r)

      go : (m ≤ 7) ⊎ Later m → Closing n → ⊥
      go (inl h) (inl x) = omega (arith, same)
      go (inl h) (inr x) = omega (arith, same)
      go (inr (inl h)) (inl x) = omega (arith, same)
      go (inr (inl h)) (inr x) = omega (arith, same)
      go (inr (inr h)) (inl x) = omega (arith, same)
      go (inr (inr h)) (inr x) = omega (arith, same)

  closing-rounds : (n : ℕ) → (called s tree ticket tape trace).reply ≡ Refused n → Closing n
      → (op : Op structure) → op_in structure ticket ≡ some op → InRounds op
  closing-rounds n r c op asked = go (verdict structure s tree ticket tape trace refl)
    where
      go : Verdict structure s tree ticket tape trace (called s tree ticket tape trace) → InRounds op
      go (closed h e) = absurd (not-early (inl (omega arith)) c e r)
      go (unfit h e) = absurd (not-early (inl (omega arith)) c e r)
      go (other-tree h e) = absurd (not-early (inl (omega arith)) c e r)
      go (ill-brought m (inl h) e) = absurd (not-early (inl h.1) c e r)
      go (ill-brought m (inr h) e) = absurd (not-early (inr h) c e r)
      go (counts fit sized other h keyed long e) =
          let same : other ≡ op = cc in
          record {
            fit = fit;
            sized = sized;
            keyed = ap (λ (x : Op structure). out_of_keys x s.ahead.key) (sym same) ∙ keyed;
            ends = e ∙ ap (λ (x : Op structure). ending s trace (left_by structure s tree ticket tape trace x) (peak_by structure s tree ticket tape trace x)) same;
          }

  -- The pairs that the call leaves.
  left-pairs : (op : Op structure) → InRounds op → {before : List Pair}
      → Keeps s.size before (left_by structure s tree ticket tape trace op)
      → Perm before (pairs_in (called s tree ticket tape trace).state (called s tree ticket tape trace).tree)
  left-pairs op rs {before} keeps =
      let l = left_by structure s tree ticket tape trace op in
      subst⁻¹ (λ (e : Ended). Perm before (pairs_in e.state e.tree)) rs.ends
      (subst⁻¹ (Perm before) (pairs-left s l) keeps.whole)

  -- Damage or overflow, in a fetch round or in a put round.
  pub none-lost : Bytes tree → Bytes ticket → Widths s → (n : ℕ) → (called s tree ticket tape trace).reply ≡ Refused n → Closing n
      → (op : Op structure) → op_in structure ticket ≡ some op
      → NoneLost s tree ticket tape trace structure op (pairs_in (called s tree ticket tape trace).state (called s tree ticket tape trace).tree)
  none-lost tree-bytes ticket-bytes widths n r c op asked =
      let rs = closing-rounds n r c op asked in
      let size = (fit-state s rs.fit).size in
      let store = fit-store s tree rs.fit rs.sized tree-bytes widths in
      let asks = op_fits structure ticket ticket-bytes op asked in
      let left = key_left op s.ahead.key widths.ahead.0 rs.keyed in
      let leaves : (d : ℕ) → draw_of s.size tape d < 2 ^ s.size = λ d. mod-lt _ (pow_pos s.size) in
      let by-puts = put-closing s.size size.0 (omega arith) op asks (draw_of s.size tape) leaves (store_of s tree) store left in
      record {
        comes-to = never-left-wanting s.size size.0 (omega arith) op asks (draw_of s.size tape) leaves (store_of s tree) store left;
        in-fetch = λ m g e.
            left-pairs op rs (fetch-closing s.size size.0 (omega arith) op asks (draw_of s.size tape) leaves (store_of s tree) store left m g e).2;
        in_step = λ g o e. record { kind = (by-puts g o e).kind; changed = (by-puts g o e).changed };
        in-put = λ g o e. left-pairs op rs (by-puts g o e).keeps;
      }
