-- The three demands, proved: demand 1 of every state, tree, ticket, tape and trace buffer, demands 2 and 3 of all lists of calls whose
-- tickets are bytes.
use Rattle.std.specs.Prelude.{ℕ, suc, ◌*◌, ◌≤◌, ◌<◌, ◌≡◌, refl, List, [], ◌∷◌, length, get_or}
use Rattle.std.proofs.Common.{sym, ◌∙◌, ap, subst, arith}
use Rattle.std.proofs.lemmas.List.{length-map}
use Rattle.list_spec.specs.Distinct.{All}
use Rattle.slot_spec.specs.Tree.{tree_length}
use Rattle.slot_spec.specs.LittleEndian.{Bytes}
use Rattle.slot_laws.specs.ReadLaws.{written-reads-back, read-is-written}
use Rattle.method_spec.specs.Answer.{Structure}
use Rattle.method_spec.specs.Rounds.{rounds, draws}
use Rattle.method_spec.specs.Origin.{DrawOnTape}
use Rattle.method_laws.specs.Theorems.{named-once, named-draws, tickets-only}
use Rattle.state_spec.specs.declared.State.{State}
use Rattle.state_spec.specs.Ticket.{structure_of}
use Rattle.demand_spec.specs.History.{Brought, StateAndTree, history, finally, counted, trace_of, ops_in, tapes_of}
use Rattle.demand_spec.specs.Demands.{Demand1, opened_store, before, Demand2, Demand3, names_for, leaf_at}
use Rattle.demand_laws.specs.Refusals.{one-reply, unchanged, stays_closed}
use Rattle.demand_laws.specs.NoneLost.{none-lost}
use Rattle.demand_laws.specs.SoundReplies.{sound-at}
use Rattle.demand_laws.specs.OpenedRuns.{opened-runs, answered, follows, trace-count, trace-length, leaf-in-trace}
use Rattle.demand_laws.specs.Fresh.{opened-empty}
use Rattle.demand_laws.specs.ListSteps.{structure-back}
use Rattle.demand_laws.specs.CountedTapes.{counted-tapes, tape-long}
use Rattle.demand_laws.specs.UntilClosed.{before-open, before-bytes, ending}

pub demand1 : (s : State) (tree ticket tape trace : List ℕ) → Demand1 s tree ticket tape trace
demand1 s tree ticket tape trace =
    record {
      one-reply = one-reply s tree ticket tape trace;
      unchanged = unchanged s tree ticket tape trace;
      stays_closed = stays_closed s tree ticket tape trace;
      none-lost = none-lost s tree ticket tape trace;
    }

module _ (st : Structure) (k : ℕ) (positive : 1 ≤ k) (small : k ≤ 8) (tree : List ℕ) (sized : length tree ≡ tree_length k)
    (bs : List Brought) (bytes : All (λ b. Bytes b.ticket) bs) where
  pub demand2 : Demand2 st k tree bs
  demand2 =
      let first = before st k tree bs in
      let first-bytes = before-bytes st k positive small tree sized bs bytes in
      let open-mark = before-open st k positive small tree sized bs bytes in
      record {
        slots =
            record {
              reads-back = written-reads-back k;
              none_other = λ b bytes n h l e. (read-is-written k b bytes h l n e).written;
            };
        answers = answered st k positive small tree sized first first-bytes open-mark;
        follows = follows st k positive small tree sized first first-bytes open-mark;
        ends = ending st k positive small tree sized bs bytes;
        never = λ i within n e.
            sound-at (history (opened_store st k tree) bs) (opened-runs st k positive small tree sized bs bytes).1.0.sound i n e;
      }

same_lists : {A : Type 0} (d : A) (xs ys : List A) → length xs ≡ length ys → ((i : ℕ) → i < length xs → get_or xs i d ≡ get_or ys i d) → xs ≡ ys
same_lists d [] [] e h = refl
same_lists d [] (y ∷ ys) e h = let z : ⊥ = omega arith in absurd z
same_lists d (x ∷ xs) [] e h = let z : ⊥ = omega arith in absurd z
same_lists {A} d (x ∷ xs) (y ∷ ys) e h =
    let first : x ≡ y = h 0 (omega arith) in
    let others : xs ≡ ys = same_lists d xs ys (omega arith) (λ i b. h (suc i) (omega arith)) in
    cc

module _ (st : Structure) (k : ℕ) (positive : 1 ≤ k) (small : k ≤ 8) (tree tree' : List ℕ)
    (sized : length tree ≡ tree_length k) (sized' : length tree' ≡ tree_length k)
    (bs cs : List Brought) (bytes : All (λ b. Bytes b.ticket) bs) (bytes' : All (λ b. Bytes b.ticket) cs) where
  pub demand3 : Demand3 st k tree tree' bs cs
  demand3 =
      record {
        traces = λ m m' count. (
          λ same place before. leaf m place ∙ ap (λ (ls : List ℕ). get_or ls place 0) same ∙ sym (leaf' m' place),
          λ leaves. same_lists 0 (trace_of (history start₁ bs)) (trace_of (history start₂ cs))
              (trace-length st k positive small tree sized bs bytes m ∙ ap (λ (n : ℕ). n * (2 * rounds st k)) count
              ∙ sym (trace-length st k positive small tree' sized' cs bytes' m'))
              (λ place before. sym (leaf m place)
              ∙ leaves place (subst (λ (n : ℕ). place < n) (trace-length st k positive small tree sized bs bytes m) before) ∙ leaf' m' place),
        );
        by-tickets = λ same. tickets-only k (ops_in st (counted start₁ bs)) (ops_in st (counted start₂ cs)) same;
        one_each = λ m. sym (trace-count st k positive small tree sized bs bytes m);
        names-draws = on-tapes;
        none-twice = named-once k (ops_in st (counted start₁ bs));
      }
    where
      start₁ : StateAndTree
      start₁ = opened_store st k tree

      start₂ : StateAndTree
      start₂ = opened_store st k tree'

      -- A name is a draw of a counted call, and such a call has a tape for all its draws.
      on-tapes : All (DrawOnTape (draws st k) (tapes_of (counted start₁ bs))) (names_for st k start₁ bs)
      on-tapes o named =
          let from = named-draws k (ops_in st (counted start₁ bs)) o named in
          let each = (opened-runs st k positive small tree sized bs bytes).0.each in
          let many : length (tapes_of (counted start₁ bs)) ≡ length (counted start₁ bs) = length-map (counted start₁ bs) (λ (b : Brought). b.tape) in
          let fresh = opened-empty st k positive small tree sized in
          let tapes = counted-tapes st k start₁ (ap (λ (s : StateAndTree). structure_of s.state.structure) fresh ∙ structure-back st) (ap (λ (s : StateAndTree). s.state.size) fresh) bs in
          let long = tape-long (draws st k) (counted start₁ bs) tapes o.call from.numbered (omega (arith, from.of-the-list)) in
          record { numbered = from.numbered; of-the-list = omega (arith, from.of-the-list); used = from.used; on-tape = omega (arith, from.used) }

      leaf : (finally start₁ bs).state.mark ≡ 0 → (place : ℕ) → leaf_at st k start₁ bs place ≡ get_or (trace_of (history start₁ bs)) place 0
      leaf = leaf-in-trace st k positive small tree sized bs bytes

      leaf' : (finally start₂ cs).state.mark ≡ 0 → (place : ℕ) → leaf_at st k start₂ cs place ≡ get_or (trace_of (history start₂ cs)) place 0
      leaf' = leaf-in-trace st k positive small tree' sized' cs bytes'
