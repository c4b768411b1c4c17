-- The end of a call whose one node is held by value.
use Rattle.std.specs.Prelude.{◌≡◌, Err, true, false, ℕ, ◌+◌, ◌<◌, length, take, drop, Option, Some, None, option_to_list}
use Rattle.std.proofs.Math.Path.{refl}
use Rattle.std.proofs.Common.{sym, ◌∙◌, ap, arith, eq-eqb, ne_eqb}
use mathlib.Core.List.{List, [], ◌∷◌, map}
use Rattle.std.proofs.Math.Option.{none}
use Rattle.std.proofs.Math.Decide.{ℕ_discrete}
use Rattle.method_spec.specs.Node.{Node}
use Rattle.method_spec.specs.Prog.{root, done, after}
use Rattle.round_spec.specs.Round.{insert, join}
use Rattle.round_spec.specs.Nodes.{words_format}
use Rattle.slot_spec.specs.declared.Node as node
use Rattle.leaf_spec.specs.Convert.{to_link, to_node}
use Rattle.leaf_spec.specs.Leaf.{leaf_format}
use Rattle.bucket_call_spec.specs.Fetch as fetch
use Rattle.operation_spec.specs.Method.{wanted_in, outcome_in}
use Rattle.word_round_laws.specs.SlotRow.{places, row_length, slots_in}
use Rattle.stash_laws.specs.Waiting.{words_for, InWidths, waiting_in, Holds}
use Rattle.stash.specs.Stash.{NodesJoined}
use Rattle.stash.specs.StashLaws.{joined-none, joined-more}
use Rattle.call_spec.specs.declared.Refusal.{Refusal}
use Rattle.call_spec.specs.Reply.{number_of}
use Rattle.short_outcomes.specs.declared.OneMade.{OneMade}
use Rattle.short_outcomes.specs.OneFetch.{to_one_outcome}
use Rattle.short_outcomes.specs.OneFetchLaws.{done-stays}
use Rattle.want_rounds.specs.declared.Job.{Job}
use Rattle.want_rounds.specs.declared.FetchedOne.{FetchedOne}
use Rattle.want_rounds.specs.Wanting.{held_one, nodes_held, program_of}
use Rattle.want_rounds.specs.WantingLaws.{after_none}
use Rattle.call_ending.specs.declared.Ran.{Ran}
use Rattle.call_ending.specs.Ending.{outcome_of, ShutAs}
use Rattle.call_ending.specs.EndingLaws.{shut-ends}

-- ---- one node joins
pub node-joined : (n : ℕ) (x : node.Node) {row row' : List ℕ} → Holds n row → n < places → InWidths (to_node x) → length row' ≡ row_length
    → take (n + 1) (slots_in row') ≡ insert words_format (words_for (to_node x)) (take n (slots_in row)) → drop (n + 1) (slots_in row') ≡ drop (n + 1) (slots_in row)
    → NodesJoined n (x ∷ []) 1 row row' (n + 1)
node-joined n x {row} {row'} h room ranged sized put rest =
    joined-more n 0 n (x ∷ []) x row row row' (joined-none n (x ∷ []) row h) (omega arith) room ranged sized put rest

-- The nodes that joined are those of the step.
pub made-joined : (n : ℕ) (o : OneMade) {row row' : List ℕ} {m : ℕ} → NodesJoined n (option_to_list o.node) (length (option_to_list o.node)) row row' m
    → waiting_in m row' ≡ join leaf_format (to_one_outcome o).nodes (waiting_in n row)
made-joined n o {row} j = j.waiting ∙ ap (λ (ns : List (Node ℕ)). join leaf_format ns (waiting_in n row)) (go o.node)
  where
    go : (x : Option node.Node) → map to_node (take (length (option_to_list x)) (option_to_list x)) ≡ map to_node (option_to_list x)
    go None = refl
    go (Some x) = refl

-- ---- the node, if it is held
module _ (r : FetchedOne) where
  none-held : r.fetched.count ≡ 0 → held_one r ≡ []
  none-held e = rw (eq-eqb r.fetched.count 0 e)

  one-held : (r.fetched.count ≡ 0 → ⊥) → held_one r ≡ record { from = root; node = to_node r.node } ∷ []
  one-held d = rw (ne_eqb r.fetched.count 0 d)

  -- ---- the fetch round closed the store
  module _ (j : Job) (cause : Refusal) {row : List ℕ} where
    pub shut_none : r.fetched.count ≡ 0 → Holds r.fetched.waiting row → {x : Ran}
        → x
        ≡ record {
          mark = number_of cause;
          entries = j.entries;
          root = j.root;
          ahead = j.spares.ahead;
          waiting = r.fetched.waiting;
          reply = Err cause;
          leaves = r.fetched.leaves;
          peak = r.fetched.peak;
        }
        → ShutAs j r.fetched cause (held_one r) row row x
    unfolding fetch.moved_link join
    shut_none e holds same = rw (none-held e) (shut-ends j r.fetched cause [] refl holds refl same)

    pub shut_one : (r.fetched.count ≡ 0 → ⊥) → {row' : List ℕ} {m : ℕ} → NodesJoined r.fetched.waiting (r.node ∷ []) 1 row row' m → {x : Ran}
        → x
        ≡ record {
          mark = number_of cause;
          entries = j.entries;
          root = record { height = j.root.height; key = j.root.key; tag = r.node.tag };
          ahead = j.spares.ahead;
          waiting = m;
          reply = Err cause;
          leaves = r.fetched.leaves;
          peak = r.fetched.peak;
        }
        → ShutAs j r.fetched cause (held_one r) row row' x
    unfolding fetch.moved_link fetch.moved_node
    shut_one d joined same = rw (one-held d) (shut-ends j r.fetched cause (record { from = root; node = to_node r.node } ∷ []) refl joined.holds joined.waiting same)

  -- ---- it went on
  -- The step is the program's outcome: where no node was wanted, any is as good.
  pub step-one : (j : Job) (o : OneMade) → wanted_in (after (program_of j) (nodes_held (held_one r))) ≡ none
      → done (to_one_outcome o) ≡ after (program_of j) (to_node r.node ∷ []) → to_one_outcome o ≡ outcome_of j (nodes_held (held_one r))
  step-one j o finished made = ap (outcome_in (to_link j.root) j.entries) (made ∙ go (ℕ_discrete r.fetched.count 0))
    where
      go : Dec (r.fetched.count ≡ 0) → after (program_of j) (to_node r.node ∷ []) ≡ after (program_of j) (nodes_held (held_one r))
      go (no d) = rw (one-held d)
      go (yes e) =
          let held : nodes_held (held_one r) ≡ [] = ap nodes_held (none-held e) in
          let over : wanted_in (program_of j) ≡ none = rw (held, after_none (program_of j)) at finished in
          done-stays (program_of j) (to_node r.node ∷ []) over ∙ sym (rw held (after_none (program_of j)))
