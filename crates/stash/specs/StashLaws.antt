-- One more node at a time: loaded, joined.
use Rattle.std.specs.Prelude.{◌≡◌, refl, List, [], ◌∷◌, ◌++◌, map, ℕ, zero, suc, ◌+◌, ◌<◌, true, length, take, drop, get_or, set}
use Rattle.std.proofs.Common.{sym, ◌∙◌, ap, add-one, arith, take-suc, take-suc-set, drop-set-lt}
use Rattle.std.proofs.lemmas.List.{map-append}
use Rattle.list_laws.specs.PermLaws.{perm-sym}
use Rattle.list_spec.specs.Distinct.{All}
use Rattle.list_laws.specs.DistinctLaws.{all_nil, all_cons, all_append, all-perm}
use Rattle.slot_spec.specs.declared.Slot.{Slot}
use Rattle.slot_spec.specs.declared.Node as node
use Rattle.method_spec.specs.Node.{Node}
use Rattle.round_spec.specs.Format.{Format}
use Rattle.round_spec.specs.Round.{insert, join}
use Rattle.round_spec.specs.Nodes.{words_format}
use Rattle.round_laws.specs.Lists.{insert-perm}
use Rattle.leaf_spec.specs.Convert.{to_node}
use Rattle.leaf_spec.specs.Leaf.{leaf_format}
use Rattle.word_round_laws.specs.SlotRow.{places, row_length, slots_in, Blank}
use Rattle.word_round_laws.specs.SlotRowLaws.{slots-count, blank-more}
use Rattle.stash_laws.specs.Waiting.{words_for, InWidths, waiting_in, Holds}
use Rattle.stash_laws.specs.WaitingLaws.{waiting-are, holds-them, insert-words}
use Rattle.state_spec.specs.declared.Place.{Place}
use Rattle.state_spec.specs.declared.State.{State}
use Rattle.state_spec.specs.Fit.{places_from, no_place}
use Rattle.stash.specs.Stash.{Loaded, PlaceLoaded, NodesJoined}

-- ---- the first n slots
pub holds-none : (row : List ℕ) → length row ≡ row_length → Blank 0 row → Holds 0 row
holds-none row sized blank = holds-them 0 row [] (all_nil InWidths) refl sized (omega arith) blank

-- One more slot in the next place.
module _ (i : ℕ) (row more : List ℕ) (x : Node ℕ) (h : Holds i row) (before : i < places) (r : InWidths x)
    (put : slots_in more ≡ set (slots_in row) i (words_for x)) where
  put-words : take (i + 1) (slots_in more) ≡ map words_for (waiting_in i row ++ (x ∷ []))
  put-words =
      let c = slots-count row in
      rw (put, add-one i, take-suc-set (slots_in row) i (words_for x) (omega arith), map-append words_for (waiting_in i row) (x ∷ []))
      (ap (λ (l : List Slot). l ++ (words_for x ∷ [])) h.exact)

  put-ranged : All InWidths (waiting_in i row ++ (x ∷ []))
  put-ranged = all_append {P = InWidths} (waiting_in i row) h.ranged (all_cons {P = InWidths} r (all_nil InWidths))

  put-waiting : waiting_in (i + 1) more ≡ waiting_in i row ++ (x ∷ [])
  put-waiting = waiting-are (i + 1) more (waiting_in i row ++ (x ∷ [])) put-ranged put-words

  put-blank : Blank (i + 1) more
  put-blank =
      ap (drop (i + 1)) put ∙ drop-set-lt (i + 1) (slots_in row) i (words_for x) (omega arith) ∙ blank-more row i (i + 1) (omega arith) h.blank

  put_holds : length more ≡ row_length → Holds (i + 1) more
  put_holds sized = holds-them (i + 1) more (waiting_in i row ++ (x ∷ [])) put-ranged put-words sized (omega arith) put-blank

-- ---- load
abbrev pub node_at : Place → Node ℕ
node_at p = to_node p.node

places-last : (n i j : ℕ) (ps : List Place) → i + n ≡ j → places_from (suc n) i ps ≡ places_from n i ps ++ (get_or ps j no_place ∷ [])
unfolding places_from
places-last zero i j ps h = let e : i ≡ j = omega arith in rw e
places-last (suc n) i j ps h =
    ap (λ (qs : List Place). get_or ps i no_place ∷ qs) (places-last n (suc i) j ps (omega arith))

-- The first i places are loaded.
pub record LoadedTo (i : ℕ) (ps : List Place) (row : List ℕ) : Type 0 where
  pub holds : Holds i row
  pub waiting : waiting_in i row ≡ map node_at (places_from i 0 ps)

pub loaded-none : (ps : List Place) (row : List ℕ) → length row ≡ row_length → Blank 0 row → LoadedTo 0 ps row
unfolding places_from
loaded-none ps row sized blank = record { holds = holds-none row sized blank; waiting = refl }

pub loaded-more : (i : ℕ) (ps : List Place) (row more : List ℕ) → LoadedTo i ps row → i < places → PlaceLoaded i (get_or ps i no_place) row more true → LoadedTo (i + 1) ps more
loaded-more i ps row more l h p =
    let x = node_at (get_or ps i no_place) in
    record {
      holds = put_holds i row more x l.holds h (p.ranged refl) p.slots p.sized;
      waiting =
          put-waiting i row more x l.holds h (p.ranged refl) p.slots
          ∙ ap (λ (ns : List (Node ℕ)). ns ++ (x ∷ [])) l.waiting
          ∙ sym (map-append node_at (places_from i 0 ps) (get_or ps i no_place ∷ []))
          ∙ ap (map node_at) (sym (places-last i 0 i ps (omega arith)))
          ∙ ap (λ (n : ℕ). map node_at (places_from n 0 ps)) (sym (add-one i));
    }

pub loaded-all : (s : State) (row : List ℕ) (n : ℕ) → LoadedTo n s.places row → n ≡ s.count → Loaded s row n
loaded-all s row n l e =
    record {
      count = e;
      holds = l.holds;
      waiting = l.waiting ∙ ap (λ (m : ℕ). map node_at (places_from m 0 s.places)) e;
    }

-- ---- join
join_last : {E : Type 0} (F : Format E) (es : List E) (e : E) (ws : List E) → join F (es ++ (e ∷ [])) ws ≡ insert F e (join F es ws)
unfolding join
join_last F [] e ws = refl
join_last F (d ∷ es) e ws = join_last F es e (insert F d ws)

pub joined-none : (n : ℕ) (nodes : List node.Node) (row : List ℕ) → Holds n row → NodesJoined n nodes 0 row row n
unfolding join
joined-none n nodes row h = record { total = omega arith; holds = h; waiting = refl }

-- Node number i joins.
module _ (n i m : ℕ) (nodes : List node.Node) (d : node.Node) (row now more : List ℕ)
    (j : NodesJoined n nodes i row now m) (within : i < length nodes) (room : m < places) (r : InWidths (to_node (get_or nodes i d)))
    (sized : length more ≡ row_length) (put : take (m + 1) (slots_in more) ≡ insert words_format (words_for (to_node (get_or nodes i d))) (take m (slots_in now)))
    (rest : drop (m + 1) (slots_in more) ≡ drop (m + 1) (slots_in now)) where
  abbrev next : Node ℕ
  next = to_node (get_or nodes i d)

  next_last : map to_node (take (i + 1) nodes) ≡ map to_node (take i nodes) ++ (next ∷ [])
  next_last =
      rw (add-one i, take-suc nodes i d within) (map-append to_node (take i nodes) (get_or nodes i d ∷ []))

  joined_words : take (m + 1) (slots_in more) ≡ map words_for (insert leaf_format next (waiting_in m now))
  joined_words =
      put
      ∙ ap (insert words_format (words_for next)) j.holds.exact
      ∙ insert-words next (waiting_in m now) r j.holds.ranged

  joined-ranged : All InWidths (insert leaf_format next (waiting_in m now))
  joined-ranged =
      all-perm {P = InWidths} (perm-sym (insert-perm leaf_format next (waiting_in m now))) (all_cons {P = InWidths} r j.holds.ranged)

  pub joined-more : NodesJoined n nodes (i + 1) row more (m + 1)
  joined-more =
      let ns = insert leaf_format next (waiting_in m now) in
      record {
        total = omega (arith, j.total);
        holds = holds-them (m + 1) more ns joined-ranged joined_words sized (omega arith) (rest ∙ blank-more now m (m + 1) (omega arith) j.holds.blank);
        waiting =
            waiting-are (m + 1) more ns joined-ranged joined_words
            ∙ ap (insert leaf_format next) j.waiting
            ∙ sym (join_last leaf_format (map to_node (take i nodes)) next (waiting_in n row))
            ∙ ap (λ (es : List (Node ℕ)). join leaf_format es (waiting_in n row)) (sym next_last);
      }
