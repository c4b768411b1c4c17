-- A round that wants a node: it finds damage, the node fails its structure's test, or the round goes through.
use Rattle.std.specs.Prelude as prelude
use Rattle.std.specs.Prelude.{◌≡◌, refl, true, false, Some, None, List, [], ◌∷◌, ◌++◌, map, ℕ, ◌+◌, ◌≤◌, length, take, get_or}
use Rattle.std.proofs.Common.{sym, ◌∙◌, ap, subst, append-nil, arith, length-append}
use Rattle.std.proofs.Math.Option.{Option, none, some}
use Rattle.std.proofs.lemmas.List.{length-map}
use Rattle.slot_spec.specs.declared.Node as node
use Rattle.slot_spec.specs.declared.Slot.{Slot}
use Rattle.method_spec.specs.Node.{Node, retag}
use Rattle.method_spec.specs.Prog.{Want, Prog}
use Rattle.method_spec.specs.Outcome.{Outcome}
use Rattle.method_spec.specs.Answer.{Structure}
use Rattle.method_spec.specs.Call.{test}
use Rattle.round_spec.specs.Round.{Hand, read_half}
use Rattle.leaf_spec.specs.Leaf.{leaf_format}
use Rattle.leaf_spec.specs.Convert.{to_node}
use Rattle.word_round_laws.specs.SlotRow.{places, slots_in}
use Rattle.slot_spec.specs.Row.{zero_slot}
use Rattle.path_reader.specs.Look.{Granted, Refused}
use Rattle.word_round_laws.specs.Stash.{removed}
use Rattle.eviction.specs.Settle.{Settled}
use Rattle.word_round_laws.specs.KeepLaws.{taken_keys}
use Rattle.path_reader.specs.declared.Looked.{Looked}
use Rattle.path_reader.specs.declared.Wish as wish
use Rattle.stash_laws.specs.Waiting.{waiting_in}
use Rattle.bucket_call_spec.specs.Peak.{peak_at}
use Rattle.peak_laws.specs.PeakLaws.{peak-damage}
use Rattle.round_close.specs.Fault.{mark_of, closing, closed-mark}
use Rattle.round_close.specs.declared.Close.{Close}
use Rattle.round_close.specs.declared.Fault.TheVariants.{Damage}
use Rattle.bucket_call_spec.specs.Fetch.{Held, Going, shut, at_close, written, revealing, held_keys, wish_for, took_round, want_round}
use Rattle.state_spec.specs.Ticket.{structure_of}
use Rattle.operation_spec.specs.declared.Want as want
use Rattle.operation_spec.specs.Method.{to_want}
use Rattle.one_round.specs.OneRound.{going, taken_as, RoundReady, Rests, Wanted}
use Rattle.one_round.specs.HandLaws.{InHand, looked-damage, looked-hand, taken-node}
use Rattle.one_round.specs.CloseLaws.{settled-rests, settled-close, settled-counts}
use Rattle.one_round.specs.IdleLaws.{ready-rests}

-- ---- the definition's three ways
module _ {A : Type 0} (s : Structure) (entries k d : ℕ) (w : Want ℕ) (c : Node ℕ → Prog ℕ A) (g : Going) where
  abbrev half : Option (Hand (Node ℕ))
  half = read_half leaf_format k g.tree w.link.tag (some (wish_for w)) (held_keys g) g.waiting

  want-damaged : half ≡ none → want_round s entries k d w c g ≡ shut 8 (revealing w.link.tag g)
  unfolding want_round
  want-damaged read = rw (read, want_round)

  want-failed : (h : Hand (Node ℕ)) (e : Node ℕ) → half ≡ some h → h.taken ≡ some e → test s entries w e ≡ false
      → want_round s entries k d w c g ≡ shut 8 (revealing w.link.tag g)
  unfolding want_round took_round
  want-failed h e read taken failed = rw (read, want_round, taken, failed)

  want-taken : (h : Hand (Node ℕ)) (e : Node ℕ) → half ≡ some h → h.taken ≡ some e → test s entries w e ≡ true
      → want_round s entries k d w c g
      ≡ at_close (written k w.link.tag h.waiting (g.held ++ (record { from = w.from; node = retag d e } ∷ [])) g) (c (retag d e))
  unfolding want_round took_round
  want-taken h e read taken passed = rw (read, want_round, taken, passed)

abbrev pub wish_of_want : want.Want → prelude.Option wish.Wish
wish_of_want w = Some (record { key = w.link.key; tag = w.link.tag })

module _ {k n : ℕ} {row tree held : List ℕ} (structure entries : ℕ) (w : want.Want) (ready : RoundReady k w.link.tag n row tree held) where
  abbrev leaf : ℕ
  leaf = w.link.tag

  -- The keys of the held nodes are the code's list.
  with-held : (hs : List Held) (ls : List ℕ) (o : Option (Hand (Node ℕ))) → map (λ (h : Held). h.node.key) hs ≡ held
      → read_half leaf_format k tree leaf (some (wish_for (to_want w))) held (waiting_in n row) ≡ o
      → read_half leaf_format k tree leaf (some (wish_for (to_want w))) (held_keys (going n row tree hs ls)) (waiting_in n row) ≡ o
  with-held hs ls o keys read =
      ap (λ (ks : List ℕ). read_half leaf_format k tree leaf (some (wish_for (to_want w))) ks (waiting_in n row)) keys ∙ read

  -- Damage, whether found by the read half or by the structure's test: all is as it was.
  want-shut : ((hs : List Held) (ls : List ℕ) (d : ℕ) (c : Node ℕ → Prog ℕ (Outcome ℕ)) → map (λ (h : Held). h.node.key) hs ≡ held
      → want_round (structure_of structure) entries k d (to_want w) c (going n row tree hs ls) ≡ shut 8 (revealing leaf (going n row tree hs ls)))
      → Wanted structure entries k n w row tree held row tree (record { fault = Some Damage; waiting = n; count = 0; node = None })
  want-shut shuts =
      record {
        round = λ hs ls d c keys. rw (append-nil hs) (shuts hs ls d c keys);
        counted = λ hs ls d c keys. ap peak_at (shuts hs ls d c keys) ∙ peak-damage (Outcome ℕ) (revealing leaf (going n row tree hs ls));
        goes_on = λ e. let z : ⊥ = omega arith in absurd z;
        tested = λ e. cc;
        rests = rw (append-nil held) (ready-rests ready);
      }

  pub want-damage : {after : List ℕ} → Refused k w.link.tag (wish_of_want w) n row tree held after
      → Wanted structure entries k n w row tree held row tree (record { fault = Some Damage; waiting = n; count = 0; node = None })
  want-damage looked =
      want-shut
      (λ hs ls d c keys. want-damaged (structure_of structure) entries k d (to_want w) c (going n row tree hs ls)
      (with-held hs ls none keys (looked-damage (wish_of_want w) ready looked)))

  module _ {after : List ℕ} (r : Looked) (looked : Granted k w.link.tag (wish_of_want w) n row tree held after r) where
    abbrev joint : List Slot
    joint = take r.count (slots_in after)

    in-hand : InHand k leaf n (some (wish_for (to_want w))) row tree held (some (get_or joint r.at zero_slot)) (removed true r.at joint)
    in-hand = looked-hand (wish_of_want w) ready r looked

    in-hand-taken : in-hand.hand.taken ≡ some (to_node r.node)
    in-hand-taken = taken-node r.at r.count after r.node in-hand (looked.inside refl) (looked.node refl)

    pub want-untested : test (structure_of structure) entries (to_want w) (to_node r.node) ≡ false
        → Wanted structure entries k n w row tree held row tree (record { fault = Some Damage; waiting = n; count = 0; node = None })
    want-untested failed =
        want-shut
        (λ hs ls d c keys. want-failed (structure_of structure) entries k d (to_want w) c (going n row tree hs ls) in-hand.hand (to_node r.node)
        (with-held hs ls (some in-hand.hand) keys in-hand.read) in-hand-taken failed)

    pub want-goes : {row' tree' : List ℕ} {left : ℕ} (close : Close) → test (structure_of structure) entries (to_want w) (to_node r.node) ≡ true
        → Settled k leaf r.count true r.at after tree row' tree' left → close ≡ closing left (length held + 1)
        → Wanted structure entries k n w row tree held row' tree' (record { fault = close.fault; waiting = left; count = close.count; node = Some r.node })
    want-goes {row'} {tree'} {left} close passed settled closed =
        let i = in-hand in
        let room : r.count ≤ places = omega (arith, looked.within, ready.small, ready.few) in
        let same : taken_keys leaf_format i.hand.taken ≡ r.node.key ∷ [] = ap (taken_keys leaf_format) in-hand-taken in
        let heldThen : List Held → ℕ → List Held = λ hs d. hs ++ (taken_as w d (to_node r.node) ∷ []) in
        let closes : (hs : List Held) (ls : List ℕ) (d : ℕ) (c : Node ℕ → Prog ℕ (Outcome ℕ)) → map (λ (h : Held). h.node.key) hs ≡ held
        → want_round (structure_of structure) entries k d (to_want w) c (going n row tree hs ls)
        ≡ at_close (written k leaf i.hand.waiting (heldThen hs d) (going n row tree hs ls)) (c (retag d (to_node r.node))) =
        λ hs ls d c keys. want-taken (structure_of structure) entries k d (to_want w) c (going n row tree hs ls) i.hand (to_node r.node)
        (with-held hs ls (some i.hand) keys i.read) in-hand-taken passed in
        let many : (hs : List Held) (d : ℕ) → map (λ (h : Held). h.node.key) hs ≡ held → length (heldThen hs d) ≡ length held + 1 =
        λ hs d keys. length-append hs (taken_as w d (to_node r.node) ∷ []) ∙ ap (λ (x : ℕ). x + 1) (sym (length-map hs (λ (h : Held). h.node.key)) ∙ ap length keys) in
        record {
          round =
              λ hs ls d c keys. closes hs ls d c keys
              ∙ settled-close ready i settled room hs (heldThen hs d) ls (c (retag d (to_node r.node))) (length held + 1) (mark_of close.fault) (many hs d keys) (closed-mark close left (length held + 1) closed);
          counted =
              λ hs ls d c keys. ap peak_at (closes hs ls d c keys)
              ∙ settled-counts ready i settled room hs (heldThen hs d) ls (c (retag d (to_node r.node))) (length held + 1) close.count (many hs d keys) (ap (λ (x : Close). x.count) closed);
          goes_on = λ e. refl;
          tested = λ e. passed;
          rests = subst (λ (ks : List ℕ). Rests left row' (held ++ ks)) same (settled-rests ready i settled room);
        }
