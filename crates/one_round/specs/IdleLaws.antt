-- A round that wants none: it finds damage, or it goes through.
use Rattle.std.specs.Prelude.{◌≡◌, false, List, ◌++◌, map, ℕ, ◌≤◌, length, Some, None}
use Rattle.std.proofs.Common.{sym, ◌∙◌, ap, subst, append-nil, arith}
use Rattle.std.proofs.Math.Option.{none, some}
use Rattle.std.proofs.lemmas.List.{length-map}
use Rattle.method_spec.specs.Node.{Node}
use Rattle.method_spec.specs.Prog.{Prog}
use Rattle.method_spec.specs.Outcome.{Outcome}
use Rattle.round_spec.specs.Round.{Hand, read_half}
use Rattle.round_laws.specs.ReadHalf.{read-grants}
use Rattle.leaf_spec.specs.Leaf.{leaf_format}
use Rattle.word_round_laws.specs.SlotRow.{places}
use Rattle.path_reader.specs.Look.{Granted, Refused}
use Rattle.eviction.specs.Settle.{Settled}
use Rattle.word_round_laws.specs.KeepLaws.{taken_keys}
use Rattle.path_reader.specs.declared.Looked.{Looked}
use Rattle.stash_laws.specs.Waiting.{waiting_in}
use Rattle.bucket_call_spec.specs.Peak.{peak_at}
use Rattle.peak_laws.specs.PeakLaws.{peak-damage}
use Rattle.round_close.specs.Fault.{mark_of, closing, closed-mark}
use Rattle.round_close.specs.declared.Close.{Close}
use Rattle.round_close.specs.declared.Fault.TheVariants.{Damage}
use Rattle.bucket_call_spec.specs.Fetch.{Held, Going, shut, at_close, written, revealing, held_keys, idle_round}
use Rattle.one_round.specs.OneRound.{going, RoundReady, Rests, Idled}
use Rattle.one_round.specs.HandLaws.{looked-damage, looked-hand}
use Rattle.one_round.specs.CloseLaws.{settled-rests, settled-close, settled-counts}

-- ---- the definition's two ways
module _ {A : Type 0} (k leaf : ℕ) (p : Prog ℕ A) (g : Going) where
  pub idle-damaged : read_half leaf_format k g.tree leaf none (held_keys g) g.waiting ≡ none → idle_round k leaf p g ≡ shut 8 (revealing leaf g)
  unfolding idle_round
  idle-damaged read = rw (read, idle_round)

  pub idle-undamaged : (h : Hand (Node ℕ)) → read_half leaf_format k g.tree leaf none (held_keys g) g.waiting ≡ some h
      → idle_round k leaf p g ≡ at_close (written k leaf h.waiting g.held g) p
  unfolding idle_round
  idle-undamaged h read = rw (read, idle_round)

-- What waited and was held, waits and is held still.
pub ready-rests : {k leaf n : ℕ} {row tree held : List ℕ} → RoundReady k leaf n row tree held → Rests n row held
ready-rests ready = record { holds = ready.holds; order = ready.order; apart = ready.apart }

module _ {k leaf n : ℕ} {row tree held : List ℕ} (ready : RoundReady k leaf n row tree held) where
  -- Damage: all is as it was.
  pub idle-damage : {after : List ℕ} → Refused k leaf None n row tree held after → Idled k leaf n row tree held row tree (record { fault = Some Damage; waiting = n; count = 0 })
  idle-damage looked =
      let shuts : (hs : List Held) (ls : List ℕ) (p : Prog ℕ (Outcome ℕ)) → map (λ (h : Held). h.node.key) hs ≡ held
      → idle_round k leaf p (going n row tree hs ls) ≡ shut 8 (revealing leaf (going n row tree hs ls)) =
      λ hs ls p keys. idle-damaged k leaf p (going n row tree hs ls)
      (ap (λ (ks : List ℕ). read_half leaf_format k tree leaf none ks (waiting_in n row)) keys ∙ looked-damage None ready looked) in
      record {
        round = shuts;
        counted = λ hs ls p keys. ap peak_at (shuts hs ls p keys) ∙ peak-damage (Outcome ℕ) (revealing leaf (going n row tree hs ls));
        rests = ready-rests ready;
      }

  pub idle-goes : {after : List ℕ} (r : Looked) → Granted k leaf None n row tree held after r → {row' tree' : List ℕ} {left : ℕ} (close : Close)
      → Settled k leaf r.count false 0 after tree row' tree' left → close ≡ closing left (length held)
      → Idled k leaf n row tree held row' tree' (record { fault = close.fault; waiting = left; count = close.count })
  idle-goes {after} r looked {row'} {tree'} {left} close settled closed =
      let i = looked-hand None ready r looked in
      let nothing : i.hand.taken ≡ none = read-grants leaf_format k tree leaf none held (waiting_in n row) i.hand i.read in
      let room : r.count ≤ places = omega (arith, looked.within, ready.small, ready.few) in
      let same : held ++ taken_keys leaf_format i.hand.taken ≡ held = rw nothing (append-nil held) in
      let closes : (hs : List Held) (ls : List ℕ) (p : Prog ℕ (Outcome ℕ)) → map (λ (h : Held). h.node.key) hs ≡ held
      → idle_round k leaf p (going n row tree hs ls) ≡ at_close (written k leaf i.hand.waiting hs (going n row tree hs ls)) p =
      λ hs ls p keys. idle-undamaged k leaf p (going n row tree hs ls) i.hand
      (ap (λ (ks : List ℕ). read_half leaf_format k tree leaf none ks (waiting_in n row)) keys ∙ i.read) in
      let many : (hs : List Held) → map (λ (h : Held). h.node.key) hs ≡ held → length hs ≡ length held =
      λ hs keys. sym (length-map hs (λ (h : Held). h.node.key)) ∙ ap length keys in
      record {
        round = λ hs ls p keys. closes hs ls p keys ∙ settled-close ready i settled room hs hs ls p (length held) (mark_of close.fault) (many hs keys) (closed-mark close left (length held) closed);
        counted = λ hs ls p keys. ap peak_at (closes hs ls p keys) ∙ settled-counts ready i settled room hs hs ls p (length held) close.count (many hs keys) (ap (λ (c : Close). c.count) closed);
        rests = subst (Rests left row') same (settled-rests ready i settled room);
      }
