-- One round that wants none after another.
use Rattle.std.specs.Prelude.{◌≡◌, Bool, ℕ, suc, max, ◌+◌, ◌-◌, ◌%◌, ◌^◌, ◌≤◌, ◌<◌, length, get_or, set, None}
use Rattle.std.proofs.Math.Path.{refl}
use Rattle.std.proofs.Common.{sym, ◌∙◌, ap, subst, add-suc, suc-add, mod-lt, pow_pos, pow_mono, arith}
use Rattle.std.proofs.Math.Bool.{true, false}
use mathlib.Core.List.{List, [], ◌∷◌, ◌++◌, map, append_assoc, append-nil}
use Rattle.std.proofs.Math.Option.{Option, none, some}
use Rattle.std.proofs.Math.Nat.{add-zero, sub-zero}
use Rattle.std.proofs.lemmas.List.{length-map}
use Rattle.std.proofs.lemmas.List.Edits.{sets}
use Rattle.std.proofs.Math.Seq.{length-sets}
use borrow.Author.Tests.{eq-eqb, ne_eqb, ltb-false}
use Rattle.list_spec.specs.Choice.{pick}
use Rattle.list_spec.specs.Distinct.{All}
use Rattle.method_spec.specs.Node.{Node, absent}
use Rattle.method_spec.specs.Prog.{Prog, done, root}
use Rattle.method_spec.specs.Outcome.{Outcome}
use Rattle.method_spec.specs.Answer as answer
use Rattle.method_spec.specs.Answer.{Structure}
use Rattle.method_spec.specs.Call.{draws_from}
use Rattle.run_laws.specs.Calls.{draws-split, draws-length}
use Rattle.round_spec.specs.Round.{Hand, read_half, stash_limit}
use Rattle.round_spec.specs.Whole.{IsTree}
use Rattle.round_laws.specs.NothingLost.{round-is-tree, round-proper}
use Rattle.leaf_spec.specs.Leaf.{leaf_format, ProperLeaf}
use Rattle.bucket_call_spec.specs.Fetch.{Held, Going, held_keys, total, too_many, written, Round, on, shut, at_close, idle_round, fetch_round}
use Rattle.bucket_call_spec.specs.Call.{draw_of, put_rounds}
use Rattle.bucket_call_spec.specs.Peak.{rounds_from, peak_of, peak_at}
use Rattle.peak_laws.specs.PeakLaws.{peak-none, rounds-none, peak-goes, peak-shuts, done-round}
use Rattle.leaf_laws.specs.Proper.{leaves-lawful}
use Rattle.stash_laws.specs.WaitingLaws.{waiting-length}
use Rattle.round_close.specs.Fault.{mark_of}
use Rattle.one_round.specs.declared.Rounded.{Rounded}
use Rattle.one_round.specs.OneRound.{going, ended_with, RoundReady, Idled}
use Rattle.idle_rounds.specs.Idle.{Between, keys_held, IdledAll}

-- A draw is a leaf.
pub draw-made : (size number leaves : ℕ) {r : ℕ} → size ≤ 8 → leaves ≡ 2 ^ size → r ≡ number % leaves → (r ≡ number % 2 ^ size) × ((r < 2 ^ size) × (r < 256))
draw-made size number leaves {r} small e q =
    let some : 0 < 2 ^ size = pow_pos size in
    let most : 2 ^ size ≤ 2 ^ 8 = pow_mono small in
    let less : number % 2 ^ size < 2 ^ size = mod-lt number some in
    let same : r ≡ number % 2 ^ size = q ∙ ap (λ (m : ℕ). number % m) e in
    (same, (omega arith, omega arith))

pub draw-leaf : (k : ℕ) (tape : List ℕ) (d : ℕ) → draw_of k tape d < 2 ^ k
draw-leaf k tape d = mod-lt (get_or tape d 0) (pow_pos k)

-- ---- one put round
module _ (k : ℕ) (draw : ℕ → ℕ) (n d : ℕ) (o : Outcome ℕ) (g h : Going) where
  pub put-goes : idle_round k (draw d) (done o) g ≡ on h (done o) → put_rounds k draw (suc n) d o g ≡ put_rounds k draw n (suc d) o h
  unfolding put_rounds
  put-goes e = rw e

  pub put-shuts : (m : ℕ) → idle_round k (draw d) (done o) g ≡ shut m h → put_rounds k draw (suc n) d o g ≡ shut m h
  unfolding put_rounds
  put-shuts m e = rw e

pub put-none : (k : ℕ) (draw : ℕ → ℕ) (d : ℕ) (o : Outcome ℕ) (g : Going) → put_rounds k draw 0 d o g ≡ on g (done o)
unfolding put_rounds
put-none k draw d o g = refl

-- ---- what a round that goes on keeps
module _ (k leaf : ℕ) (is_leaf : leaf < 2 ^ k) (p : Prog ℕ (Outcome ℕ)) (g : Going) (is : IsTree k g.tree) (proper : All (ProperLeaf k) g.waiting) where
  abbrev KeptBy : Round (Outcome ℕ) → Type 0
  KeptBy (shut m h) = Unit {0}
  KeptBy (on h q) = IsTree k h.tree × (All (ProperLeaf k) h.waiting × (total h ≤ stash_limit))

  idle-keeps : KeptBy (idle_round k leaf p g)
  unfolding idle_round at_close
  idle-keeps = go (read_half leaf_format k g.tree leaf none (held_keys g) g.waiting) refl
    where
      go : (o : Option (Hand (Node ℕ))) → read_half leaf_format k g.tree leaf none (held_keys g) g.waiting ≡ o → KeptBy (idle_round k leaf p g)
      go none e = rw (e, idle_round) tt
      go (some h) e =
          rw (e, idle_round, at_close) (close (too_many (written k leaf h.waiting g.held g)) refl)
        where
          close : (b : Bool) → too_many (written k leaf h.waiting g.held g) ≡ b
              → KeptBy (pick b (shut 9 (written k leaf h.waiting g.held g)) (on (written k leaf h.waiting g.held g) p))
          close true q = tt
          close false q = (
            round-is-tree leaf_format leaves-lawful k leaf is_leaf g.tree is none (held_keys g) g.waiting proper h e,
            (
              round-proper leaf_format leaves-lawful k leaf is_leaf g.tree is none (held_keys g) g.waiting proper h e,
              ltb-false stash_limit (total (written k leaf h.waiting g.held g)) q,
            ),
          )

  pub idle-kept : (h : Going) → idle_round k leaf p g ≡ on h p → IsTree k h.tree × (All (ProperLeaf k) h.waiting × (total h ≤ stash_limit))
  idle-kept h e = subst KeptBy e idle-keeps

-- Held nodes with given keys, all else zero.
abbrev stand_in : ℕ → Held
stand_in key = record { from = root; node = record { key = key; value = 0; tag = 0; left = absent 0; right = absent 0 } }

stand-keys : (keys : List ℕ) → keys_held (map stand_in keys) ≡ keys
stand-keys [] = refl
stand-keys (key ∷ keys) = ap (λ (ks : List ℕ). key ∷ ks) (stand-keys keys)

pub goes_on_lem : (m : ℕ) (g : Going) (p : Prog ℕ (Outcome ℕ)) → m ≡ 0 → ended_with m g p ≡ on g p
goes_on_lem m g p e = rw (eq-eqb m 0 e)

pub stops-here : (m : ℕ) (g : Going) (p : Prog ℕ (Outcome ℕ)) → (m ≡ 0 → ⊥) → ended_with m g p ≡ shut m g
stops-here m g p e = rw (ne_eqb m 0 e)

module _ {k n : ℕ} {row tree held : List ℕ} (b : Between k n row tree held) where
  -- A round can begin.
  pub between-ready : (leaf : ℕ) → leaf < 2 ^ k → RoundReady k leaf n row tree held
  between-ready leaf h =
      record {
        small = b.small;
        is_leaf = h;
        is-tree = b.is-tree;
        holds = b.rests.holds;
        tags = λ m i. leaves-lawful.tag-is-leaf k m (b.proper m i);
        order = b.rests.order;
        apart = b.rests.apart;
        few = b.few;
      }

  -- After a round that goes on another can begin.
  pub between-again : {leaf : ℕ} {row' tree' : List ℕ} {r : Rounded} → leaf < 2 ^ k → Idled k leaf n row tree held row' tree' r → mark_of r.fault ≡ 0
      → Between k r.waiting row' tree' held
  between-again {leaf} {row'} {tree'} {r} h i e =
      let hs = map stand_in held in
      let p : Prog ℕ (Outcome ℕ) = done (record { nodes = []; root = absent 0; entries = 0; answer = answer.absent }) in
      let g' = going r.waiting row' tree' hs ([] ++ (leaf ∷ [])) in
      let kept = idle-kept k leaf h p (going n row tree hs []) b.is-tree b.proper g' (i.round hs [] p (stand-keys held) ∙ goes_on_lem (mark_of r.fault) g' p e) in
      let many : length (map stand_in held) ≡ length held = length-map held stand_in in
      record {
        small = b.small;
        is-tree = kept.0;
        rests = i.rests;
        proper = kept.1.0;
        few = omega (arith, kept.1.1, waiting-length i.rests.holds, many);
      }

-- ---- the rounds, one by one
-- After i of the rounds: those that are left come to what all of them come to, and the peak of all is that of these or of the i.
pub record Idling (k n : ℕ) (draw : ℕ → ℕ) (count first at : ℕ) (row₀ tree₀ trace₀ held : List ℕ) (i m peak : ℕ) (row tree trace : List ℕ) : Type 0 where
  pub upto : i ≤ count
  pub rest : (hs : List Held) (ls : List ℕ) (o : Outcome ℕ) → keys_held hs ≡ held
      → put_rounds k draw count first o (going n row₀ tree₀ hs ls)
      ≡ put_rounds k draw (count - i) (first + i) o (going m row tree hs (ls ++ draws_from draw i first))
  pub peaks : (s : Structure) (e : ℕ) (hs : List Held) (ls : List ℕ) (o : Outcome ℕ) → keys_held hs ≡ held
      → peak_of (rounds_from s e k draw count first (done o) (going n row₀ tree₀ hs ls))
      ≡ max peak (peak_of (rounds_from s e k draw (count - i) (first + i) (done o) (going m row tree hs (ls ++ draws_from draw i first))))
  pub revealed : trace ≡ sets trace₀ at (draws_from draw i first)
  pub between : Between k m row tree held

pub draws-one : (draw : ℕ → ℕ) (d : ℕ) → draws_from draw 1 d ≡ draw d ∷ []
unfolding draws_from
draws-one draw d = refl

draws-one-more : (draw : ℕ → ℕ) (i first : ℕ) → draws_from draw (i + 1) first ≡ draws_from draw i first ++ (draw (first + i) ∷ [])
draws-one-more draw i first = draws-split draw i 1 first ∙ ap (λ (ds : List ℕ). draws_from draw i first ++ ds) (draws-one draw (first + i))

-- One more number stored after those of a row.
sets-one-more : (vs l : List ℕ) (i v : ℕ) → set (sets l i vs) (i + length vs) v ≡ sets l i (vs ++ (v ∷ []))
sets-one-more [] l i v = rw (add-zero i)
sets-one-more (a ∷ vs) l i v = rw (add-suc i (length vs), ← suc-add i (length vs)) (sets-one-more vs (set l i a) (suc i) v)

module _ (k n : ℕ) (draw : ℕ → ℕ) (count first at : ℕ) (row₀ tree₀ trace₀ held : List ℕ) where
  -- Before the first.
  pub idling-begins : Between k n row₀ tree₀ held
      → Idling k n draw count first at row₀ tree₀ trace₀ held 0 n 0 row₀ tree₀ trace₀
  unfolding draws_from
  idling-begins b =
      record {
        upto = omega arith;
        rest = λ hs ls o e. rw (sub-zero count, add-zero first, append-nil ls);
        peaks = λ s x hs ls o e. rw (sub-zero count, add-zero first, append-nil ls) (omega arith);
        revealed = refl;
        between = b;
      }

  module _ {i m peak : ℕ} {row tree trace : List ℕ} (inv : Idling k n draw count first at row₀ tree₀ trace₀ held i m peak row tree trace) where
    pub idling-sized : length trace ≡ length trace₀
    idling-sized = ap length inv.revealed ∙ length-sets trace₀ at (draws_from draw i first)

    -- The last was made.
    pub idling-ends : count ≤ i → IdledAll k n draw count first at row₀ tree₀ trace₀ held row tree trace (record { fault = None; waiting = m; shown = count; peak = peak })
    idling-ends h =
        let all : i ≡ count = omega (arith, inv.upto) in
        let none : count - i ≡ 0 = omega arith in
        record {
          rounds = λ hs ls o e. inv.rest hs ls o e ∙ rw (none, all) (put-none k draw (first + count) o (going m row tree hs (ls ++ draws_from draw count first)));
          peaked = λ s x hs ls o e.
              inv.peaks s x hs ls o e ∙ rw (none, rounds-none s x k draw (first + i) (done o) (going m row tree hs (ls ++ draws_from draw i first)), peak-none (Outcome ℕ)) (omega arith);
          revealed = inv.revealed ∙ rw all;
          rests = inv.between.rests;
          no_more = omega arith;
          all_shown = λ e. refl;
        }

    module _ {leaf : ℕ} {row' tree' trace' : List ℕ} {r : Rounded} (more : i < count) (drawn : leaf ≡ draw (first + i)) (is_leaf : leaf < 2 ^ k)
        (stored : trace' ≡ set trace (at + i) leaf) (round : Idled k leaf m row tree held row' tree' r) {peak' : ℕ} (raised : peak' ≡ max peak r.count) where
      left : count - i ≡ suc (count - (i + 1))
      left = omega arith

      later : first + (i + 1) ≡ suc (first + i)
      later = omega arith

      revealed-one-more : trace' ≡ sets trace₀ at (draws_from draw (i + 1) first)
      revealed-one-more =
          stored ∙ ap (λ (t : List ℕ). set t (at + i) leaf) inv.revealed
          ∙ rw (drawn, draws-one-more draw i first)
          (ap (λ (j : ℕ). set (sets trace₀ at (draws_from draw i first)) (at + j) (draw (first + i))) (sym (draws-length draw i first))
          ∙ sets-one-more (draws_from draw i first) trace₀ at (draw (first + i)))

      abbrev going_then : List Held → List ℕ → Going
      going_then hs ls = going r.waiting row' tree' hs (ls ++ draws_from draw (i + 1) first)

      round-at : (hs : List Held) (ls : List ℕ) (o : Outcome ℕ) → keys_held hs ≡ held
          → idle_round k (draw (first + i)) (done o) (going m row tree hs (ls ++ draws_from draw i first)) ≡ ended_with (mark_of r.fault) (going_then hs ls) (done o)
      round-at hs ls o e =
          rw (← drawn) (round.round hs (ls ++ draws_from draw i first) (done o) e)
          ∙ ap (λ (seen : List ℕ). ended_with (mark_of r.fault) (going r.waiting row' tree' hs seen) (done o))
          (append_assoc ls (draws_from draw i first) (leaf ∷ []) ∙ ap (λ (ds : List ℕ). ls ++ ds) (rw drawn (sym (draws-one-more draw i first))))

      -- The round is the next of those that are listed, and has that count.
      next-at : (s : Structure) (x : ℕ) (hs : List Held) (ls : List ℕ) (o : Outcome ℕ) → keys_held hs ≡ held
          → fetch_round s x k (draw (first + i)) (done o) (going m row tree hs (ls ++ draws_from draw i first)) ≡ ended_with (mark_of r.fault) (going_then hs ls) (done o)
      next-at s x hs ls o e = done-round s x k (draw (first + i)) o (going m row tree hs (ls ++ draws_from draw i first)) ∙ round-at hs ls o e

      next-count : (s : Structure) (x : ℕ) (hs : List Held) (ls : List ℕ) (o : Outcome ℕ) → keys_held hs ≡ held
          → peak_at (fetch_round s x k (draw (first + i)) (done o) (going m row tree hs (ls ++ draws_from draw i first))) ≡ r.count
      next-count s x hs ls o e =
          ap peak_at (done-round s x k (draw (first + i)) o (going m row tree hs (ls ++ draws_from draw i first)))
          ∙ rw (← drawn) (round.counted hs (ls ++ draws_from draw i first) (done o) e)

      pub idling-shuts : (mark_of r.fault ≡ 0 → ⊥)
          → IdledAll k n draw count first at row₀ tree₀ trace₀ held row' tree' trace' (record { fault = r.fault; waiting = r.waiting; shown = i + 1; peak = peak' })
      idling-shuts h =
          record {
            rounds = λ hs ls o e.
                inv.rest hs ls o e ∙ rw left
                (put-shuts k draw (count - (i + 1)) (first + i) o (going m row tree hs (ls ++ draws_from draw i first)) (going_then hs ls) (mark_of r.fault)
                (round-at hs ls o e ∙ stops-here (mark_of r.fault) (going_then hs ls) (done o) h)
                ∙ sym (stops-here (mark_of r.fault) (going_then hs ls) (done o) h));
            peaked = λ s x hs ls o e.
                inv.peaks s x hs ls o e ∙ rw left
                (peak-shuts s x k draw (count - (i + 1)) (first + i) (done o) (going m row tree hs (ls ++ draws_from draw i first)) (going_then hs ls) (mark_of r.fault)
                (next-at s x hs ls o e ∙ stops-here (mark_of r.fault) (going_then hs ls) (done o) h) peak
                ∙ ap (max peak) (next-count s x hs ls o e) ∙ sym raised);
            revealed = revealed-one-more;
            rests = round.rests;
            no_more = omega arith;
            all_shown = λ e. absurd (h e);
          }

      pub idling-goes : mark_of r.fault ≡ 0 → Idling k n draw count first at row₀ tree₀ trace₀ held (i + 1) r.waiting peak' row' tree' trace'
      idling-goes h =
          record {
            upto = omega arith;
            rest = λ hs ls o e.
                inv.rest hs ls o e ∙ rw (left, later)
                (put-goes k draw (count - (i + 1)) (first + i) o (going m row tree hs (ls ++ draws_from draw i first)) (going_then hs ls)
                (round-at hs ls o e ∙ goes_on_lem (mark_of r.fault) (going_then hs ls) (done o) h));
            peaks = λ s x hs ls o e.
                inv.peaks s x hs ls o e ∙ rw (left, later)
                (peak-goes s x k draw (count - (i + 1)) (first + i) (done o) (going m row tree hs (ls ++ draws_from draw i first)) (going_then hs ls) (done o)
                (next-at s x hs ls o e ∙ goes_on_lem (mark_of r.fault) (going_then hs ls) (done o) h) peak
                ∙ ap (λ (c : ℕ). max c (peak_of (rounds_from s x k draw (count - (i + 1)) (suc (first + i)) (done o) (going_then hs ls)))) (ap (max peak) (next-count s x hs ls o e) ∙ sym raised));
            revealed = revealed-one-more;
            between = between-again inv.between is_leaf round h;
          }
