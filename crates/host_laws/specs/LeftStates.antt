-- What any call on a state that bytes say all of leaves: its places, mark, structure, size and count are read back, also where the call closed
-- the store. So a closed store is read out from its bytes as from its state, and answers every later call with 1.
use Rattle.std.specs.Prelude.{◌≡◌, refl, Bool, true, ◌&&◌, ◌⊎◌, ℕ, zero, suc, ◌+◌, ◌-◌, ◌%◌, ◌/◌, ◌^◌, ◌≤◌, ◌<◌, length, get_or, take, drop}
use Rattle.std.proofs.Math.Path.{sym, ap, ap₂, subst⁻¹}
use Rattle.std.proofs.Common.{◌∙◌, inl, inr, mod-eq_of_lt, arith, pow_pos, pow_mono, take-append-drop, drop_at, mod-lt}
use Rattle.std.proofs.Math.Bool.{false}
use mathlib.Core.List.{List, [], ◌∷◌, ◌++◌, append_assoc}
use Rattle.std.proofs.Math.Option.{some}
use Rattle.std.proofs.Math.Dec.{eqb}
use Rattle.std.proofs.Math.ListN.{length-append}
use borrow.Author.Tests.{eqb-true, eqb-false, eq-eqb, ne_eqb}
use Rattle.list_spec.specs.Choice.{pick}
use Rattle.list_spec.specs.Distinct.{All}
use Rattle.list_laws.specs.DistinctLaws.{all_nil, all_cons, all_append, all_right}
use Rattle.slot_spec.specs.LittleEndian.{Bytes, bytes}
use Rattle.slot_spec.specs.Layout.{fields, pack, Fit}
use Rattle.slot_spec.specs.Slot.{fields_of, Ranged, no_node}
use Rattle.slot_spec.specs.Tree.{tree_length}
use Rattle.slot_laws.specs.LayoutLaws.{fields-whole, fields-none}
use Rattle.method_spec.specs.Answer.{Op}
use Rattle.method_spec.specs.Rounds.{rounds}
use Rattle.bucket_call_spec.specs.Call.{draw_of}
use Rattle.none_lost_laws.specs.Ends.{Ends, keeps-room, ends-mark, ends-leaves, ends-kept}
use Rattle.none_lost_laws.specs.Lost.{call_ends}
use Rattle.state_spec.specs.declared.Place.{Place}
use Rattle.state_spec.specs.declared.State.{State}
use Rattle.state_spec.specs.Fit.{places, no_place, places_from, fits}
use Rattle.state_spec.specs.Ticket.{op_in, structure_of, out_of_keys}
use Rattle.state_spec.specs.Widths.{Widths}
use Rattle.state_laws.specs.FetchingLaws.{rounds-most}
use Rattle.fitness_laws.specs.FitState.{fit-state}
use Rattle.fitness_laws.specs.FitStores.{fit-store}
use Rattle.fitness_laws.specs.Tickets.{op_fits, key_left}
use Rattle.call_spec.specs.Reply.{Reply, Answered, Refused}
use Rattle.call_spec.specs.Store.{Ended, store_of, refusing, called, checks, first_met, decided}
use Rattle.call_peak_laws.specs.Theorems.{within-limit, overflow-waits}
use Rattle.demand_spec.specs.History.{pairs_in}
use Rattle.demand_laws.specs.Refusals.{same_number}
use Rattle.readout_spec.specs.ReadOut.{read_out}
use Rattle.lent_bytes_spec.specs.declared.StateHead.{StateHead}
use Rattle.lent_bytes_spec.specs.Numbers.{numbers_of, numbers_bytes}
use Rattle.lent_bytes_spec.specs.StateBytes.{head_widths, head_length, state_length, head_numbers, head_named, head_in, head_bytes, root_in, ahead_in, places_in, places_bytes, state_in, head_for, state_bytes}
use Rattle.lent_bytes_laws.specs.NumbersLaws.{numbers-written}
use Rattle.lent_bytes_laws.specs.HeadLaws.{head-length}
use Rattle.lent_bytes_laws.specs.PlaceLaws.{PlaceKept, full, none, AllKept, places-back, places-bytes-length}
use Rattle.lent_bytes_laws.specs.StateLaws.{StateKept}
use Rattle.demand_laws.specs.Checks.{Verdict, closed, unfit, other-tree, ill-brought, counts, verdict, left_by}
use Rattle.host_spec.specs.Host.{host_leaving, lengths_good, host_ended_as, host_called, read_as, host_read_out}
use Rattle.host_laws.specs.LengthLaws.{good-lengths}
use Rattle.host_laws.specs.KeptStates.{placed-kept, placed-sized}

-- ---- the widths of a state that bytes say all of
zero-ranged : Ranged no_node
unfolding Ranged Fit fields_of
zero-ranged = (omega arith, (omega arith, (omega arith, (omega arith, (omega arith, (omega arith, (omega arith, (omega arith, (omega arith, (omega arith, (omega arith, (omega arith, tt))))))))))))

kept-ranged : {p : Place} → PlaceKept p → Ranged p.node
kept-ranged (full n r) = r
kept-ranged none = zero-ranged

place-ranged : (ps : List Place) → AllKept ps → (i : ℕ) → Ranged (get_or ps i no_place).node
unfolding AllKept
place-ranged [] k i = zero-ranged
place-ranged (p ∷ ps) k zero = kept-ranged k.0
place-ranged (p ∷ ps) k (suc i) = place-ranged ps k.1 i

used-ranged : (ps : List Place) → AllKept ps → (n i : ℕ) → All (λ (p : Place). Ranged p.node) (places_from n i ps)
unfolding places_from
used-ranged ps k zero i = all_nil (λ (p : Place). Ranged p.node)
used-ranged ps k (suc n) i = all_cons {P = λ (p : Place). Ranged p.node} (place-ranged ps k i) (used-ranged ps k n (suc i))

root-low : (s : State) → StateKept s → s.root.key < 2 ^ 32
root-low s k = go (eqb s.structure 4) refl (eqb s.entries 0) refl k.head.key
  where
    go : (q : Bool) → eqb s.structure 4 ≡ q → (e : Bool) → eqb s.entries 0 ≡ e → pick (q && e) s.ahead.key s.root.key < 4294967296 → s.root.key < 2 ^ 32
    go true eq true ee h = let z = k.empty-queue (eqb-true s.structure 4 eq) (eqb-true s.entries 0 ee) in omega (arith, z)
    go true eq false ee h = h
    go false eq e ee h = h

pub kept-widths : (s : State) → StateKept s → s.ahead.key < 2 ^ 32 → Widths s
kept-widths s k low =
    record {
      entries = k.head.entries;
      root = (k.head.height, (root-low s k, k.head.tag));
      ahead = (low, k.head.ahead);
      nodes = used-ranged s.places k.kept s.count 0;
    }

-- ---- what a call leaves
pub mark-low : {n : ℕ} → (n ≡ 0) ⊎ ((n ≡ 8) ⊎ (n ≡ 9)) → n < 256
mark-low (inl z) = omega (arith, z)
mark-low (inr (inl z)) = omega (arith, z)
mark-low (inr (inr z)) = omega (arith, z)

pub record LeftKept (s : State) : Type 0 where
  pub mark : s.mark < 256
  pub structure : s.structure < 256
  pub size : s.size < 256
  pub count : s.count ≤ places
  pub sized : length s.places ≡ places
  pub kept : AllKept s.places

module _ (s : State) (k : StateKept s) (low : s.ahead.key < 2 ^ 32) (few : s.count ≤ places) (tree ticket tape trace : List ℕ) (tree-bytes : Bytes tree) (ticket-bytes : Bytes ticket) where
  stays : LeftKept s
  stays = record { mark = k.head.mark; structure = k.head.structure; size = k.head.size; count = few; sized = k.sized; kept = k.kept }

  abbrev e : Ended
  e = called s tree ticket tape trace

  -- What the rounds leave.
  left-ends : fits s ≡ true → length tree ≡ tree_length s.size → (op : Op (structure_of s.structure)) → op_in (structure_of s.structure) ticket ≡ some op
      → out_of_keys op s.ahead.key ≡ false
      → Ends s.size (rounds (structure_of s.structure) s.size) op (store_of s tree) (left_by (structure_of s.structure) s tree ticket tape trace op)
  left-ends fit sized op asked keyed =
      let f = fit-state s fit in
      call_ends s.size f.size.0 (omega (arith, f.size)) op (op_fits (structure_of s.structure) ticket ticket-bytes op asked) (draw_of s.size tape)
      (λ d. mod-lt _ (pow_pos s.size)) (store_of s tree) (fit-store s tree fit sized tree-bytes (kept-widths s k low)) (key_left op s.ahead.key low keyed)

  pub called-left : LeftKept e.state
  called-left = go (verdict (structure_of s.structure) s tree ticket tape trace refl)
    where
      same : {n : ℕ} → e ≡ refusing n s tree trace → LeftKept e.state
      same q = subst⁻¹ (λ (x : Ended). LeftKept x.state) q stays

      go : Verdict (structure_of s.structure) s tree ticket tape trace e → LeftKept e.state
      go (closed m q) = same q
      go (unfit f q) = same q
      go (other-tree f q) = same q
      go (ill-brought n i q) = same q
      go (counts fit sized op asked keyed long q) =
          let f = fit-state s fit in
          let l = left_by (structure_of s.structure) s tree ticket tape trace op in
          let ends = left-ends fit sized op asked keyed in
          let keeps = (ends-kept ends).1 in
          let room = keeps-room f.size.1 keeps in
          subst⁻¹ (λ (x : Ended). LeftKept x.state) q
          (record {
            mark = mark-low (ends-mark ends);
            structure = k.head.structure;
            size = k.head.size;
            count = room;
            sized = placed-sized l.waiting room;
            kept = placed-kept s.size l.waiting keeps.proper;
          })

  -- At most 66 leaves are revealed.
  pub called-shown : e.leaves ≤ 66
  called-shown = go (verdict (structure_of s.structure) s tree ticket tape trace refl)
    where
      same : {n : ℕ} → e ≡ refusing n s tree trace → e.leaves ≤ 66
      same q = subst⁻¹ (λ (x : Ended). x.leaves ≤ 66) q (omega arith)

      go : Verdict (structure_of s.structure) s tree ticket tape trace e → e.leaves ≤ 66
      go (closed m q) = same q
      go (unfit f q) = same q
      go (other-tree f q) = same q
      go (ill-brought n i q) = same q
      go (counts fit sized op asked keyed long q) =
          let size = (fit-state s fit).size in
          let most = rounds-most (structure_of s.structure) s.size size.1 in
          subst⁻¹ (λ (x : Ended). x.leaves ≤ 66) q (omega (arith, ends-leaves (left-ends fit sized op asked keyed), most))

  -- The numbers of the trace buffer stay of 16 bits: leaves are below 2^k.
  pub called-trace : All (λ (t : ℕ). t < 65536) trace → All (λ (t : ℕ). t < 65536) e.trace
  called-trace low-trace = go (verdict (structure_of s.structure) s tree ticket tape trace refl)
    where
      same : {n : ℕ} → e ≡ refusing n s tree trace → All (λ (t : ℕ). t < 65536) e.trace
      same q = subst⁻¹ (λ (x : Ended). All (λ (t : ℕ). t < 65536) x.trace) q low-trace

      go : Verdict (structure_of s.structure) s tree ticket tape trace e → All (λ (t : ℕ). t < 65536) e.trace
      go (closed m q) = same q
      go (unfit f q) = same q
      go (other-tree f q) = same q
      go (ill-brought n i q) = same q
      go (counts fit sized op asked keyed long q) =
          let l = left_by (structure_of s.structure) s tree ticket tape trace op in
          let leaves = (ends-kept (left-ends fit sized op asked keyed)).1.leaves in
          let p : 2 ^ s.size ≤ 2 ^ 8 = pow_mono {i = s.size} {j = 8} (omega (arith, (fit-state s fit).size)) in
          subst⁻¹ (λ (x : Ended). All (λ (t : ℕ). t < 65536) x.trace) q
          (all_append {P = λ (t : ℕ). t < 65536} l.leaves (λ t m. let below = leaves t m in omega (arith, below, p))
          (all_right {P = λ (t : ℕ). t < 65536} (take (length l.leaves) trace) (rw (take-append-drop (length l.leaves) trace) low-trace)))

  -- The peak fits a byte.
  pub called-peak : e.peak < 256
  called-peak = by-reply (nine e.reply)
    where
      nine : (r : Reply) → Dec (r ≡ Refused 9)
      nine (Answered a) = no (λ q. let z : ◌≡◌ {A = ℕ} 0 1 = cc in omega arith)
      nine (Refused n) = by (eqb n 9) refl
        where
          by : (b : Bool) → eqb n 9 ≡ b → Dec (Refused n ≡ Refused 9)
          by true q = yes (ap Refused (eqb-true n 9 q))
          by false q = no (λ h. eqb-false n 9 q (same_number h))

      by-reply : Dec (e.reply ≡ Refused 9) → e.peak < 256
      by-reply (yes q) = omega (arith, overflow-waits s tree ticket tape trace q, called-left.count)
      by-reply (no q) = omega (arith, within-limit s tree ticket tape trace q)

-- ---- its bytes
-- Numbers in bytes are read back modulo what their widths hold.
abbrev cut : List ℕ → List ℕ → List ℕ
cut [] vs = []
cut (w ∷ ws) [] = []
cut (w ∷ ws) (v ∷ vs) = v % 256 ^ w ∷ cut ws vs

fields-cut : (ws vs rest : List ℕ) → length ws ≡ length vs → fields ws (pack ws vs ++ rest) ≡ cut ws vs
unfolding pack
fields-cut [] vs rest e = fields-none (pack [] vs ++ rest)
fields-cut (w ∷ ws) [] rest e = let z : ⊥ = omega (arith, e) in absurd z
fields-cut (w ∷ ws) (v ∷ vs) rest e =
    ap (fields (w ∷ ws)) (append_assoc (bytes w v) (pack ws vs) rest) ∙ fields-whole w ws v (pack ws vs ++ rest)
    ∙ ap (λ (xs : List ℕ). v % 256 ^ w ∷ xs) (fields-cut ws vs rest (omega (arith, e)))

module _ (s : State) (k : LeftKept s) where
  abbrev bs : List ℕ
  bs = state_bytes s

  pub left-length : length bs ≡ state_length
  unfolding state_bytes
  left-length =
      length-append (head_bytes (head_for s)) (places_bytes s.places)
      ∙ omega (arith, head-length (head_for s), places-bytes-length s.places, k.sized)

  places-are : places_in places (drop head_length bs) ≡ s.places
  unfolding state_bytes
  places-are =
      ap₂ places_in (sym k.sized) (drop_at (head_bytes (head_for s)) (places_bytes s.places) head_length (head-length (head_for s)))
      ∙ places-back s.places k.kept

  head-cut : head_in bs ≡ head_named (cut head_widths (head_numbers (head_for s)))
  unfolding state_bytes head_bytes head_in
  head-cut = ap head_named (fields-cut head_widths (head_numbers (head_for s)) (places_bytes s.places) refl)

  pub mark-is : (head_in bs).mark ≡ s.mark
  mark-is = ap (λ (h : StateHead). h.mark) head-cut ∙ mod-eq_of_lt k.mark

  structure-is : (head_in bs).structure ≡ s.structure
  structure-is = ap (λ (h : StateHead). h.structure) head-cut ∙ mod-eq_of_lt k.structure

  size_is : (head_in bs).size ≡ s.size
  size_is = ap (λ (h : StateHead). h.size) head-cut ∙ mod-eq_of_lt k.size

  count-is : (head_in bs).waiting ≡ s.count
  count-is = ap (λ (h : StateHead). h.waiting) head-cut ∙ mod-eq_of_lt (omega (arith, k.count))

  -- All but the numbers that only a call asks about.
  abbrev alike : StateHead → State
  alike h =
      record {
        mark = s.mark;
        structure = s.structure;
        size = s.size;
        entries = h.entries;
        root = root_in h;
        ahead = ahead_in h;
        count = s.count;
        places = s.places;
      }

  reads-alike : state_in bs ≡ alike (head_in bs)
  unfolding state_in
  reads-alike = rw (mark-is, structure-is, size_is, count-is, places-are)

  -- The pairs that it holds are those of the state.
  pub same-pairs : (tree : List ℕ) → pairs_in (state_in bs) tree ≡ pairs_in s tree
  same-pairs tree = ap (λ (x : State). pairs_in x tree) reads-alike

  -- It is read out as the state is.
  pub reads-out : (tree out : List ℕ) → host_read_out bs tree out ≡ read_as (read_out s tree out)
  unfolding host_read_out read_out
  reads-out tree out = rw (eq-eqb (length bs) state_length left-length) (ap (λ (x : State). read_as (read_out x tree out)) reads-alike)

  -- A closed one answers every call as the state does.
  pub stays_closed : (s.mark ≡ 0 → ⊥) → (tree ticket tape trace result : List ℕ) → Bytes trace → lengths_good state_length (length tape) (length trace) (length result) ≡ true
      → host_called bs tree ticket tape trace result ≡ host_ended_as result (called s tree ticket (numbers_of tape) (numbers_of trace))
  unfolding host_called called checks first_met decided
  stays_closed m tree ticket tape trace result b good =
      let marked : eqb (head_in bs).mark 0 ≡ false = ap (λ (n : ℕ). eqb n 0) mark-is ∙ ne_eqb s.mark 0 m in
      let even = (good-lengths state_length (length tape) (length trace) (length result) good).trace-even in
      let kept : trace ≡ numbers_bytes (numbers_of trace) = sym (numbers-written (length trace / 2) trace b (omega (arith, even))) in
      rw (left-length, good, marked, ne_eqb s.mark 0 m) (ap (λ (t : List ℕ). host_leaving 1 bs tree t result) kept)
