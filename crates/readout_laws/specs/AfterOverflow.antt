-- Document 02, change 3: "After a 9 in a store that began fresh and that only its own calls changed, nothing is left out and the file
-- holds the contents before or after that call." The statement, for every structure and size, is `ReadsOut` (promise_spec).
use Rattle.std.specs.Prelude.{ℕ, ◌≤◌, ◌≡◌, refl, true, List, [], ◌∷◌, ◌++◌, map, length}
use Rattle.std.proofs.Common.{sym, ◌∙◌, ap, subst, arith, eq-eqb, le-ltb}
use Rattle.std.proofs.Math.Path.{subst⁻¹}
use mathlib.Core.List.Memᴰ
use Rattle.std.proofs.Math.Option.{some}
use Rattle.list_spec.specs.Perm.{Perm}
use Rattle.list_spec.specs.Distinct.{All}
use Rattle.list_laws.specs.DistinctLaws.{all_right}
use Rattle.slot_spec.specs.LittleEndian.{Bytes}
use Rattle.slot_spec.specs.Tree.{tree_length}
use Rattle.method_spec.specs.Answer.{Structure, map as the-map, queue as the-queue, Op}
use Rattle.method_spec.specs.Plain.{Contents, Entries, plain, plain_contents, nothing}
use Rattle.method_spec.specs.Call.{capacity}
use Rattle.bucket_call_spec.specs.Simulates.{Remains}
use Rattle.simulation_laws.specs.Entries.{entries-perm}
use Rattle.state_spec.specs.declared.State.{State}
use Rattle.state_spec.specs.Ticket.{op_in}
use Rattle.call_spec.specs.Reply.{Refused}
use Rattle.demand_spec.specs.History.{Brought, StateAndTree, call_on, left_by, finally, pairs_in}
use Rattle.demand_spec.specs.Demands.{fetching, opened_store, method, start, before, asked, left, ClosedBy, Ending, stays_open, closes}
use Rattle.list_spec.specs.Ascending.{ascending}
use Rattle.demand_laws.specs.OpenedRuns.{method-held}
use Rattle.demand_laws.specs.UntilClosed.{overflows, closed_at, remains-of, before-bytes, of_left}
use Rattle.demand_laws.specs.Proved.{demand2}
use Rattle.readout_spec.specs.Taken.{Omitted, pair_of_entry, entries, report}
use Rattle.readout_spec.specs.ReadOut.{ReadOutLeft, file_of, writing, read_out}
use Rattle.readout_spec.specs.ReadBack.{read_back}
use Rattle.promise_spec.specs.ReadsOut.{closed, plain_before, ReadsOut}
use Rattle.readout_laws.specs.Whole.{whole-entries, whole-report}
use Rattle.readout_laws.specs.InOrder.{values_of, oldest-first, keys_of, plain-ascends, entries-ascend, in-order-once}
use Rattle.readout_laws.specs.BackLaws.{ranged-read-back}
use Rattle.readout_laws.specs.LeftWhole.{Readable, left-readable}

-- A closed store that can be read out is written into each buffer that has room.
written_out : (s : State) (tree : List ℕ) → s.mark ≡ 9 → Readable s tree → (out : List ℕ) → length (file_of s tree) ≤ length out
    → read_out s tree out ≡ writing (file_of s tree) out
unfolding read_out
written_out s tree mark readable out room =
    rw (mark, readable.is_known, eq-eqb (length tree) (tree_length s.size) readable.sized, le-ltb (length out) (length (file_of s tree)) room)

-- What was written is read back, and has no report.
read-back-out : (s : State) (tree : List ℕ) → s.mark ≡ 9 → Readable s tree → (out : List ℕ) → length (file_of s tree) ≤ length out
    → read_back (length (file_of s tree)) (read_out s tree out).out ≡ record { entries = map pair_of_entry (entries s tree); report = [] }
read-back-out s tree mark readable out room =
    ranged-read-back s tree out (length (file_of s tree)) readable.bytes readable.ranged
    (ap (λ (l : ReadOutLeft). l.result) (written_out s tree mark readable out room))
    ∙ ap (λ (os : List Omitted). record { entries = map pair_of_entry (entries s tree); report = os }) (whole-report s tree readable.whole)

module _ (st : Structure) (k : ℕ) (positive : 1 ≤ k) (small : k ≤ 8) (tree : List ℕ) (sized : length tree ≡ tree_length k)
    (bs : List Brought) (bytes : All (λ b. Bytes b.ticket) bs) where
  -- What a call that closes the store left can be read out.
  call-readable : (b : Brought) → Bytes b.ticket → ((call_on (left st k tree bs) b).state.mark ≡ 0 → ⊥)
      → Readable (call_on (left st k tree bs) b).state (call_on (left st k tree bs) b).tree
  call-readable b ticket =
      let first-bytes = before-bytes st k positive small tree sized bs bytes in
      let holds = method-held st k positive small tree sized (before st k tree bs) first-bytes in
      of_left st k positive small tree sized bs bytes
      (λ s. ((call_on s b).state.mark ≡ 0 → ⊥) → Readable (call_on s b).state (call_on s b).tree)
      (λ s sim shut. left-readable st k positive small s _ sim _ holds b (overflows st k s _ b positive small sim _ holds ticket shut))

  -- Where the call b closed the store.
  module _ (b : Brought) (after : List Brought) (e : bs ≡ before st k tree bs ++ (b ∷ after))
      (by : ClosedBy st k (left st k tree bs) (method st k (start st k tree bs) (before st k tree bs)).memory (plain_before st k tree bs) b)
      (mark : (closed st k tree bs).state.mark ≡ 9) where
    -- The state and the tree at the end.
    abbrev s : State
    s = (closed st k tree bs).state

    abbrev lent : List ℕ
    lent = (closed st k tree bs).tree

    -- They are those that the call left, and can be read out.
    as-left : closed st k tree bs ≡ left_by (call_on (left st k tree bs) b)
    as-left = ap (finally (start st k tree bs)) e ∙ closed_at (start st k tree bs) (before st k tree bs) b after by.overflow

    readable : Readable s lent
    readable =
        let ticket : Bytes b.ticket =
        all_right {P = λ b. Bytes b.ticket} (before st k tree bs) (rw e at bytes) b (Memᴰ.head refl) in
        let marked : (call_on (left st k tree bs) b).state.mark ≡ 9 = ap (λ (x : StateAndTree). x.state.mark) (sym as-left) ∙ mark in
        subst⁻¹ (λ (x : StateAndTree). Readable x.state x.tree) as-left (call-readable b ticket (λ z. omega arith))

    -- The pairs that it left are those of the entries.
    all-entries : Perm (pairs_in (call_on (left st k tree bs) b).state (call_on (left st k tree bs) b).tree) (map pair_of_entry (entries s lent))
    all-entries =
        subst (λ (x : StateAndTree). Perm (pairs_in x.state x.tree) (map pair_of_entry (entries s lent))) as-left
        (whole-entries s lent readable.whole)

    -- So all of the statement holds.
    closed-reads-out : ReadsOut st k tree bs
    closed-reads-out =
        record {
          b = b;
          after = after;
          then-closed = e;
          op = by.op;
          asks = by.asks;
          overflow = by.overflow;
          written = written_out s lent mark readable;
          nothing-left-out = whole-report s lent readable.whole;
          contents = remains-of (entries-perm st _ all-entries) (entries-perm st _ all-entries) by.contents;
          reads-back = read-back-out s lent mark readable;
        }

-- From a good opening, with any tickets of bytes, tapes and trace buffers.
pub after-overflow : (st : Structure) (k : ℕ) → 1 ≤ k → k ≤ 8 → (tree : List ℕ) → length tree ≡ tree_length k → (bs : List Brought)
    → All (λ b. Bytes b.ticket) bs → (finally (opened_store st k tree) bs).state.mark ≡ 9 → ReadsOut st k tree bs
after-overflow st k positive small tree sized bs bytes mark = go (demand2 st k positive small tree sized bs bytes).ends
  where
    go : Ending st k tree bs → ReadsOut st k tree bs
    go (stays_open e m) = let z : ⊥ = omega arith in absurd z
    go (closes b after e m by) = closed-reads-out st k positive small tree sized bs bytes b after e by mark

-- ---- the map

-- A map's entries are the table itself, in its order: the table before the call and the one after it are in ascending order of keys, as the
-- entries are.
pub map-exact : (k : ℕ) (tree : List ℕ) (bs : List Brought) (r : ReadsOut the-map k tree bs)
    → Remains (λ ps. ps ≡ plain_before the-map k tree bs) (λ ps. ps ≡ (plain (capacity k) r.op (plain_before the-map k tree bs)).contents)
    (map pair_of_entry (entries (closed the-map k tree bs).state (closed the-map k tree bs).tree))
    (fetching (left the-map k tree bs).state (left the-map k tree bs).tree r.b.ticket r.b.tape r.b.trace the-map r.op)
map-exact k tree bs r =
    let tables = plain-ascends k (asked the-map k tree bs) r.op in
    let file : ascending (keys_of (map pair_of_entry (entries (closed the-map k tree bs).state (closed the-map k tree bs).tree))) ≡ true =
    entries-ascend (closed the-map k tree bs).state (closed the-map k tree bs).tree in
    remains-of (in-order-once tables.0 file) (in-order-once tables.1 file) r.contents

-- ---- the queue

-- A queue's values stand in the file oldest first.
pub queue-exact : (k : ℕ) (tree : List ℕ) (bs : List Brought) (r : ReadsOut the-queue k tree bs)
    → Remains (λ ps. values_of ps ≡ plain_before the-queue k tree bs) (λ ps. values_of ps ≡ (plain (capacity k) r.op (plain_before the-queue k tree bs)).contents)
    (map pair_of_entry (entries (closed the-queue k tree bs).state (closed the-queue k tree bs).tree))
    (fetching (left the-queue k tree bs).state (left the-queue k tree bs).tree r.b.ticket r.b.tape r.b.trace the-queue r.op)
queue-exact k tree bs r =
    let file = entries-ascend (closed the-queue k tree bs).state (closed the-queue k tree bs).tree in
    remains-of (oldest-first file) (oldest-first file) r.contents
