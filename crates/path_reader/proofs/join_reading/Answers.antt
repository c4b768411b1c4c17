-- `path_reader::join_reading` meets its contract: one case of the reading for each return.
use Rattle.std.proofs.Common.{◌≡◌, refl, sym, ◌∙◌, ap, subst, true, false, List, [], ◌∷◌, ℕ, ◌+◌, ◌^◌, ◌<◌, take, arith, rules}
use Rattle.std.proofs.Math.Option.{some}
use borrow.Author.Tests.{not-true, not-false}
use Rattle.slot_spec.specs.Slot.{slot_bytes, read_slot}
use Rattle.slot_laws.specs.SlotLaws.{Words}
use Rattle.slot_spec.specs.Tree.{among}
use Rattle.slot_spec.specs.declared.Slot.{Slot}
use Rattle.slot_spec.specs.declared.Node.{Node}
use Rattle.slot_spec.specs.declared.Reading.{Reading}
use Rattle.slot_spec.specs.declared.Reading.TheVariants.{Full, Empty, Bad}
use Rattle.round_spec.specs.Format.{full}
use Rattle.round_spec.specs.Round.{keys_of}
use Rattle.round_spec.specs.Nodes.{words_format}
use Rattle.word_round_laws.specs.SlotRow.{Leaves, slots_in}
use Rattle.word_round_laws.specs.SlotRowLaws.{blank-more}
use Rattle.word_round_laws.specs.JoinLaws.{reading-empty, reading-bad, reading-held, reading-waiting, reading-new, insert_all}
use Rattle.word_round_laws.specs.ReadingLaws.{full-reading, full-key, full-tag, empty-reading, bad-reading}
use Rattle.path_reader.specs.Joined.{NoneJoined}
use Rattle.path_reader.proofs.join_reading.Goals as goal
use Rattle.path_reader.proofs.join_reading.Goals.{else-not-is_held-via-then-not-is_held+else-join_slot, else-not-is_held-via-else-not-is_held}

-- Neither full nor empty.
only-bad : (r : Reading) → ((x : Node) → r ≡ Full x → ⊥) → (r ≡ Empty → ⊥) → r ≡ Bad
only-bad (Full n) u v = absurd (u n refl)
only-bad Empty u v = absurd (v refl)
only-bad Bad u v = refl

-- A full slot: what it reads as, and whether its key is held.
module _ (k b : ℕ) (x : Slot) (node : Node) (held : List ℕ) (words : Words x) (reads : read_slot k b (slot_bytes x) ≡ Full node) where
  read_full : words_format.read k b (slot_bytes x) ≡ full x
  read_full = full-reading k b x words node reads

  held_key : among node.key held ≡ among (words_format.key x) held
  held_key = ap (λ (k : ℕ). among k held) (full-key k b x words node reads)

pub returns-in_default : goal.returns-in_default
returns-in_default c =
    let a = c.args in
    let e = empty-reading a.size a.bucket a.x (sym c.reading-r.ensures ∙ c.in-Empty.is) in
    record {
      within = omega arith;
      joined = rw e (reading-empty words_format a.held.now (take a.m (slots_in a.s.now)));
      blank = c.requires.3;
      leaves = λ v. v;
    }

pub returns-in_default-r : goal.returns-in_default-r
returns-in_default-r c =
    let a = c.args in
    let e = bad-reading a.size a.bucket a.x (sym c.reading-r.ensures ∙ only-bad c.reading-r.result c.in_default.not-Full c.in_default-r.not-Empty) in
    record { refused = rw e (reading-bad words_format a.held.now (take a.m (slots_in a.s.now))); same = refl }

pub returns-then-join_slot : goal.returns-then-join_slot
returns-then-join_slot c =
    let a = c.args in
    let waiting : List Slot = take a.m (slots_in a.s.now) in
    let words : Words a.x = search rules in
    let reads : read_slot a.size a.bucket (slot_bytes a.x) ≡ Full c.in-Full.n = sym c.reading-r.ensures ∙ c.in-Full.is in
    let j = c.join_slot in
    let t : j.result ≡ true = c.if-join_slot.true in
    let free : c.is_held.result ≡ false = c.if-not-is_held.true in
    let h : among (words_format.key a.x) a.held.now ≡ false =
    sym (held_key a.size a.bucket a.x c.in-Full.n a.held.now words reads) ∙ sym c.is_held.ensures ∙ free in
    let q = not-true (among (words_format.key a.x) (keys_of words_format waiting)) (sym j.ensures.is-new ∙ t) in
    let l = full-tag a.size a.bucket a.x words c.in-Full.n reads in
    record {
      within = omega arith;
      joined = rw (read_full a.size a.bucket a.x c.in-Full.n a.held.now words reads) (reading-new words_format a.held.now a.x waiting h q) ∙ ap some (sym (j.ensures.joined t));
      blank = j.ensures.rest t ∙ blank-more a.s.now a.m (a.m + 1) (omega arith) c.requires.3;
      leaves = λ v. subst (Leaves a.size) (sym (j.ensures.joined t)) (insert_all words_format {P = λ (y : Slot). words_format.tag y < 2 ^ a.size} a.x waiting l v);
    }

pub returns-else-not-is_held : goal.returns-else-not-is_held
returns-else-not-is_held c =
    let a = c.args in
    let waiting : List Slot = take a.m (slots_in a.s.now) in
    let words : Words a.x = search rules in
    let reads : read_slot a.size a.bucket (slot_bytes a.x) ≡ Full c.in-Full.n = sym c.reading-r.ensures ∙ c.in-Full.is in
    let is-full = read_full a.size a.bucket a.x c.in-Full.n a.held.now words reads in
    elim c.else-not-is_held.branch [
      | else-not-is_held-via-then-not-is_held+else-join_slot w ↦
          let j = w.join_slot in
          let q = not-false (among (words_format.key a.x) (keys_of words_format waiting)) (sym j.ensures.is-new ∙ w.if-join_slot.false) in
          rw w.s-is (record { refused = rw is-full (reading-waiting words_format a.held.now a.x waiting q); same = j.ensures.same w.if-join_slot.false })
      | else-not-is_held-via-else-not-is_held w ↦
          let q = sym (held_key a.size a.bucket a.x c.in-Full.n a.held.now words reads) ∙ sym c.is_held.ensures ∙ w.if-not-is_held.false in
          rw w.s-is (record { refused = rw is-full (reading-held words_format a.held.now a.x waiting q); same = refl })
    ]
