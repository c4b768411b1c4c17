-- `path_reader::look` meets its contract: one case of the read half for each return.
use Rattle.std.proofs.Common.{◌≡◌, refl, sym, ◌∙◌, ◌≤◌, Fits, w8, List, take, get_or, Some, None, Option, arith, rules}
use Rattle.std.proofs.Math.Option.{none}
use Rattle.std.proofs.lemmas.Result.{err_from_is_err_and}
use Rattle.slot_spec.specs.LittleEndian.{Bytes}
use Rattle.slot_laws.specs.LittleEndianLaws.{bytes-from}
use Rattle.slot_laws.specs.ByteRow.{same_row}
use Rattle.round_spec.specs.Round.{read_half}
use Rattle.round_spec.specs.Nodes.{words_format}
use Rattle.word_round_laws.specs.SlotRow.{places, slots_in}
use Rattle.path_reader.specs.Look.{wish_of, Granted}
use Rattle.path_reader.specs.UndoneLaws.{were-joined, undone-same}
use Rattle.path_reader.specs.LookedLaws.{half-damage, within-path, looked-nothing, half-missing, half-other, looked-found}
use Rattle.path_reader.specs.declared.Wish.{Wish}
use Rattle.path_reader.proofs.look.Goals as goal
use Rattle.path_reader.proofs.look.Goals.{then-at-count+else-tag_of-wish, else-at-count}

only_none : (w : Option Wish) → ((x : Wish) → w ≡ Some x → ⊥) → w ≡ None
only_none None h = refl
only_none (Some x) h = absurd (h x refl)

pub returns-in_err-count : goal.returns-in_err-count
returns-in_err-count c =
    let a = c.args in
    let p = err_from_is_err_and c.from_residual.result c.from_residual.ensures.1 in
    let none_joined = c.in_err-count.ensures in
    let bytes : Bytes a.w.now = bytes-from a.w.now (λ i h. let f : Fits w8 (get_or a.w.now i 0) = search rules in f.fits) in
    let row = c.read_path.new.s in
    rw p.1 (
      record {
        half = half-damage a.size a.leaf a.n a.w.now a.tree.now a.held.now c.requires.distinct a.wish row none_joined;
        same = same_row places row a.w.now (bytes-from row (λ i h. (c.type_inv.w i).fits)) bytes (search rules) (search rules) none_joined.same;
      },
      tt,
    )

pub returns-in_default : goal.returns-in_default
returns-in_default c =
    let a = c.args in
    let o = c.in_ok-count in (
      rw (only_none a.wish c.in_default.not-Some)
          (looked-nothing a.size a.leaf a.n a.w.now a.tree.now a.held.now c.requires.distinct c.read_path.new.s o.field-0.count o.ensures.0 c.default.result o.field-0.full),
      o.ensures.1,
    )

pub returns-then-tag_of-wish : goal.returns-then-tag_of-wish
returns-then-tag_of-wish c =
    let a = c.args in
    let o = c.in_ok-count in
    let wish = c.in-Some.wish in
    let inside = within-path a.size a.leaf a.n a.w.now a.tree.now a.held.now c.requires.distinct c.read_path.new.s o.field-0.count o.ensures.0 in (
      rw c.in-Some.is
          (looked-found a.size a.leaf a.n a.w.now a.tree.now a.held.now c.requires.distinct c.read_path.new.s o.field-0.count o.ensures.0
          wish c.find-at.result (omega (arith, inside, c.requires.room)) c.find-at.ensures c.if-at-count.true c.get-x.result c.get-x.ensures
          c.tag_of.result c.tag_of.ensures c.if-tag_of-wish.true c.node_of.result o.field-0.full c.node_of.ensures),
      o.ensures.1,
    )

pub returns : goal.returns
returns c =
    let a = c.args in
    let o = c.in_ok-count in
    let wish = c.in-Some.wish in
    let row = c.read_path.new.s in
    let inside = within-path a.size a.leaf a.n a.w.now a.tree.now a.held.now c.requires.distinct row o.field-0.count o.ensures.0 in
    let fits : o.field-0.count ≤ places = omega (arith, inside, c.requires.room) in
    let bytes : Bytes a.w.now = bytes-from a.w.now (λ i h. let f : Fits w8 (get_or a.w.now i 0) = search rules in f.fits) in
    let left : Bytes c.undo.new.s = bytes-from c.undo.new.s (λ i h. (c.type_inv.w i).fits) in
    let damaged : read_half words_format a.size a.tree.now a.leaf (wish_of (Some wish)) a.held.now (take a.n (slots_in a.w.now)) ≡ none =
    elim c.if-at-count.branch [
      | then-at-count+else-tag_of-wish w ↦
          half-other a.size a.leaf a.n a.w.now a.tree.now a.held.now c.requires.distinct row o.field-0.count o.ensures.0
          wish c.find-at.result fits c.find-at.ensures w.if-at-count.true w.get-x.result w.get-x.ensures w.tag_of.result w.tag_of.ensures w.if-tag_of-wish.false
      | else-at-count w ↦
          half-missing a.size a.leaf a.n a.w.now a.tree.now a.held.now c.requires.distinct row o.field-0.count o.ensures.0
          wish c.find-at.result fits c.find-at.ensures w.if-at-count.false
    ] in (
      record {
        half = rw c.in-Some.is damaged;
        same = undone-same a.size a.held.now a.tree.now (take o.field-0.full c.read_path.new.from) a.n o.field-0.count a.w.now row c.undo.new.s
            o.ensures.1.joined c.undo.ensures (omega (arith, c.requires.room)) c.requires.blank o.ensures.0.blank bytes left (search rules) (search rules);
      },
      tt,
    )

pub undo-requires : goal.undo-requires
undo-requires c =
    let a = c.args in
    let o = c.in_ok-count in
    (search rules, were-joined a.size a.held.now (take a.n (slots_in a.w.now)) a.tree.now (take o.field-0.full c.read_path.new.from) o.field-0.count c.read_path.new.s o.ensures.1.joined)
