-- `one_round::want_round` meets its contract: one case of the round for each return.
use Rattle.std.proofs.Common.{◌≡◌, refl, sym, ◌∙◌, subst, true, List, ℕ, get_or, take, Fits, w8, None, Some, arith, rules}
use borrow.Author.Tests.{not-true, not-false}
use Rattle.slot_laws.specs.LittleEndianLaws.{bytes-from}
use Rattle.path_reader.specs.UndoneLaws.{were-joined, undone-same}
use Rattle.round_close.specs.declared.Fault.TheVariants.{Damage}
use Rattle.word_round_laws.specs.SlotRow.{slots_in}
use Rattle.path_reader.specs.Look.{Granted, Refused}
use Rattle.one_round.specs.OneRound.{Wanted}
use Rattle.one_round.specs.ReadyLaws.{ready-fit}
use Rattle.one_round.specs.CloseLaws.{looked-joint}
use Rattle.one_round.specs.WantLaws.{wish_of_want, want-damage, want-untested, want-goes}
use Rattle.one_round.proofs.want_round.Goals as goal

pub look-requires : goal.look-requires
look-requires g c = rw c.from-leaf.ensures (ready-fit c.requires.ready)

pub returns-in_default : goal.returns-in_default
returns-in_default g c structure entries tests =
    let a = c.args in
    let leaf = c.from-leaf.ensures in
    let refused : Refused a.size a.want.link.tag (wish_of_want a.want) a.n a.w.now a.tree.now a.held.now c.look.new.w = rw leaf at c.in_default.ensures.0 in
    rw c.damaged.ensures
    (subst (λ (row : List ℕ). Wanted structure entries a.size a.n a.want a.w.now a.tree.now a.held.now row a.tree.now (record { fault = Some Damage; waiting = a.n; count = 0; node = None }))
    (sym refused.same) (want-damage structure entries a.want c.requires.ready refused))

pub undo-requires : goal.undo-requires
undo-requires g c =
    let a = c.args in
    let r = c.in-Ok.r in
    (search rules, were-joined a.size a.held.now (take a.n (slots_in a.w.now)) a.tree.now (take r.full c.look.new.from) r.count c.look.new.w c.in-Ok.ensures.1.joined)

pub returns-then-not-test : goal.returns-then-not-test
returns-then-not-test g c structure entries tests =
    let a = c.args in
    let r = c.in-Ok.r in
    let leaf = c.from-leaf.ensures in
    let granted : Granted a.size a.want.link.tag (wish_of_want a.want) a.n a.w.now a.tree.now a.held.now c.look.new.w r = rw leaf at c.in-Ok.ensures.0 in
    let h = c.requires.ready.holds in
    let after = c.undo.new.s in
    let back : after ≡ a.w.now =
    undone-same a.size a.held.now a.tree.now (take r.full c.look.new.from) a.n r.count a.w.now c.look.new.w after c.in-Ok.ensures.1.joined c.undo.ensures h.few h.blank granted.blank
    (bytes-from a.w.now (λ i _. let f : Fits w8 (get_or a.w.now i 0) = search rules in f.fits)) (bytes-from after (λ i _. (c.type_inv.w i).fits)) h.sized (search rules) in
    rw c.damaged-then-not-test.ensures
    (subst (λ (row : List ℕ). Wanted structure entries a.size a.n a.want a.w.now a.tree.now a.held.now row a.tree.now (record { fault = Some Damage; waiting = a.n; count = 0; node = None }))
    (sym back) (want-untested structure entries a.want c.requires.ready r granted (sym (tests r.node c.test.result c.test.ensures) ∙ c.if-not-test.true)))

pub settle-waiting-requires : goal.settle-waiting-requires
settle-waiting-requires g c =
    let granted : Granted c.args.size c.args.want.link.tag (wish_of_want c.args.want) c.args.n c.args.w.now c.args.tree.now c.args.held.now c.look.new.w c.in-Ok.r = rw c.from-leaf.ensures at c.in-Ok.ensures.0 in (
      rw c.from-leaf.ensures (looked-joint c.requires.ready (wish_of_want c.args.want) c.in-Ok.r granted (search rules) true c.in-Ok.r.at (λ e. granted.inside refl)),
      c.in-Ok.ensures.1.gathered.starts,
    )

pub returns : goal.returns
returns g c structure entries tests =
    let a = c.args in
    let r = c.in-Ok.r in
    let granted : Granted a.size a.want.link.tag (wish_of_want a.want) a.n a.w.now a.tree.now a.held.now c.look.new.w r = rw c.from-leaf.ensures at c.in-Ok.ensures.0 in
    want-goes structure entries a.want c.requires.ready r granted c.close_of-count.result
    (sym (tests r.node c.test.result c.test.ensures) ∙ c.if-not-test.false) (rw c.from-leaf.ensures at c.settle-waiting.ensures) c.close_of-count.ensures
