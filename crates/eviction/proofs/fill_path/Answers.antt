-- `eviction::fill_path` meets its contract. The invariant: of the first i slots all but number out were placed, and their places have what is left.
use mathlib.Core.Path.{◌≡◌, ◌∙◌, subst}
use mathlib.Core.List.{List}
use Prim.Native.Nat.{ℕ, ◌+◌, ◌^◌, ◌≤◌, ◌<◌}
use lib.ListN.{length, take, get_or}
use Rattle.slot_spec.specs.Tree.{path, tree_length}
use Rattle.slot_spec.specs.Row.{zero_slot}
use Rattle.slot_spec.specs.declared.Slot.{Slot}
use Rattle.round_spec.specs.Nodes.{words_format}
use Rattle.word_round_laws.specs.SlotRow.{places, slots_in}
use Rattle.word_round_laws.specs.SlotRowLaws.{slots-count, words-tag}
use Rattle.word_round_laws.specs.Stash.{without}
use Rattle.eviction.specs.SettleLaws.{Placing, Swept, placing-start, swept-start, swept-got, swept-front, swept-emptied, swept-left, swept-put, without-none, without-same, tag-leaf, found-level, turn-room, turn-stored, turn-left, placing-length, path-filled}
use Rattle.word_round_laws.specs.Fill.{cleared, meeting, room_from}
use Rattle.word_round_laws.specs.MeetLaws.{meeting-within}
use native.Mathlib.Omega.{arith}
use borrow.Author.Rules.{rules}
use Rattle.eviction.proofs.fill_path.Goals as goal
use Rattle.eviction.proofs.fill_path.Goals.{then-i-out+then-level-size, then-i-out+else-level-size, else-i-out}

pub loop-i-init : goal.loop-i-init
loop-i-init c =
    let a = c.args in (
      swept-start a.w.now c.requires.0,
      λ tree n e. rw (without-none {A = Slot} a.out) (placing-start a.size a.leaf tree c.clear_path.new.tree c.requires.3 e),
    )

pub room_from-level-requires : goal.room_from-level-requires
room_from-level-requires c =
    let size : ℕ = c.args.size in
    let first : List Slot = slots_in c.args.w.now in
    let x : Slot = c.get-x.result in
    let row : List ℕ = c.clear.new.s in
    let few : c.args.m ≤ length first =
    (let n = slots-count c.args.w.now in omega (arith, c.requires.2)) in
    let below : c.loop-i.i < c.args.m = c.loop-i-test.true in
    let got : x ≡ get_or first c.loop-i.i zero_slot = c.get-x.ensures ∙ swept-got first c.loop-i.i c.loop-i.w c.loop-i.kept c.loop-i.invariant.0 in
    let is_leaf : words_format.tag x < 2 ^ size = tag-leaf size c.args.m c.loop-i.i first x c.requires.5 below few got in
    let Placed : List ℕ → Type 0 = λ tree. Placing size c.args.leaf tree (without c.args.out (take c.loop-i.i first)) c.loop-i.tree c.loop-i.used (take c.loop-i.kept (slots_in row)) in
    let Cleared : List ℕ → Type 0 = λ tree. (length tree ≡ tree_length size) × (c.clear_path.new.tree ≡ cleared tree (path size c.args.leaf)) in
    let placed : (tree : List ℕ) → Cleared tree → Placed tree =
    (λ tree h. let e = swept-front first c.loop-i.i c.loop-i.w c.loop-i.kept c.loop-i.invariant.0 row c.clear.ensures in
    rw e (c.loop-i.invariant.1 tree h.0 h.1)) in
    let now-placed : Placed c.args.tree.now = placed c.args.tree.now (c.requires.6, c.clear_path.ensures) in (
      c.requires.3,
      rw (c.meet.ensures, c.from.ensures, c.tag_of.ensures, ← words-tag x) (meeting-within size c.args.leaf (words_format.tag x) (omega (arith, c.requires.3)) c.requires.4 is_leaf),
    )

pub store_slot-requires : goal.store_slot-requires
store_slot-requires c =
    let size : ℕ = c.args.size in
    let first : List Slot = slots_in c.args.w.now in
    let x : Slot = c.get-x.result in
    let row : List ℕ = c.clear.new.s in
    let few : c.args.m ≤ length first =
    (let n = slots-count c.args.w.now in omega (arith, c.requires.2)) in
    let below : c.loop-i.i < c.args.m = c.loop-i-test.true in
    let got : x ≡ get_or first c.loop-i.i zero_slot = c.get-x.ensures ∙ swept-got first c.loop-i.i c.loop-i.w c.loop-i.kept c.loop-i.invariant.0 in
    let Placed : List ℕ → Type 0 = λ tree. Placing size c.args.leaf tree (without c.args.out (take c.loop-i.i first)) c.loop-i.tree c.loop-i.used (take c.loop-i.kept (slots_in row)) in
    let Cleared : List ℕ → Type 0 = λ tree. (length tree ≡ tree_length size) × (c.clear_path.new.tree ≡ cleared tree (path size c.args.leaf)) in
    let placed : (tree : List ℕ) → Cleared tree → Placed tree =
    (λ tree h. let e = swept-front first c.loop-i.i c.loop-i.w c.loop-i.kept c.loop-i.invariant.0 row c.clear.ensures in
    rw e (c.loop-i.invariant.1 tree h.0 h.1)) in
    let now-placed : Placed c.args.tree.now = placed c.args.tree.now (c.requires.6, c.clear_path.ensures) in
    let found : c.room_from-level.result ≡ room_from (meeting c.args.leaf (words_format.tag x)) (take (size + 1) c.loop-i.used) =
    (found-level size c.args.leaf c.loop-i.used x c.tag_of.result c.meet.result c.room_from-level.result
    c.tag_of.ensures (rw c.from.ensures at c.meet.ensures) c.room_from-level.ensures) in
    let room : c.room_from-level.result ≤ size → get_or c.loop-i.used c.room_from-level.result 0 < 4 =
    (λ h. let l = c.loop-i in
    turn-room size c.args.leaf c.args.m c.args.out l.i first c.args.tree.now l.tree l.used (take l.kept (slots_in row)) c.room_from-level.result x
    c.requires.3 c.requires.4 c.requires.6 c.requires.5 below few got now-placed found h) in
    let l = c.loop-i in
    let n = placing-length c.args.size c.args.leaf c.args.tree.now (without c.args.out (take l.i first)) l.tree l.used (take l.kept (slots_in row)) c.requires.6 c.requires.4 now-placed in
    (c.requires.3, c.requires.4, n, c.if-level-size.true, room c.if-level-size.true)

pub overflow_add-used : goal.overflow_add-used
overflow_add-used c =
    let size : ℕ = c.args.size in
    let first : List Slot = slots_in c.args.w.now in
    let x : Slot = c.get-x.result in
    let row : List ℕ = c.clear.new.s in
    let few : c.args.m ≤ length first =
    (let n = slots-count c.args.w.now in omega (arith, c.requires.2)) in
    let below : c.loop-i.i < c.args.m = c.loop-i-test.true in
    let got : x ≡ get_or first c.loop-i.i zero_slot = c.get-x.ensures ∙ swept-got first c.loop-i.i c.loop-i.w c.loop-i.kept c.loop-i.invariant.0 in
    let Placed : List ℕ → Type 0 = λ tree. Placing size c.args.leaf tree (without c.args.out (take c.loop-i.i first)) c.loop-i.tree c.loop-i.used (take c.loop-i.kept (slots_in row)) in
    let Cleared : List ℕ → Type 0 = λ tree. (length tree ≡ tree_length size) × (c.clear_path.new.tree ≡ cleared tree (path size c.args.leaf)) in
    let placed : (tree : List ℕ) → Cleared tree → Placed tree =
    (λ tree h. let e = swept-front first c.loop-i.i c.loop-i.w c.loop-i.kept c.loop-i.invariant.0 row c.clear.ensures in
    rw e (c.loop-i.invariant.1 tree h.0 h.1)) in
    let now-placed : Placed c.args.tree.now = placed c.args.tree.now (c.requires.6, c.clear_path.ensures) in
    let found : c.room_from-level.result ≡ room_from (meeting c.args.leaf (words_format.tag x)) (take (size + 1) c.loop-i.used) =
    (found-level size c.args.leaf c.loop-i.used x c.tag_of.result c.meet.result c.room_from-level.result
    c.tag_of.ensures (rw c.from.ensures at c.meet.ensures) c.room_from-level.ensures) in
    let room : c.room_from-level.result ≤ size → get_or c.loop-i.used c.room_from-level.result 0 < 4 =
    (λ h. let l = c.loop-i in
    turn-room size c.args.leaf c.args.m c.args.out l.i first c.args.tree.now l.tree l.used (take l.kept (slots_in row)) c.room_from-level.result x
    c.requires.3 c.requires.4 c.requires.6 c.requires.5 below few got now-placed found h) in
    omega (arith, room c.if-level-size.true)

pub loop-i-preserved : goal.loop-i-preserved
loop-i-preserved c =
    let size : ℕ = c.args.size in
    let first : List Slot = slots_in c.args.w.now in
    let x : Slot = c.get-x.result in
    let row : List ℕ = c.clear.new.s in
    let few : c.args.m ≤ length first =
    (let n = slots-count c.args.w.now in omega (arith, c.requires.2)) in
    let below : c.loop-i.i < c.args.m = c.loop-i-test.true in
    let got : x ≡ get_or first c.loop-i.i zero_slot = c.get-x.ensures ∙ swept-got first c.loop-i.i c.loop-i.w c.loop-i.kept c.loop-i.invariant.0 in
    let emptied : Swept first (c.loop-i.i + 1) row c.loop-i.kept =
    (let e = c.clear.ensures in
    swept-emptied first c.loop-i.i c.loop-i.w c.loop-i.kept c.loop-i.invariant.0 row e (omega (arith, few, below)) (search rules)) in
    let Placed : List ℕ → Type 0 = λ tree. Placing size c.args.leaf tree (without c.args.out (take c.loop-i.i first)) c.loop-i.tree c.loop-i.used (take c.loop-i.kept (slots_in row)) in
    let Cleared : List ℕ → Type 0 = λ tree. (length tree ≡ tree_length size) × (c.clear_path.new.tree ≡ cleared tree (path size c.args.leaf)) in
    let placed : (tree : List ℕ) → Cleared tree → Placed tree =
    (λ tree h. let e = swept-front first c.loop-i.i c.loop-i.w c.loop-i.kept c.loop-i.invariant.0 row c.clear.ensures in
    rw e (c.loop-i.invariant.1 tree h.0 h.1)) in
    let inside : c.loop-i.kept < places = omega (arith, c.loop-i.invariant.0.fewer, below, c.requires.2) in
    let a = c.args in
    let l = c.loop-i in
    let rest = take l.kept (slots_in row) in
    elim c.if-i-out.branch [
      | then-i-out+then-level-size w ↦ (
        rw (w.w-is, w.kept-is) emptied,
        λ tree n e. rw (w.w-is, w.tree-is, w.used-is, w.kept-is) (turn-stored a.size a.leaf a.m a.out l.i first tree l.tree l.used rest w.room_from-level.result x c.requires.3 c.requires.4 n c.requires.5 below few got (placed tree (n, e))
            (found-level a.size a.leaf l.used x w.tag_of.result w.meet.result w.room_from-level.result w.tag_of.ensures (rw w.from.ensures at w.meet.ensures) w.room_from-level.ensures) w.store_slot.new.tree w.if-i-out.true w.if-level-size.true w.store_slot.ensures),
      )
      | then-i-out+else-level-size w ↦ (
        rw (w.w-is, w.kept-is) (swept-put first l.i row l.kept x w.put.new.s emptied l.invariant.0.fewer w.put.ensures (search rules)),
        λ tree n e. rw (w.w-is, w.tree-is, w.used-is, w.kept-is, swept-left first l.i row l.kept x w.put.new.s emptied l.invariant.0.fewer w.put.ensures inside)
            (turn-left a.size a.leaf a.m a.out l.i first tree l.tree l.used rest w.room_from-level.result x c.requires.3 c.requires.4 n c.requires.5 below few got (placed tree (n, e))
            (found-level a.size a.leaf l.used x w.tag_of.result w.meet.result w.room_from-level.result w.tag_of.ensures (rw w.from.ensures at w.meet.ensures) w.room_from-level.ensures) w.if-i-out.true w.if-level-size.false),
      )
      | else-i-out w ↦ (
        rw (w.w-is, w.kept-is) emptied,
        λ tree n e. rw (w.w-is, w.tree-is, w.used-is, w.kept-is, without-same first a.out l.i w.if-i-out.false) (placed tree (n, e)),
      )
    ]

pub returns : goal.returns
returns c =
    let all_placed : Placing c.args.size c.args.leaf c.args.tree.now (without c.args.out (take c.loop-i.i (slots_in c.args.w.now))) c.loop-i.tree c.loop-i.used (take c.loop-i.kept (slots_in c.loop-i.w)) = c.loop-i.invariant.1 c.args.tree.now c.requires.6 c.clear_path.ensures in
    let a = c.args in
    let l = c.loop-i in
    let e : l.i ≡ a.m = omega arith in
    let p = subst (λ (i : ℕ). Placing a.size a.leaf a.tree.now (without a.out (take i (slots_in a.w.now))) l.tree l.used (take l.kept (slots_in l.w))) e all_placed in
    path-filled a.size a.leaf a.tree.now (without a.out (take a.m (slots_in a.w.now))) l.tree l.used a.m a.w.now l.w l.kept c.requires.2 c.requires.1 (rw e at l.invariant.0) p
