-- `one_round::ascends` meets its contract: two neighbours at a time.
use Rattle.std.proofs.Common.{◌≡◌, refl, sym, ◌∙◌, ap, ◌+◌, ◌-◌, ℕ, drop, arith}
use Rattle.list_spec.specs.Ascending.{ascending}
use Rattle.one_round.specs.OneRound.{keys_waiting}
use Rattle.one_round.specs.AscendLaws.{ascends-here, descends-here, ascends-last, keys-count, waiting-key}
use Rattle.one_round.proofs.ascends.Goals as goal

pub loop-i-init : goal.loop-i-init
loop-i-init c = refl

pub returns-then-next-key : goal.returns-then-next-key
returns-then-next-key c =
    let a = c.args in
    let l = c.loop-i in
    let here : l.i - 1 + 1 ≡ l.i = omega arith in
    let n = keys-count a.n a.w.now c.requires in
    let e = waiting-key a.n a.w.now c.requires (l.i - 1) c.get.result c.key_of-key.result (omega (arith, c.loop-i-test.true)) c.get.ensures c.key_of-key.ensures in
    let f = waiting-key a.n a.w.now c.requires l.i c.get-in-loop-i.result c.key_of-next.result c.loop-i-test.true c.get-in-loop-i.ensures c.key_of-next.ensures in
    sym (l.invariant ∙ descends-here (keys_waiting a.n a.w.now) (l.i - 1) (omega (arith, c.loop-i-test.true)) (rw (here, e, f) c.if-next-key.true))

pub loop-i-preserved : goal.loop-i-preserved
loop-i-preserved c =
    let a = c.args in
    let l = c.loop-i in
    let here : l.i - 1 + 1 ≡ l.i = omega arith in
    let next : l.i ≡ l.i + 1 - 1 = omega arith in
    let n = keys-count a.n a.w.now c.requires in
    let e = waiting-key a.n a.w.now c.requires (l.i - 1) c.get.result c.key_of-key.result (omega (arith, c.loop-i-test.true)) c.get.ensures c.key_of-key.ensures in
    let f = waiting-key a.n a.w.now c.requires l.i c.get-in-loop-i.result c.key_of-next.result c.loop-i-test.true c.get-in-loop-i.ensures c.key_of-next.ensures in
    l.invariant ∙ ascends-here (keys_waiting a.n a.w.now) (l.i - 1) (omega (arith, c.loop-i-test.true)) (rw (here, e, f) c.if-next-key.false)
    ∙ ap (λ (i : ℕ). ascending (drop i (keys_waiting a.n a.w.now))) (here ∙ next)

pub returns : goal.returns
returns c =
    let a = c.args in
    let l = c.loop-i in
    let n = keys-count a.n a.w.now c.requires in
    sym (l.invariant ∙ ascends-last (keys_waiting a.n a.w.now) (l.i - 1) (omega (arith, c.loop-i-test.false)))
