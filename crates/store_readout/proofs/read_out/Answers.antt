-- `store_readout::read_out` meets its contract.
use Rattle.std.proofs.Common.{sym, ◌∙◌, ap, ℕ, ◌*◌, List, length-take-le, replicate, arith}
use Rattle.std.proofs.lemmas.Result.{err_from_is_err_and}
use Rattle.slot_spec.specs.Tree.{slot_length}
use Rattle.state_spec.specs.Fit.{places}
use Rattle.survey_laws.specs.Items.{slots_file, fitting}
use Rattle.survey_laws.specs.StoreLaws.{tree-slots, few-items, store-file}
use Rattle.store_readout.specs.RefusalLaws.{refused-so, passed-so}
use Rattle.store_readout.specs.PlacesLaws.{put-none, put-more, put_all, put-ranged}
use Rattle.store_readout.proofs.read_out.Goals as goal

pub returns-in_err-check : goal.returns-in_err-check
returns-in_err-check c =
    let a = c.args in
    let p = err_from_is_err_and c.from_residual.result c.from_residual.ensures.1 in
    rw (p.1, p.2) (refused-so a.state a.tree.now a.out.now _ c.in_err-check.ensures)

pub loop-i-init : goal.loop-i-init
loop-i-init c =
    let a = c.args in
    (passed-so a.state a.tree.now c.in_ok-check.ensures, put-none a.state.places a.state.count (replicate (slot_length * places) 0) (omega arith))

pub loop-i-preserved : goal.loop-i-preserved
loop-i-preserved c =
    let s = c.args.state in
    let l = c.loop-i in
    let p = c.put_place in
    (l.invariant.0, put-more s.places s.count l.i l.waiting p.new.part l.invariant.1 (omega arith) l.invariant.0.few p.ensures.0 p.ensures.1)

pub read_out_slots-requires : goal.read_out_slots-requires
read_out_slots-requires c =
    let s = c.args.state in
    let w = c.loop-i.waiting in
    let k = c.loop-i.invariant.0 in
    let t = tree-slots s.size c.args.tree.now k.sized in
    let n = length-take-le (slot_length * s.count) w (omega arith) in
    rw (c.from.ensures, c.from-n.ensures) (omega arith, t.1, omega arith, omega (arith, few-items s.size s.count k.small k.few))

pub returns : goal.returns
returns c =
    let a = c.args in
    let s = a.state in
    let l = c.loop-i in
    let k = l.invariant.0 in
    let put = l.invariant.1 in
    (rw (c.from.ensures, c.from-n.ensures) at c.read_out_slots.ensures)
    ∙ ap (λ (w : List ℕ). fitting (slots_file s.size a.tree.now w) a.out.now) (put_all s.places s.count l.i l.waiting put (omega arith))
    ∙ ap (λ (f : List ℕ). fitting f a.out.now) (sym (store-file s a.tree.now k.sized (put-ranged s.places s.count l.i l.waiting put (omega arith))))
    ∙ sym (k.is a.out.now)
