-- `readout_core::good_order` meets its contract.
use Rattle.survey_laws.specs.PartLaws.{order-bound, order-count, order-put}
use Rattle.readout_core.proofs.good_order.Goals as goal

pub returns : goal.returns
returns c =
    let b = c in
    let g = c.good_items-waiting in
    let h = c.good_items in
    let m = b.args.marks.now in
    let o = b.args.order.now in
    let s = b.args.slots in
    let x = g.new.order in
    let y = h.new.order in (
      order-bound m o x s g.result b.requires.0 b.requires.1 g.ensures.0 g.ensures.2 y h.result g.ensures.1 h.ensures.0 h.ensures.1 h.ensures.2,
      order-count m o x s g.result b.requires.0 b.requires.1 g.ensures.0 g.ensures.2 y h.result g.ensures.1 h.ensures.0 h.ensures.1 h.ensures.2,
      order-put m o x s g.result b.requires.0 b.requires.1 g.ensures.0 g.ensures.2 y h.result g.ensures.1 h.ensures.0 h.ensures.1 h.ensures.2,
    )
