use mathlib.Core.Path.{◌≡◌, ◌∙◌, ap, sym}
use Rattle.slot_spec.specs.declared.Node as node
use Rattle.leaf_spec.specs.Convert.{to_link}
use Rattle.node_rows.specs.Held.{held_in, held_at}
use Rattle.tag_moves.specs.MoveLaws.{tags-turn, tags-end, tag_same}
use Rattle.tag_moves.proofs.move_tags.Goals as goal

pub loop-i-preserved : goal.loop-i-preserved
loop-i-preserved c =
    let l = c.loop-i in
    let a = c.args in
    let taken = c.loop-i-test.true in
    let m = held_at (held_in a.held.now a.count) l.i in
    let t : m.tag ≡ c.node_at-n.result.tag =
    tag_same a.count a.froms.now (to_link a.root) a.held.now c.requires.1.0 c.requires.0 c.requires.1.1 l.held l.i l.invariant taken
    ∙ ap (λ (n : node.Node). n.tag) (sym c.node_at-n.ensures) in
    let f = c.from_at-from.ensures in
    tags-turn a.count a.froms.now (to_link a.root) a.held.now c.requires.1.0 c.requires.0 c.requires.1.1 l.held l.i l.invariant taken
    (rw f at (c.move_links.ensures m t)) (rw f at (c.moved_root-link.ensures m t))

pub returns : goal.returns
returns c =
    let l = c.loop-i in
    let a = c.args in
    tags-end a.count a.froms.now (to_link a.root) a.held.now c.requires.1.0 c.requires.0 c.requires.1.1 l.held l.i l.invariant c.loop-i-test.false
