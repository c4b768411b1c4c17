-- `stash::places::saved_place` meets its contract: from n on nothing is saved.
use Rattle.stash.specs.SaveLaws.{holds-node}
use Rattle.stash.proofs.places.saved_place.Goals as goal

pub returns : goal.returns
returns c =
    let x = c.get in
    holds-node c.args.n c.args.w.now c.requires.0 c.args.i x.result c.node_of-node.result c.if-n-i.false x.ensures c.node_of-node.ensures
