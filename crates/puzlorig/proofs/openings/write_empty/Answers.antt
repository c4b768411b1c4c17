-- `puzlorig::openings::write_empty` meets its contract: zero bytes, then the head.
use Rattle.puzlorig.specs.OpeningLaws.{empty-written}
use Rattle.puzlorig.proofs.openings.write_empty.Goals as goal

pub returns : goal.returns
returns c =
    let z = c.fill in
    let w = c.write_head in
    empty-written c.args.state.now c.args.mark c.args.structure c.args.size c.requires z.new.self w.new.state (z.ensures.after (λ y e. e)) w.ensures
