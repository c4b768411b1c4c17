use mathlib.Core.Path.{refl}
use Rattle.heap_descent.specs.WayLaws.{way-leads}
use borrow.Author.Rules.{rules}
use Rattle.heap_descent.proofs.way.way_to.Goals as goal

pub returns : goal.returns
returns c =
    (refl, rw c.from-zeros.ensures (way-leads c.args.position (search rules)))
