use mathlib.Core.Path.{refl}
use Rattle.node_rows.specs.RowLaws.{from-root, from-left, from-right}
use borrow.Author.Rules.{rules}
use Rattle.node_rows.proofs.word_of.Goals as goal

pub returns-then-left : goal.returns-then-left
returns-then-left c =
    rw (c.in-Side.is, c.if-left.true, c.from.ensures) (from-left c.in-Side.key (search rules))

pub returns-in-Root : goal.returns-in-Root
returns-in-Root c = rw c.in-Root.is (from-root 0 refl)

pub returns-else-left : goal.returns-else-left
returns-else-left c =
    rw (c.in-Side.is, c.if-left.false, c.from.ensures) (from-right c.in-Side.key (search rules))
