-- One number more is put each time.
use Rattle.std.proofs.Common.{refl, ◌∙◌}
use Rattle.walk_laws.specs.LinesLaws.{numbers-none-put, leaf-fits, numbers-next-put}
use Rattle.text_writer.proofs.Text.put_leaves.Goals as goal

pub loop-leaf-init : goal.loop-leaf-init
loop-leaf-init c = record { same_buffer = refl; put = numbers-none-put c.args.self.now.out.now c.args.self.now.end }

pub put_number-requires : goal.put_number-requires
put_number-requires c =
    rw c.from.ensures (leaf-fits c.args.leaves.now c.loop-leaf.leaf-index c.loop-leaf-test.true c.loop-leaf.invariant.put c.requires)

pub loop-leaf-preserved : goal.loop-leaf-preserved
loop-leaf-preserved c =
    record {
      same_buffer = c.put_number.ensures.same_buffer ∙ c.loop-leaf.invariant.same_buffer;
      put = numbers-next-put c.args.leaves.now c.loop-leaf.leaf-index c.loop-leaf-test.true c.loop-leaf.invariant.put (rw c.from.ensures at c.put_number.ensures.put);
    }
