-- The leaves before the next are put.
use Rattle.std.proofs.Common.{◌≡◌, take}
use Rattle.walk_spec.specs.Lines.{numbers, Put}
use Rattle.text_writer.proofs.Text.put_leaves.Given as goal

abbrev pub invariant-loop-leaf : goal.invariant-loop-leaf
invariant-loop-leaf l = record {
  same_buffer : l.self.out.ghost_name ≡ l.initial.self.out.ghost_name;
  put : Put (numbers (take l.leaf-index l.leaves)) l.initial.self.end l.initial.self.out.now l.self.out.now l.self.end;
}
