-- `path_clearing::clear_slot` meets its contract: the zero slot as number j of the bucket's part is one in the tree.
use mathlib.Core.Path.{◌≡◌, refl}
use Prim.Native.Nat.{◌+◌, ◌-◌, ◌*◌, ◌/◌, ◌%◌}
use lib.ListN.{length, take, drop}
use Rattle.slot_spec.specs.Tree.{bucket_length}
use Rattle.path_clearing.specs.ClearLaws.{slot-cleared}
use native.Mathlib.Omega.{arith}
use Rattle.slot_spec.specs.Row.{zero_slot}
use borrow.Author.Rules.{rules}
use Rattle.path_clearing.proofs.clear_slot.Goals as goal

pub returns : goal.returns
returns c =
    let none : c.default.result ≡ zero_slot = search rules in
    let none-written = rw none at c.write_in.ensures in
    let a = c.args in
    let k = c.write_in in
    let from = a.at / bucket_length * bucket_length in
    let n : from + bucket_length - from ≡ bucket_length = omega arith in
    let whole : length a.tree.now % bucket_length ≡ 0 = omega (arith, c.requires.0) in
    slot-cleared a.tree.now (take (from + bucket_length - from) (drop from a.tree.now)) k.new.part a.at from (from + bucket_length - from) c.requires.1 whole c.requires.3 refl n refl none-written
