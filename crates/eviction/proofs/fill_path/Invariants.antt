-- `eviction::fill_path` meets its contract. The invariant: of the first i slots all but number out were placed, and their places have what is left.
use mathlib.Core.Path.{◌≡◌}
use mathlib.Core.List.{List}
use Prim.Native.Nat.{ℕ, ◌-◌, ◌≤◌}
use lib.ListN.{length, take}
use Rattle.slot_spec.specs.Tree.{path, tree_length}
use Rattle.word_round_laws.specs.SlotRow.{slots_in}
use Rattle.word_round_laws.specs.Stash.{without}
use Rattle.eviction.specs.SettleLaws.{Placing, Swept}
use Rattle.word_round_laws.specs.Fill.{cleared}
use Rattle.eviction.proofs.fill_path.Given as goal

abbrev pub invariant-loop-i : goal.invariant-loop-i
invariant-loop-i l =
    Swept (slots_in l.initial.w) l.i l.w l.kept
    × ((start : List ℕ) → length start ≡ tree_length l.size → l.initial.tree ≡ cleared start (path l.size l.leaf)
    → Placing l.size l.leaf start (without l.out (take l.i (slots_in l.initial.w))) l.tree l.used (take l.kept (slots_in l.w)))
