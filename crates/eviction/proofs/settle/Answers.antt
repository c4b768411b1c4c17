-- `eviction::settle` meets its contract: it is the write half of all but a wanted slot.
use Rattle.std.proofs.Common.{◌≡◌, refl, ℕ, List, take, Option, Some, None, is_some, unwrap_or}
use Rattle.slot_spec.specs.declared.Slot.{Slot}
use Rattle.word_round_laws.specs.SlotRow.{slots_in}
use Rattle.word_round_laws.specs.Stash.{without, removed}
use Rattle.eviction.specs.SettleLaws.{without-past, settled}
use Rattle.eviction.proofs.settle.Goals as goal

all_but : (out : Option ℕ) (m : ℕ) (l : List Slot) → without (unwrap_or out m) (take m l) ≡ removed (is_some out) (unwrap_or out 0) (take m l)
all_but None m l = without-past m l
all_but (Some at) m l = refl

pub returns : goal.returns
returns c =
    let f = c.fill_path in
    let a = c.args in
    settled a.size a.leaf a.m (is_some a.out) (unwrap_or a.out 0) (unwrap_or a.out a.m) a.w.now a.tree.now f.new.w f.new.tree f.result c.requires.0.room
    (all_but a.out a.m (slots_in a.w.now)) (rw c.unwrap_or.ensures at f.ensures)
