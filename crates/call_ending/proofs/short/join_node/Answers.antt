-- `call_ending::short::join_node` meets its contract.
use mathlib.Core.Path.{◌∙◌, ap}
use lib.ListN.{take}
use Rattle.slot_spec.specs.declared.Slot.{Slot}
use Rattle.round_spec.specs.Round.{insert}
use Rattle.round_spec.specs.Nodes.{words_format}
use Rattle.word_round_laws.specs.SlotRow.{slots_in}
use Rattle.call_ending.specs.ShortLaws.{node-joined}
use borrow.Author.Rules.{rules}
use Rattle.call_ending.proofs.short.join_node.Goals as goal

pub returns : goal.returns
returns c =
    let a = c.args in
    let words = c.words_of.ensures in
    let put = c.insert_slot.ensures in
    node-joined a.n a.node c.requires.0 c.requires.1 words.0 (search rules) (put.0 ∙ ap (λ (x : Slot). insert words_format x (take a.n (slots_in a.w.now))) words.1) put.1
