-- What a call over bytes hands to the core, and what it leaves of the state.
use Rattle.std.specs.Prelude.{◌≡◌, ◌&&◌, List, ℕ, min, ◌*◌, ◌/◌, eqb, length}
use Rattle.list_spec.specs.Choice.{pick}
use Rattle.state_spec.specs.Fetching.{rounds_of, draws_of}
use Rattle.lent_bytes_spec.specs.declared.StateHead.{StateHead}
use Rattle.lent_bytes_spec.specs.Numbers.{number_length}
use Rattle.fitness.specs.declared.Head.{Head}
use Rattle.call_core.specs.Run.{Stands}
use Rattle.call_ending.specs.declared.Ran.{Ran}

-- What a call over rows needs: a row for as many numbers as it takes of the tape, and one for as many leaves as the trace has places, both at
-- most as many as it can use.
pub record Rows (head : Head) (row tape trace numbers leaves : List ℕ) (rounds draws : ℕ) : Type 0 where
  pub stands : Stands head row
  pub rounds-are : rounds ≡ rounds_of head.structure head.size
  pub draws-are : draws ≡ draws_of head.structure head.size
  pub taken : length numbers ≡ min (length tape / number_length) draws
  pub places : length leaves ≡ min (length trace / number_length) (2 * rounds)

-- The head that is left.
abbrev pub head_left : StateHead → Ran → StateHead
head_left h r =
    record {
      mark = r.mark;
      structure = h.structure;
      size = h.size;
      height = r.root.height;
      entries = r.entries;
      waiting = r.waiting;
      key = pick (eqb h.structure 4 && eqb r.entries 0) r.ahead.key r.root.key;
      tag = r.root.tag;
      ahead = r.ahead.tag;
    }
