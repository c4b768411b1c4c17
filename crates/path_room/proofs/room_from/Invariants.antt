-- `path_room::room_from` meets its contract. The invariant: no level before has room.
use Rattle.std.proofs.Common.{◌≡◌, ◌+◌, take, drop}
use Rattle.word_round_laws.specs.Fill.{crowded, room_from}
use Rattle.path_room.proofs.room_from.Given as goal

abbrev pub invariant-loop-level : goal.invariant-loop-level
invariant-loop-level l =
    room_from l.from (take (l.size + 1) l.used) ≡ l.level + crowded (drop l.level (take (l.size + 1) l.used))
