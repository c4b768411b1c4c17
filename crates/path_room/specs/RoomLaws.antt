-- From a level up: it has room, or it has not.
use Rattle.std.specs.Prelude.{◌≡◌, refl, List, [], ℕ, ◌+◌, ◌≤◌, ◌<◌, length, drop, get_or}
use Rattle.std.proofs.Common.{add-one, arith, drop_of_length-le, drop-cons, lt-ltb, le-ltb}
use Rattle.word_round_laws.specs.Fill.{crowded}

crowded-none : crowded [] ≡ 0
unfolding crowded
crowded-none = refl

-- From a level up: it has room, or it has not.
pub crowded-here : (us : List ℕ) (i : ℕ) → i < length us → get_or us i 0 < 4 → crowded (drop i us) ≡ 0
unfolding crowded
crowded-here us i h r = rw (drop-cons us i 0 h, lt-ltb (get_or us i 0) 4 r)

pub crowded-past : (us : List ℕ) (i : ℕ) → i < length us → 4 ≤ get_or us i 0 → i + crowded (drop i us) ≡ (i + 1) + crowded (drop (i + 1) us)
unfolding crowded
crowded-past us i h r = rw (drop-cons us i 0 h, le-ltb (get_or us i 0) 4 r, add-one i) (omega arith)

pub crowded-end : (us : List ℕ) (i : ℕ) → length us ≤ i → crowded (drop i us) ≡ 0
crowded-end us i h = rw (drop_of_length-le us {i = i} h) crowded-none
