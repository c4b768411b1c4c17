-- Room: the places that a round needs. A path holds at most 4 · (k + 1) elements, so from at most 65 waiting (64 and one new) 101 places
-- are enough at every moment of a round for every size up to 8; the write half makes the list no longer.
use Rattle.std.specs.Prelude.{◌≡◌, List, [], ◌∷◌, ℕ, ◌+◌, ◌*◌, ◌^◌, ◌≤◌, length, take}
use Rattle.std.proofs.Common.{◌∙◌, le_refl, le_trans, arith, length-append, length-take}
use Rattle.std.proofs.Math.Option.{Option, some}
use Rattle.list_laws.specs.PermLaws.{perm-length}
use Rattle.slot_spec.specs.Tree.{path}
use Rattle.slot_laws.specs.TreeLaws.{halvings-length}
use Rattle.round_spec.specs.Format.{Format}
use Rattle.round_spec.specs.Round.{stash_limit, Hand, Wish, read_buckets, join, choose, evict, read_half, write_half}
use Rattle.round_spec.specs.Whole.{listed}
use Rattle.round_laws.specs.Readings.{good_length, readings-length}
use Rattle.round_laws.specs.Lists.{join-perm, choose-perm}
use Rattle.round_laws.specs.Evict.{after_bucket, evict-none, evict-step}
use Rattle.round_laws.specs.ReadHalf.{found, hand-perm}

module _ {E : Type 0} (F : Format E) where
  pub join-length : (es ws : List E) → length (join F es ws) ≡ length es + length ws
  join-length es ws = perm-length (join-perm F es ws) ∙ length-append es ws

  pub found-length : (k : ℕ) (tree : List ℕ) (t : ℕ) → length (found F k tree t) ≤ 4 * (k + 1)
  found-length k tree t =
      let a = good_length (read_buckets F k tree (path k t)) in
      let b = readings-length F k tree (path k t) in
      let c = halvings-length k (2 ^ k + t) in
      omega arith

  -- ---- the read half
  module _ (k : ℕ) (tree : List ℕ) (t : ℕ) (waiting : List E) where
    -- While the path's elements join, one after the other.
    pub joining-length : (i : ℕ) → length (join F (take i (found F k tree t)) waiting) ≤ 4 * (k + 1) + length waiting
    joining-length i =
        let a = join-length (take i (found F k tree t)) waiting in
        let b = length-take i (found F k tree t) in
        let c = found-length k tree t in
        omega arith

    pub joined_length : length (join F (found F k tree t) waiting) ≤ 4 * (k + 1) + length waiting
    joined_length =
        let a = join-length (found F k tree t) waiting in
        let c = found-length k tree t in
        omega arith

    pub room-joining : k ≤ 8 → length waiting ≤ stash_limit + 1 → (i : ℕ) → length (join F (take i (found F k tree t)) waiting) ≤ 101
    room-joining h g i = omega (arith, joining-length i)

    pub room_joined : k ≤ 8 → length waiting ≤ stash_limit + 1 → length (join F (found F k tree t) waiting) ≤ 101
    room_joined h g = omega (arith, joined_length)

    -- What is in hand after the read half: all but the one that was taken.
    pub hand-length : (w : Option Wish) (held : List ℕ) (h : Hand E) → read_half F k tree t w held waiting ≡ some h
        → length h.waiting + length (listed h.taken) ≡ length (found F k tree t) + length waiting
    hand-length w held h q =
        let a = perm-length (hand-perm F k tree t w held waiting h q) in
        let b = length-append (listed h.taken) h.waiting in
        let c = length-append (found F k tree t) waiting in
        omega arith

    pub room-hand : k ≤ 8 → length waiting ≤ stash_limit + 1 → (w : Option Wish) (held : List ℕ) (h : Hand E) → read_half F k tree t w held waiting ≡ some h
        → length h.waiting ≤ 101
    room-hand small few w held h q =
        let a = hand-length w held h q in
        let c = found-length k tree t in
        omega arith

  -- ---- the write half
  pub left-length : (k b : ℕ) (ws : List E) → length (choose F k b 4 ws).left ≤ length ws
  left-length k b ws =
      let a = perm-length (choose-perm F k b 4 ws) in
      let c = length-append (choose F k b 4 ws).ins (choose F k b 4 ws).left in
      omega arith

  pub evict-length : (k : ℕ) (bs : List ℕ) (ws : List E) (tree : List ℕ) → length (evict F k bs ws tree).waiting ≤ length ws
  evict-length k [] ws tree = rw evict-none (le_refl (length ws))
  evict-length k (b ∷ bs) ws tree =
      rw evict-step (le_trans (evict-length k bs (choose F k b 4 ws).left (after_bucket F k b ws tree)) (left-length k b ws))

  -- The waiting list after the write half is no longer than before it.
  pub write-length : (k t : ℕ) (ws : List E) (tree : List ℕ) → length (write_half F k t ws tree).waiting ≤ length ws
  write-length k t ws tree = evict-length k (path k t) ws tree
