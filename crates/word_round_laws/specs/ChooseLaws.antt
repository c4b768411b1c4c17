-- A bucket's choice, element by element: each is taken or left behind, and those that are left keep their order.
use Rattle.std.specs.Prelude.{◌≡◌, Bool}
use Rattle.std.proofs.Math.Path.{refl}
use Rattle.std.proofs.Math.Bool.{true, false}
use mathlib.Core.List.{List, [], ◌∷◌}
use Prim.Native.Nat.{ℕ, zero, suc, ◌-◌, ◌<◌}
use Rattle.std.proofs.Common.{arith}
use Rattle.list_spec.specs.Choice.{pick}
use Rattle.slot_spec.specs.Tree.{passes}
use Rattle.round_spec.specs.Format.{Format}
use Rattle.round_spec.specs.Round.{Chosen, choose}
use Rattle.word_round_laws.specs.PartLaws.{Part, done, keep, skip, part-whole}

module _ {E : Type 0} (F : Format E) (k b : ℕ) where
  pub choose-none : (n : ℕ) → choose F k b n [] ≡ record { ins = []; left = [] }
  unfolding choose
  choose-none n = refl

  -- A full bucket takes no more.
  choose-full : (es : List E) → choose F k b 0 es ≡ record { ins = []; left = es }
  unfolding choose
  choose-full [] = refl
  choose-full (e ∷ es) = refl

  -- One is taken: there is room, and its path passes the bucket.
  pub choose-taken : (n : ℕ) (e : E) (es : List E) → passes k (F.tag e) b ≡ true
      → choose F k b (suc n) (e ∷ es) ≡ record { ins = e ∷ (choose F k b n es).ins; left = (choose F k b n es).left }
  unfolding choose
  choose-taken n e es h = rw h

  -- One is left behind: there is no room, or its path does not pass the bucket.
  pub choose-left : (n : ℕ) (e : E) (es : List E) → (0 < n → passes k (F.tag e) b ≡ false)
      → choose F k b n (e ∷ es) ≡ record { ins = (choose F k b n es).ins; left = e ∷ (choose F k b n es).left }
  unfolding choose
  choose-left zero e es h = rw (choose-full es)
  choose-left (suc n) e es h = rw (h (omega arith))

  -- What is left is of what there was, in its order.
  pub left-part : (n : ℕ) (es : List E) → Part (choose F k b n es).left es
  unfolding choose
  left-part n [] = done
  left-part zero (e ∷ es) = part-whole (e ∷ es)
  left-part (suc n) (e ∷ es) = go (left-part n es) (left-part (suc n) es) (passes k (F.tag e) b)
    where
      go : Part (choose F k b n es).left es → Part (choose F k b (suc n) es).left es → (t : Bool)
          → Part (pick {A = Chosen E} t (record { ins = e ∷ (choose F k b n es).ins; left = (choose F k b n es).left }) (record { ins = (choose F k b (suc n) es).ins; left = e ∷ (choose F k b (suc n) es).left })).left (e ∷ es)
      go f g true = skip e f
      go f g false = keep e g
