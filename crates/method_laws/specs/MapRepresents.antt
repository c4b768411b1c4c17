-- The map's memories hold balanced search trees, no higher than the greatest height: what the map supplies to the theory of
-- runs, with three rounds for each level of that height.
use Rattle.std.specs.Prelude.{◌≡◌, refl, true, List, ℕ, ◌<◌, ◌≤◌, ◌^◌}
use Rattle.std.proofs.Common.{arith, pow_pos}
use Rattle.list_spec.specs.Perm.{trans}
use Rattle.list_laws.specs.PermLaws.{perm-sym}
use Rattle.balance_spec.specs.Tree.{size, height}
use Rattle.balance_spec.specs.Shape.{shaped}
use Rattle.balance_laws.specs.ShapeLaws.{shape-shaped}
use Rattle.balance_spec.specs.Greatest.{greatest}
use Rattle.balance_laws.specs.GreatestLaws.{greatest-is-greatest}
use Rattle.method_spec.specs.Answer.{map}
use Rattle.method_spec.specs.Plain.{Pair}
use Rattle.method_spec.specs.Rounds.{rounds}
use Rattle.method_spec.specs.Call.{capacity, test, Memory}
use Rattle.run_laws.specs.SafeLaws.{within_more}
use Rattle.run_laws.specs.EnoughRounds.{program-within}
use Rattle.run_laws.specs.Answers.{Represents}
use Rattle.avl_laws.specs.Search.{Holds}
use Rattle.avl_laws.specs.Holds.{holds-distinct, holds-height, holds-entries}
use Rattle.avl_laws.specs.MapKeeps.{map-keeps}

module _ {T : Type 0} {nil : T} (k : ℕ) {table : List Pair} {m : Memory T} (h : Holds nil (capacity k) table m) where
  holds-few : size h.tree < 2 ^ k
  holds-few = let counted = holds-entries h in let pos = pow_pos k in omega arith

  pub holds-low : m.root.height ≤ greatest k
  holds-low =
      let low = greatest-is-greatest k h.tree h.balanced holds-few in let same = holds-height h in omega arith

pub holds-shaped : {T : Type 0} {nil : T} {limit : ℕ} {table : List Pair} {m : Memory T} (h : Holds nil limit table m)
    → shaped m.entries m.root.height ≡ true
holds-shaped h =
    rw (holds-entries h, holds-height h)
    (shape-shaped (record { tree = h.tree; balanced = h.balanced; has-size = refl; has-height = refl }))

pub map-represents : {T : Type 0} (nil : T) (k : ℕ) → Represents map nil (rounds map k) (capacity k) (Holds nil (capacity k))
unfolding rounds test
map-represents nil k =
    record {
      unordered = λ table entries root a xs ys p h. record {
        tree = h.tree;
        balanced = h.balanced;
        search = h.search;
        same = h.same;
        linked = h.linked;
        stored = trans (perm-sym p) h.stored;
        counted = h.counted;
        fits = h.fits;
      };
      distinct-keys = λ table m h. holds-distinct h;
      within = λ table m h op spares. within_more (let low = holds-low k h in omega arith)
          (program-within nil op spares (capacity k) m.entries m.ahead m.root);
      safe = λ table m h op spares. map-keeps op spares h;
    }
