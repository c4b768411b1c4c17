-- The read half of a round, case by case: damage on the path, nothing wanted, the wanted one missing, under another tag, or found.
use Rattle.std.specs.Prelude.{◌≡◌, Bool, eqb, get_or}
use Rattle.std.proofs.Math.Path.{refl, ap}
use Rattle.std.proofs.Common.{sym, ◌∙◌, eq-eqb, ne_eqb}
use Rattle.std.proofs.Math.Bool.{true, false}
use mathlib.Core.List.{List, [], ◌∷◌, ◌++◌}
use Rattle.std.proofs.Math.Option.{Option, none, some}
use Prim.Native.Nat.{ℕ, suc, ◌≤◌, ◌<◌}
use native.Mathlib.Omega.{arith}
use Rattle.std.proofs.Math.ListN.{length}
use Rattle.list_spec.specs.Choice.{pick}
use Rattle.slot_spec.specs.Tree.{path}
use Rattle.round_spec.specs.Format.{Format}
use Rattle.round_spec.specs.Round.{Hand, Wish, keys_of, none_twice, read_buckets, take_first, tagged, granted, granted_from, read_half}
use Rattle.word_round_laws.specs.Stash.{without, position, join_readings}
use Rattle.word_round_laws.specs.JoinLaws.{readings-joined}

module _ {E : Type 0} (F : Format E) where
  -- The read half, with the path's readings joined one by one.
  pub half-joined : (k : ℕ) (tree : List ℕ) (t : ℕ) (w : Option Wish) (held : List ℕ) (ws : List E) → none_twice (keys_of F ws ++ held) ≡ true
      → read_half F k tree t w held ws ≡ granted_from F w (join_readings F held (read_buckets F k tree (path k t)) ws)
  unfolding read_half
  half-joined k tree t w held ws h = ap (granted_from F w) (sym (readings-joined F held (read_buckets F k tree (path k t)) ws h))

  pub from-damage : (w : Option Wish) → granted_from F w none ≡ none
  unfolding granted_from
  from-damage w = refl

  pub from-joined : (w : Option Wish) (ws : List E) → granted_from F w (some ws) ≡ granted F w ws
  unfolding granted_from
  from-joined w ws = refl

  pub granted-nothing : (ws : List E) → granted F none ws ≡ some (record { taken = none; waiting = ws })
  unfolding granted
  granted-nothing ws = refl

  -- ---- the wanted one
  take-first-none : (key : ℕ) (es : List E) → length es ≤ position F key es → (take_first F key es).taken ≡ none
  unfolding position take_first
  take-first-none key [] h = refl
  take-first-none key (e ∷ es) h = go (take-first-none key es) (eqb key (F.key e)) h
    where
      go : (length es ≤ position F key es → (take_first F key es).taken ≡ none) → (t : Bool) → suc (length es) ≤ pick t 0 (suc (position F key es))
          → (pick {A = Hand E} t (record { taken = some e; waiting = es }) (record { taken = (take_first F key es).taken; waiting = e ∷ (take_first F key es).waiting })).taken ≡ none
      go more true h = let z : ⊥ = omega arith in absurd z
      go more false h = more (omega arith)

  take-first-at : (key : ℕ) (es : List E) (d : E) → position F key es < length es
      → take_first F key es ≡ record { taken = some (get_or es (position F key es) d); waiting = without (position F key es) es }
  unfolding position take_first
  take-first-at key [] d h = let z : ⊥ = omega arith in absurd z
  take-first-at key (e ∷ es) d h = go (take-first-at key es d) (eqb key (F.key e)) h
    where
      go : (position F key es < length es → take_first F key es ≡ record { taken = some (get_or es (position F key es) d); waiting = without (position F key es) es })
          → (t : Bool) → pick t 0 (suc (position F key es)) < suc (length es)
          → pick {A = Hand E} t (record { taken = some e; waiting = es }) (record { taken = (take_first F key es).taken; waiting = e ∷ (take_first F key es).waiting })
          ≡ record { taken = some (get_or (e ∷ es) (pick t 0 (suc (position F key es))) d); waiting = without (pick t 0 (suc (position F key es))) (e ∷ es) }
      go more true h = refl
      go more false h = rw (more (omega arith))

  tagged-none : (tag : ℕ) (h : Hand E) → h.taken ≡ none → tagged F tag h ≡ none
  unfolding tagged
  tagged-none tag h e = rw e

  tagged-some : (tag : ℕ) (h : Hand E) (e : E) → h.taken ≡ some e → tagged F tag h ≡ pick (eqb (F.tag e) tag) (some h) none
  unfolding tagged
  tagged-some tag h e q = rw q

  pub granted-missing : (key tag : ℕ) (es : List E) → length es ≤ position F key es → granted F (some (record { key = key; tag = tag })) es ≡ none
  unfolding granted
  granted-missing key tag es h = tagged-none tag (take_first F key es) (take-first-none key es h)

  module _ (key tag : ℕ) (es : List E) (d : E) (h : position F key es < length es) where
    found : Hand E
    found = record { taken = some (get_or es (position F key es) d); waiting = without (position F key es) es }

    pub granted-other : (F.tag (get_or es (position F key es) d) ≡ tag → ⊥) → granted F (some (record { key = key; tag = tag })) es ≡ none
    unfolding granted found
    granted-other n =
        ap (tagged F tag) (take-first-at key es d h)
        ∙ tagged-some tag found (get_or es (position F key es) d) refl
        ∙ rw (ne_eqb (F.tag (get_or es (position F key es) d)) tag n)

    pub granted-found : F.tag (get_or es (position F key es) d) ≡ tag
        → granted F (some (record { key = key; tag = tag })) es
        ≡ some (record { taken = some (get_or es (position F key es) d); waiting = without (position F key es) es })
    unfolding granted found
    granted-found n =
        ap (tagged F tag) (take-first-at key es d h)
        ∙ tagged-some tag found (get_or es (position F key es) d) refl
        ∙ rw (eq-eqb (F.tag (get_or es (position F key es) d)) tag n)
