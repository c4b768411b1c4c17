-- The walk down turn by turn.
use Prim.Native.Nat.{ℕ, zero, suc, ◌+◌, ◌≤◌, ◌<◌}
use Rattle.std.proofs.Common.{arith, add-one, ◌∙◌, subst, eq-eqb, ne_eqb}
use Rattle.std.specs.Prelude.{◌≡◌, Bool, List, [], ◌∷◌, ltb, length, drop, get_or, None, Some}
use Rattle.std.proofs.Math.Path.{refl, sym, ap}
use Rattle.method_spec.specs.Node.{Node}
use Rattle.method_spec.specs.Prog.{Want}
use Rattle.method_spec.specs.Map.{Step, gap, hit, step_at, below, walk}
use Rattle.operation_spec.specs.declared.Want as want
use Rattle.operation_spec.specs.Method.{to_want}
use Rattle.operations.specs.Resume.{missing, finished, resume}
use Rattle.operations.specs.ResumeLaws.{resume-done, resume-want, resume-missing}
use Rattle.node_rows.specs.Held.{Held, nodes_of, held_at, HeldFrom}
use Rattle.node_rows.specs.HeldLaws.{held_next, held_none, held_low}
use Rattle.map_nodes.specs.HeightLaws.{low-child}
use Rattle.slot_spec.specs.declared.Node as node
use Rattle.slot_spec.specs.Slot.{no_node}
use Rattle.map_descent.specs.Walk.{want_at, passed, trail, by_key, DescendsTo, DescendsPast, Descending}

-- ---- the method's walk on the nodes at hand

module _ (key : ℕ) (w : Want ℕ) (path : List (Step ℕ)) where
  walk-spent : (ns : List (Node ℕ)) → resume (walk key 0 w path) ns ≡ finished (gap w.link path) ns
  unfolding walk
  walk-spent ns = resume-done (gap w.link path) ns

  walk-gap : (fuel : ℕ) (ns : List (Node ℕ)) → w.link.height ≡ 0 → resume (walk key fuel w path) ns ≡ finished (gap w.link path) ns
  unfolding walk
  walk-gap zero ns e = walk-spent ns
  walk-gap (suc fuel) ns e = rw (eq-eqb w.link.height 0 e) (resume-done (gap w.link path) ns)

  module _ (fuel : ℕ) (e : w.link.height ≡ 0 → ⊥) where
    walk-missing : resume (walk key (suc fuel) w path) [] ≡ missing w
    unfolding walk
    walk-missing = rw (ne_eqb w.link.height 0 e) (resume-missing w _)

    walk-hit : (n : Node ℕ) (ns : List (Node ℕ)) → key ≡ n.key → resume (walk key (suc fuel) w path) (n ∷ ns) ≡ finished (hit w n path) ns
    unfolding walk
    walk-hit n ns k =
        rw (ne_eqb w.link.height 0 e) (resume-want w _ n ns ∙ rw (eq-eqb key n.key k) (resume-done (hit w n path) ns))

    walk-on : (n : Node ℕ) (ns : List (Node ℕ)) → (key ≡ n.key → ⊥)
        → resume (walk key (suc fuel) w path) (n ∷ ns)
        ≡ resume (walk key fuel (below (step_at w n (ltb key n.key))) (step_at w n (ltb key n.key) ∷ path)) ns
    unfolding walk
    walk-on n ns k =
        rw (ne_eqb w.link.height 0 e) (resume-want w _ n ns ∙ rw (ne_eqb key n.key k))

-- ---- the loop

module _ (h : Held) (w₀ : Want ℕ) (ways : ℕ → Bool) where
  pub want-next : (i : ℕ) → want_at h w₀ ways (suc i) ≡ below (passed h w₀ ways i)
  unfolding want_at
  want-next i = refl

  pub trail-next : (i : ℕ) → trail h w₀ ways (suc i) ≡ passed h w₀ ways i ∷ trail h w₀ ways i
  unfolding trail
  trail-next i = refl

  pub want-first : want_at h w₀ ways 0 ≡ w₀
  unfolding want_at
  want-first = refl

  pub trail-none : trail h w₀ ways 0 ≡ []
  unfolding trail
  trail-none = refl

pub held_fits : {h : Held} → HeldFrom 100 h 0 → h.count ≤ length h.nodes
held_fits from = omega (arith, from.places, from.few)

pub descend-start : (key : ℕ) (h : Held) (w₀ : Want ℕ) (fuel₀ : ℕ) {v : Want ℕ} {left : ℕ} → v ≡ w₀ → left ≡ fuel₀ → w₀.link.height ≤ 100
    → Descending key h w₀ fuel₀ v left 0
descend-start key h w₀ fuel₀ e f l =
    rw (e, f)
    record { resumes = rw (trail-none h w₀ (by_key key h)); wanted = sym (want-first h w₀ (by_key key h)); within = omega arith; low = l }

module _ {key : ℕ} {h : Held} {w₀ : Want ℕ} {fuel₀ : ℕ} where
  module _ (from : HeldFrom 100 h 0) (w : want.Want) {fuel i : ℕ} (now : Descending key h w₀ fuel₀ (to_want w) fuel i) where
    path : List (Step ℕ)
    path = trail h w₀ (by_key key h) i

    pub descend-gap : w.link.height ≡ 0 → DescendsTo key h w₀ fuel₀ (record { want = w; depth = i; node = None })
    unfolding path
    descend-gap e =
        record {
          resumes = sym now.resumes ∙ walk-gap key (to_want w) path fuel (drop i (nodes_of h)) e;
          wanted = now.wanted;
          reached = now.within;
          low = now.low;
        }

    pub descend-spent : {depth : ℕ} → fuel ≡ 0 → depth ≡ i → DescendsTo key h w₀ fuel₀ (record { want = w; depth = depth; node = None })
    unfolding path
    descend-spent e d =
        rw d
        record {
          resumes = sym now.resumes ∙ rw e (walk-spent key (to_want w) path (drop i (nodes_of h)));
          wanted = now.wanted;
          reached = now.within;
          low = now.low;
        }

    module _ (less : ℕ) (more : fuel ≡ suc less) (e : w.link.height ≡ 0 → ⊥) where
      pub descend-missing : i ≡ h.count → DescendsPast key h w₀ fuel₀ w
      unfolding path
      descend-missing k =
          record {
            misses = sym now.resumes ∙ rw (more, held_none h i (omega arith) (held_fits from)) (walk-missing key (to_want w) path less e);
            wanted = subst (λ (j : ℕ). to_want w ≡ want_at h w₀ (by_key key h) j) k now.wanted;
            low = now.low;
          }

      module _ (k : i ≡ h.count → ⊥) where
        here : i < h.count
        here = omega (arith, now.within)

        pub descend-hit : {n : node.Node} → n ≡ get_or h.nodes i no_node → key ≡ n.key
            → DescendsTo key h w₀ fuel₀ (record { want = w; depth = i; node = Some n })
        unfolding path
        descend-hit f d =
            record {
              resumes =
                  sym now.resumes
                  ∙ rw (more, held_next h i here (held_fits from), f)
                  (walk-hit key (to_want w) path less e (held_at h i) (drop (suc i) (nodes_of h)) (rw f at d));
              wanted = now.wanted;
              reached = (here, f);
              low = now.low;
            }

        at_head : resume (walk key fuel (to_want w) path) (drop i (nodes_of h))
            ≡ resume (walk key (suc less) (to_want w) path) (held_at h i ∷ drop (suc i) (nodes_of h))
        at_head =
            ap (λ (f : ℕ). resume (walk key f (to_want w) path) (drop i (nodes_of h))) more
            ∙ ap (resume (walk key (suc less) (to_want w) path)) (held_next h i here (held_fits from))

        pub descend-turn : {v : Want ℕ} → (key ≡ (held_at h i).key → ⊥) → v ≡ below (step_at (to_want w) (held_at h i) (by_key key h i))
            → Descending key h w₀ fuel₀ v less (i + 1)
        unfolding path
        descend-turn d f =
            let on = walk-on key (to_want w) path less e (held_at h i) (drop (suc i) (nodes_of h)) d in
            record {
              resumes =
                  rw (add-one i, trail-next h w₀ (by_key key h) i, ← now.wanted, f)
                  (sym (at_head ∙ on) ∙ now.resumes);
              wanted =
                  rw (add-one i, want-next h w₀ (by_key key h) i)
                  (f ∙ ap (λ (u : Want ℕ). below (step_at u (held_at h i) (by_key key h i))) now.wanted);
              within = omega arith;
              low = rw f (low-child (by_key key h i) (held_at h i) (held_low h i 100 from.low here (held_fits from)));
            }
