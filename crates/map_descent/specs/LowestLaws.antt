-- The search for the next larger key's node turn by turn.
use Prim.Native.Nat.{ℕ, zero, suc, ◌+◌, ◌≤◌, ◌<◌}
use Rattle.std.proofs.Common.{arith, add-one, sym, ◌∙◌, ap, eq-eqb, ne_eqb, lt-ltb, le-ltb}
use Rattle.std.specs.Prelude.{◌≡◌, Bool, true, List, [], ◌∷◌, drop}
use Rattle.method_spec.specs.Node.{Node}
use Rattle.method_spec.specs.Prog.{Want}
use Rattle.method_spec.specs.Map.{Step, step_at, below, lowest}
use Rattle.operation_spec.specs.declared.Want as want
use Rattle.operation_spec.specs.Method.{to_want}
use Rattle.operations.specs.Resume.{finished, resume}
use Rattle.operations.specs.ResumeLaws.{resume-done, resume-want, resume-missing}
use Rattle.node_rows.specs.Held.{Held, nodes_of, held_at, HeldFrom}
use Rattle.node_rows.specs.HeldLaws.{held_next, held_none}
use Rattle.map_descent.specs.Walk.{passed, after, lowest_from, LowersTo, LowersPast, Lowering}
use Rattle.map_descent.specs.WalkLaws.{held_fits, want-next}

-- ---- the method's search on the nodes at hand

module _ (w : Want ℕ) (path : List (Step ℕ)) (n : Node ℕ) (ns : List (Node ℕ)) where
  lowest-spent : resume (lowest_from 0 w path) (n ∷ ns) ≡ finished (record { node = n; path = path }) ns
  unfolding lowest
  lowest-spent = resume-want w _ n ns ∙ resume-done _ ns

  lowest-end : (fuel : ℕ) → n.left.height ≡ 0 → resume (lowest_from fuel w path) (n ∷ ns) ≡ finished (record { node = n; path = path }) ns
  unfolding lowest
  lowest-end zero e = lowest-spent
  lowest-end (suc fuel) e = resume-want w _ n ns ∙ rw (eq-eqb n.left.height 0 e) (resume-done _ ns)

  lowest-on : (fuel : ℕ) → (n.left.height ≡ 0 → ⊥)
      → resume (lowest_from (suc fuel) w path) (n ∷ ns) ≡ resume (lowest_from fuel (below (step_at w n true)) (step_at w n true ∷ path)) ns
  unfolding lowest
  lowest-on fuel e = resume-want w _ n ns ∙ rw (ne_eqb n.left.height 0 e)

-- ---- the loop

module _ (h : Held) (w₀ : Want ℕ) (ways : ℕ → Bool) (found : ℕ) where
  pub after-found : after h w₀ ways found (suc found) ≡ []
  unfolding after
  after-found = rw (le-ltb found found (omega arith))

  pub after_next : (i : ℕ) → found < i → after h w₀ ways found (suc i) ≡ passed h w₀ ways i ∷ after h w₀ ways found i
  unfolding after
  after_next i k = rw (lt-ltb found i k)

pub lower-start : (h : Held) (found : ℕ) (w : Want ℕ) (fuel : ℕ) {v : Want ℕ} {left : ℕ} → v ≡ w → left ≡ fuel → found < h.count
    → Lowering h found w fuel v left (found + 1)
lower-start h found w fuel e f k =
    rw (add-one found, e, f)
    record {
      resumes = λ w₀ ways l. (rw (after-found h w₀ ways found), l.there);
      past = omega arith;
      within = omega arith;
    }

module _ {h : Held} {found : ℕ} {w : Want ℕ} {fuel : ℕ} where
  module _ (from : HeldFrom 100 h 0) (v : want.Want) {left i : ℕ} (now : Lowering h found w fuel (to_want v) left i) where
    pub lower-missing : h.count ≤ i → LowersPast h found w fuel v
    lower-missing k =
        record {
          misses = λ w₀ ways l. sym (now.resumes w₀ ways l).0 ∙ rw (held_none h i k (held_fits from)) (resume-missing (to_want v) _);
        }

    module _ (here : i < h.count) where
      at_head : (path : List (Step ℕ)) → resume (lowest_from left (to_want v) path) (drop i (nodes_of h)) ≡ resume (lowest_from left (to_want v) path) (held_at h i ∷ drop (suc i) (nodes_of h))
      at_head path = ap (resume (lowest_from left (to_want v) path)) (held_next h i here (held_fits from))

      pub lower-spent : left ≡ 0 → LowersTo h found w fuel i
      lower-spent e =
          record {
            resumes = λ w₀ ways l.
                let path = after h w₀ ways found i in
                sym (now.resumes w₀ ways l).0 ∙ at_head path ∙ rw e (lowest-spent (to_want v) path (held_at h i) (drop (suc i) (nodes_of h)));
            past = now.past;
            within = here;
          }

      pub lower-end : (held_at h i).left.height ≡ 0 → LowersTo h found w fuel i
      lower-end e =
          record {
            resumes = λ w₀ ways l.
                let path = after h w₀ ways found i in
                sym (now.resumes w₀ ways l).0 ∙ at_head path ∙ lowest-end (to_want v) path (held_at h i) (drop (suc i) (nodes_of h)) left e;
            past = now.past;
            within = here;
          }

      pub lower-turn : {u : Want ℕ} (less : ℕ) → left ≡ suc less → ((held_at h i).left.height ≡ 0 → ⊥) → u ≡ below (step_at (to_want v) (held_at h i) true)
          → Lowering h found w fuel u less (i + 1)
      lower-turn {u} less d e f =
          rw (add-one i)
          record {
            resumes = λ w₀ ways l.
                let path = after h w₀ ways found i in
                let n = held_at h i in
                let p : passed h w₀ ways i ≡ step_at (to_want v) n true =
                rw (l.left i now.past) (ap (λ (x : Want ℕ). step_at x n true) (now.resumes w₀ ways l).1) in
                let on =
                at_head path
                ∙ ap (λ (f : ℕ). resume (lowest_from f (to_want v) path) (n ∷ drop (suc i) (nodes_of h))) d
                ∙ lowest-on (to_want v) path n (drop (suc i) (nodes_of h)) less e in (
                  rw (after_next h w₀ ways found i now.past, p, f) (sym on ∙ (now.resumes w₀ ways l).0),
                  want-next h w₀ ways i ∙ ap below p ∙ sym f,
                );
            past = omega (arith, now.past);
            within = omega arith;
          }
