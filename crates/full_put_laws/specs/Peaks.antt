-- The counts at the closes of rounds: the same for two programs that want the same nodes, and over two stores that are the same but for the value of
-- one node.
use Rattle.std.specs.Prelude.{◌≡◌, refl, List, [], ◌∷◌, ◌++◌, ℕ, zero, suc, ◌^◌, ◌<◌, eqb, length}
use Rattle.std.proofs.Common.{sym, ◌∙◌, ap₂, arith}
use Rattle.std.proofs.Math.Path.{ap}
use Rattle.std.proofs.Math.Option.{Option, none, some}
use Rattle.list_spec.specs.Choice.{pick}
use Rattle.method_spec.specs.Node.{Node}
use Rattle.method_spec.specs.Prog.{Prog, done}
use Rattle.method_spec.specs.Answer.{Structure}
use Rattle.method_spec.specs.Outcome.{Outcome}
use Rattle.round_spec.specs.Whole.{listed}
use Rattle.leaf_spec.specs.Leaf.{ProperLeaf}
use Rattle.bucket_call_spec.specs.Fetch.{Held, Going, total, Round, on, shut, count_at_close, idle_round, fetch_round}
use Rattle.bucket_call_spec.specs.Peak.{rounds_from, counts_of}
use Rattle.peak_laws.specs.PeakLaws.{done-round, rounds-none, rounds-goes, rounds-shuts}
use Rattle.full_put_laws.specs.RoundApart.{apart-length}
use Rattle.full_put_laws.specs.Together.{Both, Together, both-shut, both-on, fetch-together}
use Rattle.full_put_laws.specs.PutRounds.{Near, NearRounds, near-shut, near_on, idle-near}

-- The counts of a round and of those after it.
counts_of_lem : {A : Type 0} (x y : Round A) (rs ts : List (Round A)) → count_at_close x ≡ count_at_close y → counts_of rs ≡ counts_of ts → counts_of (x ∷ rs) ≡ counts_of (y ∷ ts)
unfolding counts_of
counts_of_lem x y rs ts first rest = ap₂ (λ (c : Option ℕ) (cs : List ℕ). listed c ++ cs) first rest

on-count : {A : Type 0} (g : Going) (p q : Prog ℕ A) → count_at_close (on g p) ≡ count_at_close (on g q)
unfolding count_at_close
on-count g p q = refl

module _ {R : List Held → Outcome ℕ → Outcome ℕ → Type 0} (s : Structure) (e k : ℕ) (draw : ℕ → ℕ) where
  pub counts-together : (n i : ℕ) (g : Going) (p q : Prog ℕ (Outcome ℕ)) → Both R g.held p q
      → counts_of (rounds_from s e k draw n i p g) ≡ counts_of (rounds_from s e k draw n i q g)
  counts-together zero i g p q both = ap counts_of (rounds-none s e k draw i p g ∙ sym (rounds-none s e k draw i q g))
  counts-together (suc n) i g p q both =
      go (counts-together n (suc i)) refl refl (fetch-together s e k (draw i) g both)
    where
      go : ((h : Going) (a b : Prog ℕ (Outcome ℕ)) → Both R h.held a b → counts_of (rounds_from s e k draw n (suc i) a h) ≡ counts_of (rounds_from s e k draw n (suc i) b h))
          → {x y : Round (Outcome ℕ)} → fetch_round s e k (draw i) p g ≡ x → fetch_round s e k (draw i) q g ≡ y → Together R x y
          → counts_of (rounds_from s e k draw (suc n) i p g) ≡ counts_of (rounds_from s e k draw (suc n) i q g)
      go later c d (both-shut m h) =
          rw (rounds-shuts s e k draw n i p g h m c, rounds-shuts s e k draw n i q g h m d, c, d)
      go later c d (both-on h {p = a} {q = b} more) =
          rw (rounds-goes s e k draw n i p g h a c, rounds-goes s e k draw n i q g h b d, c, d)
          (counts_of_lem (on h a) (on h b) (rounds_from s e k draw n (suc i) a h) (rounds_from s e k draw n (suc i) b h) (on-count h a b) (later h a b more))

module _ (k : ℕ) {a b : Node ℕ} (same_key : b.key ≡ a.key) (same_tag : b.tag ≡ a.tag) (proper-a : ProperLeaf k a) (proper-b : ProperLeaf k b)
    (o q : Outcome ℕ) (s : Structure) (e : ℕ) (draw : ℕ → ℕ) (leaves : (d : ℕ) → draw d < 2 ^ k) where
  near-total : {g h : Going} → Near k a b g h → total g ≡ total h
  near-total near = omega (arith, apart-length near.apart, ap length near.held)

  near-count : {x y : Round (Outcome ℕ)} → NearRounds k a b o q x y → count_at_close x ≡ count_at_close y
  unfolding count_at_close
  near-count (near-shut m g h closes near) = ap (λ (n : ℕ). pick (eqb m 9) (some n) none) (near-total near)
  near-count (near_on g h near) = ap some (near-total near)

  -- The put rounds.
  pub counts-near : (n d : ℕ) (g h : Going) → Near k a b g h
      → counts_of (rounds_from s e k draw n d (done o) g) ≡ counts_of (rounds_from s e k draw n d (done q) h)
  counts-near zero d g h near = ap counts_of (rounds-none s e k draw d (done o) g ∙ sym (rounds-none s e k draw d (done q) h))
  counts-near (suc n) d g h near =
      go (counts-near n (suc d)) (done-round s e k (draw d) o g) (done-round s e k (draw d) q h)
      (idle-near k same_key same_tag proper-a proper-b o q (draw d) (leaves d) g h near)
    where
      go : ((i j : Going) → Near k a b i j → counts_of (rounds_from s e k draw n (suc d) (done o) i) ≡ counts_of (rounds_from s e k draw n (suc d) (done q) j))
          → {x y : Round (Outcome ℕ)} → fetch_round s e k (draw d) (done o) g ≡ x → fetch_round s e k (draw d) (done q) h ≡ y → NearRounds k a b o q x y
          → counts_of (rounds_from s e k draw (suc n) d (done o) g) ≡ counts_of (rounds_from s e k draw (suc n) d (done q) h)
      go later c f (near-shut m i j closes near) =
          rw (rounds-shuts s e k draw n d (done o) g i m c, rounds-shuts s e k draw n d (done q) h j m f, c, f)
          (counts_of_lem (shut m i) (shut m j) [] [] (near-count (near-shut m i j closes near)) refl)
      go later c f (near_on i j near) =
          rw (rounds-goes s e k draw n d (done o) g i (done o) c, rounds-goes s e k draw n d (done q) h j (done q) f, c, f)
          (counts_of_lem (on i (done o)) (on j (done q)) (rounds_from s e k draw n (suc d) (done o) i) (rounds_from s e k draw n (suc d) (done q) j) (near-count (near_on i j near)) (later i j near))
